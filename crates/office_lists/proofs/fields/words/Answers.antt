use Rattle.std.proofs.Common.{◌∙◌, sym, lit<}
use Rattle.std.proofs.lemmas.Iterator.Consumers.{map_from_collect}
use Rattle.std.proofs.lemmas.Iterator.Splits.{YieldsList-from_str_split}
use Rattle.office_lists.proofs.csv.Fields.{between_spaces}
use Rattle.office_lists.proofs.fields.words.Goals as goal

pub returns : goal.returns
returns c =
    let some = sym c.is_empty.ensures ∙ c.if-is_empty.false in
    let split =
    YieldsList-from_str_split {s = c.split.result} 32 c.args.text.now (lit< tt) c.split.ensures.text
    c.split.ensures.has_more c.split.ensures.pattern in
    map_from_collect _ c.collect.ensures.ran (rw (between_spaces c.args.text.now some) at split)
