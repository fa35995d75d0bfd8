use Rattle.std.proofs.Common.{◌∙◌, lit<, rules, tests, Some, None, sym}
use Rattle.std.proofs.lemmas.Iterator.Search.{find_from_yields_List}
use Rattle.std.proofs.lemmas.Iterator.Splits.{YieldsList-from_str_split}
use Rattle.office_lines.specs.parse.Parsing.{has_bytes}
use Rattle.office_lines.proofs.request_words.Parsing.{names_first}
use Rattle.office_lines.proofs.line.names_request.Goals as goal

pub returns-in-Some : goal.returns-in-Some
returns-in-Some c =
    let cut = c.split.ensures in
    let split = YieldsList-from_str_split 32 c.args.text.now (lit< tt) cut.text cut.has_more cut.pattern in
    let found = find_from_yields_List has_bytes _ _ _ c.find.ensures.ran split (λ x b q k. search (rules, tests)) in
    c.names_form.ensures ∙ sym (names_first c.args.text.now (Some c.in-Some.word.now) (rw c.in-Some.is at found))

pub returns-in-None : goal.returns-in-None
returns-in-None c =
    let cut = c.split.ensures in
    let split = YieldsList-from_str_split 32 c.args.text.now (lit< tt) cut.text cut.has_more cut.pattern in
    let found = find_from_yields_List has_bytes _ _ _ c.find.ensures.ran split (λ x b q k. search (rules, tests)) in
    sym (names_first c.args.text.now None (rw c.in-None.is at found))
