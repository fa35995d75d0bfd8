use Rattle.std.proofs.Common.{◌≡◌, ◌∙◌, sym, map}
use Rattle.office_lines.proofs.request_words.Names.{joined-texts}
use Rattle.office_lines.specs.parse.Values.{joined}
use Rattle.office_lines.proofs.parse.values.name_of.Goals as goal

pub returns : goal.returns
returns c =
    let same : joined (map (λ word. word.now) c.args.words.now) ≡ c.as_str.result.now =
    joined-texts c.args.words.now ∙ sym (c.as_str.ensures.value ∙ c.in_ok-name.ensures.ok) in
    rw same c.value_of.ensures.understands
