use Rattle.std.proofs.Common.{◌≡◌, ◌∙◌, inl, map, sym}
use Rattle.office_lines.proofs.request_words.Names.{joined-texts}
use Rattle.office_lines.specs.parse.Values.{joined}
use Rattle.office_lines.proofs.do_line.do_words.Goals as goal

pub returns-in-Ok-clause-does : goal.returns-in-Ok-clause-does
returns-in-Ok-clause-does g c =
    let same : joined (map (λ word. word.now) c.args.words.now) ≡ c.as_bytes-in-Ok.result.now =
    joined-texts c.args.words.now ∙ sym (c.as_bytes-in-Ok.ensures.value ∙ c.in-Ok.ensures.ok) in
    inl (rw same c.do_line-in-Ok.ensures.does)
