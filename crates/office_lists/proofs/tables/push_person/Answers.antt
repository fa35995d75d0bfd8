use Rattle.std.proofs.Common.{◌≡◌, ap, ◌∙◌, arith}
use Rattle.std.specs.Fmt.{styled_text}
use Rattle.office_lists.specs.Tables.{left_aligned}
use Rattle.office_lists.proofs.padded_columns.Cells.{padded-left}
use Rattle.office_lists.proofs.tables.push_person.Goals as goal

pub returns : goal.returns
returns c =
    let person : styled_text c.laid_out.result c.args.person.now ≡ left_aligned 12 c.args.person.now =
    ap (λ options. styled_text options c.args.person.now) c.laid_out.ensures
    ∙ padded-left 12 c.args.person.now (omega arith) in
    let home : styled_text c.laid_out-2.result c.args.home.now ≡ left_aligned 8 c.args.home.now =
    ap (λ options. styled_text options c.args.home.now) c.laid_out-2.ensures
    ∙ padded-left 8 c.args.home.now (omega arith) in
    rw (← person, ← home) c.writeln.ensures.bytes
