use Rattle.std.proofs.Common.{◌≡◌, ap, ◌∙◌, arith}
use Rattle.std.specs.Fmt.{styled_text}
use Rattle.office_lists.specs.Tables.{left_aligned}
use Rattle.office_lists.proofs.padded_columns.Cells.{padded-left}
use Rattle.office_lists.proofs.move_day.push_move.Goals as goal

pub returns : goal.returns
returns c =
    let wave : styled_text c.laid_out.result c.args.wave.now ≡ left_aligned 4 c.args.wave.now =
    ap (λ options. styled_text options c.args.wave.now) c.laid_out.ensures ∙ padded-left 4 c.args.wave.now
    (omega arith) in
    let person : styled_text c.laid_out-2.result c.args.person.now ≡ left_aligned 12 c.args.person.now =
    ap (λ options. styled_text options c.args.person.now) c.laid_out-2.ensures
    ∙ padded-left 12 c.args.person.now (omega arith) in
    let from : styled_text c.laid_out-3.result c.args.from.now ≡ left_aligned 8 c.args.from.now =
    ap (λ options. styled_text options c.args.from.now) c.laid_out-3.ensures
    ∙ padded-left 8 c.args.from.now (omega arith) in
    rw (← wave, ← person, ← from) c.writeln.ensures.bytes
