use Rattle.std.proofs.Common.{◌≡◌, ap, ◌∙◌, arith}
use Rattle.std.specs.Fmt.{styled_text}
use Rattle.office_lists.specs.Tables.{left_aligned}
use Rattle.office_lists.proofs.padded_columns.Cells.{padded-left}
use Rattle.office_lists.proofs.tables.push_room.Goals as goal

pub returns : goal.returns
returns c =
    let room : styled_text c.laid_out.result c.args.room.now ≡ left_aligned 8 c.args.room.now =
    ap (λ options. styled_text options c.args.room.now) c.laid_out.ensures ∙ padded-left 8 c.args.room.now
    (omega arith) in
    let state : styled_text c.laid_out-2.result c.args.state.now ≡ left_aligned 8 c.args.state.now =
    ap (λ options. styled_text options c.args.state.now) c.laid_out-2.ensures
    ∙ padded-left 8 c.args.state.now (omega arith) in
    rw (← room, ← state) c.writeln.ensures.bytes
