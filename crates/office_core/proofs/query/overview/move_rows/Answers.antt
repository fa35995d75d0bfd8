use Rattle.std.proofs.Common.{◌∙◌, sym, ap, map}
use Rattle.std.specs.Option.{option_copied}
use Rattle.office_state.proofs.offices.Moves.{no_moves}
use Rattle.office_core.specs.Query.Overview.{move_row}
use Rattle.office_core.proofs.query.overview.move_rows.Goals as goal

pub returns-in_default-clause-rows : goal.returns-in_default-clause-rows
returns-in_default-clause-rows c =
    c.new-rows.ensures.items
    ∙ sym (ap (λ es. map (move_row c.args.round) es)
    (no_moves c.args.office.now.moves c.args.round
    (sym c.get.ensures ∙ ap option_copied c.in_default.is)))
