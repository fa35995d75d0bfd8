use Rattle.std.proofs.Common.{◌≡◌, None, sym, ap, ◌∙◌}
use Rattle.std.specs.Option.{is_some}
use Rattle.std.specs.FinMap as map
use Rattle.std.specs.FinMap.{get-empty}
use Rattle.room_types.specs.Texts.{text_cmp}
use Rattle.office_state.specs.declared.office.moves.Moved.{Moved}
use Rattle.office_state.proofs.offices.Moves.{kept_moves}
use Rattle.office_schema.proofs.rows.moves.has_moved.Goals as goal

pub returns-in-None : goal.returns-in-None
returns-in-None c =
    let none : map.get c.args.moves.now c.args.row.now.round ≡ None =
    cc (c.get.ensures, c.in-None.is, c.in-None.ensures) in
    sym (ap (λ o. map.contains_key (kept_moves o) c.args.row.now.person) none
    ∙ ap is_some (get-empty {X = Moved} text_cmp c.args.row.now.person))
