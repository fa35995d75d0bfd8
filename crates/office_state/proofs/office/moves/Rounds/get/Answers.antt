use Rattle.std.proofs.Common.{◌∙◌, sym, ap}
use Rattle.std.specs.Cmp.{nat_cmp_total}
use Rattle.std.specs.FinMap as map
use Rattle.room_types.proofs.maps.Trees.{get-tree}
use Rattle.office_state.proofs.office.moves.Rounds.get.Goals as goal

pub returns : goal.returns
returns g c =
    c.get.ensures.value ∙ sym (get-tree nat_cmp_total c.self.inside.tree c.args.round)
    ∙ ap (λ m. map.get m c.args.round) c.self.view_is
