use Rattle.std.proofs.Common.{◌∙◌, sym, ap}
use Rattle.std.specs.Cmp.{nat_cmp_total}
use Rattle.std.specs.FinMap as map
use Rattle.room_types.proofs.maps.Trees.{len-tree}
use Rattle.office_state.proofs.office.moves.Rounds.len.Goals as goal

pub returns : goal.returns
returns g c =
    c.len.ensures.len ∙ sym (len-tree nat_cmp_total c.self.inside.tree c.len.ensures.ordered)
    ∙ ap (λ m. map.len m) c.self.view_is
