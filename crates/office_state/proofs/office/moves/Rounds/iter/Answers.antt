use Rattle.std.proofs.Common.{◌∙◌, sym, ap}
use Rattle.std.specs.Cmp.{nat_cmp_total}
use Rattle.std.specs.FinMap as map
use Rattle.room_types.proofs.maps.Trees.{entries-tree}
use Rattle.office_state.proofs.office.moves.Rounds.iter.Goals as goal

pub returns-clause-rest : goal.returns-clause-rest
returns-clause-rest g c =
    c.iter.ensures.rest ∙ sym (entries-tree nat_cmp_total c.self.inside.tree c.iter.ensures.ordered)
    ∙ ap (λ m. map.entries m) c.self.view_is
