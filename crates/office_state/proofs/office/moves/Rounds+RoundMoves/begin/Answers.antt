use Rattle.std.proofs.Common.{◌∙◌, ap}
use Rattle.std.specs.Cmp.{nat_cmp_total}
use Rattle.std.specs.FinMap as map
use Rattle.std.specs.FinMap.{nat_cmp-IsAntisymmetric}
use Rattle.room_types.proofs.maps.Trees.{insert-tree}
use Rattle.office_state.proofs.office.moves.Rounds+RoundMoves.begin.Goals as goal

pub returns-clause-ok : goal.returns-clause-ok
returns-clause-ok c =
    insert-tree nat_cmp_total nat_cmp-IsAntisymmetric c.self.inside.tree c.insert-2.new.self
    c.args.round (record { by_person = c.insert.new.self }) c.in_ok-insert-2.ensures.updates.0
    ∙ ap (λ kept. map.insert kept c.args.round (record { by_person = c.insert.new.self }))
    c.self.view_is
    ∙ ap (λ moves. map.insert c.args.self.now c.args.round (record { by_person = moves }))
    (c.in_ok-insert.ensures.ok ∙ ap
    (λ m. map.insert m c.args.person c.args.kept) c.new-by_person.ensures)
