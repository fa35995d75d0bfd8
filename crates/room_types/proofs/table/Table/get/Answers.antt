use Rattle.std.proofs.Common.{◌∙◌, sym, ap}
use Rattle.std.specs.Cmp.Lexicographic.{nat_list_cmp_total}
use Rattle.std.specs.FinMap as map
use Rattle.room_types.proofs.maps.Trees.{get-tree}
use Rattle.room_types.proofs.table.Table.get.Goals as goal

pub returns : goal.returns
returns g c =
    c.get.ensures.value ∙ sym (get-tree nat_list_cmp_total c.self.inside.tree c.args.key.now)
    ∙ ap (λ m. map.get m c.args.key.now) c.self.view_is
