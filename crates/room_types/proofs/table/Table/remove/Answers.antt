use Rattle.std.proofs.Common.{◌∙◌, ap}
use Rattle.std.specs.Cmp.Lexicographic.{nat_list_cmp_total}
use Rattle.std.specs.FinMap as map
use Rattle.room_types.proofs.maps.Trees.{remove-tree}
use Rattle.room_types.proofs.maps.TextMaps.{exact_texts}
use Rattle.room_types.proofs.table.Table.remove.Goals as goal

pub returns : goal.returns
returns g c =
    remove-tree nat_list_cmp_total exact_texts c.self.inside.tree c.remove.new.self c.args.key.now
    c.remove.ensures.updates.0
    ∙ ap (λ m. map.remove m c.args.key.now) c.self.view_is
