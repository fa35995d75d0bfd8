use Rattle.std.proofs.Common.{◌∙◌, sym, ap, rules}
use Rattle.std.specs.Cmp.Lexicographic.{nat_list_cmp_total}
use Rattle.std.specs.FinMap as map
use Rattle.room_types.proofs.maps.Trees.{insert-tree, get-tree}
use Rattle.room_types.proofs.maps.TextMaps.{exact_texts}
use Rattle.room_types.proofs.table.Table.insert.Goals as goal

pub returns-clause-ok : goal.returns-clause-ok
returns-clause-ok g c =
    insert-tree nat_list_cmp_total exact_texts c.self.inside.tree c.insert.new.self c.args.key c.args.value
    c.in_ok-insert.ensures.updates.0
    ∙ ap (λ m. map.insert m c.args.key c.args.value) c.self.view_is

pub returns-in_err-insert-clause-absent : goal.returns-in_err-insert-clause-absent
returns-in_err-insert-clause-absent g c =
    let absent =
    ap (λ m. map.get m c.args.key) (sym c.self.view_is)
    ∙ get-tree nat_list_cmp_total c.self.inside.tree c.args.key
    ∙ c.in_err-insert.ensures.absent in
    search (rules, absent)
