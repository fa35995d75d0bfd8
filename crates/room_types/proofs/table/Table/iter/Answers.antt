use Rattle.std.proofs.Common.{◌∙◌, sym, ap, ◌<◌, ◌^◌, subst, ℕ}
use Rattle.std.specs.Cmp.Lexicographic.{nat_list_cmp_total}
use Rattle.std.specs.FinMap as map
use Rattle.room_types.proofs.maps.TextMaps.{entries_ascend}
use Rattle.room_types.proofs.maps.Trees.{entries-tree, len-tree}
use Rattle.room_types.proofs.table.Table.iter.Goals as goal

pub returns-clause-rest : goal.returns-clause-rest
returns-clause-rest g c =
    c.iter.ensures.rest ∙ sym (entries-tree nat_list_cmp_total c.self.inside.tree c.iter.ensures.ordered)
    ∙ ap (λ m. map.entries m) c.self.view_is

pub returns-clause-fits : goal.returns-clause-fits
returns-clause-fits g c =
    let P : ℕ → Type 0 = λ n. n < 2 ^ 63 in
    subst P (sym (len-tree nat_list_cmp_total c.self.inside.tree c.iter.ensures.ordered)
    ∙ ap (λ m. map.len m) c.self.view_is) c.iter.ensures.fits

pub returns-clause-ascending : goal.returns-clause-ascending
returns-clause-ascending g c = entries_ascend c.args.self.now
