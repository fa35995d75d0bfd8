use Rattle.std.proofs.Common.{◌∙◌, ap, sym}
use Rattle.std.specs.FinMap as map
use Rattle.std.specs.FinMap.{empty_of_len}
use Rattle.room_types.specs.Texts.{text_cmp}
use Rattle.room_types.proofs.maps.Trees.{same_pairs}
use Rattle.room_types.proofs.table.Table.copy.Goals as goal

pub returns-then-len-eq0-clause-copy : goal.returns-then-len-eq0-clause-copy
returns-then-len-eq0-clause-copy g c =
    c.new.ensures ∙ sym (empty_of_len c.args.self.now (sym c.len.ensures ∙ c.if-len-eq0.true))

pub returns-clause-copy : goal.returns-clause-copy
returns-clause-copy g c =
    ap (λ es. map.from_entries {R = text_cmp} es)
    (same_pairs _ _ (λ x y h. h) g.met.V.ExactClone.same c.self.inside.tree.entries c.in_ok-tree.tree.entries
    c.in_ok-tree.ensures.cases)
    ∙ c.self.view_is
