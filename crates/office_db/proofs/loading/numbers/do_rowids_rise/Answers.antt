use Rattle.std.proofs.Common.{rules, ◌≡◌, ◌<◌, take, length, to_z, of_z, to_z-of_z, w64, sym, ap, ◌∙◌, subst, refl}
use Rattle.std.proofs.Common.{arith}
use Rattle.std.proofs.lemmas.List.{take_more}
use Rattle.sqlite_value.specs.Order.{Row}
use Rattle.sqlite_value.specs.declared.value.Value.TheVariants.{Int}
use Rattle.sqlite_trees.specs.Tree.{rowid}
use Rattle.office_db.specs.loading.Numbers.{HaveRowids}
use Rattle.office_db.proofs.loaded.Numbering.{AreBelow, none_numbered, pushed}
use Rattle.office_db.proofs.loading.numbers.do_rowids_rise.Goals as goal

pub loop-row-preserved : goal.loop-row-preserved
loop-row-preserved c =
    let low : c.loop-row.row-index < length c.args.rows.now = omega arith in
    let more = take_more c.args.rows.now c.loop-row.row-index c.row-item.result low in
    let number = to_z w64 (of_z w64 c.in-Ok.number) in
    let same : c.in-Ok.number ≡ number = sym (to_z-of_z {w = w64} (search rules)) in
    let is = subst (λ (r : Row). rowid r ≡ Int number) c.row-item.is (c.in-Ok.ensures.ok.1 ∙ ap (λ n. Int n) same) in
    let next =
    pushed c.loop-row.last (take c.loop-row.row-index c.args.rows.now) _ number c.loop-row.invariant.numbered
    c.loop-row.invariant.last is (c.if-not-is_above.ensures refl) in
    record { numbered = subst HaveRowids (sym more) next.0; last = subst (AreBelow number) (sym more) next.1 }

pub loop-row-init : goal.loop-row-init
loop-row-init c = record { numbered = none_numbered; last = refl }
