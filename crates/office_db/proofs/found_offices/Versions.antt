-- The version of an office.
use Rattle.std.proofs.Common.{◌≡◌, true, ℤ, pos, List, [], ◌∷◌, get_or, map, Option, Some, None, IfSome, refl, sym, ap}
use Rattle.std.proofs.Common.{◌∙◌, subst, IsPermutation, arith}
use Rattle.std.specs.Prelude.{unwrap_or}
use Rattle.std.proofs.lemmas.List.Sorted.{length_permutation}
use Rattle.sqlite_value.specs.Order.{Row, column}
use Rattle.sqlite_value.specs.declared.value.Value.TheVariants.{Int}
use Rattle.sqlite_schema.specs.Names.{same_name}
use Rattle.sqlite.specs.Effect.{Database}
use Rattle.room_types.proofs.maps.Entries.{permuted_all}
use Rattle.office_state.specs.declared.office.Office.{Office}
use Rattle.office_schema.specs.rows.Tables.{rows_at}
use Rattle.office_schema.specs.declared.rows.records.RoundRecord.{RoundRecord}
use Rattle.office_schema.specs.cells.Columns.{round_columns}
use Rattle.office_schema.specs.tables.Holds.{stored}
use Rattle.office_schema.specs.tables.Layouts.{schema_of, version_of}
use Rattle.office_schema.specs.tables.InLayout.{HoldsOfficeIn}
use Rattle.office_schema.specs.declared.tables.layouts.Layout.{Layout}
use Rattle.office_schema.specs.declared.tables.layouts.Layout.TheVariants.{Own, Documented, DocumentedSecond}
use Rattle.office_schema.specs.declared.tables.layouts.Layout.TheVariants.{DocumentedFirst, EarlierFirst}
use Rattle.office_db.specs.loading.Finding.{HoldsVersion, names_round}

module _ (db : Database) where
  one_round : (r : RoundRecord) (entries : List (ℤ × RoundRecord)) → IsPermutation (r ∷ [])
      (map (λ (e : ℤ × RoundRecord). e.1) entries) → db.trees 6 ≡ map (stored round_columns) entries
      → HoldsVersion db (pos r.version)
  one_round r [] same rows = let e : 0 ≡ 1 = length_permutation (r ∷ []) [] same in absurd (omega (arith, e))
  one_round r (e ∷ []) same rows = (
    stored round_columns e,
    rows,
    ap (λ (x : RoundRecord). Int (pos x.version))
        (permuted_all (λ x. x ≡ r) (r ∷ []) (e.1 ∷ []) same (refl, tt)).0,
  )
  one_round r (e ∷ f ∷ entries) same rows =
      absurd (omega (arith, length_permutation (r ∷ []) (map (λ (x : ℤ × RoundRecord). x.1) (e ∷ f ∷ entries)) same))

-- The row of table `round` holds the version of the layout.
pub layout_states_version : (layout : Layout) (db : Database) (office : Office) → HoldsOfficeIn layout db office
    → HoldsVersion db (pos (version_of layout))
unfolding rows_at
layout_states_version layout db office h =
    one_round db (record { version = version_of layout; number = office.number; phase = office.phase })
    h.rows.rounds.entries h.rows.rounds.same h.rows.rounds.rows_are

-- The row of table `round` holds one version.
pub one_version : (db : Database) (a b : ℤ) → HoldsVersion db a → HoldsVersion db b → a ≡ b
one_version db a b x y =
    let rows : x.0 ∷ [] ≡ y.0 ∷ [] = sym x.1 ∙ y.1 in
    let row : x.0 ≡ y.0 = ap (λ (l : List Row). get_or l 0 []) rows in
    let same : Int a ≡ Int b = sym x.2 ∙ ap (λ (r : Row). column r 2) row ∙ y.2 in
    cc

-- Each layout has a table `round`.
pub own_round : (layout : Layout) → names_round (schema_of layout) ≡ true
unfolding same_name
own_round Own = refl
own_round Documented = refl
own_round DocumentedSecond = refl
own_round DocumentedFirst = refl
own_round EarlierFirst = refl

pub same_some : {T : Type 0} (a b : T) → Some a ≡ Some b → a ≡ b
same_some a b e = ap (λ o. unwrap_or o a) e

pub none_some : {T : Type 0} (a : T) → None ≡ Some a → ⊥
none_some a e = cc

pub held_of : {T : Type 0} (P : T → Type 0) (found : Option T) (x : T) → found ≡ Some x → IfSome found P → P x
held_of P None x is held = absurd (cc)
held_of P (Some y) x is held = subst P (same_some y x is) held
