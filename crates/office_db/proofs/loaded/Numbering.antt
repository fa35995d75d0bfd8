-- Rowids that rise differ.
use Rattle.std.proofs.Common.{◌≡◌, inl, inr, ℕ, ℤ, ◌<ℤ◌, ◌<◌, ◌+◌, ◌≤◌, false, List, [], ◌∷◌, ◌++◌, map, Option, Some}
use Rattle.std.proofs.Common.{None, IfSome, IsTrue, sym, ap, ap₂, ◌∙◌, subst, IsPermutation, arith}
use Rattle.std.proofs.Math.Nat.{eq-or-lt_of_le}
use Rattle.std.specs.Ordering.{is_eq}
use Rattle.std.specs.List.{AllByRecursion, IsDistinct}
use Rattle.std.proofs.lemmas.List.Elements.{recursion_from_All, All-from_recursion}
use Rattle.std.proofs.lemmas.List.Sorted.{IsPermutation-sym, All-permutation}
use Rattle.std.proofs.lemmas.Map.Keys.{IsDistinct-head, IsDistinct-tail, IsDistinct-cons, IsDistinct-IsPermutation}
use Rattle.sqlite_value.specs.Order.{Row, value_cmp}
use Rattle.sqlite_value.specs.declared.value.Value.TheVariants.{Int}
use Rattle.sqlite_value.proofs.OrderLemmas.{value_cmp-Int}
use Rattle.sqlite_keyed.proofs.KeyedLemmas.{Less-from_lt, lt_from_Less}
use Rattle.std.proofs.lemmas.Cmp.{int_cmp_total}
use Rattle.sqlite_trees.specs.Tree.{rowid}
use Rattle.sqlite_trees.specs.View.{is_int}
use Rattle.office_schema.specs.tables.Holds.{same_rowid}
use Rattle.office_schema.proofs.statements.Edited.{flips}
use Rattle.office_schema.specs.tables.Listing.{listed}
use Rattle.office_db.specs.loading.Numbers.{HaveRowids, only_rowid}

-- Each rowid is a number, and is less than each number that is greater than this one.
abbrev pub AreBelow : ℤ → List Row → Type 0
AreBelow number rows = AllByRecursion (λ r. (m : ℤ) × (rowid r ≡ Int m) × ((k : ℤ) → number <ℤ k → m <ℤ k)) rows

-- the last number that was read, if any
abbrev pub IsLast : Option ℤ → List Row → Type 0
IsLast None rows = rows ≡ []
IsLast (Some number) rows = AreBelow number rows

all_pushed : (P : Row → Type 0) (rows : List Row) (row : Row) → AllByRecursion P rows → P row
    → AllByRecursion P (rows ++ row ∷ [])
all_pushed P [] row all one = (one, tt)
all_pushed P (r ∷ rows) row all one = (all.0, all_pushed P rows row all.1 one)

apart_pushed : (rows : List Row) (row : Row) → IsDistinct same_rowid rows → AllByRecursion
    (λ r. same_rowid r row ≡ false) rows → IsDistinct same_rowid (rows ++ row ∷ [])
unfolding IsDistinct
apart_pushed [] row up apart = (tt, tt)
apart_pushed (r ∷ rows) row up apart =
    IsDistinct-cons same_rowid r (rows ++ row ∷ [])
    (all_pushed (λ y. same_rowid r y ≡ false) rows row (IsDistinct-head same_rowid r rows up) apart.0)
    (apart_pushed rows row (IsDistinct-tail same_rowid r rows up) apart.1)

differ : (r row : Row) (m n : ℤ) → rowid r ≡ Int m → rowid row ≡ Int n → m <ℤ n → same_rowid r row ≡ false
differ r row m n e f less = ap is_eq (ap₂ value_cmp e f ∙ value_cmp-Int m n ∙ Less-from_lt m n less)

below_trans : (a b c : ℤ) → a <ℤ b → b <ℤ c → a <ℤ c
below_trans a b c p q = lt_from_Less a c (int_cmp_total.trans a b c (Less-from_lt a b p) (Less-from_lt b c q))

abbrev AreLower : ℤ → List Row → Type 0
AreLower number rows = AllByRecursion (λ r. (m : ℤ) × (rowid r ≡ Int m) × (m <ℤ number)) rows

-- one more row, whose rowid is greater
pub pushed : (last : Option ℤ) (rows : List Row) (row : Row) (number : ℤ) → HaveRowids rows → IsLast last rows
    → rowid row ≡ Int number → IfSome last (λ before. before <ℤ number)
    → HaveRowids (rows ++ row ∷ []) × IsLast (Some number) (rows ++ row ∷ [])
pushed last rows row number numbered is e above = (
  record {
    keyed = all_pushed (λ r. IsTrue (is_int (rowid r))) rows row numbered.keyed (ap is_int e);
    apart = apart_pushed rows row numbered.apart (apart_from rows (lower last rows is above));
  },
  all_pushed _ rows row (lower_weaker rows (lower last rows is above)) (number, e, λ k less. less),
)
  where
    lower_some : (before : ℤ) (rs : List Row) → before <ℤ number → AreBelow before rs → AreLower number rs
    lower_some before [] less all = tt
    lower_some before (r ∷ rs) less all = ((all.0.0, all.0.1, all.0.2 number less), lower_some before rs less all.1)

    lower : (o : Option ℤ) (rs : List Row) → IsLast o rs → IfSome o (λ before. before <ℤ number) → AreLower number rs
    lower None rs none less = subst (AreLower number) (sym none) tt
    lower (Some before) rs all less = lower_some before rs less all

    apart_from : (rs : List Row) → AreLower number rs → AllByRecursion (λ r. same_rowid r row ≡ false) rs
    apart_from [] all = tt
    apart_from (r ∷ rs) all = (differ r row all.0.0 number all.0.1 e all.0.2, apart_from rs all.1)

    lower_weaker : (rs : List Row) → AreLower number rs → AreBelow number rs
    lower_weaker [] all = tt
    lower_weaker (r ∷ rs) all =
        ((all.0.0, all.0.1, λ k less. below_trans all.0.0 number k all.0.2 less), lower_weaker rs all.1)

pub none_numbered : HaveRowids []
unfolding IsDistinct
none_numbered = record { keyed = tt; apart = tt }

-- If the listed rowids are numbers that differ, so are the rowids of the rows.
listed_back : (rows : List Row) → HaveRowids (map (listed only_rowid) rows) → HaveRowids rows
listed_back [] h = none_numbered
listed_back (r ∷ rows) h =
    let more = listed_back rows (record { keyed = h.keyed.1; apart = IsDistinct-tail same_rowid _ _ h.apart }) in
    record {
      keyed = (h.keyed.0, more.keyed);
      apart = IsDistinct-cons same_rowid r rows (heads rows (IsDistinct-head same_rowid _ _ h.apart)) more.apart;
    }
  where
    heads : (rs : List Row) → AllByRecursion (λ y. same_rowid (listed only_rowid r) y ≡ false)
        (map (listed only_rowid) rs) → AllByRecursion (λ y. same_rowid r y ≡ false) rs
    heads [] all = tt
    heads (y ∷ rs) all = (all.0, heads rs all.1)

-- The order in which the rows were read does not matter.
pub numbered_if_read : (rows got : List Row) → IsPermutation (map (listed only_rowid) rows) got → HaveRowids got
    → HaveRowids rows
numbered_if_read rows got same h = listed_back rows (record {
  keyed = recursion_from_All _ _
      (All-permutation (λ r. IsTrue (is_int (rowid r))) got (map (listed only_rowid) rows) (IsPermutation-sym _ _ same)
      (All-from_recursion _ got h.keyed));
  apart = IsDistinct-IsPermutation same_rowid flips got (map (listed only_rowid) rows)
      (IsPermutation-sym _ _ same) h.apart;
})

-- the places before the next one
pub next_place : (P : ℕ → Type 0) (place : ℕ) → ((k : ℕ) → k < place → P k) → P place → (k : ℕ) → k < place + 1 → P k
next_place P place before here k low =
    let most : k ≤ place = omega (arith, low) in
    elim (eq-or-lt_of_le most) [
      | inl same ↦ subst P (sym same) here
      | inr below ↦ before k below
    ]
