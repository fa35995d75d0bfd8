-- The invariants on grades and on those who leave the college, by the tests that decide them.
use Rattle.std.proofs.Common.{◌≡◌, ℕ, Bool, true, false, not, Some, refl, ap, ◌∙◌, sym, ne_eqb}
use Rattle.std.specs.Prelude.{eqb}
use Rattle.std.specs.Bool.{Decides}
use Rattle.std.specs.Cmp.Derive.{both_true}
use Rattle.std.specs.List.{list_all}
use Rattle.std.specs.Option.{is_some}
use Rattle.std.specs.Cmp.Lexicographic.{nat_list_cmp_total}
use Rattle.std.specs.FinMap as map
use Rattle.std.proofs.lemmas.Bool.{and_parts}
use Rattle.room_types.specs.Texts.{Text, TextMap}
use Rattle.room_types.specs.declared.phase.Phase.{Phase}
use Rattle.room_types.proofs.maps.Entries.{all_keys, keys_all}
use Rattle.room_types.proofs.maps.TextMaps.{exact_texts}
use Rattle.room_types.proofs.options.Options.{some_of}
use Rattle.office_state.specs.Office.Invariants.{AreValidGrades, AreValidLeavers}
use Rattle.office_state.specs.Office.Phases.{is_idle}
use Rattle.office_state.specs.Inner.Soundness.{is_leaver, is_recorded_grade}
use Rattle.office_state.specs.declared.office.person.Person.{Person}

no_zero : (grade : ℕ) → not (eqb grade 0) ≡ true → grade ≡ 0 → ⊥
no_zero grade e nothing = let is : not (eqb 0 0) ≡ true = ap (λ g. not (eqb g 0)) (sym nothing) ∙ e in cc

at_no_zero : (grade : ℕ) → (grade ≡ 0 → ⊥) → not (eqb grade 0) ≡ true
at_no_zero grade f = ap not (ne_eqb grade 0 f)

not_false : (b : Bool) → b ≡ false → not b ≡ true
not_false b e = ap not e

not_true_false : (b : Bool) → not b ≡ true → b ≡ false
not_true_false true e = cc
not_true_false false e = refl

-- each grade is of a known person, and is not 0
pub grades-decide : (people : TextMap Person) (grades : TextMap ℕ)
    → Decides (list_all (λ (e : Text × ℕ). is_recorded_grade people e.0 e.1) (map.entries grades))
    (AreValidGrades people grades)
grades-decide people grades = (
  λ e.
      let test : (p : Text) (grade : ℕ) → map.get grades p ≡ Some grade → is_recorded_grade people p grade ≡ true =
      all_keys nat_list_cmp_total exact_texts (λ k g. is_recorded_grade people k g) grades e in
      record {
        graded = λ p h. let found = some_of (map.get grades p) h in
            (and_parts (map.contains_key people p) _ (test p found.0 found.1)).0;
        none_zero = λ p f. no_zero 0 (and_parts (map.contains_key people p) _ (test p 0 f)).1 refl;
      },
  λ l. keys_all nat_list_cmp_total exact_texts (λ k g. is_recorded_grade people k g) grades (λ k g f.
      both_true (l.graded k (ap is_some f)) (at_no_zero g (λ nothing. l.none_zero k (f ∙ ap (λ n. Some n) nothing)))),
)

-- while a round is under way, each person who leaves is known and has not withdrawn
pub leavers-decide : (phase : Phase) (people : TextMap Person) (withdrawn going : TextMap (Unit {0}))
    → is_idle phase ≡ false
    → Decides (list_all (λ (e : Text × Unit {0}). is_leaver people withdrawn e.0) (map.entries going))
    (AreValidLeavers phase people withdrawn going)
leavers-decide phase people withdrawn going busy = (
  λ e.
      let test : (p : Text) (v : Unit {0}) → map.get going p ≡ Some v → is_leaver people withdrawn p ≡ true =
      all_keys nat_list_cmp_total exact_texts (λ k v. is_leaver people withdrawn k) going e in
      record {
        leavers = λ p h. let found = some_of (map.get going p) h in
            (and_parts (map.contains_key people p) _ (test p found.0 found.1)).0;
        apart = λ p h. let found = some_of (map.get going p) h in
            not_true_false (map.contains_key withdrawn p)
            (and_parts (map.contains_key people p) _ (test p found.0 found.1)).1;
        idle_going = λ idle. absurd (cc);
      },
  λ l. keys_all nat_list_cmp_total exact_texts (λ k v. is_leaver people withdrawn k) going (λ k v f.
      both_true (l.leavers k (ap is_some f)) (not_false (map.contains_key withdrawn k) (l.apart k (ap is_some f)))),
)
