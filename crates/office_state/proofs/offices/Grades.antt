-- The invariants on grades, after the changes that touch grades or people.
use Rattle.std.proofs.Common.{◌≡◌, ℕ, zero, suc, true, false, Option, Some, refl, sym, ap, ◌∙◌, inl, inr}
use Rattle.std.specs.Prelude.{unwrap_or}
use Rattle.std.specs.Option.{is_some}
use Rattle.std.specs.Ordering.{eq_by_cmp}
use Rattle.std.specs.FinMap as map
use Rattle.room_types.specs.Texts.{Text, TextMap, text_cmp}
use Rattle.room_types.proofs.maps.TextMaps.{text_cases, contains_key-put, get-put_same, get-put_other}
use Rattle.room_types.proofs.maps.TextMaps.{get-gone_same, get-gone_other}
use Rattle.room_types.proofs.options.Options.{none_some}
use Rattle.office_state.specs.Change.{with_grade}
use Rattle.office_state.specs.Office.Invariants.{AreValidGrades}
use Rattle.office_state.specs.declared.office.person.Person.{Person}
use Rattle.office_state.proofs.offices.Empty.{none_known}

-- other people's grades stay when one is put
grade_other : (grades : TextMap ℕ) (person : Text) (grade : ℕ) (p : Text)
    → eq_by_cmp text_cmp p person ≡ false
    → map.get (with_grade grades person grade) p ≡ map.get grades p
grade_other grades person zero p other = get-gone_other grades person p other
grade_other grades person (suc grade) p other =
    get-put_other grades person (suc grade) p other

-- a grade that was put is not 0
grade_same : (grades : TextMap ℕ) (person : Text) (grade : ℕ)
    → map.get (with_grade grades person grade) person ≡ Some 0 → ⊥
grade_same grades person zero e =
    none_some _ 0 (get-gone_same grades person) e
grade_same grades person (suc grade) e =
    let same : suc grade ≡ 0 =
    ap (λ (o : Option ℕ). unwrap_or o (suc grade)) (sym (get-put_same grades person (suc grade)) ∙ e) in
    cc

module _ (people : TextMap Person) (grades : TextMap ℕ) (l : AreValidGrades people grades) where
  -- a person is put
  pub graded_person : (person : Text) (v : Person)
      → AreValidGrades (map.insert people person v) grades
  graded_person person v = record {
    graded = λ p h. contains_key-put people person v p (l.graded p h);
    none_zero = l.none_zero;
  }

  -- a known person's grade is put
  pub grade_put : (person : Text) (grade : ℕ) → map.contains_key people person ≡ true
      → AreValidGrades people (with_grade grades person grade)
  grade_put person grade known = record {
    graded = λ p h. elim (text_cases p person) as (λ _. map.contains_key people p ≡ true) [
      | inl same ↦ ap (λ q. map.contains_key people q) same ∙ known
      | inr other ↦ l.graded p (sym (ap is_some (grade_other grades person grade p other)) ∙ h)
    ];
    none_zero = λ p e. elim (text_cases p person) as (λ _. ⊥) [
      | inl same ↦ grade_same grades person grade
          (ap (λ q. map.get (with_grade grades person grade) q) (sym same) ∙ e)
      | inr other ↦ l.none_zero p (sym (grade_other grades person grade p other) ∙ e)
    ];
  }

  -- a person is dropped, and the grade with the person
  pub grade_dropped : (person : Text)
      → AreValidGrades (map.remove people person) (map.remove grades person)
  grade_dropped person = record {
    graded = λ p h. elim (text_cases p person) as
        (λ _. map.contains_key (map.remove people person) p ≡ true) [
          | inl same ↦ absurd (none_known (map.get (map.remove grades person) p)
              (ap (λ q. map.get (map.remove grades person) q) same ∙ get-gone_same grades person) h)
          | inr other ↦ ap is_some (get-gone_other people person p other)
              ∙ l.graded p (sym (ap is_some (get-gone_other grades person p other)) ∙ h)
        ];
    none_zero = λ p e. elim (text_cases p person) as (λ _. ⊥) [
      | inl same ↦ none_some (map.get (map.remove grades person) p) 0
          (ap (λ q. map.get (map.remove grades person) q) same ∙ get-gone_same grades person) e
      | inr other ↦ l.none_zero p (sym (get-gone_other grades person p other) ∙ e)
    ];
  }

  -- an unknown person has no grade
  pub unknown_ungraded : (person : Text) → map.contains_key people person ≡ false
      → map.contains_key grades person ≡ false
  unknown_ungraded person unknown =
      elim (map.contains_key grades person) as
      (λ b. map.contains_key grades person ≡ b → b ≡ false) [
        | true ↦ λ e. let known = l.graded person e in cc
        | false ↦ λ e. refl
      ] refl
