-- Each person is joined with the person's recorded grade, if any.
use Rattle.std.proofs.Common.{◌≡◌, ℕ, ℤ, Bool, true, false, List, [], ◌∷◌, ◌++◌, map, flat_map, filter, cond, Option}
use Rattle.std.proofs.Common.{Some, None, option_to_list, refl, sym, ap, ap₂, ◌∙◌, subst, IsPermutation, Less, Equal}
use Rattle.std.proofs.Common.{Greater}
use Rattle.std.specs.declared.cmp.Ordering.{Ordering}
use Rattle.std.specs.Cmp.Lexicographic.{nat_list_cmp_total}
use Rattle.std.specs.List.{AllByRecursion, list_all}
use Rattle.std.specs.FinMap as maps
use Rattle.std.specs.FinMap.{find, get-entries}
use Rattle.std.specs.Ordering.{eq_by_cmp, is_eq, ordering_reverse}
use Rattle.std.proofs.lemmas.Map.Text.{is_eq-slice_cmp}
use Rattle.std.proofs.lemmas.List.{map-append}
use Rattle.std.proofs.lemmas.List.Sorted.{IsPermutation-map}
use Rattle.sqlite_value.specs.Order.{Row}
use Rattle.sqlite_value.specs.declared.value.Value.TheVariants.{Text}
use Rattle.sqlite_sql.specs.Term.{holds}
use Rattle.sqlite_sql.specs.Query.{Output, output}
use Rattle.sqlite_trees.specs.Tree.{IsAscending}
use Rattle.sqlite_keyed.proofs.ListLemmas.{filter-map, filter_none, IsPermutation-filter}
use Rattle.room_types.proofs.maps.TextMaps.{tied_text}
use Rattle.room_types.specs.Texts.{Text as Bytes, TextMap, text_cmp, text_eq}
use Rattle.office_schema.specs.cells.Cells.{count_or_null}
use Rattle.office_schema.specs.cells.Columns.{grade_columns, person_columns}
use Rattle.office_schema.specs.declared.rows.records.PersonRecord.{PersonRecord}
use Rattle.office_schema.specs.tables.Holds.{stored}
use Rattle.office_schema.proofs.statements.Values.{same_text}
use Rattle.office_store.specs.exports.Queries.{grades_query, is_theirs}
use Rattle.office_store.proofs.export_answers.Joining.{joined}
use Rattle.office_store.proofs.export_answers.Rising.{entries_rise}
use Rattle.office_store.proofs.export_answers.Tenants.{few}

-- the test that joins a person and a grade
abbrev pub meets : Row → Row → Bool
meets person grade = list_all (holds ([] ∷ person ∷ grade ∷ [])) (is_theirs ∷ [])

grade_meets : (person : ℤ × PersonRecord) (grade : ℤ × (Bytes × ℕ)) → meets (stored person_columns person)
    (stored grade_columns grade) ≡ text_eq grade.1.0 person.1.id
grade_meets person grade = same_text grade.1.0 person.1.id

-- the matches of a person
grades_found : (person : ℤ × PersonRecord) (grades : List (ℤ × (Bytes × ℕ)))
    → filter (meets (stored person_columns person)) (map (stored grade_columns) grades)
    ≡ map (stored grade_columns) (filter (λ (e : ℤ × (Bytes × ℕ)). text_eq e.1.0 person.1.id) grades)
grades_found person grades =
    filter-map (meets (stored person_columns person)) (stored grade_columns) grades
    ∙ ap (λ (test : ℤ × (Bytes × ℕ) → Bool). map (stored grade_columns) (filter test grades))
    (λ i e. grade_meets person e i)

-- the key of a person's row, and what is shown of it
abbrev pub out : (Bytes → Option ℕ) → PersonRecord → Output
out grade x = (Text x.id ∷ [], Text x.id ∷ count_or_null (grade x.id) ∷ [])

grade_shown : (grade : Bytes → Option ℕ) (person : ℤ × PersonRecord) (grades : List (ℤ × (Bytes × ℕ))) (o : Option ℕ)
    → grade person.1.id ≡ o
    → map (λ (e : ℤ × (Bytes × ℕ)). e.1.1) grades ≡ option_to_list o
    → map (output grades_query) (joined (stored person_columns person) (map (stored grade_columns) grades)) ≡ out grade
    person.1 ∷ []
grade_shown grade person [] None is named =
    ap (λ g. (Text person.1.id ∷ [], Text person.1.id ∷ count_or_null g ∷ []) ∷ []) (sym is)
grade_shown grade person [] (Some x) is named = absurd (cc)
grade_shown grade person (e ∷ grades) None is named = absurd (cc)
grade_shown grade person (e ∷ []) (Some x) is named =
    let same : Some e.1.1 ≡ grade person.1.id =
    ap (λ (l : List ℕ). Rattle.std.proofs.Common.slice_get l 0) named ∙ sym is in
    ap (λ g. (Text person.1.id ∷ [], Text person.1.id ∷ count_or_null g ∷ []) ∷ []) same
grade_shown grade person (e ∷ f ∷ grades) (Some x) is named = absurd (cc)

-- what is shown of all people
pub grades_shown : (grade : Bytes → Option ℕ) (grades : List (ℤ × (Bytes × ℕ)))
    → ((id : Bytes)
    → map (λ (e : ℤ × (Bytes × ℕ)). e.1.1)
    (filter (λ (e : ℤ × (Bytes × ℕ)). text_eq e.1.0 id) grades) ≡ option_to_list (grade id))
    → (people : List (ℤ × PersonRecord))
    → map (output grades_query)
    (flat_map (λ person. joined person (filter (meets person) (map (stored grade_columns) grades)))
    (map (stored person_columns) people))
    ≡ map (out grade) (map (λ (e : ℤ × PersonRecord). e.1) people)
grades_shown grade grades recorded [] = refl
grades_shown grade grades recorded (person ∷ people) =
    map-append (output grades_query)
    (joined (stored person_columns person)
    (filter (meets (stored person_columns person)) (map (stored grade_columns) grades))) _
    ∙ ap₂ ◌++◌
    (ap (λ l. map (output grades_query) (joined (stored person_columns person) l)) (grades_found person grades)
    ∙ grade_shown grade person (filter (λ (e : ℤ × (Bytes × ℕ)). text_eq e.1.0 person.1.id) grades)
    (grade person.1.id) refl (recorded person.1.id))
    (grades_shown grade grades recorded people)

-- ---- a person has at most one recorded grade

module _ (id : Bytes) where
  abbrev is_of : Bytes × ℕ → Bool
  is_of e = text_eq e.0 id

  is_of_sought : (e : Bytes × ℕ) → is_of e ≡ eq_by_cmp text_cmp id e.0
  is_of_sought e = sym (is_eq-slice_cmp e.0 id) ∙ ap is_eq (nat_list_cmp_total.antisymm e.0 id)
      ∙ turned (text_cmp id e.0)
    where
      turned : (o : Ordering) → is_eq (ordering_reverse o) ≡ is_eq o
      turned Less = refl
      turned Equal = refl
      turned Greater = refl

  -- No later grade is of the same person.
  no_later : (e : Bytes × ℕ) (es : List (Bytes × ℕ)) → id ≡ e.0 → AllByRecursion (λ f. text_cmp e.0 f.0 ≡ Less) es
      → AllByRecursion (λ f. is_of f ≡ false) es
  no_later e [] same above = tt
  no_later e (f ∷ es) same above = (
    is_of_sought f ∙ ap is_eq (ap (λ k. text_cmp k f.0) same ∙ above.0),
    no_later e es same above.1,
  )

  one_recorded : (es : List (Bytes × ℕ)) → IsAscending (λ a b. text_cmp a.0 b.0 ≡ Less) es
      → map (λ (e : Bytes × ℕ). e.1) (filter is_of es) ≡ option_to_list (find text_cmp id es)
  one_recorded [] up = refl
  one_recorded (e ∷ es) up = go (eq_by_cmp text_cmp id e.0) refl (one_recorded es up.1)
    where
      go : (b : Bool) → eq_by_cmp text_cmp id e.0 ≡ b → map (λ (f : Bytes × ℕ). f.1) (filter is_of es) ≡ option_to_list
          (find text_cmp id es)
          → map (λ (f : Bytes × ℕ). f.1) (cond (is_of e) (e ∷ filter is_of es) (filter is_of es)) ≡ option_to_list
          (cond (is_eq (text_cmp id e.0)) (Some e.1) (find text_cmp id es))
      go true h more = rw (is_of_sought e ∙ h, h, filter_none is_of es (no_later e es (tied_text id e.0 h) up.0)) refl
      go false h more = rw (is_of_sought e ∙ h, h) more

-- Among the rows of all grades, in any order, those of a person hold the person's recorded grade.
pub grade_recorded : (grades : TextMap ℕ) (id : Bytes) (rows : List (Bytes × ℕ))
    → IsPermutation (maps.entries grades) rows
    → map (λ (e : Bytes × ℕ). e.1) (filter (λ (e : Bytes × ℕ). text_eq e.0 id) rows) ≡ option_to_list
    (maps.get grades id)
grade_recorded grades id rows same =
    let test : Bytes × ℕ → Bool = λ e. text_eq e.0 id in
    let value : Bytes × ℕ → ℕ = λ e. e.1 in
    let sought : map value (filter test (maps.entries grades)) ≡ option_to_list (maps.get grades id) =
    one_recorded id (maps.entries grades) (entries_rise text_cmp grades) ∙ ap option_to_list
    (sym (get-entries grades id)) in
    few _ _ (subst (λ l. IsPermutation l (map value (filter test rows))) sought
    (IsPermutation-map value _ _ (IsPermutation-filter test _ _ same)))
