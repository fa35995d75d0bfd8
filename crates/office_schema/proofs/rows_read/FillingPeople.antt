-- Filling the maps of people inverts `people_rows`.
use Rattle.std.proofs.Common.{◌≡◌, true, false, List, [], ◌∷◌, ◌++◌, map, Option, Some, None, cond, refl, sym, ap, ◌∙◌}
use Rattle.std.proofs.Common.{subst, inl, inr, append-nil, IsPermutation}
use Rattle.std.specs.Prelude.{reverse}
use Rattle.std.specs.Option.{is_some}
use Rattle.std.specs.Ordering.{eq_by_cmp}
use Rattle.std.specs.Cmp.{eq_by_cmp_equiv}
use Rattle.std.specs.Cmp.Lexicographic.{nat_list_cmp_total}
use Rattle.std.specs.List.{AllByRecursion, IsDistinct}
use Rattle.std.specs.FinMap as maps
use Rattle.std.specs.FinMap.{get-empty, same_map}
use Rattle.std.proofs.lemmas.List.Sorted.{IsPermutation-refl, IsPermutation-sym, IsPermutation-trans}
use Rattle.std.proofs.lemmas.List.Sorted.{IsPermutation-middle, IsPermutation-append_left, IsPermutation-map}
use Rattle.std.proofs.lemmas.List.Sorted.{IsPermutation-reverse}
use Rattle.std.proofs.lemmas.Map.Keys.{IsDistinct-head, IsDistinct-tail}
use Rattle.std.proofs.lemmas.Option.{same_Some}
use Rattle.std.proofs.lemmas.Bool.{both_ways, false_from_ne_true}
use Rattle.sqlite_keyed.proofs.ListLemmas.{map-map, all_map, all_unmap}
use Rattle.room_types.specs.Texts.{Text, text_cmp}
use Rattle.room_types.proofs.maps.TextMaps.{exact_texts, text_cases, get-put_other, contains_key-put}
use Rattle.room_types.proofs.maps.TextMaps.{contains_key-put_same}
use Rattle.room_types.proofs.maps.Trees.{entries-empty}
use Rattle.office_state.specs.declared.office.person.Person.{Person}
use Rattle.room_types.proofs.maps.Entries.{at_keys, at_entries, each_always, insert-new, permuted_all, permuted_keys}
use Rattle.room_types.proofs.maps.Entries.{one_map}
use Rattle.room_types.proofs.options.Options.{none_if_not_some}
use Rattle.office_schema.specs.rows.Inner.FilledPeople.{marked, nobody, with_person, filled_people}
use Rattle.office_schema.specs.rows.People.{AreValid, people_rows}
use Rattle.office_schema.specs.rows.Rows.{row_of_person}
use Rattle.office_schema.specs.rows.Reads.{Reads}
use Rattle.office_schema.specs.declared.rows.people.People.{People}
use Rattle.office_schema.specs.declared.rows.records.PersonRecord.{PersonRecord}

pub map_each : {A B : Type 0} (f g : A → B) (xs : List A) → AllByRecursion (λ x. f x ≡ g x) xs → map f xs ≡ map g xs
map_each f g [] h = refl
map_each f g (x ∷ xs) h = λ i. h.0 i ∷ map_each f g xs h.1 i

module _ (p : People) (row : PersonRecord) (known : AreValid p) (new : maps.contains_key p.people row.id ≡ false) where
  not_withdrawn : maps.contains_key p.withdrawn row.id ≡ false
  not_withdrawn =
      elim (maps.contains_key p.withdrawn row.id) as (λ b. maps.contains_key p.withdrawn row.id ≡ b → b ≡ false) [
        | true ↦ λ t. absurd (both_ways _ new (known.withdrawers row.id t))
        | false ↦ λ t. refl
      ] refl

  own_flag : maps.contains_key (marked p.withdrawn row) row.id ≡ row.withdrawn
  own_flag =
      elim row.withdrawn as
      (λ b. maps.contains_key (cond b (maps.insert p.withdrawn row.id tt) p.withdrawn) row.id ≡ b) [
        | true ↦ contains_key-put_same p.withdrawn row.id tt
        | false ↦ not_withdrawn
      ]

  other_flag : (q : Text) → eq_by_cmp text_cmp q row.id ≡ false
      → maps.contains_key (marked p.withdrawn row) q ≡ maps.contains_key p.withdrawn q
  other_flag q apart =
      elim row.withdrawn as
      (λ b. maps.contains_key (cond b (maps.insert p.withdrawn row.id tt) p.withdrawn) q ≡ maps.contains_key
      p.withdrawn q) [
        | true ↦ ap is_some (get-put_other p.withdrawn row.id tt q apart)
        | false ↦ refl
      ]

  others : AllByRecursion
      (λ (e : Text × Person). row_of_person p.withdrawn e ≡ row_of_person (marked p.withdrawn row) e)
      (maps.entries p.people)
  others = at_entries nat_list_cmp_total exact_texts
      (λ k v. row_of_person p.withdrawn (k, v) ≡ row_of_person (marked p.withdrawn row) (k, v)) p.people (λ k v f.
      elim (text_cases k row.id) as
      (λ _. row_of_person p.withdrawn (k, v) ≡ row_of_person (marked p.withdrawn row) (k, v)) [
        | inl same ↦ absurd
            (both_ways (maps.contains_key p.people k) (ap (λ q. maps.contains_key p.people q) same ∙ new)
            (ap is_some f))
        | inr apart ↦ ap (λ b. record { id = k; person = v; withdrawn = b }) (sym (other_flag k apart))
      ])

  pub rows_more : IsPermutation (row ∷ people_rows p) (people_rows (with_person p row))
  rows_more =
      let one : IsPermutation
      (map (row_of_person (marked p.withdrawn row)) ((row.id, row.person) ∷ maps.entries p.people))
      (people_rows (with_person p row)) =
      IsPermutation-map (row_of_person (marked p.withdrawn row)) _ _
      (insert-new nat_list_cmp_total exact_texts p.people row.id row.person
      (none_if_not_some (maps.get p.people row.id) new)) in
      let head : row_of_person (marked p.withdrawn row) (row.id, row.person) ≡ row =
      ap (λ b. record { id = row.id; person = row.person; withdrawn = b }) own_flag in
      let tail : map (row_of_person (marked p.withdrawn row)) (maps.entries p.people) ≡ people_rows p =
      sym (map_each (row_of_person p.withdrawn) (row_of_person (marked p.withdrawn row))
      (maps.entries p.people) others) in
      subst (λ l. IsPermutation l (people_rows (with_person p row))) (λ i. head i ∷ tail i) one

  pub known_more : AreValid (with_person p row)
  known_more = record {
    withdrawers =
        λ q h. elim (text_cases q row.id) as
        (λ _. maps.contains_key (maps.insert p.people row.id row.person) q ≡ true) [
          | inl same ↦ ap (λ k. maps.contains_key (maps.insert p.people row.id row.person) k) same
              ∙ contains_key-put_same p.people row.id row.person
          | inr apart ↦ contains_key-put p.people row.id row.person q
              (known.withdrawers q (sym (other_flag q apart) ∙ h))
        ];
  }

filled_people-has : (rows : List PersonRecord) (p final : People) → AreValid p → filled_people p rows ≡ Some final
    → AreValid final × IsPermutation (people_rows p ++ rows) (people_rows final)
filled_people-has [] p final known e =
    let same = same_Some p final e in (
      subst (λ q. AreValid q) same known,
      subst (λ q. IsPermutation (people_rows p ++ []) (people_rows q)) same
          (subst (λ l. IsPermutation l (people_rows p)) (sym (append-nil (people_rows p)))
          (IsPermutation-refl (people_rows p))),
    )
filled_people-has (row ∷ rows) p final known e =
    elim (maps.contains_key p.people row.id) as (λ b. maps.contains_key p.people row.id ≡ b
    → cond b None (filled_people (with_person p row) rows) ≡ Some final → AreValid final
    × IsPermutation (people_rows p ++ row ∷ rows) (people_rows final)) [
      | true ↦ λ t h. absurd (cc)
      | false ↦ λ t h.
          let rest = filled_people-has rows (with_person p row) final (known_more p row known t) h in (
            rest.0,
            IsPermutation-trans _ _ _ (IsPermutation-middle (people_rows p) row rows)
                (IsPermutation-trans _ _ _ (IsPermutation-append_left rows _ _ (rows_more p row known t)) rest.1),
          )
    ] refl e

abbrev id_of : PersonRecord → Text
id_of r = r.id

abbrev AreNew : People → List PersonRecord → Type 0
AreNew p rows = AllByRecursion (λ r. maps.contains_key p.people r.id ≡ false) rows

still_new : (p : People) (row : PersonRecord) (rows : List PersonRecord)
    → AllByRecursion (λ q. eq_by_cmp text_cmp row.id q ≡ false) (map id_of rows) → AreNew p rows
    → AreNew (with_person p row) rows
still_new p row [] apart h = tt
still_new p row (r ∷ rows) apart h = (
  ap is_some
      (get-put_other p.people row.id row.person r.id ((eq_by_cmp_equiv nat_list_cmp_total).symm r.id row.id
      ∙ apart.0)) ∙ h.0,
  still_new p row rows apart.1 h.1,
)

filled_people-all : (rows : List PersonRecord) (p : People) → IsDistinct (eq_by_cmp text_cmp) (map id_of rows)
    → AreNew p rows → filled_people p rows ≡ None → ⊥
filled_people-all [] p d h n = cc
filled_people-all (row ∷ rows) p d h n =
    filled_people-all rows (with_person p row) (IsDistinct-tail (eq_by_cmp text_cmp) row.id (map id_of rows) d)
    (still_new p row rows (IsDistinct-head (eq_by_cmp text_cmp) row.id (map id_of rows) d) h.1)
    (ap (λ b. cond b None (filled_people (with_person p row) rows)) (sym h.0) ∙ n)

abbrev entry_of : PersonRecord → Text × Person
entry_of r = (r.id, r.person)

listed : (p : People) → map entry_of (people_rows p) ≡ maps.entries p.people
listed p = map-map entry_of (row_of_person p.withdrawn) (maps.entries p.people) ∙ itself (maps.entries p.people)
  where
    itself : (es : List (Text × Person)) → map (λ (e : Text × Person). (e.0, e.1)) es ≡ es
    itself [] = refl
    itself (e ∷ es) = ap (λ (l : List (Text × Person)). e ∷ l) (itself es)

entries_moved : (p : People) (rows : List PersonRecord) → IsPermutation (people_rows p) rows
    → IsPermutation (maps.entries p.people) (map entry_of rows)
entries_moved p rows same =
    subst (λ l. IsPermutation l (map entry_of rows)) (listed p) (IsPermutation-map entry_of (people_rows p) rows same)

ids_differ : (p : People) (rows : List PersonRecord) → IsPermutation (people_rows p) rows
    → IsDistinct (eq_by_cmp text_cmp) (map id_of rows)
ids_differ p rows same =
    subst (λ l. IsDistinct (eq_by_cmp text_cmp) l) (map-map (λ (e : Text × Person). e.0) entry_of rows)
    (permuted_keys nat_list_cmp_total exact_texts p.people (map entry_of rows) (entries_moved p rows same))

-- Rows determine the people and who has withdrawn.
pub one_people : (p q : People) → AreValid p → AreValid q → IsPermutation (people_rows p) (people_rows q) → p ≡ q
one_people p q known_p known_q same =
    let people : p.people ≡ q.people =
    one_map nat_list_cmp_total exact_texts p.people q.people
    (subst (λ l. IsPermutation (maps.entries p.people) l) (listed q) (entries_moved p (people_rows q) same)) in
    let flags : (k : Text) (v : Person) → maps.get q.people k ≡ Some v
    → maps.contains_key p.withdrawn k ≡ maps.contains_key q.withdrawn k =
    at_keys nat_list_cmp_total exact_texts
    (λ k v. maps.contains_key p.withdrawn k ≡ maps.contains_key q.withdrawn k) q.people
    (all_unmap (λ (r : PersonRecord). maps.contains_key p.withdrawn r.id ≡ r.withdrawn) (row_of_person q.withdrawn)
    (maps.entries q.people)
    (permuted_all (λ (r : PersonRecord). maps.contains_key p.withdrawn r.id ≡ r.withdrawn) (people_rows p)
    (people_rows q) same
    (all_map (λ (r : PersonRecord). maps.contains_key p.withdrawn r.id ≡ r.withdrawn) (row_of_person p.withdrawn)
    (maps.entries p.people)
    (each_always (λ (e : Text × Person). maps.contains_key p.withdrawn e.0 ≡ maps.contains_key p.withdrawn e.0)
    (λ e. refl) (maps.entries p.people))))) in
    let withdrawn : p.withdrawn ≡ q.withdrawn = same_map nat_list_cmp_total exact_texts p.withdrawn q.withdrawn (λ k.
    units (maps.get p.withdrawn k) (maps.get q.withdrawn k) (
    elim (maps.get q.people k) as
    (λ o. maps.get q.people k ≡ o → maps.contains_key p.withdrawn k ≡ maps.contains_key q.withdrawn k) [
      | None ↦ λ none.
          false_from_ne_true (maps.contains_key p.withdrawn k)
          (λ t. both_ways (maps.contains_key q.people k) (ap is_some none)
          (ap (λ m. maps.contains_key m k) (sym people) ∙ known_p.withdrawers k t))
          ∙ sym (false_from_ne_true (maps.contains_key q.withdrawn k)
          (λ t. both_ways (maps.contains_key q.people k) (ap is_some none) (known_q.withdrawers k t)))
      | Some v ↦ λ f. flags k v f
    ] refl
    )) in
    λ i. record { people = people i; withdrawn = withdrawn i }
  where
    units : (a b : Option (Unit {0})) → is_some a ≡ is_some b → a ≡ b
    units None None e = refl
    units None (Some y) e = cc
    units (Some x) None e = cc
    units (Some x) (Some y) e = refl

nobody_known : AreValid nobody
nobody_known = record { withdrawers = λ q h. absurd (both_ways _ (ap is_some (get-empty {X = Unit {0}} text_cmp q)) h) }

no_rows : people_rows nobody ≡ []
no_rows = ap (map (row_of_person maps.empty)) (entries-empty nat_list_cmp_total)

all_new : (rows : List PersonRecord) → AreNew nobody rows
all_new = each_always (λ (r : PersonRecord). maps.contains_key nobody.people r.id ≡ false)
    (λ r. ap is_some (get-empty {X = Person} text_cmp r.id))

filled_people-rows : (rows moved : List PersonRecord) → IsPermutation rows moved → (found : Option People)
    → filled_people nobody moved ≡ found → Reads AreValid people_rows rows found
filled_people-rows rows moved same None e = record {
  returned = tt;
  only = λ p known has. absurd
      (filled_people-all moved nobody (ids_differ p moved (IsPermutation-trans _ _ _ has same)) (all_new moved) e);
}
filled_people-rows rows moved same (Some final) e =
    let has = filled_people-has moved nobody final nobody_known e in
    let returned : IsPermutation (people_rows final) rows =
    IsPermutation-sym _ _
    (IsPermutation-trans _ _ _ same (subst (λ l. IsPermutation (l ++ moved) (people_rows final)) no_rows has.1)) in
    record {
      returned = (has.0, returned);
      only = λ p known these. ap (λ q. Some q)
          (one_people final p has.0 known (IsPermutation-trans _ _ _ returned (IsPermutation-sym _ _ these)));
    }

pub filled_people-reads : (rows : List PersonRecord)
    → Reads AreValid people_rows rows (filled_people nobody (reverse rows))
filled_people-reads rows =
    filled_people-rows rows (reverse rows) (IsPermutation-reverse rows) (filled_people nobody (reverse rows)) refl
