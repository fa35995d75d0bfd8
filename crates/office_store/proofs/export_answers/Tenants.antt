-- At most one person lives in a room.
use Rattle.std.proofs.Common.{◌≡◌, Bool, true, false, List, [], ◌∷◌, map, filter, cond, Option, Some, None, refl, sym}
use Rattle.std.proofs.Common.{ap, ◌∙◌, subst, IsPermutation, arith, option_to_list, Equal, Less}
use Rattle.std.specs.Cmp.{tied_itself}
use Rattle.std.specs.Cmp.Lexicographic.{nat_list_cmp_total}
use Rattle.std.specs.List.{AllByRecursion}
use Rattle.std.specs.FinMap as maps
use Rattle.std.specs.FinMap.{entries_sorted, get-entries, find}
use Rattle.std.proofs.Common.{option_and_then}
use Rattle.std.proofs.lemmas.List.Sorted.{IsPermutation-map, length_permutation}
use Rattle.sqlite_trees.specs.Tree.{IsAscending}
use Rattle.sqlite_keyed.proofs.ListLemmas.{map-map, filter-map, filter_none, all_weaker, IsPermutation-filter}
use Rattle.sqlite.proofs.Callers.{one_permutation}
use Rattle.room_types.specs.Texts.{Text, TextMap, text_cmp}
use Rattle.room_types.proofs.maps.TextMaps.{exact_texts}
use Rattle.room_types.proofs.maps.Entries.{entries_found}
use Rattle.office_state.specs.Office.Invariants.{Unshared}
use Rattle.office_state.specs.Office.{first_person, had_by, holder, is_text, lives_in}
use Rattle.office_state.specs.declared.office.person.Person.{Person}
use Rattle.office_state.proofs.offices.People.{held-is_text}
use Rattle.office_schema.specs.rows.Rows.{row_of_person, rows_of_people}
use Rattle.office_schema.specs.declared.rows.records.PersonRecord.{PersonRecord}
use Rattle.office_store.proofs.export_answers.Rising.{entries_rise}

-- A list of at most one element has one order.
pub few : {X : Type 0} (o : Option X) (ys : List X) → IsPermutation (option_to_list o) ys → ys ≡ option_to_list o
few None [] same = refl
few None (y ∷ ys) same = absurd (omega (arith, length_permutation _ _ same))
few (Some x) ys same = one_permutation x ys same

module _ (people : TextMap Person) (code : Text) (differ : Unshared (λ p. p.home) people) where
  abbrev lives : Text × Person → Bool
  lives e = lives_in code e.1

  abbrev IsFound : Text × Person → Type 0
  IsFound e = had_by (λ p. p.home) people e.0 ≡ e.1.home

  -- Nobody after the person who lives there lives there too.
  no_other : (e : Text × Person) (es : List (Text × Person)) → IsFound e → lives e ≡ true
      → AllByRecursion (λ f. text_cmp e.0 f.0 ≡ Less) es → AllByRecursion IsFound es
      → AllByRecursion (λ f. lives f ≡ false) es
  no_other e [] found here above all = tt
  no_other e (f ∷ es) found here above all = (go (lives f) refl, no_other e es found here above.1 all.1)
    where
      go : (b : Bool) → lives f ≡ b → lives f ≡ false
      go false h = h
      go true h =
          let same : e.0 ≡ f.0 = differ e.0 f.0 code (found ∙ held-is_text e.1.home code here)
          (all.0 ∙ held-is_text f.1.home code h) in
          let tied : text_cmp e.0 f.0 ≡ Equal = ap (λ k. text_cmp k f.0) same ∙ tied_itself nat_list_cmp_total f.0 in
          absurd (let clash : Equal ≡ Less = sym tied ∙ above.0 in cc)

  one_lives : (es : List (Text × Person)) → IsAscending (λ a b. text_cmp a.0 b.0 ≡ Less) es → AllByRecursion IsFound es
      → map (λ (e : Text × Person). e.0) (filter lives es) ≡ option_to_list (first_person (lives_in code) es)
  one_lives [] up all = refl
  one_lives (e ∷ es) up all = go (lives e) refl (one_lives es up.1 all.1)
    where
      go : (b : Bool) → lives e ≡ b → map (λ (f : Text × Person). f.0) (filter lives es) ≡ option_to_list
          (first_person (lives_in code) es)
          → map (λ (f : Text × Person). f.0) (cond (lives e) (e ∷ filter lives es) (filter lives es)) ≡ option_to_list
          (cond (lives e) (Some e.0) (first_person (lives_in code) es))
      go true h more = rw (h, filter_none lives es (no_other e es all.0 h up.0 all.1)) refl
      go false h more = rw h more

  each_found : AllByRecursion IsFound (maps.entries people)
  each_found =
      all_weaker (λ (e : Text × Person). find text_cmp e.0 (maps.entries people) ≡ Some e.1) IsFound
      (λ e f. ap (option_and_then (λ (p : Person). p.home)) (get-entries people e.0 ∙ f))
      (maps.entries people) (entries_found nat_list_cmp_total exact_texts (maps.entries people) (entries_sorted people))

  -- Among the rows of all people, in any order, those of the people who live there name the tenant.
  pub tenant_named : (withdrawn : TextMap (Unit {0})) (rows : List PersonRecord)
      → IsPermutation (rows_of_people people withdrawn) rows
      → map (λ (x : PersonRecord). x.id)
      (filter (λ (x : PersonRecord). is_text x.person.home code) rows) ≡ option_to_list
      (holder (λ p. p.home) people code)
  tenant_named withdrawn rows same =
      let test : PersonRecord → Bool = λ x. is_text x.person.home code in
      let named : map (λ (x : PersonRecord). x.id) (filter test (rows_of_people people withdrawn)) ≡ option_to_list
      (holder (λ p. p.home) people code) =
      ap (map (λ (x : PersonRecord). x.id)) (filter-map test (row_of_person withdrawn) (maps.entries people))
      ∙ map-map (λ (x : PersonRecord). x.id) (row_of_person withdrawn) (filter lives (maps.entries people))
      ∙ one_lives (maps.entries people) (entries_rise text_cmp people) each_found in
      few _ _ (subst (λ l. IsPermutation l (map (λ (x : PersonRecord). x.id) (filter test rows))) named
      (IsPermutation-map (λ (x : PersonRecord). x.id) _ _ (IsPermutation-filter test _ _ same)))
