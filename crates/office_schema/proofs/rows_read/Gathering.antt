-- Gathering lists from rows inverts `choice_rows`.
use Rattle.std.proofs.Common.{◌≡◌, ℕ, ◌+◌, ◌<◌, true, false, List, [], ◌∷◌, ◌++◌, length, drop, get_or, Option, Some}
use Rattle.std.proofs.Common.{None, cond, refl, sym, ap, ◌∙◌, subst, inl, inr, T, arith, append_assoc, append-nil}
use Rattle.std.proofs.Common.{length-append, IsPermutation, IsSorted}
use Rattle.std.specs.Prelude.{unwrap_or, eqb}
use Rattle.std.specs.Option.{IfSome}
use Rattle.std.specs.declared.cmp.Ordering.TheVariants.{Less, Equal, Greater}
use Rattle.std.specs.Ordering.{is_eq}
use Rattle.std.specs.Cmp.Lexicographic.{nat_list_cmp_total}
use Rattle.std.proofs.lemmas.Bool.{eq-eqb}
use Rattle.std.proofs.lemmas.Bool.Decides.{eqb_tells}
use Rattle.std.proofs.lemmas.List.{drop_more}
use Rattle.std.proofs.lemmas.List.Sorted.{IsPermutation-refl, IsPermutation-sym, IsPermutation-trans}
use Rattle.std.proofs.lemmas.List.Sorted.{IsPermutation-middle, IsPermutation-append_left, IsPermutation-append_right}
use Rattle.std.proofs.lemmas.List.Sorted.{length_permutation}
use Rattle.std.specs.List.{AllByRecursion, flat_map}
use Rattle.std.specs.FinMap as map
use Rattle.std.specs.FinMap.{find, put, entries_sorted, entries-insert, get-entries, get-empty, same_map}
use Rattle.std.specs.FinMap.Entries.{below_all, by_order, is_sorted}
use Rattle.std.proofs.lemmas.Option.{same_Some}
use Rattle.room_types.specs.Choices.{IsChoices}
use Rattle.room_types.specs.Texts.{Text, TextMap, text_cmp}
use Rattle.room_types.proofs.maps.TextMaps.{exact_texts, text_cases, get-put_same, get-put_other, get-gone_other}
use Rattle.room_types.proofs.maps.TextMaps.{less_from_test}
use Rattle.room_types.proofs.maps.Trees.{entries-empty}
use Rattle.office_state.specs.Puts.{with_all}
use Rattle.office_state.specs.Inner.Soundness.{is_choices}
use Rattle.office_state.proofs.sound_offices.InvariantTests.{choices_at, at_choices}
use Rattle.room_types.proofs.maps.Entries.{key_after, at_keys, at_entries, below_less, each_always, each_weaker}
use Rattle.room_types.proofs.maps.Entries.{none_below}
use Rattle.room_types.proofs.maps.TextMaps.{first_holds, second_holds}
use Rattle.office_state.proofs.round_problems.Puts.{with_all-entries}
use Rattle.office_schema.specs.rows.Rows.{AreStorableLists, choices_from, list_rows, choice_rows}
use Rattle.office_schema.specs.rows.Inner.Gathered.{list_at, gathered, chosen_from, row_cmp}
use Rattle.office_schema.specs.rows.Reads.{Reads}
use Rattle.office_schema.specs.declared.rows.records.ChoiceRecord.{ChoiceRecord}
use Rattle.office_schema.proofs.rows_read.RowOrder.{sorted_rows, rows_sorted}

abbrev Lists : Type 0
Lists = TextMap (List Text)

at_put : (m : Lists) (p : Text) (v : List Text) → list_at (map.insert m p v) p ≡ v
at_put m p v = ap (λ o. unwrap_or o []) (get-put_same m p v)

put_twice : (m : Lists) (p : Text) (v w : List Text) → map.insert (map.insert m p v) p w ≡ map.insert m p w
put_twice m p v w = same_map nat_list_cmp_total exact_texts _ _ (λ q.
    elim (text_cases q p) as (λ _. map.get (map.insert (map.insert m p v) p w) q ≡ map.get (map.insert m p w) q) [
      | inl same ↦ ap (λ k. map.get (map.insert (map.insert m p v) p w) k) same ∙ get-put_same (map.insert m p v) p w
          ∙ sym (ap (λ k. map.get (map.insert m p w) k) same ∙ get-put_same m p w)
      | inr other ↦ get-put_other (map.insert m p v) p w q other ∙ get-put_other m p v q other
          ∙ sym (get-put_other m p w q other)
    ])

taken_put : (m : Lists) (p : Text) (w : List Text) → map.insert (map.remove m p) p w ≡ map.insert m p w
taken_put m p w = same_map nat_list_cmp_total exact_texts _ _ (λ q.
    elim (text_cases q p) as (λ _. map.get (map.insert (map.remove m p) p w) q ≡ map.get (map.insert m p w) q) [
      | inl same ↦ ap (λ k. map.get (map.insert (map.remove m p) p w) k) same ∙ get-put_same (map.remove m p) p w
          ∙ sym (ap (λ k. map.get (map.insert m p w) k) same ∙ get-put_same m p w)
      | inr other ↦ get-put_other (map.remove m p) p w q other ∙ get-gone_other m p q other
          ∙ sym (get-put_other m p w q other)
    ])

-- one iteration of the loop
pub turn : (lists left next : Lists) (rows : List ChoiceRecord) (i : ℕ) (row : ChoiceRecord) (codes more : List Text)
    (person room : Text)
    → i < length rows → row ≡ get_or rows i row → codes ≡ list_at lists row.person → row.place ≡ length codes
    → left ≡ map.remove lists row.person
    → person ≡ row.person → room ≡ row.room → more ≡ codes ++ room ∷ [] → next ≡ map.insert left person more
    → gathered lists (drop i rows) ≡ gathered next (drop (i + 1) rows)
turn lists left next rows i row codes more person room low is codes_are place gone person_is room_is pushed put_in =
    let rest = drop (i + 1) rows in
    let made : next ≡ map.insert lists row.person (list_at lists row.person ++ row.room ∷ []) =
    put_in ∙ (λ j. map.insert (gone j) (person_is j) (pushed j))
    ∙ (λ j. map.insert (map.remove lists row.person) row.person (codes_are j ++ room_is j ∷ []))
    ∙ taken_put lists row.person _ in
    let test : eqb row.place (length (list_at lists row.person)) ≡ true = eq-eqb _ _ (place ∙ ap length codes_are) in
    ap (gathered lists) (drop_more rows i row low)
    ∙ ap (λ r. gathered lists (r ∷ rest)) (sym is)
    ∙ ap (λ b. cond b (gathered (map.insert lists row.person (list_at lists row.person ++ row.room ∷ [])) rest) None)
    test
    ∙ ap (λ m. gathered m rest) (sym made)

-- ---- gathering the ordered rows of lists gives the lists back

step : (p : Text) (code : Text) (lists : Lists) (done : List Text) (rows : List ChoiceRecord) → list_at lists p ≡ done
    → gathered lists (record { person = p; place = length done; room = code } ∷ rows) ≡ gathered
    (map.insert lists p (done ++ code ∷ [])) rows
step p code lists done rows e =
    ap (λ b. cond b (gathered (map.insert lists p (list_at lists p ++ code ∷ [])) rows) None)
    (eq-eqb _ _ (ap length (sym e)))
    ∙ ap (λ l. gathered (map.insert lists p (l ++ code ∷ [])) rows) e

gathered-list : (p : Text) (codes : List Text) (code : Text) (lists : Lists) (done : List Text)
    (rows : List ChoiceRecord) → list_at lists p ≡ done
    → gathered lists (choices_from p (length done) (code ∷ codes) ++ rows) ≡ gathered
    (map.insert lists p (done ++ code ∷ codes)) rows
gathered-list p [] code lists done rows e = step p code lists done rows e
gathered-list p (next ∷ codes) code lists done rows e =
    let now : Lists = map.insert lists p (done ++ code ∷ []) in
    let longer : length (done ++ code ∷ []) ≡ length done + 1 = length-append done (code ∷ []) in
    step p code lists done (choices_from p (length done + 1) (next ∷ codes) ++ rows) e
    ∙ ap (λ n. gathered now (choices_from p n (next ∷ codes) ++ rows)) (sym longer)
    ∙ gathered-list p codes next now (done ++ code ∷ []) rows (at_put lists p (done ++ code ∷ []))
    ∙ ap (λ m. gathered m rows) (put_twice lists p (done ++ code ∷ []) ((done ++ code ∷ []) ++ next ∷ codes))
    ∙ ap (λ l. gathered (map.insert lists p l) rows) (append_assoc done (code ∷ []) (next ∷ codes))

abbrev AreNew : Lists → List (Text × List Text) → Type 0
AreNew lists es = AllByRecursion (λ e. map.get lists e.0 ≡ None) es

still_new : (lists : Lists) (p : Text) (v : List Text) (es : List (Text × List Text)) → T (below_all text_cmp p es)
    → AreNew lists es → AreNew (map.insert lists p v) es
still_new lists p v [] b h = tt
still_new lists p v (e ∷ es) b h = (
  get-put_other lists p v e.0 (key_after nat_list_cmp_total p e.0 (less_from_test _ (first_holds _ _ b)))
      ∙ h.0,
  still_new lists p v es (second_holds _ _ b) h.1,
)

gathered-all : (es : List (Text × List Text)) (lists : Lists) → T (is_sorted text_cmp es)
    → AllByRecursion (λ e. e.1 ≡ [] → ⊥) es → AreNew lists es
    → gathered lists (flat_map list_rows es) ≡ Some (with_all lists es)
gathered-all [] lists s filled new = refl
gathered-all (e ∷ es) lists s filled new =
    elim e.1 as (λ codes. (codes ≡ [] → ⊥) → gathered lists (choices_from e.0 0 codes ++ flat_map list_rows es) ≡ Some
    (with_all (map.insert lists e.0 codes) es)) [
      | [] ↦ λ f. absurd (f refl)
      | code ∷ codes ↦ λ f.
          gathered-list e.0 codes code lists [] (flat_map list_rows es) (ap (λ o. unwrap_or o []) new.0)
          ∙ gathered-all es (map.insert lists e.0 (code ∷ codes)) (second_holds _ _ s) filled.1
          (still_new lists e.0 (code ∷ codes) es (first_holds _ _ s) new.1)
    ] filled.0

all_new : (es : List (Text × List Text)) → AreNew map.empty es
all_new = each_always (λ (e : Text × List Text). map.get map.empty e.0 ≡ None) (λ e. get-empty text_cmp e.0)

pub gathered-rows : (lists : Lists) → AreStorableLists lists → gathered map.empty (choice_rows lists) ≡ Some lists
gathered-rows lists sound =
    gathered-all (map.entries lists) map.empty (entries_sorted lists)
    (at_entries nat_list_cmp_total exact_texts (λ p codes. codes ≡ [] → ⊥) lists
    (λ p codes f none. sound.none_empty p (f ∙ ap (λ l. Some l) none)))
    (all_new (map.entries lists))
    ∙ ap (λ m. Some m) (with_all-entries lists)

-- Rows determine the lists.
pub one_lists : (m n : Lists) → AreStorableLists m → AreStorableLists n → IsPermutation (choice_rows m)
    (choice_rows n) → m ≡ n
one_lists m n valid_m valid_n same =
    same_Some m n
    (sym (gathered-rows m valid_m)
    ∙ ap (gathered map.empty) (sym (sorted_rows m (choice_rows n) same (rows_sorted n))) ∙ gathered-rows n valid_n)

-- ---- gathered lists have the rows

choices_from-push : (p : Text) (k : ℕ) (codes : List Text) (room : Text)
    → choices_from p k (codes ++ room ∷ []) ≡ choices_from p k codes
    ++ record { person = p; place = k + length codes; room = room } ∷ []
choices_from-push p k [] room = ap (λ n. record { person = p; place = n; room = room } ∷ []) (omega arith)
choices_from-push p k (code ∷ codes) room =
    ap (λ (l : List ChoiceRecord). record { person = p; place = k; room = code } ∷ l)
    (choices_from-push p (k + 1) codes room
    ∙ ap (λ n. choices_from p (k + 1) codes ++ record { person = p; place = n; room = room } ∷ []) (omega arith))

-- One more room at the end of a person's list adds one row.
module _ (p room : Text) where
  abbrev row_at : List Text → ChoiceRecord
  row_at codes = record { person = p; place = length codes; room = room }

  abbrev rows_in : List (Text × List Text) → List ChoiceRecord
  rows_in es = flat_map list_rows es

  put-more : (es : List (Text × List Text)) → T (is_sorted text_cmp es)
      → IsPermutation (row_at (unwrap_or (find text_cmp p es) []) ∷ rows_in es)
      (rows_in (put text_cmp p (unwrap_or (find text_cmp p es) [] ++ room ∷ []) es))
  put-more [] s = IsPermutation-refl _
  put-more (e ∷ es) s =
      elim (text_cmp p e.0) as (λ o. text_cmp p e.0 ≡ o
      → IsPermutation (row_at (unwrap_or (cond (is_eq o) (Some e.1) (find text_cmp p es)) []) ∷
      (list_rows e ++ rows_in es))
      (rows_in (by_order o ((p, unwrap_or (cond (is_eq o) (Some e.1) (find text_cmp p es)) [] ++ room ∷ []) ∷ e ∷ es)
      ((e.0, unwrap_or (cond (is_eq o) (Some e.1) (find text_cmp p es)) [] ++ room ∷ []) ∷ es)
      (e ∷ put text_cmp p (unwrap_or (cond (is_eq o) (Some e.1) (find text_cmp p es)) [] ++ room ∷ []) es)))) [
        | Less ↦ λ c.
            subst (λ o. IsPermutation (row_at (unwrap_or o []) ∷ (list_rows e ++ rows_in es))
            (rows_in ((p, unwrap_or o [] ++ room ∷ []) ∷ e ∷ es)))
            (sym (none_below text_cmp p es (below_less nat_list_cmp_total p e.0 es c (first_holds _ _ s))))
            (IsPermutation-refl _)
        | Equal ↦ λ c.
            let same : p ≡ e.0 = exact_texts p e.0 c in
            let row : ChoiceRecord = record { person = e.0; place = length e.1; room = room } in
            let there : list_rows e ++ row ∷ rows_in es ≡ choices_from e.0 0 (e.1 ++ room ∷ []) ++ rows_in es =
            sym (append_assoc (list_rows e) (row ∷ []) (rows_in es))
            ∙ ap (λ n. (list_rows e ++ record { person = e.0; place = n; room = room } ∷ []) ++ rows_in es)
            (omega arith)
            ∙ ap (λ l. l ++ rows_in es) (sym (choices_from-push e.0 0 e.1 room)) in
            subst (λ q. IsPermutation
            (record { person = q; place = length e.1; room = room } ∷ (list_rows e ++ rows_in es))
            (choices_from e.0 0 (e.1 ++ room ∷ []) ++ rows_in es)) (sym same)
            (subst (λ l. IsPermutation (row ∷ (list_rows e ++ rows_in es)) l) there
            (IsPermutation-sym _ _ (IsPermutation-middle (list_rows e) row (rows_in es))))
        | Greater ↦ λ c.
            let row = row_at (unwrap_or (find text_cmp p es) []) in
            IsPermutation-trans _ _ _ (IsPermutation-sym _ _ (IsPermutation-middle (list_rows e) row (rows_in es)))
            (IsPermutation-append_right (list_rows e) _ _ (put-more es (second_holds _ _ s)))
      ] refl

  rows-more : (lists : Lists) → IsPermutation (row_at (list_at lists p) ∷ choice_rows lists)
      (choice_rows (map.insert lists p (list_at lists p ++ room ∷ [])))
  rows-more lists =
      subst (λ es. IsPermutation (row_at (list_at lists p) ∷ choice_rows lists) (rows_in es))
      (sym (entries-insert nat_list_cmp_total lists p (list_at lists p ++ room ∷ [])))
      (subst (λ o. IsPermutation (row_at (unwrap_or o []) ∷ choice_rows lists)
      (rows_in (put text_cmp p (unwrap_or o [] ++ room ∷ []) (map.entries lists))))
      (sym (get-entries lists p)) (put-more (map.entries lists) (entries_sorted lists)))

pub gathered-has : (rows : List ChoiceRecord) (lists final : Lists) → gathered lists rows ≡ Some final
    → IsPermutation (choice_rows lists ++ rows) (choice_rows final)
gathered-has [] lists final e =
    subst (λ l. IsPermutation (choice_rows lists ++ []) (choice_rows l)) (same_Some lists final e)
    (subst (λ l. IsPermutation l (choice_rows lists)) (sym (append-nil (choice_rows lists)))
    (IsPermutation-refl (choice_rows lists)))
gathered-has (row ∷ rows) lists final e =
    let now : Lists = map.insert lists row.person (list_at lists row.person ++ row.room ∷ []) in
    elim (eqb row.place (length (list_at lists row.person))) as
    (λ b. eqb row.place (length (list_at lists row.person)) ≡ b → cond b (gathered now rows) None ≡ Some final
    → IsPermutation (choice_rows lists ++ row ∷ rows) (choice_rows final)) [
      | true ↦ λ t m.
          let place : length (list_at lists row.person) ≡ row.place =
          placed row.place (length (list_at lists row.person)) t in
          let more : IsPermutation (row ∷ choice_rows lists) (choice_rows now) =
          subst (λ n. IsPermutation (record { person = row.person; place = n; room = row.room } ∷ choice_rows lists)
          (choice_rows now)) place (rows-more row.person row.room lists) in
          IsPermutation-trans _ _ _ (IsPermutation-middle (choice_rows lists) row rows)
          (IsPermutation-trans _ _ _ (IsPermutation-append_left rows _ _ more) (gathered-has rows now final m))
      | false ↦ λ t m. absurd (cc)
    ] refl e
  where
    placed : (a b : ℕ) → eqb a b ≡ true → b ≡ a
    placed a b t = elim (eqb_tells a b) as (λ _. b ≡ a) [
      | inl same ↦ sym same.1
      | inr differs ↦ let apart = differs.0 in absurd (cc)
    ]

abbrev NoneEmpty : Lists → Type 0
NoneEmpty lists = (p : Text) → map.get lists p ≡ Some [] → ⊥

filled : (codes : List Text) (room : Text) → codes ++ room ∷ [] ≡ [] → ⊥
filled [] room e = cc
filled (code ∷ codes) room e = cc

more_filled : (lists : Lists) (p room : Text) (codes : List Text) → NoneEmpty lists
    → NoneEmpty (map.insert lists p (codes ++ room ∷ []))
more_filled lists p room codes h q e =
    elim (text_cases q p) as (λ _. ⊥) [
      | inl same ↦
          let now : Some (codes ++ room ∷ []) ≡ Some [] =
          sym (ap (λ k. map.get (map.insert lists p (codes ++ room ∷ [])) k) same
          ∙ get-put_same lists p (codes ++ room ∷ [])) ∙ e in
          filled codes room (ap (λ (o : Option (List Text)). unwrap_or o []) now)
      | inr other ↦ h q (sym (get-put_other lists p (codes ++ room ∷ []) q other) ∙ e)
    ]

pub gathered-filled : (rows : List ChoiceRecord) (lists final : Lists) → gathered lists rows ≡ Some final
    → NoneEmpty lists → NoneEmpty final
gathered-filled [] lists final e h = subst (λ m. NoneEmpty m) (same_Some lists final e) h
gathered-filled (row ∷ rows) lists final e h =
    let now : Lists = map.insert lists row.person (list_at lists row.person ++ row.room ∷ []) in
    elim (eqb row.place (length (list_at lists row.person))) as
    (λ b. cond b (gathered now rows) None ≡ Some final → NoneEmpty final) [
      | true ↦ λ m. gathered-filled rows now final m
          (more_filled lists row.person row.room (list_at lists row.person) h)
      | false ↦ λ m. absurd (cc)
    ] e

-- Gathering no rows gives no lists.
pub gathered-from : (rows : List ChoiceRecord) (lists : Lists) → gathered map.empty rows ≡ Some lists
    → 0 < length (map.entries lists) → 0 < length rows
gathered-from [] lists e some =
    let none : map.entries lists ≡ [] = ap (λ m. map.entries m) (sym (same_Some map.empty lists e))
    ∙ entries-empty nat_list_cmp_total in
    subst (λ es. 0 < length es) none some
gathered-from (row ∷ rows) lists e some = omega arith

pub fewer_moved : (rows moved : List ChoiceRecord) → IsPermutation rows moved → 0 < length moved → 0 < length rows
fewer_moved rows moved same some = subst (λ n. 0 < n) (length_permutation rows moved same) some

-- ---- lists of choices

chosen-is : (es : List (Text × List Text)) (made final : Lists) → chosen_from made es ≡ Some final
    → (final ≡ with_all made es) × AllByRecursion (λ e. is_choices e.1 ≡ true) es
chosen-is [] made final e = (sym (same_Some made final e), tt)
chosen-is (f ∷ es) made final e =
    elim (is_choices f.1) as
    (λ b. is_choices f.1 ≡ b → cond b (chosen_from (map.insert made f.0 f.1) es) None ≡ Some final
    → (final ≡ with_all (map.insert made f.0 f.1) es) × AllByRecursion (λ g. is_choices g.1 ≡ true) (f ∷ es)) [
      | true ↦ λ t m. let rest = chosen-is es (map.insert made f.0 f.1) final m in (rest.0, (t, rest.1))
      | false ↦ λ t m. absurd (cc)
    ] refl e

chosen-if_choices : (es : List (Text × List Text)) (made : Lists) → AllByRecursion (λ e. is_choices e.1 ≡ true) es
    → chosen_from made es ≡ Some (with_all made es)
chosen-if_choices [] made h = refl
chosen-if_choices (f ∷ es) made h = ap (λ b. cond b (chosen_from (map.insert made f.0 f.1) es) None) h.0
    ∙ chosen-if_choices es (map.insert made f.0 f.1) h.1

-- ---- both directions

module _ (rows sorted : List ChoiceRecord) (moved : IsPermutation rows sorted) (ascends : IsSorted row_cmp sorted) where
  these : (lists : Lists) → AreStorableLists lists → IsPermutation (choice_rows lists) rows
      → gathered map.empty sorted ≡ Some lists
  these lists sound same =
      ap (gathered map.empty) (sorted_rows lists sorted (IsPermutation-trans _ _ _ same moved) ascends)
      ∙ gathered-rows lists sound

  pub reads-none : gathered map.empty sorted ≡ None → Reads AreStorableLists choice_rows rows None
  reads-none none = record {
    returned = tt;
    only = λ lists sound same. let some = these lists sound same in absurd (cc);
  }

  no_rows : choice_rows map.empty ≡ []
  no_rows = ap (λ es. flat_map list_rows es) (entries-empty nat_list_cmp_total)

  pub reads-some : (lists : Lists) → gathered map.empty sorted ≡ Some lists → Reads AreStorableLists choice_rows rows
      (chosen_from map.empty (map.entries lists))
  reads-some lists some = record {
    returned =
        elim (chosen_from map.empty (map.entries lists)) as (λ o. chosen_from map.empty (map.entries lists) ≡ o
        → IfSome o (λ m. AreStorableLists m × IsPermutation (choice_rows m) rows)) [
          | None ↦ λ _. tt
          | Some m ↦ λ e.
              let tells = chosen-is (map.entries lists) map.empty m e in
              let same : lists ≡ m = sym (tells.0 ∙ with_all-entries lists) in
              let has : IsPermutation sorted (choice_rows lists) =
              subst (λ l. IsPermutation (l ++ sorted) (choice_rows lists)) no_rows
              (gathered-has sorted map.empty lists some) in
              subst (λ l. AreStorableLists l × IsPermutation (choice_rows l) rows) same (
                record {
                  none_empty =
                      gathered-filled sorted map.empty lists some
                      (λ p f. let none = get-empty {X = List Text} text_cmp p in cc);
                  chosen = at_keys nat_list_cmp_total exact_texts (λ p codes. IsChoices codes) lists
                      (each_weaker (λ e. is_choices e.1 ≡ true) (λ e. IsChoices e.1) (λ e t. choices_at e.1 t)
                      (map.entries lists) tells.1);
                },
                IsPermutation-sym _ _ (IsPermutation-trans _ _ _ moved has),
              )
        ] refl;
    only = λ m sound same.
        let is : lists ≡ m = same_Some lists m (sym some ∙ these m sound same) in
        ap (λ l. chosen_from map.empty (map.entries l)) is
        ∙ chosen-if_choices (map.entries m) map.empty
        (at_entries nat_list_cmp_total exact_texts (λ p codes. is_choices codes ≡ true) m
        (λ p codes f. at_choices codes (sound.chosen p codes f)))
        ∙ ap (λ l. Some l) (with_all-entries m);
  }
