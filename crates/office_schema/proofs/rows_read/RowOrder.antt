-- The rows of preference lists are in ascending order.
use Rattle.std.proofs.Common.{◌≡◌, ℕ, suc, zero, ◌+◌, ◌<◌, List, [], ◌∷◌, cond, refl, ap, ◌∙◌, T, arith, add-one, eqb}
use Rattle.std.proofs.Common.{IsPermutation, IsSorted}
use Rattle.std.specs.declared.cmp.Ordering.TheVariants.{Less, Equal, Greater}
use Rattle.std.specs.Ordering.{is_lt, nat_cmp, ordering_reverse, ordering_then}
use Rattle.std.specs.Cmp.{IsTotalOrder, tied_itself}
use Rattle.std.specs.Cmp.Lexicographic.{nat_list_cmp_total}
use Rattle.std.proofs.lemmas.Bool.{lt-ltb}
use Rattle.std.proofs.lemmas.Cmp.{then_total, on_total, nat_cmp_total}
use Rattle.std.specs.List.{AllByRecursion, flat_map}
use Rattle.std.specs.FinMap as map
use Rattle.std.specs.FinMap.{entries_sorted}
use Rattle.std.specs.FinMap.Entries.{below_all, is_sorted}
use Rattle.sqlite_trees.specs.Tree.{IsAscending}
use Rattle.sqlite_keyed.proofs.ListLemmas.{all_weaker, all-append, ascending-append}
use Rattle.sqlite_keyed.proofs.SortLemmas.{sorted_unique}
use Rattle.room_types.specs.Texts.{Text, TextMap, text_cmp}
use Rattle.room_types.proofs.maps.TextMaps.{first_holds, second_holds, less_from_test}
use Rattle.office_schema.specs.rows.Inner.Gathered.{row_cmp}
use Rattle.office_schema.specs.rows.Rows.{choices_from, list_rows, choice_rows}
use Rattle.office_schema.specs.declared.rows.records.ChoiceRecord.{ChoiceRecord}

pub row_total : IsTotalOrder row_cmp
row_total =
    then_total (on_total (λ r. r.person) nat_list_cmp_total)
    (then_total (on_total (λ r. r.place) nat_cmp_total) (on_total (λ r. r.room) nat_list_cmp_total))

abbrev Before : ChoiceRecord → ChoiceRecord → Type 0
Before a b = row_cmp a b ≡ Less

before_place : (p code other : Text) (j k : ℕ) → j < k → Before (record { person = p; place = j; room = code })
    (record { person = p; place = k; room = other })
before_place p code other j k h =
    ap (λ o. ordering_then o (ordering_then (nat_cmp j k) (text_cmp code other))) (tied_itself nat_list_cmp_total p)
    ∙ ap (λ b. ordering_then (cond b Less (cond (eqb j k) Equal Greater)) (text_cmp code other)) (lt-ltb j k h)

before_person : (a b : ChoiceRecord) → text_cmp a.person b.person ≡ Less → Before a b
before_person a b e = ap (λ o. ordering_then o (ordering_then (nat_cmp a.place b.place) (text_cmp a.room b.room))) e

later_places : (p code : Text) (j k : ℕ) (codes : List Text) → j < k
    → AllByRecursion (Before (record { person = p; place = j; room = code })) (choices_from p k codes)
later_places p code j k [] h = tt
later_places p code j k (other ∷ codes) h =
    (before_place p code other j k h, later_places p code j (k + 1) codes (omega (arith, h)))

list_up : (p : Text) (k : ℕ) (codes : List Text) → IsAscending Before (choices_from p k codes)
list_up p k [] = tt
list_up p k (code ∷ codes) = (later_places p code k (k + 1) codes (omega arith), list_up p (k + 1) codes)

of_person : (p : Text) (k : ℕ) (codes : List Text) → AllByRecursion (λ r. r.person ≡ p) (choices_from p k codes)
of_person p k [] = tt
of_person p k (code ∷ codes) = (refl, of_person p (k + 1) codes)

later_people : (x : Text) (es : List (Text × List Text)) → T (below_all text_cmp x es)
    → AllByRecursion (λ r. text_cmp x r.person ≡ Less) (flat_map list_rows es)
later_people x [] b = tt
later_people x (e ∷ es) b =
    all-append (λ (r : ChoiceRecord). text_cmp x r.person ≡ Less) (list_rows e) (flat_map list_rows es)
    (all_weaker (λ (r : ChoiceRecord). r.person ≡ e.0) (λ (r : ChoiceRecord). text_cmp x r.person ≡ Less)
    (λ r same. ap (text_cmp x) same ∙ less_from_test _ (first_holds _ _ b)) (list_rows e) (of_person e.0 0 e.1))
    (later_people x es (second_holds _ _ b))

rows_up : (es : List (Text × List Text)) → T (is_sorted text_cmp es) → IsAscending Before (flat_map list_rows es)
rows_up [] s = tt
rows_up (e ∷ es) s =
    ascending-append Before (list_rows e) (flat_map list_rows es) (list_up e.0 0 e.1) (rows_up es (second_holds _ _ s))
    (all_weaker (λ (r : ChoiceRecord). r.person ≡ e.0) (λ r. AllByRecursion (Before r) (flat_map list_rows es))
    (λ r same. all_weaker (λ (t : ChoiceRecord). text_cmp e.0 t.person ≡ Less) (Before r)
    (λ t h. before_person r t (ap (λ p. text_cmp p t.person) same ∙ h)) (flat_map list_rows es)
    (later_people e.0 es (first_holds _ _ s)))
    (list_rows e) (of_person e.0 0 e.1))

-- The sorted rows of some lists are `choice_rows` of the lists.
pub sorted_rows : (lists : TextMap (List Text)) (rows : List ChoiceRecord) → IsPermutation (choice_rows lists) rows
    → IsSorted row_cmp rows → rows ≡ choice_rows lists
sorted_rows lists rows same sorted =
    sorted_unique row_cmp row_total (choice_rows lists) rows
    (rows_up (map.entries lists) (entries_sorted lists)) same sorted

up_sorted : (rows : List ChoiceRecord) → IsAscending Before rows → IsSorted row_cmp rows
up_sorted [] up k d low high = absurd (omega (arith, high))
up_sorted (r ∷ []) up k d low high = absurd (omega (arith, high))
up_sorted (r ∷ t ∷ rows) up zero d low high = ap is_lt (row_total.antisymm t r ∙ ap ordering_reverse up.0.0)
up_sorted (r ∷ t ∷ rows) up (suc k) d low high =
    rw add-one (rw add-one at (up_sorted (t ∷ rows) up.1 k d (omega arith) (omega arith)))

pub rows_sorted : (lists : TextMap (List Text)) → IsSorted row_cmp (choice_rows lists)
rows_sorted lists = up_sorted (choice_rows lists) (rows_up (map.entries lists) (entries_sorted lists))
