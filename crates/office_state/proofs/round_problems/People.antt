-- The participants: each person once, also in the drawn order.
use Rattle.std.proofs.Common.{◌≡◌, ◌≢◌, ℕ, ◌+◌, Bool, true, false, cond, not, ◌&&◌, ◌||◌, List, []}
use Rattle.std.proofs.Common.{◌∷◌, length, get_or, Option, Some, None, map, refl, sym, ap, ◌∙◌}
use Rattle.std.proofs.Common.{subst, T}
use Rattle.std.specs.declared.cmp.Ordering.TheVariants.{Less}
use Rattle.std.specs.Ordering.{eq_by_cmp}
use Rattle.std.specs.Cmp.{tied_itself}
use Rattle.std.specs.Cmp.Lexicographic.{nat_list_cmp_total, nat_list_eq_equiv, bytes_decides}
use Rattle.std.specs.List.{AllPairs, AllByRecursion, filter, list_any}
use Rattle.std.specs.List.Sorted.{IsPermutation, IsStrictlySortedBy}
use Rattle.std.specs.Option.{is_some, option_map, unwrap_or}
use Rattle.std.specs.FinMap as maps
use Rattle.std.specs.FinMap.{entries_sorted, get-empty, get-entries, find, is_sorted}
use Rattle.std.specs.FinMap.Entries.{below_all, where_key, find-where_key, is_some-find}
use Rattle.std.proofs.lemmas.List.{length-map}
use Rattle.std.proofs.lemmas.List.Sorted.{IsPermutation-map, length_permutation}
use Rattle.std.proofs.lemmas.List.Sorted.{list_any-IsPermutation}
use Rattle.std.proofs.lemmas.Map.Keys.{Less-from_sorted, IsDistinct-IsPermutation}
use Rattle.std.proofs.lemmas.Map.Made.{AllPairs-from_IsDistinct, IsDistinct-from_AllPairs}
use Rattle.room_types.specs.Texts.{Text, text_cmp, text_eq}
use Rattle.room_types.proofs.maps.TextMaps.{exact_texts, first_holds, second_holds, less_from_test}
use Rattle.room_types.proofs.options.Options.{some_of}
use Rattle.draw_order.specs.Draw.{Ticket, IsDrawnOrder, drawn_order, ungraded}
use Rattle.draw_order.proofs.draws.Orders.{goes_by_word_alone, drawn_orders_agree}
use Rattle.office_state.specs.Round.Settlement.{is_settled}
use Rattle.office_state.specs.Office.{knows_person, recorded_grade, has_withdrawn, participants, people_not_withdrawn}
use Rattle.office_state.specs.Office.{sits_out}
use Rattle.office_state.specs.Round.{is_participant, word_of, tickets_of, round_people, round_rooms}
use Rattle.office_state.specs.Round.{is_kept_back, number_in}
use Rattle.office_state.specs.Round.Laws.{people_by_word, plain_tickets_of}
use Rattle.office_state.specs.declared.office.Office.{Office}
use Rattle.office_state.proofs.round_problems.Names.{text_eq-tied, position-cons}

module _ {X : Type 0} (test : Text × X → Bool) where
  below_kept : (x : Text) (es : List (Text × X)) → T (below_all text_cmp x es)
      → AllByRecursion (λ y. text_cmp x y ≡ Less) (map (λ e. e.0) (filter test es))
  below_kept x [] below = tt
  below_kept x (e ∷ es) below =
      elim (test e) as (λ b. AllByRecursion (λ y. text_cmp x y ≡ Less)
      (map (λ e. e.0) (cond b (e ∷ filter test es) (filter test es)))) [
        | true ↦ (
          less_from_test (text_cmp x e.0) (first_holds _ _ below),
          below_kept x es
              (second_holds _ _ below),
        )
        | false ↦ below_kept x es (second_holds _ _ below)
      ]

  -- the keys of entries ascend, and so do those of some of them
  keys_ascend : (es : List (Text × X)) → T (is_sorted text_cmp es)
      → IsStrictlySortedBy text_cmp (map (λ e. e.0) (filter test es))
  unfolding IsStrictlySortedBy
  keys_ascend [] sorted = tt
  keys_ascend (e ∷ es) sorted =
      elim (test e) as (λ b. IsStrictlySortedBy text_cmp
      (map (λ e. e.0) (cond b (e ∷ filter test es) (filter test es)))) [
        | true ↦ (
          below_kept e.0 es (first_holds _ _ sorted),
          keys_ascend es
              (second_holds _ _ sorted),
        )
        | false ↦ keys_ascend es (second_holds _ _ sorted)
      ]

pub participants_ascend : (office : Office) → IsStrictlySortedBy text_cmp (participants office)
participants_ascend office =
    keys_ascend (λ e. not (sits_out office e.0)) (maps.entries office.people)
    (entries_sorted office.people)

-- those who have not withdrawn ascend
not_withdrawn_ascend : (office : Office) → IsStrictlySortedBy text_cmp (people_not_withdrawn office)
not_withdrawn_ascend office =
    keys_ascend (λ e. not (has_withdrawn office e.0)) (maps.entries office.people)
    (entries_sorted office.people)

rooms_ascend : (office : Office) → IsStrictlySortedBy text_cmp (round_rooms office)
unfolding round_rooms
rooms_ascend office =
    keys_ascend (λ e. not e.1 && not (is_kept_back office e.0)) (maps.entries office.rooms)
    (entries_sorted office.rooms)

less_differs : (a b : Text) → text_cmp a b ≡ Less → a ≢ b
less_differs a b less same =
    cc (sym less ∙ ap (λ t. text_cmp t b) same ∙ tied_itself nat_list_cmp_total b)

-- texts that ascend differ
ascending_differ : (names : List Text) → IsStrictlySortedBy text_cmp names → AllPairs ◌≢◌ names
ascending_differ names up =
    λ i j d before within. less_differs (get_or names i d) (get_or names j d)
    (Less-from_sorted text_cmp names i j d up before within)

pub participants_differ : (office : Office) → AllPairs ◌≢◌ (participants office)
participants_differ office = ascending_differ (participants office) (participants_ascend office)

pub not_withdrawn_differ : (office : Office) → AllPairs ◌≢◌ (people_not_withdrawn office)
not_withdrawn_differ office = ascending_differ (people_not_withdrawn office) (not_withdrawn_ascend office)

pub rooms_differ : (office : Office) → AllPairs ◌≢◌ (round_rooms office)
rooms_differ office = ascending_differ (round_rooms office) (rooms_ascend office)

identifiers_of_tickets : (grade word : Text → ℕ) (people : List Text)
    → map (λ (ticket : Ticket). ticket.0) (map (λ p. (p, grade p, word p)) people) ≡ people
identifiers_of_tickets grade word [] = refl
identifiers_of_tickets grade word (p ∷ people) =
    ap (λ (others : List Text). p ∷ others) (identifiers_of_tickets grade word people)

-- the drawn order has the participants, in another order
pub people_are_participants : (office : Office)
    → IsPermutation (participants office) (round_people office)
unfolding round_people
people_are_participants office =
    let drawn : IsDrawnOrder (tickets_of office) (round_people office) =
    (drawn_orders_agree (tickets_of office)).some in
    let moved : IsPermutation (map (λ (ticket : Ticket). ticket.0) (tickets_of office))
    (map (λ (ticket : Ticket). ticket.0) drawn.ascending) =
    IsPermutation-map (λ (ticket : Ticket). ticket.0)
    (tickets_of office) drawn.ascending drawn.arranged.same_items in
    subst (λ names. IsPermutation names (round_people office))
    (identifiers_of_tickets (recorded_grade office) (word_of office) (participants office))
    (subst (λ names. IsPermutation (map (λ (ticket : Ticket). ticket.0) (tickets_of office)) names)
    (sym drawn.identifiers) moved)

-- the drawn order has as many people as there are tickets
pub as_many_as_tickets : (office : Office) → length (round_people office) ≡ length (tickets_of office)
as_many_as_tickets office =
    length_permutation (participants office) (round_people office) (people_are_participants office)
    ∙ sym (length-map (participants office) (λ person. (person, recorded_grade office person, word_of office person)))

pub people_differ : (office : Office) → AllPairs ◌≢◌ (round_people office)
people_differ office =
    AllPairs-from_IsDistinct {eq = text_eq} bytes_decides (round_people office)
    (IsDistinct-IsPermutation text_eq (nat_list_eq_equiv.symm) (participants office)
    (round_people office) (people_are_participants office)
    (IsDistinct-from_AllPairs {eq = text_eq} bytes_decides (participants office)
    (participants_differ office)))

both_known : {X : Type 0} (a : Bool) (o : Option X) → is_some (cond a o None) ≡ (is_some o && a)
both_known true None = refl
both_known true (Some x) = refl
both_known false None = refl
both_known false (Some x) = refl

-- the people among those known who pass a test
passing_hold : (office : Office) (stays : Text → Bool) (person : Text)
    → list_any (eq_by_cmp text_cmp person) (map (λ e. e.0) (filter (λ e. stays e.0) (maps.entries office.people)))
    ≡ (knows_person office person && stays person)
passing_hold office stays person =
    sym (is_some-find text_cmp person (where_key text_cmp stays (maps.entries office.people)))
    ∙ ap is_some (find-where_key text_cmp stays person
    (λ x tied. ap stays (sym (exact_texts person x tied))) (maps.entries office.people))
    ∙ both_known (stays person) (find text_cmp person (maps.entries office.people))
    ∙ ap (λ o. is_some o && stays person) (sym (get-entries office.people person))

pub participants_hold : (office : Office) (person : Text)
    → list_any (eq_by_cmp text_cmp person) (participants office) ≡ is_participant office person
participants_hold office person =
    passing_hold office (λ p. not (sits_out office p)) person

pub not_withdrawn_hold : (office : Office) (person : Text)
    → list_any (eq_by_cmp text_cmp person) (people_not_withdrawn office) ≡ is_settled office person
not_withdrawn_hold office person =
    passing_hold office (λ p. not (has_withdrawn office p)) person

pub people_hold : (office : Office) (person : Text)
    → list_any (eq_by_cmp text_cmp person) (round_people office) ≡ is_participant office person
people_hold office person =
    sym (list_any-IsPermutation (eq_by_cmp text_cmp person) (participants office)
    (round_people office) (people_are_participants office)) ∙ participants_hold office person

-- a name has a number if and only if it is one of the names
pub is_some-number_in : (names : List Text) (q : Text)
    → is_some (number_in names q) ≡ list_any (eq_by_cmp text_cmp q) names
is_some-number_in [] q = refl
is_some-number_in (name ∷ names) q =
    ap is_some (position-cons (λ other. text_eq other q) name names)
    ∙ ap (λ b. is_some (cond b (Some 0) (option_map (λ n. 1 + n) (number_in names q))))
    (text_eq-tied name q)
    ∙ elim (eq_by_cmp text_cmp q name) as
    (λ b. is_some (cond b (Some 0) (option_map (λ n. 1 + n) (number_in names q)))
    ≡ (b || list_any (eq_by_cmp text_cmp q) names)) [
      | true ↦ refl
      | false ↦ elim (number_in names q) as
          (λ o. is_some (option_map (λ n. 1 + n) o) ≡ is_some o) [ None ↦ refl | Some n ↦ refl ]
          ∙ is_some-number_in names q
    ]

-- a person takes part if and only if the person has a number
pub participant_number : (office : Office) (person : Text)
    → is_some (number_in (round_people office) person) ≡ is_participant office person
participant_number office person =
    is_some-number_in (round_people office) person ∙ people_hold office person

pub number_of_participant : (office : Office) (person : Text) → is_participant office person ≡ true
    → (n : ℕ) × (number_in (round_people office) person ≡ Some n)
number_of_participant office person part =
    some_of (number_in (round_people office) person) (participant_number office person ∙ part)

-- ---- people without grades

no_grade : (office : Office) → office.grades ≡ maps.empty → (person : Text) → recorded_grade office person ≡ 0
no_grade office none person =
    ap (λ grades. unwrap_or (maps.get grades person) 0) none ∙ ap (λ o. unwrap_or o 0) (get-empty text_cmp person)

ungraded_tickets : (grade word : Text → ℕ) → ((p : Text) → grade p ≡ 0) → (people : List Text)
    → map (λ p. (p, grade p, word p)) people ≡ map ungraded (map (λ p. (p, word p)) people)
ungraded_tickets grade word none [] = refl
ungraded_tickets grade word none (p ∷ people) =
    λ i. (p, none p i, word p) ∷ ungraded_tickets grade word none people i

-- the participants of a round without grades are in order of word and identifier alone
pub ungraded_by_word : (office : Office) → office.grades ≡ maps.empty → round_people office ≡ people_by_word office
unfolding round_people
ungraded_by_word office none =
    ap drawn_order (ungraded_tickets (recorded_grade office) (word_of office) (no_grade office none)
    (participants office))
    ∙ goes_by_word_alone (plain_tickets_of office)
