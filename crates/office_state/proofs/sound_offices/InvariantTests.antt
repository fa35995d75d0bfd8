-- Each invariant, by the tests that decide it.
use Rattle.std.proofs.Common.{◌≡◌, ℕ, Bool, true, false, not, ◌||◌, ◌&&◌, ◌≤◌, ◌<◌, List, [], ◌∷◌, length, Option, Some}
use Rattle.std.proofs.Common.{None, Result, Ok, Err, OnErr, refl, ap, ◌∙◌, sym, subst, inl, inr}
use Rattle.std.specs.Prelude.{nat_le, eqb}
use Rattle.std.specs.Bool.{Decides}
use Rattle.std.specs.Cmp.Derive.{both_true}
use Rattle.std.specs.List.{All, list_all}
use Rattle.std.specs.Option.{is_some, option_and_then}
use Rattle.std.specs.Cmp.{nat_cmp_total}
use Rattle.std.specs.Cmp.Lexicographic.{nat_list_cmp_total}
use Rattle.std.specs.FinMap as map
use Rattle.std.specs.FinMap.{get-empty, len-empty, len-entries, empty_of_len, same_map, nat_cmp-IsAntisymmetric}
use Rattle.std.proofs.lemmas.Bool.{leb-true, le-leb, eq-eqb, and_parts, both_ways}
use Rattle.std.proofs.lemmas.Bool.Decides.{eqb_tells}
use Rattle.std.proofs.lemmas.List.Elements.{recursion_from_All, All-from_recursion}
use Rattle.room_types.specs.Choices.{IsChoices}
use Rattle.room_types.specs.declared.choices.TheConstants.{CHOICE_LIMIT}
use Rattle.room_types.specs.declared.moves.Wave.{Wave}
use Rattle.room_types.specs.declared.moves.Wave.TheVariants.{Swap, Nth}
use Rattle.room_types.specs.Repeats.{first_repeated}
use Rattle.room_types.specs.Texts.{Text, TextMap, text_cmp}
use Rattle.room_types.proofs.maps.TextMaps.{exact_texts}
use Rattle.office_state.specs.Office.Invariants.{HomesOpen}
use Rattle.office_state.specs.Office.Moves.{moves_of}
use Rattle.office_state.specs.Office.{is_over, is_same_text}
use Rattle.office_state.specs.Empty.{is_empty}
use Rattle.office_state.specs.Inner.Soundness.{is_home_open, is_unshut, is_choices, is_recorded_list, is_given}
use Rattle.office_state.specs.Inner.Soundness.{is_recorded_move, is_recorded_round, is_short, is_wave_0}
use Rattle.office_state.specs.Office.Limits.{byte_limit, people_limit, room_limit}
use Rattle.office_state.specs.Soundness.{ComparesKeys}
use Rattle.office_lists.specs.Records.{record_limit}
use Rattle.office_state.specs.declared.office.stored_import.StoredImport.{StoredImport}
use Rattle.office_state.specs.declared.office.moves.Moved.{Moved}
use Rattle.office_state.specs.declared.office.moves.RoundMoves.{RoundMoves}
use Rattle.office_state.specs.declared.office.Assigned.{Assigned}
use Rattle.office_state.specs.declared.office.Office.{Office}
use Rattle.office_state.specs.declared.office.person.Person.{Person}
use Rattle.room_types.proofs.maps.Entries.{all_keys, keys_all, all_true, true_all}
use Rattle.room_types.proofs.options.Options.{some_of}
use Rattle.office_state.proofs.offices.Truths.{then_some, text_eq-same}
use Rattle.office_state.proofs.offices.Moves.{kept_moves}
use Rattle.office_state.proofs.offices.People.{same_optional}

pub never : {P : Type 0} → (P → ⊥) → Decides false P
never f = (λ e. absurd (cc), λ p. absurd (f p))

pub as_well : {P Q : Type 0} (b : Bool) → (P → Q) → (Q → P) → Decides b P → Decides b Q
as_well b f g d = (λ e. f (d.0 e), λ q. d.1 (g q))

-- what always holds also holds if a call fails
pub on_err : {T E Q : Type 0} (r : Result T E) → Q → OnErr r Q
on_err (Ok x) q = tt
on_err (Err y) q = q

-- a map has no entries if it is the empty one
pub empty-decides : {X : Type 0} (m : TextMap X) → Decides (eqb (map.len m) 0) (m ≡ map.empty)
empty-decides {X} m = (
  λ e. elim (eqb_tells (map.len m) 0) as (λ _. m ≡ map.empty) [
    | inl same ↦ empty_of_len m same.1
    | inr differs ↦ absurd (both_ways _ differs.0 e)
  ],
  λ e. eq-eqb (map.len m) 0 (ap map.len e ∙ len-empty text_cmp X),
)

-- each key of one map is known
module _ {X Y : Type 0} (m : TextMap X) (n : TextMap Y) where
  pub keys_known-decides : Decides (list_all (λ (e : Text × X). map.contains_key n e.0) (map.entries m))
      ((p : Text) → map.contains_key m p ≡ true → map.contains_key n p ≡ true)
  keys_known-decides = (
    λ e p h. let found = some_of (map.get m p) h in
        all_keys nat_list_cmp_total exact_texts (λ k v. map.contains_key n k) m e p found.0 found.1,
    λ h. keys_all nat_list_cmp_total exact_texts (λ k v. map.contains_key n k) m (λ k v f. h k (ap is_some f)),
  )

-- rooms and people
module _ (rooms : TextMap Bool) (people : TextMap Person) where
  unshut_at : (o : Option Bool) → is_unshut o ≡ true → o ≡ Some false
  unshut_at None e = cc
  unshut_at (Some true) e = cc
  unshut_at (Some false) e = refl

  abbrev open_at : Option Text → Bool
  open_at home = elim home as (λ _. Bool) [ None ↦ true | Some room ↦ is_unshut (map.get rooms room) ]

  pub homes_open-decides : Decides (list_all (λ (e : Text × Person). is_home_open rooms e.1) (map.entries people))
      (HomesOpen rooms people)
  homes_open-decides = (
    λ e p room h.
        let v = then_some (λ (p : Person). p.home) (map.get people p) room h in
        let test : is_home_open rooms v.0 ≡ true =
        all_keys nat_list_cmp_total exact_texts (λ k v. is_home_open rooms v) people e p v.0 v.1 in
        unshut_at (map.get rooms room) (ap open_at (sym v.2) ∙ test),
    λ h. keys_all nat_list_cmp_total exact_texts (λ k v. is_home_open rooms v) people (λ k v f.
        elim v.home as (λ o. v.home ≡ o → open_at o ≡ true) [
          | None ↦ λ _. refl
          | Some room ↦ λ has. ap is_unshut (h k room (ap (option_and_then (λ (p : Person). p.home)) f ∙ has))
        ] refl),
  )

  -- once these tests pass, keys and homes are compared
  pub noted : map.len rooms ≤ room_limit → map.len people ≤ people_limit
      → list_all (λ (e : Text × Person). is_home_open rooms e.1) (map.entries people) ≡ true
      → 0 < length (map.entries people) → ComparesKeys rooms people
  noted few_rooms few_people unshut somebody = record {
    somebody = subst (λ n. 0 < n) (sym (len-entries people)) somebody;
    few_rooms = few_rooms;
    few_people = few_people;
    homes_open = homes_open-decides.0 unshut;
  }

-- lists
filled_at : (codes : List Text) → (codes ≡ [] → ⊥) → not (is_empty codes) ≡ true
filled_at [] f = absurd (f refl)
filled_at (code ∷ codes) f = refl

none_at : {X : Type 0} (o : Option X) → not (is_some o) ≡ true → o ≡ None
none_at None e = refl
none_at (Some x) e = cc

pub choices_at : (codes : List Text) → is_choices codes ≡ true → IsChoices codes
choices_at codes e =
    let parts = and_parts (nat_le (length codes) CHOICE_LIMIT) _ e in
    (leb-true (length codes) CHOICE_LIMIT parts.0, none_at (first_repeated [] codes) parts.1)

pub at_choices : (codes : List Text) → IsChoices codes → is_choices codes ≡ true
at_choices codes h = both_true (le-leb (length codes) CHOICE_LIMIT h.0) (ap (λ o. not (is_some o)) h.1)

module _ (rooms : TextMap Bool) (choices : TextMap (List Text)) where
  pub record AreListsKept : Type 0 where
    pub listed : (p : Text) (codes : List Text) → map.get choices p ≡ Some codes
        → All (λ code. map.contains_key rooms code ≡ true) codes
    pub none_empty : (p : Text) → map.get choices p ≡ Some [] → ⊥
    pub chosen : (p : Text) (codes : List Text) → map.get choices p ≡ Some codes → IsChoices codes

  abbrev known : Text → Bool
  known code = map.contains_key rooms code

  pub lists-decides : Decides
      (list_all (λ (e : Text × List Text). is_recorded_list rooms e.1) (map.entries choices)) AreListsKept
  lists-decides = (
    λ e.
        let test : (p : Text) (codes : List Text) → map.get choices p ≡ Some codes
        → is_recorded_list rooms codes ≡ true =
        all_keys nat_list_cmp_total exact_texts (λ k codes. is_recorded_list rooms codes) choices e in
        record {
          listed = λ p codes f.
              All-from_recursion (λ code. known code ≡ true) codes
              (all_true known codes
              (and_parts (not (is_empty codes)) _ (and_parts (is_choices codes) _ (test p codes f)).1).1);
          none_empty = λ p f. let filled : false ≡ true =
              (and_parts (not (is_empty {X = Text} [])) (list_all known [])
              (and_parts (is_choices []) (not (is_empty {X = Text} []) && list_all known []) (test p [] f)).1).0 in cc;
          chosen = λ p codes f. choices_at codes (and_parts (is_choices codes) _ (test p codes f)).0;
        },
    λ h. keys_all nat_list_cmp_total exact_texts (λ k codes. is_recorded_list rooms codes) choices (λ k codes f.
        both_true (at_choices codes (h.chosen k codes f))
        (both_true (filled_at codes (λ none. h.none_empty k (f ∙ ap (λ l. Some l) none)))
        (true_all known codes (recursion_from_All (λ code. known code ≡ true) codes (h.listed k codes f))))),
  )

-- words
module _ (people : TextMap Person) (withdrawn going : TextMap (Unit {0})) (words : TextMap ℕ) where
  abbrev is_out : Text → Bool
  is_out p = map.contains_key withdrawn p || map.contains_key going p

  abbrev takes_part : Text → Bool
  takes_part p = map.contains_key people p && not (is_out p)

  abbrev pub WordsEach : Type 0
  WordsEach = (p : Text) → map.contains_key words p ≡ takes_part p

  pub words-sound : list_all (λ (e : Text × ℕ). takes_part e.0) (map.entries words) ≡ true
      → list_all (λ (e : Text × Person). is_out e.0 || map.contains_key words e.0)
      (map.entries people) ≡ true → WordsEach
  words-sound h k p =
      let has : map.contains_key words p ≡ true → takes_part p ≡ true =
      λ e. let found = some_of (map.get words p) e in
      all_keys nat_list_cmp_total exact_texts (λ q v. takes_part q) words h p found.0 found.1 in
      let given : map.contains_key people p ≡ true → (is_out p || map.contains_key words p) ≡ true =
      λ e. let found = some_of (map.get people p) e in
      all_keys nat_list_cmp_total exact_texts (λ q v. is_out q || map.contains_key words q) people k p
      found.0 found.1 in
      same (map.contains_key words p) (map.contains_key people p) (is_out p) has given
    where
      same : (w k d : Bool) → (w ≡ true → (k && not d) ≡ true) → (k ≡ true → (d || w) ≡ true) → w ≡ (k && not d)
      same true k d has given = sym (has refl)
      same false false d has given = refl
      same false true true has given = refl
      same false true false has given = given refl

  pub words-first : WordsEach → list_all (λ (e : Text × ℕ). takes_part e.0) (map.entries words) ≡ true
  words-first h =
      keys_all nat_list_cmp_total exact_texts (λ q v. takes_part q) words (λ k v f. sym (h k) ∙ ap is_some f)

  pub words-second : WordsEach → list_all (λ (e : Text × Person). is_out e.0 || map.contains_key words e.0)
      (map.entries people) ≡ true
  words-second h =
      keys_all nat_list_cmp_total exact_texts (λ q v. is_out q || map.contains_key words q) people (λ k v f.
      or_else (map.contains_key words k) (map.contains_key people k) (is_out k) (h k) (ap is_some f))
    where
      or_else : (w k d : Bool) → w ≡ (k && not d) → k ≡ true → (d || w) ≡ true
      or_else w k true e f = refl
      or_else w true false e f = e
      or_else w false false e f = cc

itself : (a : Option Text) → is_same_text a a ≡ true
itself None = refl
itself (Some a) = text_eq-same a

module _ (found given : TextMap Assigned) where
  abbrev given_at : Option Assigned → Assigned → Bool
  given_at o v = elim o as (λ _. Bool) [ None ↦ false | Some w ↦ is_same_text w.room v.room ]

  same_given : (o : Option Assigned) (v : Assigned) → given_at o v ≡ true → o ≡ Some v
  same_given None v e = cc
  same_given (Some w) v e = λ i. Some (record { room = same_optional w.room v.room e i })

  pub results-sound : list_all (λ (e : Text × Assigned). is_given given e.0 e.1) (map.entries found) ≡ true
      → list_all (λ (e : Text × Assigned). map.contains_key found e.0) (map.entries given) ≡ true → found ≡ given
  results-sound h k = same_map nat_list_cmp_total exact_texts found given (λ q.
      elim (map.get found q) as (λ o. map.get found q ≡ o → o ≡ map.get given q) [
        | None ↦ λ none. elim (map.get given q) as (λ o. map.get given q ≡ o → None ≡ o) [
          | None ↦ λ _. refl
          | Some v ↦ λ f.
              let there : map.contains_key found q ≡ true =
              all_keys nat_list_cmp_total exact_texts (λ p v. map.contains_key found p) given k q v f in
              let absent : map.contains_key found q ≡ false = ap is_some none in
              absurd (both_ways _ absent there)
        ] refl
        | Some v ↦ λ f. sym
            (same_given (map.get given q) v
            (all_keys nat_list_cmp_total exact_texts (λ p v. is_given given p v) found h q v f))
      ] refl)

  pub results-first : found ≡ given → list_all (λ (e : Text × Assigned). is_given given e.0 e.1)
      (map.entries found) ≡ true
  results-first same = keys_all nat_list_cmp_total exact_texts (λ p v. is_given given p v) found
      (λ k v f. ap (λ o. given_at o v) (ap (λ m. map.get m k) (sym same) ∙ f) ∙ itself v.room)

  pub results-second : found ≡ given → list_all (λ (e : Text × Assigned). map.contains_key found e.0)
      (map.entries given) ≡ true
  results-second same = keys_all nat_list_cmp_total exact_texts (λ p v. map.contains_key found p) given
      (λ k v f. ap is_some (ap (λ m. map.get m k) same ∙ f))

-- moves
wave_of_0 : (wave : Wave) → is_wave_0 wave ≡ true → wave ≡ Nth 0
wave_of_0 Swap e = cc
wave_of_0 (Nth number) e = elim (eqb_tells number 0) as (λ _. Nth number ≡ Nth 0) [
  | inl same ↦ ap (λ n. Nth n) same.1
  | inr differs ↦ absurd (both_ways _ differs.0 e)
]

-- a move goes into a room or has wave 0
move_recorded : (moved : Moved) → is_recorded_move moved ≡ true → moved.to ≡ None → moved.wave ≡ Nth 0
move_recorded moved kept nowhere =
    wave_of_0 moved.wave (ap (λ o. is_some o || is_wave_0 moved.wave) (sym nowhere) ∙ kept)

recorded_move : (moved : Moved) → (moved.to ≡ None → moved.wave ≡ Nth 0) → is_recorded_move moved ≡ true
recorded_move moved first = elim moved.to as (λ o. moved.to ≡ o → (is_some o || is_wave_0 moved.wave) ≡ true) [
  | None ↦ λ nowhere. ap is_wave_0 (first nowhere)
  | Some room ↦ λ _. refl
] refl

module _ (office : Office) where
  pub rounds_over-decides : Decides (list_all (λ (e : ℕ × RoundMoves). is_over office e.0) (map.entries office.moves))
      ((round : ℕ) → map.contains_key office.moves round ≡ true → is_over office round ≡ true)
  rounds_over-decides = (
    λ e p h. let found = some_of (map.get office.moves p) h in
        all_keys nat_cmp_total nat_cmp-IsAntisymmetric (λ k v. is_over office k) office.moves e p found.0 found.1,
    λ h. keys_all nat_cmp_total nat_cmp-IsAntisymmetric (λ k v. is_over office k) office.moves
        (λ k v f. h k (ap is_some f)),
  )

  pub record AreRoundsKept : Type 0 where
    pub none_empty : (round : ℕ) (kept : RoundMoves) → map.get office.moves round ≡ Some kept
        → kept.by_person ≡ map.empty → ⊥
    pub arrived : (round : ℕ) (p : Text) (moved : Moved) → map.get (moves_of office.moves round) p ≡ Some moved
        → moved.to ≡ None → moved.wave ≡ Nth 0

  not_true : (b : Bool) → not b ≡ true → b ≡ true → ⊥
  not_true true e f = cc
  not_true false e f = cc

  not_at : (b : Bool) → (b ≡ true → ⊥) → not b ≡ true
  not_at true f = absurd (f refl)
  not_at false f = refl

  empty_has_no_moves : (p : Text) (moved : Moved) → map.get (map.empty {R = text_cmp}) p ≡ Some moved → ⊥
  empty_has_no_moves p moved e = let none = get-empty {X = Moved} text_cmp p in cc

  pub rounds_recorded-decides : Decides
      (list_all (λ (e : ℕ × RoundMoves). is_recorded_round e.1) (map.entries office.moves)) AreRoundsKept
  rounds_recorded-decides = (
    λ e.
        let test : (round : ℕ) (kept : RoundMoves) → map.get office.moves round ≡ Some kept
        → is_recorded_round kept ≡ true =
        all_keys nat_cmp_total nat_cmp-IsAntisymmetric (λ k v. is_recorded_round v) office.moves e in
        record {
          none_empty =
              λ round kept f none. not_true _ (and_parts (not (eqb (map.len kept.by_person) 0)) _ (test round kept f)).0
              ((empty-decides kept.by_person).1 none);
          arrived = λ round p moved.
              elim (map.get office.moves round) as
              (λ o. map.get office.moves round ≡ o → map.get (kept_moves o) p ≡ Some moved → moved.to ≡ None
              → moved.wave ≡ Nth 0) [
                | None ↦ λ none f. absurd (empty_has_no_moves p moved f)
                | Some kept ↦ λ some f.
                    move_recorded moved
                    (all_keys nat_list_cmp_total exact_texts (λ k v. is_recorded_move v) kept.by_person
                    (and_parts (not (eqb (map.len kept.by_person) 0)) _ (test round kept some)).1 p moved f)
              ] refl;
        },
    λ h. keys_all nat_cmp_total nat_cmp-IsAntisymmetric (λ k v. is_recorded_round v) office.moves (λ round kept f.
        both_true (not_at _ (λ none. h.none_empty round kept f ((empty-decides kept.by_person).0 none)))
        (keys_all nat_list_cmp_total exact_texts (λ k v. is_recorded_move v) kept.by_person
        (λ p moved m. recorded_move moved (h.arrived round p moved (ap (λ o. map.get (kept_moves o) p) f ∙ m))))),
  )

-- imported lists
module _ (lists : TextMap StoredImport) where
  pub record AreShort : Type 0 where
    pub short : (label : Text) (kept : StoredImport) → map.get lists label ≡ Some kept → length kept.bytes ≤ byte_limit
    pub counted : (label : Text) (kept : StoredImport) → map.get lists label ≡ Some kept → kept.count ≤ record_limit

  pub short-decides : Decides (list_all (λ (e : Text × StoredImport). is_short e.1) (map.entries lists)) AreShort
  short-decides = (
    λ e.
        let test : (label : Text) (kept : StoredImport) → map.get lists label ≡ Some kept → is_short kept ≡ true =
        all_keys nat_list_cmp_total exact_texts (λ k kept. is_short kept) lists e in
        record {
          short = λ label kept f. leb-true (length kept.bytes) byte_limit
              (and_parts (nat_le (length kept.bytes) byte_limit) _ (test label kept f)).0;
          counted =
              λ label kept f. leb-true kept.count record_limit
              (and_parts (nat_le (length kept.bytes) byte_limit) _ (test label kept f)).1;
        },
    λ h. keys_all nat_list_cmp_total exact_texts (λ k kept. is_short kept) lists (λ label kept f.
        both_true (le-leb (length kept.bytes) byte_limit (h.short label kept f))
        (le-leb kept.count record_limit (h.counted label kept f))),
  )
