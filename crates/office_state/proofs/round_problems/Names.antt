-- Names and their numbers.
use Rattle.std.proofs.Common.{◌≡◌, ◌≢◌, ℕ, ◌+◌, ◌<◌, suc, Bool, true, false, cond, not, ◌||◌, List}
use Rattle.std.proofs.Common.{[], ◌∷◌, ◌++◌, length, take, get_or, Option, Some, None, refl, sym}
use Rattle.std.proofs.Common.{ap, ◌∙◌, inl, inr, take_all, append-nil, arith}
use Rattle.std.specs.Prelude.{position, nat_lt}
use Rattle.std.specs.List.{AllPairs, position_or_len, before_first, slice_get, filter_map}
use Rattle.std.specs.List.{cons_option}
use Rattle.std.proofs.lemmas.List.Elements.{filter_map-append}
use Rattle.std.specs.Option.{option_map, option_or, is_some}
use Rattle.std.specs.Ordering.{eq_by_cmp, is_eq}
use Rattle.std.specs.Cmp.{tied_itself}
use Rattle.std.specs.Cmp.Lexicographic.{nat_list_cmp_total, same_text}
use Rattle.std.specs.FinMap as map
use Rattle.std.specs.FinMap.{get-insert}
use Rattle.std.proofs.lemmas.Bool.{lt-ltb, ltb-false}
use Rattle.std.proofs.lemmas.Bool.Decides.{nat_tests}
use Rattle.std.proofs.lemmas.List.{take_more, length-take-le, get_or-take}
use Rattle.std.proofs.lemmas.List.Quantifiers.{position-Some}
use Rattle.std.proofs.lemmas.List.Sums.{position_or_len_is}
use Rattle.std.proofs.lemmas.Option.{slice_get-get_or}
use Rattle.office_lists.proofs.move_days.Leavers.{position-push}
use Rattle.room_types.specs.Texts.{Text, TextMap, text_cmp, text_eq}
use Rattle.room_types.proofs.maps.TextMaps.{text_cases, unequal_texts}
use Rattle.room_types.proofs.options.Options.{none_if_not_some}
use Rattle.office_state.specs.Round.{number_in}
use Rattle.office_state.proofs.offices.Truths.{text_eq-same}

pub same-text_eq : (a b : Text) → text_eq a b ≡ true → a ≡ b
same-text_eq a b e = same_text a b (sym e)

-- the two tests on texts agree
pub text_eq-tied : (a b : Text) → text_eq a b ≡ eq_by_cmp text_cmp b a
text_eq-tied a b =
    elim (text_cases b a) as (λ _. text_eq a b ≡ eq_by_cmp text_cmp b a) [
      | inl same ↦ ap (λ t. text_eq a t) same ∙ text_eq-same a
          ∙ sym (ap is_eq (tied_itself nat_list_cmp_total a))
          ∙ sym (ap (λ t. eq_by_cmp text_cmp t a) same)
      | inr other ↦ elim (text_eq a b) as (λ t. text_eq a b ≡ t → t ≡ eq_by_cmp text_cmp b a) [
        | true ↦ λ e. absurd (unequal_texts b a (sym (same-text_eq a b e)) other)
        | false ↦ λ e. sym other
      ] refl
    ]

one_on : (n m : ℕ) → nat_lt (1 + n) (suc m) ≡ nat_lt n m
one_on n m = grind (arith, nat_tests)

none_before : (m : ℕ) → nat_lt 0 (suc m) ≡ true
none_before m = grind (arith, nat_tests)

module _ {X : Type 0} (p : X → Bool) where
  pub position-cons : (x : X) (xs : List X)
      → position p (x ∷ xs) ≡ cond (p x) (Some 0) (option_map (λ n. 1 + n) (position p xs))
  position-cons x xs =
      let n = position_or_len p xs in
      let m = length xs in
      elim (p x) as (λ b. cond (nat_lt (cond (not b) (1 + n) 0) (suc m))
      (Some (cond (not b) (1 + n) 0)) None
      ≡ cond b (Some 0) (option_map (λ k. 1 + k) (cond (nat_lt n m) (Some n) None))) [
        | true ↦ ap (λ b. cond b (Some 0) None) (none_before m)
        | false ↦ ap (λ b. cond b (Some (1 + n)) None) (one_on n m)
            ∙ elim (nat_lt n m) as (λ b. cond b (Some (1 + n)) None
            ≡ option_map (λ k. 1 + k) (cond b (Some n) None)) [ true ↦ refl | false ↦ refl ]
      ]

-- a new name after the others has the next number
pub number_in-push_fresh : (names : List Text) (name q : Text) → number_in names name ≡ None
    → number_in (names ++ name ∷ []) q
    ≡ cond (eq_by_cmp text_cmp q name) (Some (length names)) (number_in names q)
number_in-push_fresh names name q fresh =
    position-push (λ other. text_eq other q) names name
    ∙ elim (text_cases q name) as (λ _. option_or (number_in names q)
    (cond (text_eq name q) (Some (length names)) None)
    ≡ cond (eq_by_cmp text_cmp q name) (Some (length names)) (number_in names q)) [
      | inl same ↦ ap (λ o. option_or o (cond (text_eq name q) (Some (length names)) None))
          (ap (number_in names) same ∙ fresh)
          ∙ ap (λ b. cond b (Some (length names)) None) (text_eq-tied name q)
          ∙ elim (eq_by_cmp text_cmp q name) as
          (λ b. eq_by_cmp text_cmp q name ≡ b
          → cond b (Some (length names)) None
          ≡ cond b (Some (length names)) (number_in names q)) [
            | true ↦ λ e. refl
            | false ↦ λ e. absurd (unequal_texts q name same e)
          ] refl
      | inr other ↦ ap (λ b. option_or (number_in names q) (cond b (Some (length names)) None))
          (text_eq-tied name q ∙ other)
          ∙ elim (number_in names q) as (λ o. option_or o None ≡ o) [ None ↦ refl | Some k ↦ refl ]
          ∙ sym (ap (λ b. cond b (Some (length names)) (number_in names q)) other)
    ]

-- a repeated name changes no number
pub number_in-push_known : (names : List Text) (name q : Text) (k : ℕ)
    → number_in names name ≡ Some k → number_in (names ++ name ∷ []) q ≡ number_in names q
number_in-push_known names name q k known =
    position-push (λ other. text_eq other q) names name
    ∙ elim (text_eq name q) as (λ b. text_eq name q ≡ b
    → option_or (number_in names q) (cond b (Some (length names)) None) ≡ number_in names q) [
      | true ↦ λ e.
          let found : number_in names q ≡ Some k =
          ap (number_in names) (sym (same-text_eq name q e)) ∙ known in
          ap (λ o. option_or o (Some (length names))) found ∙ sym found
      | false ↦ λ e. elim (number_in names q) as
          (λ o. option_or o None ≡ o) [ None ↦ refl | Some k ↦ refl ]
    ] refl

one_more : (names : List Text) (i : ℕ) (name : Text) → i < length names → name ≡ get_or names i name
    → take (i + 1) names ≡ take i names ++ name ∷ []
one_more names i name within at =
    take_more names i name within ∙ ap (λ (n : Text). take i names ++ n ∷ []) (sym at)

-- the number leads back to the name
pub number_in-below : (names : List Text) (q : Text) (n : ℕ) → number_in names q ≡ Some n
    → n < length names
number_in-below names q n h = (position-Some (λ other. text_eq other q) names n [] h).0

pub number_in-name : (names : List Text) (q : Text) (n : ℕ) (d : Text) → number_in names q ≡ Some n
    → get_or names n d ≡ q
number_in-name names q n d h =
    same-text_eq (get_or names n d) q (position-Some (λ other. text_eq other q) names n d h).1

-- the name at a place has that number, if all names differ
pub number_in-at : (names : List Text) (n : ℕ) (d : Text) → AllPairs ◌≢◌ names → n < length names
    → number_in names (get_or names n d) ≡ Some n
number_in-at names n d differ_all within =
    let q = get_or names n d in
    let p = λ (other : Text). text_eq other q in
    let others : (k : ℕ) → k < n → p (get_or names k d) ≡ false = λ k before.
    elim (text_eq (get_or names k d) q) as (λ b. text_eq (get_or names k d) q ≡ b → b ≡ false) [
      | true ↦ λ e. absurd (differ_all k n d before within (same-text_eq (get_or names k d) q e))
      | false ↦ λ e. refl
    ] refl in
    let at : position_or_len p names ≡ n =
    position_or_len_is p names n d (omega arith) others (λ _. text_eq-same q) in
    ap (λ k. cond (nat_lt k (length names)) (Some k) None) at
    ∙ ap (λ b. cond b (Some n) None) (lt-ltb n (length names) within)

pub slice_get-number : (names : List Text) (q : Text) (n : ℕ) → number_in names q ≡ Some n
    → slice_get names n ≡ Some q
slice_get-number names q n h = slice_get-get_or names n [] (number_in-below names q n h)
    ∙ ap (λ t. Some t) (number_in-name names q n [] h)

-- one more name in a table of numbers: its first place counts
pub numbers-fresh : (m : TextMap ℕ) (names : List Text) (i : ℕ) (name : Text) → i < length names
    → name ≡ get_or names i name
    → ((q : Text) → map.get m q ≡ number_in (take i names) q) → map.contains_key m name ≡ false
    → (q : Text) → map.get (map.insert m name i) q ≡ number_in (take (i + 1) names) q
numbers-fresh m names i name within at returned fresh q =
    let so_far = take i names in
    let none : number_in so_far name ≡ None =
    sym (returned name) ∙ none_if_not_some (map.get m name) fresh in
    get-insert nat_list_cmp_total m name i q
    ∙ ap (λ o. cond (eq_by_cmp text_cmp q name) (Some i) o) (returned q)
    ∙ ap (λ n. cond (eq_by_cmp text_cmp q name) (Some n) (number_in so_far q))
    (sym (length-take-le i names (omega arith)))
    ∙ sym (number_in-push_fresh so_far name q none)
    ∙ ap (λ ns. number_in ns q) (sym (one_more names i name within at))

pub numbers-known : (m : TextMap ℕ) (names : List Text) (i : ℕ) (name : Text) → i < length names
    → name ≡ get_or names i name
    → ((q : Text) → map.get m q ≡ number_in (take i names) q) → map.contains_key m name ≡ true
    → (q : Text) → map.get m q ≡ number_in (take (i + 1) names) q
numbers-known m names i name within at returned known q =
    elim (map.get m name) as (λ o. map.get m name ≡ o → map.contains_key m name ≡ true
    → map.get m q ≡ number_in (take (i + 1) names) q) [
      | None ↦ λ e f. cc
      | Some k ↦ λ e f. returned q ∙ sym
          (number_in-push_known (take i names) name q k (sym (returned name) ∙ e))
          ∙ ap (λ ns. number_in ns q) (sym (one_more names i name within at))
    ] refl known

-- a name does not occur before its place, if all names differ
number_in-later : (names : List Text) (i : ℕ) (name : Text) → AllPairs ◌≢◌ names → i < length names
    → name ≡ get_or names i name → number_in (take i names) name ≡ None
number_in-later names i name apart within at =
    elim (number_in (take i names) name) as (λ o. number_in (take i names) name ≡ o → o ≡ None) [
      | None ↦ λ e. refl
      | Some k ↦ λ e.
          let few = length-take-le i names (omega arith) in
          let short : k < i = omega (arith, few, number_in-below (take i names) name k e) in
          absurd (apart k i name short within
          (sym (get_or-take i names k name short) ∙ number_in-name (take i names) name k name e
          ∙ at))
    ] refl

-- one more name in a table of what numbers give
pub given-more : {A : Type 0} (g : ℕ → A) (m : TextMap A) (names : List Text) (i : ℕ) (name : Text)
    (v : A) → AllPairs ◌≢◌ names → i < length names → name ≡ get_or names i name → v ≡ g i
    → ((q : Text) → map.get m q ≡ option_map g (number_in (take i names) q))
    → (q : Text) → map.get (map.insert m name v) q ≡ option_map g (number_in (take (i + 1) names) q)
given-more g m names i name v apart within at is returned q =
    let so_far = take i names in
    get-insert nat_list_cmp_total m name v q
    ∙ ap (λ o. cond (eq_by_cmp text_cmp q name) (Some v) o) (returned q)
    ∙ ap (λ x. cond (eq_by_cmp text_cmp q name) (Some x) (option_map g (number_in so_far q)))
    (is ∙ ap g (sym (length-take-le i names (omega arith))))
    ∙ elim (eq_by_cmp text_cmp q name) as
    (λ b. cond b (Some (g (length so_far))) (option_map g (number_in so_far q))
    ≡ option_map g (cond b (Some (length so_far)) (number_in so_far q))) [
      | true ↦
          refl
      | false ↦ refl
    ]
    ∙ ap (option_map g) (sym (number_in-push_fresh so_far name q
    (number_in-later names i name apart within at)))
    ∙ ap (λ ns. option_map g (number_in ns q)) (sym (one_more names i name within at))

-- ---- the part of a list before the own room

pub before_first-Some : {X : Type 0} (p : X → Bool) (xs : List X) (i : ℕ) → position p xs ≡ Some i
    → before_first p xs ≡ take i xs
before_first-Some p xs i e =
    elim (nat_lt (position_or_len p xs) (length xs)) as
    (λ b. cond b (Some (position_or_len p xs)) None ≡ Some i → before_first p xs ≡ take i xs) [
      | true ↦ λ h. let same : position_or_len p xs ≡ i = cc in ap (λ n. take n xs) same
      | false ↦ λ h. cc
    ] e

pub before_first-None : {X : Type 0} (p : X → Bool) (xs : List X) → position p xs ≡ None
    → before_first p xs ≡ xs
before_first-None p xs e =
    elim (nat_lt (position_or_len p xs) (length xs)) as
    (λ b. nat_lt (position_or_len p xs) (length xs) ≡ b
    → cond b (Some (position_or_len p xs)) None ≡ None → before_first p xs ≡ xs) [
      | true ↦ λ t h. cc
      | false ↦ λ t h. take_all (position_or_len p xs) xs (ltb-false _ _ t)
    ] refl e

-- ---- rooms that are kept back

-- one more room that is kept back
pub kept_back-more : (m : TextMap (Unit {0})) (home room : Text) (rest : Bool)
    → (map.contains_key (map.insert m home tt) room || rest)
    ≡ (map.contains_key m room || (text_eq home room || rest))
kept_back-more m home room rest =
    ap (λ o. is_some o || rest) (get-insert nat_list_cmp_total m home tt room)
    ∙ ap (λ b. is_some (cond b (Some tt) (map.get m room)) || rest) (sym (text_eq-tied home room))
    ∙ elim (text_eq home room) as (λ b. (is_some (cond b (Some tt) (map.get m room)) || rest)
    ≡ (is_some (map.get m room) || (b || rest))) [
      | true ↦ elim (map.get m room) as
          (λ o. true ≡ (is_some o || true)) [ None ↦ refl | Some x ↦ refl ]
      | false ↦ refl
    ]

-- ---- the numbers of a list

module _ (f : Text → Option ℕ) (codes : List Text) (i : ℕ) (code : Text) (within : i < length codes)
    (at : code ≡ get_or codes i code) where
  pub numbered-some : (n : ℕ) → f code ≡ Some n
      → filter_map f (take (i + 1) codes) ≡ filter_map f (take i codes) ++ n ∷ []
  numbered-some n has =
      ap (filter_map f) (one_more codes i code within at)
      ∙ filter_map-append f (take i codes) (code ∷ [])
      ∙ ap (λ o. filter_map f (take i codes) ++ cons_option o []) has

  pub numbered-none : f code ≡ None
      → filter_map f (take (i + 1) codes) ≡ filter_map f (take i codes)
  numbered-none has =
      ap (filter_map f) (one_more codes i code within at)
      ∙ filter_map-append f (take i codes) (code ∷ [])
      ∙ ap (λ o. filter_map f (take i codes) ++ cons_option o []) has
      ∙ append-nil (filter_map f (take i codes))
