-- The leavers of rooms, and of entries whose new rooms differ.
use Rattle.std.proofs.Common.{◌≡◌, ℕ, zero, suc, ◌+◌, ◌≤◌, ◌<◌, Bool, true, false, cond, List, [], ◌∷◌, ◌++◌, length}
use Rattle.std.proofs.Common.{take, get_or, Option, None, Some, refl, sym, ap, ◌∙◌, subst, inl, inr, arith, ltb, not}
use Rattle.std.proofs.Common.{ne_eqb, eq-eqb}
use Rattle.std.specs.Prelude.{option_and_then}
use Rattle.std.specs.Option.{is_some, option_map, option_map_or, option_or}
use Rattle.std.specs.List.{position, position_or_len}
use Rattle.std.proofs.lemmas.Bool.{cases_lt, false≢true, lt-ltb, le-ltb}
use Rattle.std.proofs.lemmas.List.{get_or-map, length-map, take_more, length-take-le, length_push}
use Rattle.std.proofs.lemmas.List.Folds.{position_or_len_push}
use Rattle.std.proofs.lemmas.List.Sums.{fails_before_first, prefix_len-le-length}
use Rattle.std.proofs.lemmas.List.Quantifiers.{position-Some}
use Rattle.std.proofs.lemmas.Slice.Eq.{bytes_eq-Decides}
use Rattle.room_types.specs.Texts.{Text, text_eq}
use Rattle.office_lists.specs.Waves.{Relocation, NewRoomsDiffer, chain_number, leaver, leavers, end_numbers}
use Rattle.office_lists.specs.Waves.{end_number_at, next_entry, wave_of, waves_of, IsWave, AreWaves, HaveOneWaveEach}
use Rattle.room_types.specs.declared.moves.Wave.{Wave}
use Rattle.room_types.specs.declared.moves.Wave.TheVariants.{Swap, Nth}
use Rattle.room_types.proofs.options.Options.{option_or-none}
use Rattle.std.proofs.lemmas.List.FromFn.{fill_by_all, length-map-range_with_len}
use Rattle.office_lists.specs.Inner.Successors.{AreInjective, AreSuccessors}
use Rattle.office_lists.proofs.move_days.Following.{one_wave, some_wave}
use Rattle.office_lists.proofs.move_days.Chains.{next_entry-within, AreNumberedTo, wave_at}

position_at : {X : Type 0} (p : X → Bool) (xs : List X) (k n : ℕ) → position_or_len p xs ≡ k → length xs ≡ n
    → position p xs ≡ cond (ltb k n) (Some k) None
position_at p xs k n at many = λ i. cond (ltb (at i) (many i)) (Some (at i)) None

pub position-push : {X : Type 0} (p : X → Bool) (xs : List X) (y : X) → position p (xs ++ y ∷ []) ≡ option_or
    (position p xs) (cond (p y) (Some (length xs)) None)
position-push p xs y =
    let n = position_or_len p xs in
    let many = length xs in
    let longer : length (xs ++ y ∷ []) ≡ many + 1 = length_push xs y in
    elim (cases_lt n many) [
      | inl less ↦
          let far : position_or_len p (xs ++ y ∷ []) ≡ n =
          position_or_len_push p xs y ∙ ap (λ b. cond b (many + cond (p y) 0 1) n)
          (ne_eqb n many (λ e. omega arith)) in
          let new : position p (xs ++ y ∷ []) ≡ Some n = position_at p (xs ++ y ∷ []) n (many + 1) far longer
          ∙ ap (λ b. cond b (Some n) None) (lt-ltb n (many + 1) (omega arith)) in
          let old : position p xs ≡ Some n = ap (λ b. cond b (Some n) None) (lt-ltb n many less) in
          new ∙ ap (λ o. option_or o (cond (p y) (Some many) None)) (sym old)
      | inr more ↦
          let all : n ≡ many = omega (arith, prefix_len-le-length (λ x. not (p x)) xs) in
          let old : position p xs ≡ None = ap (λ b. cond b (Some n) None) (le-ltb n many more) in
          let far : position_or_len p (xs ++ y ∷ []) ≡ many + cond (p y) 0 1 =
          position_or_len_push p xs y ∙ ap (λ b. cond b (many + cond (p y) 0 1) n) (eq-eqb n many all) in
          let new : position p (xs ++ y ∷ []) ≡ cond (p y) (Some many) None =
          position_at p (xs ++ y ∷ []) (many + cond (p y) 0 1) (many + 1) far longer
          ∙ elim (p y) as (λ b. cond (ltb (many + cond b 0 1) (many + 1)) (Some (many + cond b 0 1)) None ≡ cond b
          (Some many) None) [
            | true ↦
                let same : many + 0 ≡ many = omega arith in
                ap (λ k. cond (ltb k (many + 1)) (Some k) None) same ∙ ap (λ b. cond b (Some many) None)
                (lt-ltb many (many + 1) (omega arith))
            | false ↦ ap (λ b. cond b (Some (many + 1)) None) (le-ltb (many + 1) (many + 1) (omega arith))
          ] in
          new ∙ ap (λ o. option_or o (cond (p y) (Some many) None)) (sym old)
    ]

-- whether this is the old room of the entry
abbrev pub has_left : Text → Relocation → Bool
has_left room entry = option_map_or (λ old. text_eq old room) entry.1 false

leaver-more : (entries : List Relocation) (i : ℕ) (entry : Relocation) (room : Text) → i < length entries
    → entry ≡ get_or entries i entry
    → leaver (take (i + 1) entries) room ≡ option_or (leaver (take i entries) room)
    (cond (has_left room entry) (Some i) None)
leaver-more entries i entry room in' is =
    let many : length (take i entries) ≡ i = length-take-le i entries (omega arith) in
    ap (λ es. leaver es room) (take_more entries i entry in' ∙ ap (λ e. take i entries ++ e ∷ []) (sym is))
    ∙ position-push (has_left room) (take i entries) entry
    ∙ ap (λ n. option_or (leaver (take i entries) room) (cond (has_left room entry) (Some n) None)) many

first_there : (x y : Option ℕ) → is_some x ≡ true → option_or x y ≡ x
first_there None y e = cc
first_there (Some x) y e = refl

first_missing : (x y : Option ℕ) → is_some x ≡ false → option_or x y ≡ y
first_missing None y e = refl
first_missing (Some x) y e = cc

module _ (entries : List Relocation) (i : ℕ) (entry : Relocation) (in' : i < length entries)
    (is : entry ≡ get_or entries i entry) (room : Text) where
  -- an entry without an old room is nobody's leaver
  pub without_old_room : entry.1 ≡ None → leaver (take (i + 1) entries) room ≡ leaver (take i entries) room
  without_old_room none =
      leaver-more entries i entry room in' is
      ∙ ap (λ old. option_or (leaver (take i entries) room)
      (cond (option_map_or (λ old. text_eq old room) old false) (Some i) None)) none
      ∙ option_or-none (leaver (take i entries) room)

  module _ (old : Text) (has : entry.1 ≡ Some old) where
    more : leaver (take (i + 1) entries) room ≡ option_or (leaver (take i entries) room)
        (cond (text_eq old room) (Some i) None)
    more = leaver-more entries i entry room in' is
        ∙ ap (λ o. option_or (leaver (take i entries) room)
        (cond (option_map_or (λ old. text_eq old room) o false) (Some i) None)) has

    -- if the room already has a leaver, a later entry with the same old room changes nothing
    pub known_old_room : is_some (leaver (take i entries) old) ≡ true → leaver (take (i + 1) entries) room ≡ leaver
        (take i entries) room
    known_old_room known =
        more ∙ elim (text_eq old room) as
        (λ b. text_eq old room ≡ b → option_or (leaver (take i entries) room) (cond b (Some i) None) ≡ leaver
        (take i entries) room) [
          | true ↦ λ e. first_there (leaver (take i entries) room) (Some i)
              (subst (λ r. is_some (leaver (take i entries) r) ≡ true) ((bytes_eq-Decides old room).0 e) known)
          | false ↦ λ e. option_or-none (leaver (take i entries) room)
        ] refl

    -- otherwise the entry is the leaver of its old room
    pub new_old_room : is_some (leaver (take i entries) old) ≡ false → leaver (take (i + 1) entries) room ≡ cond
        (text_eq old room) (Some i) (leaver (take i entries) room)
    new_old_room new =
        more ∙ elim (text_eq old room) as
        (λ b. text_eq old room ≡ b → option_or (leaver (take i entries) room) (cond b (Some i) None) ≡ cond b
        (Some i) (leaver (take i entries) room)) [
          | true ↦ λ e. first_missing (leaver (take i entries) room) (Some i)
              (subst (λ r. is_some (leaver (take i entries) r) ≡ false) ((bytes_eq-Decides old room).0 e) new)
          | false ↦ λ e. option_or-none (leaver (take i entries) room)
        ] refl

-- what holds for entry i with leaver k
record HasLeaver (entries : List Relocation) (i k : ℕ) : Type 0 where
  within : i < length entries
  room : Text
  to : (get_or entries i ([], None, None)).2 ≡ Some room
  below : k < length entries
  left : has_left room (get_or entries k ([], None, None)) ≡ true

-- if an entry has left a room, that room is its old room; and the converse
pub left_room : (room : Text) (entry : Relocation) → has_left room entry ≡ true → entry.1 ≡ Some room
left_room room entry h =
    elim entry.1 as (λ o. option_map_or (λ old. text_eq old room) o false ≡ true → o ≡ Some room) [
      | None ↦ λ e. absurd (false≢true e)
      | Some old ↦ λ e. ap (λ r. Some r) ((bytes_eq-Decides old room).0 e)
    ] h

pub has_left_room : (room : Text) (entry : Relocation) → entry.1 ≡ Some room → has_left room entry ≡ true
has_left_room room entry h =
    ap (λ o. option_map_or (λ old. text_eq old room) o false) h ∙ (bytes_eq-Decides room room).1 refl

-- if some element passes the test, `position` finds the first one
pub position_found : {X : Type 0} (p : X → Bool) (xs : List X) (j : ℕ) (d : X) → j < length xs
    → p (get_or xs j d) ≡ true
    → (position_or_len p xs < length xs) × (position p xs ≡ Some (position_or_len p xs))
position_found p xs j d within h =
    elim (cases_lt j (position_or_len p xs)) as
    (λ _. (position_or_len p xs < length xs) × (position p xs ≡ Some (position_or_len p xs))) [
      | inl before ↦ absurd (false≢true (sym (fails_before_first p xs j d before) ∙ h))
      | inr after ↦
          let low : position_or_len p xs < length xs = omega (arith, after, within) in
          (low, ap (λ b. cond b (Some (position_or_len p xs)) None) (lt-ltb (position_or_len p xs) (length xs) low))
    ]

-- an entry leaves one room at most
same_room : (one other : Text) (entry : Relocation) → has_left one entry ≡ true → has_left other entry ≡ true
    → one ≡ other
same_room one other entry p q =
    elim entry.1 as (λ o. option_map_or (λ old. text_eq old one) o false ≡ true
    → option_map_or (λ old. text_eq old other) o false ≡ true → one ≡ other) [
      | None ↦ λ e f. absurd (false≢true e)
      | Some old ↦ λ e f. sym ((bytes_eq-Decides old one).0 e) ∙ (bytes_eq-Decides old other).0 f
    ] p q

-- the number at the end of a chain is 0 or 1
pub end_at_most_one : (to : Option Text) → option_map_or (λ room. 1) to 0 ≤ 1
end_at_most_one None = omega arith
end_at_most_one (Some room) = omega arith

pub first_at_most_one : (entries : List Relocation) (i : ℕ) → end_number_at (end_numbers entries) i ≤ 1
first_at_most_one [] i = omega arith
first_at_most_one (entry ∷ entries) zero = end_at_most_one entry.2
first_at_most_one (entry ∷ entries) (suc i) = first_at_most_one entries i

-- the end number of entry i is that of the entry itself
pub end_number_of_entry : (entries : List Relocation) (i : ℕ) (d : Relocation) → i < length entries
    → end_number_at (end_numbers entries) i ≡ option_map_or (λ room. 1) (get_or entries i d).2 0
end_number_of_entry [] i d low = absurd (omega (arith, low))
end_number_of_entry (entry ∷ entries) zero d low = refl
end_number_of_entry (entry ∷ entries) (suc i) d low = end_number_of_entry entries i d (omega (arith, low))

module _ (entries : List Relocation) where
  has_leaver : (i k : ℕ) → next_entry (leavers entries) i ≡ Some k → HasLeaver entries i k
  has_leaver i k e =
      let many : length (leavers entries) ≡ length entries =
      length-map entries (λ entry. option_and_then (leaver entries) entry.2) in
      let in' : i < length entries = omega (arith, next_entry-within (leavers entries) i k e) in
      let at : next_entry (leavers entries) i ≡ option_and_then (leaver entries) (get_or entries i ([], None, None)).2 =
      get_or-map (λ entry. option_and_then (leaver entries) entry.2) entries i ([], None, None) None in' in
      elim (get_or entries i ([], None, None)).2 as (λ o. (get_or entries i ([], None, None)).2 ≡ o
      → option_and_then (leaver entries) o ≡ Some k → HasLeaver entries i k) [
        | None ↦ λ f g. cc
        | Some room ↦ λ f g.
            let found = position-Some (has_left room) entries k ([], None, None) g in
            record { within = in'; room = room; to = f; below = found.0; left = found.1 }
      ] refl (sym at ∙ e)

  pub leavers-injective : NewRoomsDiffer entries → AreInjective (leavers entries)
  leavers-injective differ = record {
    within = λ i j e. omega
        (arith, (has_leaver i j e).below, length-map entries (λ entry. option_and_then (leaver entries) entry.2));
    one = λ i j k e f.
        let a = has_leaver i k e in
        let b = has_leaver j k f in
        let same : a.room ≡ b.room = same_room a.room b.room (get_or entries k ([], None, None)) a.left b.left in
        elim (cases_lt i j) [
          | inl less ↦ absurd
              (differ i j ([], None, None) less b.within a.room a.to (b.to ∙ ap (λ r. Some r) (sym same)))
          | inr more ↦ elim (cases_lt j i) [
            | inl less ↦ absurd (differ j i ([], None, None) less a.within b.room b.to (a.to ∙ ap (λ r. Some r) same))
            | inr least ↦ omega arith
          ]
        ];
  }

  pub length-waves_of : length (waves_of entries) ≡ length entries
  length-waves_of = length-map-range_with_len (wave_of (end_numbers entries) (leavers entries)) 0 (length entries)

  pub length-leavers : length (leavers entries) ≡ length entries
  length-leavers = length-map entries (λ entry. option_and_then (leaver entries) entry.2)

  module _ (differ : NewRoomsDiffer entries) where
    has_wave : (i : ℕ) → i < length entries → IsWave (end_numbers entries) (leavers entries) i
        (wave_of (end_numbers entries) (leavers entries) i)
    has_wave i in' = some_wave (end_numbers entries) (leavers entries) (leavers-injective differ)
        (first_at_most_one entries) i (omega (arith, length-leavers))

    pub waves_agree : HaveOneWaveEach entries
    waves_agree = record {
      some = has_wave;
      one = λ i wave in' is. one_wave (end_numbers entries) (leavers entries) i wave
          (wave_of (end_numbers entries) (leavers entries) i) is (has_wave i in');
    }

    module _ (fs : List (Option ℕ)) (waves : List Wave) (linked : AreSuccessors (leavers entries) fs)
        (so : AreNumberedTo (end_numbers entries) (leavers entries) fs (length (leavers entries)) waves) where
      -- once the chains of all ends are numbered, each entry has its wave
      each_wave : (i : ℕ) → i < length entries → get_or waves i Swap ≡ wave_of (end_numbers entries) (leavers entries) i
      each_wave i in' = wave_at (end_numbers entries) (leavers entries) fs linked (leavers-injective differ)
          (first_at_most_one entries) waves so i (omega (arith, length-leavers))

      pub are_waves : AreWaves entries waves
      are_waves = record {
        same_length = so.same_length ∙ length-leavers;
        each = λ i in'. subst (IsWave (end_numbers entries) (leavers entries) i) (sym (each_wave i in'))
            (has_wave i in');
      }

      pub are_computed : waves ≡ waves_of entries
      are_computed = fill_by_all (wave_of (end_numbers entries) (leavers entries)) waves (length entries) Swap
          (so.same_length ∙ length-leavers) each_wave

-- ---- entries without a new room

next_entry-leaver : (entries : List Relocation) (i : ℕ) (d : Relocation) → i < length entries
    → next_entry (leavers entries) i ≡ option_and_then (leaver entries) (get_or entries i d).2
next_entry-leaver entries i d low =
    get_or-map (λ (entry : Relocation). option_and_then (leaver entries) entry.2) entries i d None low

first_wave : (ends : List ℕ) (ls : List (Option ℕ)) (i limit : ℕ) → 0 < limit → next_entry ls i ≡ None
    → end_number_at ends i ≡ 0
    → option_map_or (λ number. Nth number) (chain_number ends ls limit i) Swap ≡ Nth 0
first_wave ends ls i zero some none first = absurd (omega (arith, some))
first_wave ends ls i (suc limit) some none first =
    let at : Option ℕ → Option ℕ =
    λ o. option_map_or (λ leaver. option_map (λ number. suc number) (chain_number ends ls limit leaver)) o
    (Some (end_number_at ends i)) in
    ap (λ o. option_map_or (λ number. Nth number) (at o) Swap) none ∙ ap (λ number. Nth number) first

-- an entry without a new room has wave 0
pub departing_wave : (entries : List Relocation) (i : ℕ) (d : Relocation) → i < length entries
    → (get_or entries i d).2 ≡ None
    → wave_of (end_numbers entries) (leavers entries) i ≡ Nth 0
departing_wave entries i d low nowhere =
    let many = length-leavers entries in
    first_wave (end_numbers entries) (leavers entries) i (length (leavers entries)) (omega (arith, low, many))
    (next_entry-leaver entries i d low ∙ ap (option_and_then (leaver entries)) nowhere)
    (end_number_of_entry entries i d low ∙ ap (λ to. option_map_or (λ room. 1) to 0) nowhere)
