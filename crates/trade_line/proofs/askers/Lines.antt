-- Lists of people without repeats, and the stage after the front of a line leaves.
use Rattle.std.proofs.Common.{◌≡◌, ℕ, zero, suc, ◌+◌, ◌<◌, ◌≤◌, ◌⊎◌, Bool, true, false, not, ◌&&◌, ◌||◌, ◌==◌, List, []}
use Rattle.std.proofs.Common.{◌∷◌, ◌++◌, length, Option, Some, None, find, get_or, refl, sym, ap, ◌∙◌, subst, inl, inr}
use Rattle.std.proofs.Common.{arith, eqb-true, eq-eqb, ne_eqb, get_or-set_same, get_or-set_other, length-set, add-one}
use Rattle.std.proofs.Common.{add-zero}
use Rattle.std.specs.List.{range_with_len}
use Rattle.std.proofs.lemmas.Bool.{cases_Bool, cases_eq, and_left, and_right, or_cases, or_left, or_right, or_parts}
use Rattle.std.proofs.lemmas.Bool.{false_from_ne_true, both_ways, cond-true, cond-false}
use Rattle.std.proofs.Math.Bool.{or_assoc, and-true, or-false}
use Rattle.std.specs.Cmp.Derive.{one_truth}
use Rattle.trade_line.specs.Below.{or_else}
use Rattle.trade_line.specs.Market.{Market, IsMarket, home, list_of, is_room}
use Rattle.trade_line.specs.TopTradingCycles.{Stage, wish, taken, removed}
use Rattle.trade_line.specs.Member.{among, Once}
use Rattle.trade_line.specs.Inner.Queue.{AscendsFrom, Ascends, last_of, WaitsBehind, stage_of, close}
use Rattle.trade_line.specs.Line.{front_of, tail_of, without}
use Rattle.trade_line.proofs.searches.Search.{and_nots, clash, is_room_gives, is_room_from}
use Rattle.trade_line.proofs.cycles.Exchange.{taken_gives}
use Rattle.trade_line.proofs.cycles.Unique.{same_stage, taken_from}
use Rattle.trade_line.proofs.cycles.Chain.{wish_stays}

pub among_self : (a : ℕ) (xs : List ℕ) → among (a ∷ xs) a ≡ true
among_self a xs = or_left (a == a) (among xs a) (eq-eqb a a refl)

pub among_none : (l : List ℕ) → front_of l ≡ None → (p : ℕ) → among l p ≡ false
among_none [] e p = refl
among_none (x ∷ xs) e p = absurd (cc)

pub among_more : (a : ℕ) (xs : List ℕ) (p : ℕ) → among xs p ≡ true → among (a ∷ xs) p ≡ true
among_more a xs p h = or_right (a == p) (among xs p) h

pub among-append : (xs ys : List ℕ) (p : ℕ) → among (xs ++ ys) p ≡ (among xs p || among ys p)
among-append [] ys p = refl
among-append (x ∷ xs) ys p =
    ap (λ b. (x == p) || b) (among-append xs ys p) ∙ sym (or_assoc (x == p) (among xs p) (among ys p))

pub among_left : (xs ys : List ℕ) (p : ℕ) → among xs p ≡ true → among (xs ++ ys) p ≡ true
among_left xs ys p h = among-append xs ys p ∙ or_left (among xs p) (among ys p) h

pub among_right : (xs ys : List ℕ) (p : ℕ) → among ys p ≡ true → among (xs ++ ys) p ≡ true
among_right xs ys p h = among-append xs ys p ∙ or_right (among xs p) (among ys p) h

pub among_cases : (xs ys : List ℕ) (p : ℕ) → among (xs ++ ys) p ≡ true → (among xs p ≡ true) ⊎ (among ys p ≡ true)
among_cases xs ys p h = or_cases (among xs p) (among ys p) (sym (among-append xs ys p) ∙ h)

pub once_right : (xs ys : List ℕ) → Once (xs ++ ys) → Once ys
once_right [] ys o = o
once_right (x ∷ xs) ys o = once_right xs ys o.1

pub once_apart : (xs ys : List ℕ) → Once (xs ++ ys) → (p : ℕ) → among xs p ≡ true → among ys p ≡ false
once_apart [] ys o p h = absurd (both_ways false refl h)
once_apart (x ∷ xs) ys o p h =
    elim (or_cases (x == p) (among xs p) h) [
      | inl e ↦ subst (λ z. among ys z ≡ false) (eqb-true x p e)
          (or_parts (among xs x) (among ys x) (sym (among-append xs ys x) ∙ o.0)).1
      | inr i ↦ once_apart xs ys o.1 p i
    ]

pub last_push : (a : ℕ) (ys : List ℕ) (h : ℕ) (os : List ℕ) → last_of a (ys ++ (h ∷ os)) ≡ last_of h os
last_push a [] h os = refl
last_push a (y ∷ ys) h os = last_push y ys h os

pub above_ascends : (a : ℕ) (xs : List ℕ) → AscendsFrom a xs → (p : ℕ) → among xs p ≡ true → a < p
above_ascends a [] w p h = absurd (both_ways false refl h)
above_ascends a (b ∷ r) w p h =
    elim (or_cases (b == p) (among r p) h) [
      | inl e ↦ subst (λ z. a < z) (eqb-true b p e) w.0
      | inr i ↦ let l : b < p = above_ascends b r w.1 p i in omega (arith, w.0)
    ]

pub ascends_tail : (a : ℕ) (xs : List ℕ) → AscendsFrom a xs → Ascends xs
ascends_tail a [] w = tt
ascends_tail a (b ∷ r) w = w.1

pub without_hit : (t x : ℕ) (xs : List ℕ) → (x == t) ≡ true → without t (x ∷ xs) ≡ without t xs
without_hit t x xs h = cond-false (not (x == t)) (x ∷ without t xs) (without t xs) (ap not h)

without_miss : (t x : ℕ) (xs : List ℕ) → (x == t) ≡ false → without t (x ∷ xs) ≡ x ∷ without t xs
without_miss t x xs h = cond-true (not (x == t)) (x ∷ without t xs) (without t xs) (ap not h)

-- the list without one of its people
pub among-without : (t : ℕ) (xs : List ℕ) (p : ℕ) → among (without t xs) p ≡ (among xs p && not (t == p))
among-without t [] p = refl
among-without t (x ∷ xs) p =
    elim (cases_Bool (x == t)) [
      | inl y ↦
          let e : x ≡ t = eqb-true x t y in
          ap (λ z. among z p) (without_hit t x xs y)
          ∙ (among-without t xs p
          ∙ subst (λ z. (among xs p && not (t == p)) ≡ (((z == p) || among xs p) && not (t == p))) (sym e)
          (gone (t == p) (among xs p)))
      | inr n ↦
          ap (λ z. among z p) (without_miss t x xs n)
          ∙ (ap (λ b. (x == p) || b) (among-without t xs p) ∙ kept (cases_Bool (x == p)) n)
    ]
  where
    gone : (b c : Bool) → (c && not b) ≡ ((b || c) && not b)
    gone true true = refl
    gone true false = refl
    gone false c = refl

    kept : ((x == p) ≡ true) ⊎ ((x == p) ≡ false) → (x == t) ≡ false
        → ((x == p) || (among xs p && not (t == p))) ≡ (((x == p) || among xs p) && not (t == p))
    kept (inl y) n =
        let ne : (t == p) ≡ false = ne_eqb t p (λ e. both_ways (x == t) n (eq-eqb x t (eqb-true x p y ∙ sym e))) in
        rw (y, ne) refl
    kept (inr y) n = rw y refl

pub once_without : (t : ℕ) (xs : List ℕ) → Once xs → Once (without t xs)
once_without t [] o = tt
once_without t (x ∷ xs) o =
    elim (cases_Bool (x == t)) [
      | inl y ↦ subst Once (sym (without_hit t x xs y)) (once_without t xs o.1)
      | inr n ↦ subst Once (sym (without_miss t x xs n))
          (among-without t xs x ∙ and_left (among xs x) (not (t == x)) o.0, once_without t xs o.1)
    ]

pub without_absent : (t : ℕ) (xs : List ℕ) → among xs t ≡ false → without t xs ≡ xs
without_absent t [] h = refl
without_absent t (x ∷ xs) h =
    let b : ((x == t) ≡ false) × (among xs t ≡ false) = or_parts (x == t) (among xs t) h in
    without_miss t x xs b.0 ∙ ap (λ z. x ∷ z) (without_absent t xs b.1)

pub without-append : (t : ℕ) (xs ys : List ℕ) → among xs t ≡ false → without t (xs ++ ys) ≡ xs ++ without t ys
without-append t [] ys h = refl
without-append t (x ∷ xs) ys h =
    let b : ((x == t) ≡ false) × (among xs t ≡ false) = or_parts (x == t) (among xs t) h in
    without_miss t x (xs ++ ys) b.0 ∙ ap (λ z. x ∷ z) (without-append t xs ys b.1)

pub length-without : (t : ℕ) (xs : List ℕ) → Once xs → among xs t ≡ true → suc (length (without t xs)) ≡ length xs
length-without t [] o h = absurd (both_ways false refl h)
length-without t (x ∷ xs) o h =
    elim (cases_Bool (x == t)) [
      | inl y ↦ ap suc
          (ap length (without_hit t x xs y)
          ∙ ap length (without_absent t xs (subst (λ z. among xs z ≡ false) (eqb-true x t y) o.0)))
      | inr n ↦ ap suc
          (ap length (without_miss t x xs n)
          ∙ length-without t xs o.1
          (elim (or_cases (x == t) (among xs t) h) [ inl e ↦ clash (x == t) e n | inr i ↦ i ]))
    ]

ascends_lower : (a b : ℕ) (xs : List ℕ) → a < b → AscendsFrom b xs → AscendsFrom a xs
ascends_lower a b [] l w = tt
ascends_lower a b (c ∷ r) l w = (omega (arith, w.0), w.1)

pub ascends_from_without : (t a : ℕ) (xs : List ℕ) → AscendsFrom a xs → AscendsFrom a (without t xs)
ascends_from_without t a [] w = tt
ascends_from_without t a (b ∷ r) w =
    elim (cases_Bool (b == t)) [
      | inl y ↦ subst (AscendsFrom a) (sym (without_hit t b r y))
          (ascends_lower a b (without t r) w.0 (ascends_from_without t b r w.1))
      | inr n ↦ subst (AscendsFrom a) (sym (without_miss t b r n)) (w.0, ascends_from_without t b r w.1)
    ]

pub ascends_without : (t : ℕ) (xs : List ℕ) → Ascends xs → Ascends (without t xs)
ascends_without t [] w = tt
ascends_without t (b ∷ r) w =
    elim (cases_Bool (b == t)) [
      | inl y ↦ subst Ascends (sym (without_hit t b r y)) (ascends_tail b (without t r) (ascends_from_without t b r w))
      | inr n ↦ subst Ascends (sym (without_miss t b r n)) (ascends_from_without t b r w)
    ]

pub remaining_after : (remaining : List Bool) (o : Option ℕ) (r : ℕ) → ((x : ℕ) → o ≡ Some x → x < length remaining)
    → get_or (close remaining o) r false ≡ (get_or remaining r false && not (is_room r o))
remaining_after remaining None r known = sym (and-true (get_or remaining r false))
remaining_after remaining (Some x) r known =
    elim (cases_eq r x) [
      | inl e ↦
          let l : x < length remaining = known x refl in
          rw (e, eq-eqb x x refl)
          (get_or-set_same remaining x false false l ∙ sym (and_right (get_or remaining x false) false refl))
      | inr n ↦ rw (ne_eqb x r (λ e. n (sym e))) (get_or-set_other remaining x r false false n
          ∙ sym (and-true (get_or remaining r false)))
    ]

pub length-close : (remaining : List Bool) (o : Option ℕ) → length (close remaining o) ≡ length remaining
length-close remaining None = refl
length-close remaining (Some x) = length-set remaining x false

module _ (m : Market) where
  pub taken_push : (s : Stage) (past : List ℕ) (d : ℕ) (o : Option ℕ) → wish m s d ≡ o → d < m.people → (r : ℕ)
      → taken m s (among (past ++ d ∷ [])) r ≡ (taken m s (among past) r || is_room r o)
  taken_push s past d o e l r =
      one_truth (taken m s (among (past ++ d ∷ [])) r) (taken m s (among past) r || is_room r o)
      (λ h.
      let g : (q : ℕ) × (q < m.people) × (among (past ++ d ∷ []) q ≡ true) × (wish m s q ≡ Some r) =
      taken_gives m s (among (past ++ d ∷ [])) r h in
      elim (among_cases past (d ∷ []) g.0 g.2) [
        | inl i ↦ or_left (taken m s (among past) r) (is_room r o) (taken_from m s (among past) r g.0 g.1 i g.3)
        | inr i ↦
            let eq : d ≡ g.0 = eqb-true d g.0 (sym (or-false (d == g.0)) ∙ i) in
            or_right (taken m s (among past) r) (is_room r o)
            (is_room_from r o (sym e ∙ subst (λ z. wish m s z ≡ Some r) (sym eq) g.3))
      ])
      (λ h. elim (or_cases (taken m s (among past) r) (is_room r o) h) [
        | inl t ↦
            let g : (q : ℕ) × (q < m.people) × (among past q ≡ true) × (wish m s q ≡ Some r) =
            taken_gives m s (among past) r t in
            taken_from m s (among (past ++ d ∷ [])) r g.0 g.1 (among_left past (d ∷ []) g.0 g.2) g.3
        | inr i ↦ taken_from m s (among (past ++ d ∷ [])) r d l (among_right past (d ∷ []) d (among_self d []))
            (e ∙ is_room_gives r o i)
      ])

  pub removed_none : (s : Stage) → s ≡ removed m s (among [])
  unfolding removed
  removed_none s =
      same_stage s (removed m s (among [])) (λ p. sym (and-true (s.people p)))
      (λ r. sym (rw (nothing r) (and-true (s.rooms r))))
    where
      nothing : (r : ℕ) → taken m s (among []) r ≡ false
      nothing r = false_from_ne_true (taken m s (among []) r) (λ h.
          let g : (q : ℕ) × (q < m.people) × (false ≡ true) × (wish m s q ≡ Some r) = taken_gives m s (among []) r h in
          both_ways false refl g.2)

  -- the front of the line leaves with the wish
  pub front_leaves : (s : Stage) (past : List ℕ) (d : ℕ) (t : List ℕ) (remaining : List Bool) (o : Option ℕ)
      → stage_of (d ∷ t) remaining ≡ removed m s (among past) → among t d ≡ false → d < m.people → wish m s d ≡ o
      → ((x : ℕ) → o ≡ Some x → x < length remaining) → stage_of t (close remaining o) ≡ removed m s
      (among (past ++ d ∷ []))
  unfolding removed
  front_leaves s past d t remaining o e absent l w known =
      same_stage (stage_of t (close remaining o)) (removed m s (among (past ++ d ∷ []))) people rooms
    where
      before : (p : ℕ) → ((d == p) || among t p) ≡ (s.people p && not (among past p))
      before p = ap (λ (z : Stage). z.people p) e

      split_or : (b c : Bool) → (not (b || (c || false))) ≡ (not b && not c)
      split_or true c = refl
      split_or false true = refl
      split_or false false = refl

      people : (p : ℕ) → among t p ≡ (s.people p && not (among (past ++ d ∷ []) p))
      people p =
          rw (among-append past (d ∷ []) p)
          (elim (cases_Bool (d == p)) [
            | inl y ↦
                let none : among t p ≡ false = subst (λ z. among t z ≡ false) (eqb-true d p y) absent in
                rw (none, y)
                (sym (and_right (s.people p) (not (among past p || true))
                (rw (or_right (among past p) true refl) refl)))
            | inr n ↦
                let b : among t p ≡ (s.people p && not (among past p)) = sym (ap (λ z. z || among t p) n) ∙ before p in
                rw (b, n, or-false (among past p)) refl
          ])

      rooms : (r : ℕ) → get_or (close remaining o) r false ≡ (s.rooms r && not (taken m s (among (past ++ d ∷ [])) r))
      rooms r =
          remaining_after remaining o r known
          ∙ ap (λ b. b && not (is_room r o)) (ap (λ (z : Stage). z.rooms r) e)
          ∙ and_nots (s.rooms r) (taken m s (among past) r) (is_room r o)
          ∙ ap (λ b. s.rooms r && not b) (sym (taken_push s past d o w l r))

  -- those behind wait on if nobody takes the homes that they wait for
  pub waits_on : (s : Stage) (k : ℕ → Bool) (a : ℕ) (xs : List ℕ)
      → ((q h : ℕ) → among (a ∷ xs) q ≡ true → home m q ≡ Some h → taken m s k h ≡ false) → WaitsBehind m s a xs
      → WaitsBehind m (removed m s k) a xs
  waits_on s k a [] free w = tt
  waits_on s k a (b ∷ r) free w = (
    (
      w.0.0,
      w.0.1,
      wish_stays m s k b (λ h e.
          let z : Some w.0.0 ≡ Some h = sym w.0.2 ∙ e in
          let zz : w.0.0 ≡ h = cc in
          subst (λ x. taken m s k x ≡ false) zz (free a w.0.0 (among_self a (b ∷ r)) w.0.1)) ∙ w.0.2,
    ),
    waits_on s k b r (λ q h i e. free q h (among_more a (b ∷ r) q i) e) w.1,
  )

  pub waits_front : (s : Stage) (a : ℕ) (xs ys : List ℕ) → WaitsBehind m s a (xs ++ ys) → WaitsBehind m s a xs
  waits_front s a [] ys w = tt
  waits_front s a (b ∷ r) ys w = (w.0, waits_front s b r ys w.1)

  pub waits_back : (s : Stage) (a : ℕ) (xs : List ℕ) (b : ℕ) (ys : List ℕ) → WaitsBehind m s a (xs ++ (b ∷ ys))
      → WaitsBehind m s b ys
  waits_back s a [] b ys w = w.1
  waits_back s a (x ∷ xs) b ys w = waits_back s x xs b ys w.1

  -- a person right behind another waits for that one's home
  pub waits_pair : (s : Stage) (a : ℕ) (xs past : List ℕ) (d e : ℕ) (zs : List ℕ) → WaitsBehind m s a xs → a ∷ xs ≡ past
      ++ (d ∷ e ∷ zs) → wish m s e ≡ home m d
  waits_pair s a [] [] d e zs w q = let z : [] ≡ e ∷ zs = cc in absurd (cc)
  waits_pair s a (x ∷ xs) [] d e zs w q =
      let z : a ≡ d = cc in
      let z2 : x ≡ e = cc in
      subst (λ y. wish m s y ≡ home m d) z2 (w.0.2 ∙ sym w.0.1 ∙ ap (home m) z)
  waits_pair s a [] (y ∷ ys) d e zs w q = absurd (nonempty ys (ap tail_of q))
    where
      nonempty : (ys : List ℕ) → [] ≡ ys ++ (d ∷ e ∷ zs) → ⊥
      nonempty [] q = cc
      nonempty (y ∷ ys) q = cc
  waits_pair s a (x ∷ xs) (y ∷ ys) d e zs w q = waits_pair s x xs ys d e zs w.1 (ap tail_of q)

  pub wish_known : IsMarket m → (s : Stage) (p r : ℕ) → p < m.people → wish m s p ≡ Some r → r < m.rooms
  unfolding wish
  wish_known ok s p r l e = by_found (find s.rooms (list_of m p)) refl e
    where
      found_in : (q : ℕ → Bool) (xs : List ℕ) (x : ℕ) → find q xs ≡ Some x → (P : ℕ → Type 0)
          → ((k d : ℕ) → k < length xs → P (get_or xs k d)) → P x
      found_in q [] x e P all = absurd (cc)
      found_in q (y ∷ ys) x e P all =
          elim (cases_Bool (q y)) [
            | inl t ↦
                let z : Some y ≡ Some x = sym (rw t refl) ∙ e in
                let zz : y ≡ x = cc in
                subst P zz (all 0 0 (omega arith))
            | inr f ↦ found_in q ys x (sym (rw f refl) ∙ e) P (λ k d l. all (suc k) d (omega (arith, l)))
          ]

      by_found : (o : Option ℕ) → find s.rooms (list_of m p) ≡ o → or_else o (home m p) ≡ Some r → r < m.rooms
      by_found None f e = ok.indexed.homes_known p r l e
      by_found (Some x) f e =
          let z : x ≡ r = cc in
          subst (λ y. y < m.rooms) z
          (found_in s.rooms (list_of m p) x f (λ y. y < m.rooms) (ok.indexed.lists_known p l))

pub range_push : (a n : ℕ) → range_with_len a (n + 1) ≡ range_with_len a n ++ (a + n) ∷ []
range_push a n = rw add-one (more a n)
  where
    more : (a n : ℕ) → range_with_len a (suc n) ≡ range_with_len a n ++ (a + n) ∷ []
    more a zero = ap (λ z. z ∷ []) (sym (add-zero a))
    more a (suc n) = ap (λ z. a ∷ z) (more (a + 1) n ∙ ap (λ z. range_with_len (a + 1) n ++ z ∷ []) shift)
      where
        shift : (a + 1) + n ≡ a + suc n
        shift = omega arith

length_without_le : (t : ℕ) (xs : List ℕ) → length (without t xs) ≤ length xs
length_without_le t [] = omega arith
length_without_le t (x ∷ xs) =
    elim (cases_Bool (x == t)) [
      | inl y ↦ let e : length (without t (x ∷ xs)) ≡ length (without t xs) = ap length (without_hit t x xs y) in
          omega (arith, length_without_le t xs)
      | inr n ↦ let e : length (without t (x ∷ xs)) ≡ suc (length (without t xs)) = ap length (without_miss t x xs n) in
          omega (arith, length_without_le t xs)
    ]

-- removing a person makes the list shorter
pub length_without_lt : (t : ℕ) (xs : List ℕ) → among xs t ≡ true → length (without t xs) < length xs
length_without_lt t [] h = absurd (both_ways false refl h)
length_without_lt t (x ∷ xs) h =
    elim (cases_Bool (x == t)) [
      | inl y ↦ let e : length (without t (x ∷ xs)) ≡ length (without t xs) = ap length (without_hit t x xs y) in
          omega (arith, length_without_le t xs)
      | inr n ↦
          let e : length (without t (x ∷ xs)) ≡ suc (length (without t xs)) = ap length (without_miss t x xs n) in
          let ih : length (without t xs) < length xs =
          length_without_lt t xs
          (elim (or_cases (x == t) (among xs t) h) [ inl y ↦ clash (x == t) y n | inr i ↦ i ]) in
          omega arith
    ]
