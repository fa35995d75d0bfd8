-- Ranks, and that nothing available ranks better than the wish.
use Rattle.std.proofs.Common.{◌≡◌, ℕ, suc, ◌+◌, ◌<◌, ◌≤◌, Bool, true, false, cond, ◌==◌, ◌≢◌, List, [], ◌∷◌, length}
use Rattle.std.proofs.Common.{Option, Some, None, is_none, find, All, refl, sym, ap, ◌∙◌, subst, inl, inr, arith}
use Rattle.std.proofs.Common.{eqb-true, eq-eqb, ne_eqb}
use Rattle.std.proofs.lemmas.Bool.{cases_Bool, or_cases, or_left, or_right, both_ways, cond-true, cond-false}
use Rattle.trade_line.specs.Below.{or_else}
use Rattle.trade_line.specs.Market.{Market, IsMarket, home, list_of, is_room}
use Rattle.trade_line.specs.TopTradingCycles.{Stage, wish}
use Rattle.trade_line.specs.Member.{among}
use Rattle.trade_line.specs.Rank.{place, rank}
use Rattle.trade_line.proofs.searches.Search.{clash, find_passes, is_room_gives, is_room_from}

pub place_lt : (x : ℕ) (xs : List ℕ) → among xs x ≡ true → place x xs < length xs
place_lt x [] h = absurd (both_ways false refl h)
place_lt x (y ∷ ys) h =
    elim (cases_Bool (y == x)) [
      | inl t ↦ rw t (omega arith)
      | inr f ↦ rw f
          (let ih : place x ys < length ys =
          place_lt x ys (elim (or_cases (y == x) (among ys x) h) [ inl t ↦ clash (y == x) t f | inr i ↦ i ]) in
          omega arith)
    ]

pub find_among : (q : ℕ → Bool) (xs : List ℕ) (y : ℕ) → find q xs ≡ Some y → among xs y ≡ true
find_among q [] y e = absurd (cc)
find_among q (z ∷ zs) y e =
    elim (cases_Bool (q z)) [
      | inl t ↦
          let w : Some z ≡ Some y = sym (rw t refl) ∙ e in
          let zy : z ≡ y = cc in
          or_left (z == y) (among zs y) (eq-eqb z y zy)
      | inr f ↦ or_right (z == y) (among zs y) (find_among q zs y (sym (rw f refl) ∙ e))
    ]

pub find_none : (q : ℕ → Bool) (xs : List ℕ) → find q xs ≡ None → (r : ℕ) → among xs r ≡ true → q r ≡ false
find_none q [] e r h = absurd (both_ways false refl h)
find_none q (z ∷ zs) e r h =
    elim (cases_Bool (q z)) [
      | inl t ↦ let w : Some z ≡ None = sym (rw t refl) ∙ e in absurd (cc)
      | inr f ↦ elim (or_cases (z == r) (among zs r) h) [
        | inl y ↦ subst (λ x. q x ≡ false) (eqb-true z r y) f
        | inr i ↦ find_none q zs (sym (rw f refl) ∙ e) r i
      ]
    ]

-- what is found comes before all others that pass
pub find_first : (q : ℕ → Bool) (xs : List ℕ) (y r : ℕ) → find q xs ≡ Some y → q r ≡ true → among xs r ≡ true
    → place r xs ≤ place y xs → r ≡ y
find_first q [] y r e t h le = absurd (both_ways false refl h)
find_first q (z ∷ zs) y r e t h le =
    elim (cases_Bool (q z)) [
      | inl qz ↦
          let w : Some z ≡ Some y = sym (rw qz refl) ∙ e in
          let zy : z ≡ y = cc in
          let py : place y (z ∷ zs) ≡ 0 = cond-true (z == y) 0 (suc (place y zs)) (eq-eqb z y zy) in
          elim (cases_Bool (z == r)) [
            | inl zr ↦ sym (eqb-true z r zr) ∙ zy
            | inr nr ↦
                let pr : place r (z ∷ zs) ≡ suc (place r zs) = cond-false (z == r) 0 (suc (place r zs)) nr in
                absurd (omega arith)
          ]
      | inr qz ↦
          let e2 : find q zs ≡ Some y = sym (rw qz refl) ∙ e in
          let qy : q y ≡ true = find_passes q zs y e2 in
          let nr : (z == r) ≡ false = ne_eqb z r (λ x. both_ways (q z) qz (subst (λ v. q v ≡ true) (sym x) t)) in
          let ny : (z == y) ≡ false = ne_eqb z y (λ x. both_ways (q z) qz (subst (λ v. q v ≡ true) (sym x) qy)) in
          let pr : place r (z ∷ zs) ≡ suc (place r zs) = cond-false (z == r) 0 (suc (place r zs)) nr in
          let py : place y (z ∷ zs) ≡ suc (place y zs) = cond-false (z == y) 0 (suc (place y zs)) ny in
          find_first q zs y r e2 t (elim (or_cases (z == r) (among zs r) h) [ inl u ↦ clash (z == r) u nr | inr i ↦ i ])
          (omega arith)
    ]

pub not_among : (xs : List ℕ) (r : ℕ) → All (λ x. x ≢ r) xs → among xs r ≡ false
not_among [] r h = refl
not_among (x ∷ xs) r h =
    let ne : (x == r) ≡ false = ne_eqb x r (h 0 0 (omega arith)) in
    rw ne (not_among xs r (λ k d l. h (suc k) d (omega (arith, l))))

module _ (m : Market) (ok : IsMarket m) where
  pub rank_listed : (p x : ℕ) → among (list_of m p) x ≡ true → rank m p (Some x) ≡ place x (list_of m p)
  rank_listed p x h =
      cond-true (among (list_of m p) x) (place x (list_of m p))
      (cond (is_room x (home m p)) (length (list_of m p)) (length (list_of m p) + 1)) h

  pub rank_unlisted : (p x : ℕ) → among (list_of m p) x ≡ false → rank m p (Some x) ≡ cond (is_room x (home m p))
      (length (list_of m p)) (length (list_of m p) + 1)
  rank_unlisted p x h =
      cond-false (among (list_of m p) x) (place x (list_of m p))
      (cond (is_room x (home m p)) (length (list_of m p)) (length (list_of m p) + 1)) h

  pub rank_home : (p : ℕ) → p < m.people → rank m p (home m p) ≡ length (list_of m p)
  rank_home p l = by_home (home m p) refl
    where
      by_home : (o : Option ℕ) → home m p ≡ o → rank m p o ≡ length (list_of m p)
      by_home None e = cond-true (is_none (home m p)) (length (list_of m p)) (length (list_of m p) + 1) (ap is_none e)
      by_home (Some h) e =
          rank_unlisted p h (not_among (list_of m p) h (ok.own_unlisted p h l e))
          ∙ cond-true (is_room h (home m p)) (length (list_of m p)) (length (list_of m p) + 1)
          (is_room_from h (home m p) e)

  -- nothing available ranks better than the wish
  pub wish_is_best : (s : Stage) (p : ℕ) → p < m.people → (x : Option ℕ) → ((r : ℕ) → x ≡ Some r → s.rooms r ≡ true)
      → rank m p x ≤ rank m p (wish m s p) → x ≡ wish m s p
  unfolding wish
  wish_is_best s p l x can le = by_found (find s.rooms (list_of m p)) refl le
    where
      listed : (r : ℕ) → x ≡ Some r → (y : ℕ) → find s.rooms (list_of m p) ≡ Some y → rank m p x ≤ rank m p (Some y)
          → among (list_of m p) r ≡ true → x ≡ Some y
      listed r e y f le i =
          let ry : rank m p (Some y) ≡ place y (list_of m p) = rank_listed p y (find_among s.rooms (list_of m p) y f) in
          let rx : rank m p x ≡ place r (list_of m p) = ap (rank m p) e ∙ rank_listed p r i in
          e ∙ ap Some (find_first s.rooms (list_of m p) y r f (can r e) i (omega arith))

      by_found : (o : Option ℕ) → find s.rooms (list_of m p) ≡ o → rank m p x ≤ rank m p (or_else o (home m p))
          → x ≡ or_else o (home m p)
      by_found (Some y) f le = by_room x refl
        where
          ry : rank m p (Some y) ≡ place y (list_of m p)
          ry = rank_listed p y (find_among s.rooms (list_of m p) y f)

          py : place y (list_of m p) < length (list_of m p)
          py = place_lt y (list_of m p) (find_among s.rooms (list_of m p) y f)

          by_room : (o : Option ℕ) → x ≡ o → x ≡ Some y
          by_room None e =
              let rx : rank m p x ≡ rank m p None = ap (rank m p) e in
              elim (cases_Bool (is_none (home m p))) [
                | inl t ↦ let rn : rank m p None ≡ length (list_of m p) =
                    cond-true (is_none (home m p)) (length (list_of m p)) (length (list_of m p) + 1) t in
                    absurd (omega (arith, py, ry))
                | inr t ↦ let rn : rank m p None ≡ length (list_of m p) + 1 =
                    cond-false (is_none (home m p)) (length (list_of m p)) (length (list_of m p) + 1) t in
                    absurd (omega (arith, py, ry))
              ]
          by_room (Some r) e =
              elim (cases_Bool (among (list_of m p) r)) [
                | inl i ↦ listed r e y f le i
                | inr n ↦
                    let rx : rank m p x ≡ cond (is_room r (home m p)) (length (list_of m p))
                    (length (list_of m p) + 1) = ap (rank m p) e ∙ rank_unlisted p r n in
                    elim (cases_Bool (is_room r (home m p))) [
                      | inl t ↦ let rt : cond (is_room r (home m p)) (length (list_of m p))
                          (length (list_of m p) + 1) ≡ length (list_of m p) =
                          cond-true (is_room r (home m p)) (length (list_of m p)) (length (list_of m p) + 1) t in
                          absurd (omega (arith, py, ry))
                      | inr t ↦ let rt : cond (is_room r (home m p)) (length (list_of m p))
                          (length (list_of m p) + 1) ≡ length (list_of m p) + 1 =
                          cond-false (is_room r (home m p)) (length (list_of m p)) (length (list_of m p) + 1) t in
                          absurd (omega (arith, py, ry))
                    ]
              ]
      by_found None f le = by_room x refl
        where
          rh : rank m p (home m p) ≡ length (list_of m p)
          rh = rank_home p l

          none_is : (o : Option ℕ) → is_none o ≡ true → None ≡ o
          none_is None h = refl
          none_is (Some h) t = absurd (both_ways false refl t)

          by_room : (o : Option ℕ) → x ≡ o → x ≡ home m p
          by_room None e =
              elim (cases_Bool (is_none (home m p))) [
                | inl t ↦ e ∙ none_is (home m p) t
                | inr t ↦
                    let rn : rank m p x ≡ length (list_of m p) + 1 =
                    ap (rank m p) e ∙ cond-false (is_none (home m p)) (length (list_of m p))
                    (length (list_of m p) + 1) t in
                    absurd (omega (arith, rh))
              ]
          by_room (Some r) e =
              elim (cases_Bool (among (list_of m p) r)) [
                | inl i ↦ clash (s.rooms r) (can r e) (find_none s.rooms (list_of m p) f r i)
                | inr n ↦
                    let rx : rank m p x ≡ cond (is_room r (home m p)) (length (list_of m p))
                    (length (list_of m p) + 1) = ap (rank m p) e ∙ rank_unlisted p r n in
                    elim (cases_Bool (is_room r (home m p))) [
                      | inl t ↦ e ∙ sym (is_room_gives r (home m p) t)
                      | inr t ↦ let rt : cond (is_room r (home m p)) (length (list_of m p))
                          (length (list_of m p) + 1) ≡ length (list_of m p) + 1 =
                          cond-false (is_room r (home m p)) (length (list_of m p)) (length (list_of m p) + 1) t in
                          absurd (omega (arith, rh))
                    ]
              ]
