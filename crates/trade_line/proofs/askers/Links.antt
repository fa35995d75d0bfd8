-- A line linked by numbers.
use Rattle.std.proofs.Common.{◌≡◌, ℕ, zero, suc, ◌+◌, ◌<◌, ◌≤◌, Bool, true, false, not, ◌==◌, List, [], ◌∷◌, ◌++◌}
use Rattle.std.proofs.Common.{length, get_or, set, refl, sym, ap, ap₂, ◌∙◌, subst, inl, inr, arith}
use Rattle.std.proofs.Common.{eqb-true, eq-eqb, ne_eqb, get_or-set_same, get_or-set_other, length-set}
use Rattle.std.proofs.lemmas.Bool.{cases_Bool, cases_eq, both_ways, or_cases, or_parts, or_left, or_right}
use Rattle.std.proofs.lemmas.Bool.{false_from_ne_true, and_parts, and_left, and_right}
use Rattle.std.proofs.Math.Bool.{and-true}
use Rattle.trade_line.specs.Below.{count_below}
use Rattle.trade_line.specs.Member.{among, Once}
use Rattle.trade_line.specs.Line.{tail_of, is_empty, without}
use Rattle.trade_line.specs.Inner.Links.{Links, along, linked_people, IsLinkedRing}
use Rattle.trade_line.specs.Inner.Queue.{last_of}
use Rattle.trade_line.proofs.cycles.Chain.{among_last}
use Rattle.trade_line.proofs.counts.Count.{count_less, count_most}
use Rattle.trade_line.proofs.askers.Lines.{among_self, among_more, among_left, among_right, once_right, once_apart}
use Rattle.trade_line.proofs.askers.Lines.{among-without, once_without, without_absent, without-append, without_hit}
use Rattle.trade_line.proofs.turns.States.{read_same}

-- the first of the list, or else z
abbrev pub first_or : ℕ → List ℕ → ℕ
first_or z [] = z
first_or z (x ∷ xs) = x

pub next_is : (next previous : List ℕ) (a : ℕ) (xs : List ℕ) (z : ℕ) → Links next previous a xs z
    → get_or next a 0 ≡ first_or z xs
next_is next previous a [] z l = l.0
next_is next previous a (x ∷ xs) z l = l.0

links_left : (next previous : List ℕ) (a : ℕ) (xs : List ℕ) (x : ℕ) (ys : List ℕ) (z : ℕ)
    → Links next previous a (xs ++ (x ∷ ys)) z
    → (get_or previous x 0 ≡ last_of a xs) × (get_or next x 0 ≡ first_or z ys)
links_left next previous a [] x ys z l = (l.1, next_is next previous x ys z l.2)
links_left next previous a (w ∷ xs) x ys z l = links_left next previous w xs x ys z l.2

-- writing elsewhere keeps the links
links_keep : (next previous next' previous' : List ℕ) (a : ℕ) (xs : List ℕ) (z : ℕ)
    → ((u : ℕ) → among (a ∷ xs) u ≡ true → get_or next' u 0 ≡ get_or next u 0)
    → ((u : ℕ) → among (z ∷ xs) u ≡ true → get_or previous' u 0 ≡ get_or previous u 0)
    → Links next previous a xs z → Links next' previous' a xs z
links_keep next previous next' previous' a [] z hn hp l = (hn a (among_self a []) ∙ l.0, hp z (among_self z []) ∙ l.1)
links_keep next previous next' previous' a (x ∷ xs) z hn hp l = (
  hn a (among_self a (x ∷ xs)) ∙ l.0,
  hp x (or_right (z == x) (among (x ∷ xs) x) (among_self x xs)) ∙ l.1,
  links_keep next previous next' previous' x xs z (λ u h. hn u (among_more a (x ∷ xs) u h))
      (λ u h. hp u
      (elim (or_cases (z == u) (among xs u) h) [
        | inl y ↦ or_left (z == u) (among (x ∷ xs) u) y
        | inr y ↦ or_right (z == u) (among (x ∷ xs) u)
            (among_more x xs u y)
      ])) l.2,
)

-- a number outside the list differs from all in it
apart_from : (xs : List ℕ) (a b : ℕ) → among xs a ≡ false → among xs b ≡ true → b ≡ a → ⊥
apart_from xs a b h i e = both_ways (among xs a) h (subst (λ z. among xs z ≡ true) e i)

-- x is cut out
pub link_cut_out : (next previous : List ℕ) (a : ℕ) (xs : List ℕ) (x : ℕ) (ys : List ℕ) (z before behind : ℕ)
    → before ≡ get_or previous x 0 → behind ≡ get_or next x 0 → before < length next
    → behind < length previous → Once (xs ++ (x ∷ ys)) → among (xs ++ (x ∷ ys)) a ≡ false
    → among (xs ++ (x ∷ ys)) z ≡ false
    → Links next previous a (xs ++ (x ∷ ys)) z → Links (set next before behind) (set previous behind before)
    a (xs ++ ys) z
link_cut_out next previous a [] x ys z before behind eb eh lb lh once na nz l =
    by_rest ys once na nz l.2 (eh ∙ next_is next previous x ys z l.2)
  where
    at_a : before ≡ a
    at_a = eb ∙ l.1

    new_next : get_or (set next before behind) a 0 ≡ behind
    new_next = subst (λ k. get_or (set next before behind) k 0 ≡ behind) at_a (get_or-set_same next before behind 0 lb)

    new_previous : get_or (set previous behind before) behind 0 ≡ a
    new_previous = get_or-set_same previous behind before 0 lh ∙ at_a

    by_rest : (ys : List ℕ) → Once (x ∷ ys) → among (x ∷ ys) a ≡ false → among (x ∷ ys) z ≡ false
        → Links next previous x ys z → behind ≡ first_or z ys
        → Links (set next before behind) (set previous behind before) a ys z
    by_rest [] once na nz l e = (new_next ∙ e, subst (λ k. get_or (set previous behind before) k 0 ≡ a) e new_previous)
    by_rest (y ∷ r) once na nz l e = (
      new_next ∙ e,
      subst (λ k. get_or (set previous behind before) k 0 ≡ a) e new_previous,
      links_keep next previous (set next before behind) (set previous behind before) y r z
          (λ u h. get_or-set_other next before u behind 0
          (λ k. apart_from (x ∷ y ∷ r) a u na (among_more x (y ∷ r) u h) (k ∙ at_a)))
          (λ u h. get_or-set_other previous behind u before 0 (λ k. elim (or_cases (z == u) (among r u) h) [
            | inl q ↦ apart_from (x ∷ y ∷ r) z y nz (among_more x (y ∷ r) y (among_self y r))
                (sym (eqb-true z u q ∙ k ∙ e))
            | inr q ↦ apart_from r y u once.1.0 q (k ∙ e)
          ]))
          l.2,
    )
link_cut_out next previous a (w ∷ xs) x ys z before behind eb eh lb lh once na nz l =
    let ends : (get_or previous x 0 ≡ last_of w xs) × (get_or next x 0 ≡ first_or z ys) =
    links_left next previous w xs x ys z l.2 in
    let nw : among (xs ++ (x ∷ ys)) w ≡ false = once.0 in
    let nza : ((w == z) ≡ false) × (among (xs ++ (x ∷ ys)) z ≡ false) =
    or_parts (w == z) (among (xs ++ (x ∷ ys)) z) nz in (
      get_or-set_other next before a behind 0
          (λ k. apart_from (w ∷ (xs ++ (x ∷ ys))) a before na (in_front (eb ∙ ends.0)) (sym k)) ∙ l.0,
      get_or-set_other previous behind w before 0 (λ k. apart w nw nza.0 (sym (k ∙ eh ∙ ends.1))) ∙ l.1,
      link_cut_out next previous w xs x ys z before behind eb eh lb lh once.1 nw nza.1 l.2,
    )
  where
    in_front : before ≡ last_of w xs → among (w ∷ (xs ++ (x ∷ ys))) before ≡ true
    in_front e =
        subst (λ k. among (w ∷ (xs ++ (x ∷ ys))) k ≡ true) (sym e)
        (among_left (w ∷ xs) (x ∷ ys) (last_of w xs) (among_last w xs))

    by_first : (zs : List ℕ) (w : ℕ) → among zs w ≡ false → (w == z) ≡ false → first_or z zs ≡ w → ⊥
    by_first [] w n nz e = both_ways (w == z) nz (eq-eqb w z (sym e))
    by_first (y ∷ r) w n nz e = apart_from (y ∷ r) w y n (among_self y r) e

    apart : (w : ℕ) → among (xs ++ (x ∷ ys)) w ≡ false → (w == z) ≡ false → first_or z ys ≡ w → ⊥
    apart w n nz e =
        by_first ys w
        (false_from_ne_true (among ys w)
        (λ y. both_ways (among (xs ++ (x ∷ ys)) w) n (among_right xs (x ∷ ys) w (among_more x ys w y)))) nz e

-- x is put between the end and the first
pub link_put_in : (next previous : List ℕ) (x : ℕ) (ys : List ℕ) (end first : ℕ) → first ≡ get_or next end 0
    → x < length next → end < length next → x < length previous → first < length previous → among ys x ≡ false
    → (x ≡ end → ⊥) → Once ys → among ys end ≡ false
    → Links next previous end ys end → Links (set (set next x first) end x) (set (set previous first x) x end)
    end (x ∷ ys) end
link_put_in next previous x ys end first ef lx le px pf nx ne once nend l = (
  get_or-set_same (set next x first) end x 0 (omega (arith, length-set next x first)),
  get_or-set_same (set previous first x) x end 0 (omega (arith, length-set previous first x)),
  by_rest ys nx once nend l (ef ∙ next_is next previous end ys end l),
)
  where
    next' : List ℕ
    next' = set (set next x first) end x

    previous' : List ℕ
    previous' = set (set previous first x) x end

    next_x : get_or (set (set next x first) end x) x 0 ≡ first
    next_x = get_or-set_other (set next x first) end x x 0 ne ∙ get_or-set_same next x first 0 lx

    previous_first : (first ≡ x → ⊥) → get_or (set (set previous first x) x end) first 0 ≡ x
    previous_first d = get_or-set_other (set previous first x) x first end 0 d ∙ get_or-set_same previous first x 0 pf

    by_rest : (ys : List ℕ) → among ys x ≡ false → Once ys → among ys end ≡ false
        → Links next previous end ys end → first ≡ first_or end ys
        → Links (set (set next x first) end x) (set (set previous first x) x end) x ys end
    by_rest [] nx once nend l e = (
      next_x ∙ e,
      subst (λ k. get_or (set (set previous first x) x end) k 0 ≡ x) e
          (previous_first (λ k. ne (sym k ∙ e))),
    )
    by_rest (y ∷ r) nx once nend l e = (
      next_x ∙ e,
      subst (λ k. get_or (set (set previous first x) x end) k 0 ≡ x) e
          (previous_first (λ k. apart_from (y ∷ r) x y nx (among_self y r) (sym e ∙ k))),
      links_keep next previous (set (set next x first) end x) (set (set previous first x) x end) y r end
          (λ u h. get_or-set_other (set next x first) end u x 0 (apart_from (y ∷ r) end u nend h)
          ∙ get_or-set_other next x u first 0 (apart_from (y ∷ r) x u nx h))
          (λ u h. get_or-set_other (set previous first x) x u end 0 (λ k. elim (or_cases (end == u) (among r u) h) [
            | inl q ↦ ne (sym k ∙ sym (eqb-true end u q))
            | inr q ↦ apart_from (y ∷ r) x u nx (among_more y r u q) k
          ]) ∙ get_or-set_other previous first u x 0 (λ k. elim (or_cases (end == u) (among r u) h) [
            | inl q ↦ apart_from (y ∷ r) end y nend (among_self y r) (sym (eqb-true end u q ∙ k ∙ e))
            | inr q ↦ apart_from r y u once.0 q (k ∙ e)
          ]))
          l.2,
    )

-- different numbers below n are at most n
pub once_few : (n : ℕ) (xs : List ℕ) → Once xs → ((p : ℕ) → among xs p ≡ true → p < n) → length xs ≤ n
once_few n xs o k = let c : length xs ≤ count_below n (among xs) = counted xs o k in
    omega (arith, count_most n (among xs))
  where
    counted : (xs : List ℕ) → Once xs → ((p : ℕ) → among xs p ≡ true → p < n)
        → length xs ≤ count_below n (among xs)
    counted [] o k = omega arith
    counted (x ∷ xs) o k =
        let ih : length xs ≤ count_below n (among xs) = counted xs o.1 (λ p h. k p (among_more x xs p h)) in
        let more : count_below n (among xs) < count_below n (among (x ∷ xs)) =
        count_less n (among xs) (among (x ∷ xs)) x (λ p h. among_more x xs p h) (k x (among_self x xs))
        (among_self x xs) o.0 in
        omega arith

along_links : (next previous : List ℕ) (end a : ℕ) (xs : List ℕ) (k : ℕ) → Links next previous a xs end
    → among xs end ≡ false → length xs ≤ k → along next end k (get_or next a 0) ≡ xs
along_links next previous end a [] zero l n f = refl
along_links next previous end a [] (suc k) l n f = rw (eq-eqb (get_or next a 0) end l.0) refl
along_links next previous end a (x ∷ xs) zero l n f = absurd (omega arith)
along_links next previous end a (x ∷ xs) (suc k) l n f =
    let b : ((x == end) ≡ false) × (among xs end ≡ false) = or_parts (x == end) (among xs end) n in
    ap (λ y. along next end (suc k) y) l.0
    ∙ rw b.0 (ap (λ z. x ∷ z) (along_links next previous end x xs k l.2 b.1 (omega arith)))

split_in : (xs : List ℕ) (p : ℕ) → among xs p ≡ true → (us : List ℕ) × (vs : List ℕ) × (xs ≡ us ++ (p ∷ vs))
split_in [] p h = absurd (both_ways false refl h)
split_in (y ∷ ys) p h =
    elim (or_cases (y == p) (among ys p) h) [
      | inl e ↦ ([], ys, ap (λ z. z ∷ ys) (eqb-true y p e))
      | inr i ↦ (let ih : (us : List ℕ) × (vs : List ℕ) × (ys ≡ us ++ (p ∷ vs)) = split_in ys p i in
          (y ∷ ih.0, ih.1, ap (λ z. y ∷ z) ih.2))
    ]

module _ (next previous : List ℕ) (waits : List Bool) (xs : List ℕ) (ring : IsLinkedRing next previous waits xs) where
  pub end_out : among xs (length waits) ≡ false
  end_out =
      false_from_ne_true (among xs (length waits)) (λ y. let l : length waits < length waits =
      ring.known (length waits) y in absurd (omega arith))

  pub people_are : linked_people next waits ≡ xs
  people_are = along_links next previous (length waits) (length waits) xs (length waits) ring.links end_out
      (once_few (length waits) xs ring.once ring.known)

  links_at : (us vs : List ℕ) (p : ℕ) → xs ≡ us ++ (p ∷ vs)
      → Links next previous (length waits) (us ++ (p ∷ vs)) (length waits)
  links_at us vs p e = subst (λ z. Links next previous (length waits) z (length waits)) e ring.links

  without_is : (us vs : List ℕ) (p : ℕ) → xs ≡ us ++ (p ∷ vs) → without p xs ≡ us ++ vs
  without_is us vs p e =
      let o : Once (us ++ (p ∷ vs)) = subst Once e ring.once in
      let n : among us p ≡ false =
      false_from_ne_true (among us p)
      (λ y. both_ways (among (p ∷ vs) p) (once_apart us (p ∷ vs) o p y) (among_self p vs)) in
      ap (without p) e ∙ without-append p us (p ∷ vs) n
      ∙ ap (λ z. us ++ z) (without_hit p p vs (eq-eqb p p refl) ∙ without_absent p vs (once_right us (p ∷ vs) o).0)

  last_known : (us : List ℕ) (vs : List ℕ) (p : ℕ) → xs ≡ us ++ (p ∷ vs)
      → last_of (length waits) us < length next
  last_known [] vs p e = omega (arith, ring.next_len)
  last_known (u ∷ us) vs p e =
      let i : last_of u us < length waits =
      ring.known (last_of u us)
      (subst (λ z. among z (last_of u us) ≡ true) (sym e)
      (among_left (u ∷ us) (p ∷ vs) (last_of u us) (among_last u us))) in
      omega (arith, ring.next_len)

  first_or_known : (vs : List ℕ) → ((q : ℕ) → among vs q ≡ true → q < length waits)
      → first_or (length waits) vs < length previous
  first_or_known [] h = omega (arith, ring.previous_len)
  first_or_known (v ∷ vs) h = let l : v < length waits = h v (among_self v vs) in omega (arith, ring.previous_len)

  pub before_known : (p before : ℕ) → among xs p ≡ true → before ≡ get_or previous p before
      → before < length next
  before_known p before i eb =
      let s : (us : List ℕ) × (vs : List ℕ) × (xs ≡ us ++ (p ∷ vs)) = split_in xs p i in
      let l : p < length waits = ring.known p i in
      let e : before ≡ last_of (length waits) s.0 =
      eb ∙ read_same previous p before 0 (omega (arith, ring.previous_len))
      ∙ (links_left next previous (length waits) s.0 p s.1 (length waits) (links_at s.0 s.1 p s.2)).0 in
      subst (λ z. z < length next) (sym e) (last_known s.0 s.1 p s.2)

  pub behind_known : (p behind : ℕ) → among xs p ≡ true → behind ≡ get_or next p behind
      → behind < length previous
  behind_known p behind i eh =
      let s : (us : List ℕ) × (vs : List ℕ) × (xs ≡ us ++ (p ∷ vs)) = split_in xs p i in
      let l : p < length waits = ring.known p i in
      let e : behind ≡ first_or (length waits) s.1 = eh ∙ read_same next p behind 0 (omega (arith, ring.next_len))
      ∙ (links_left next previous (length waits) s.0 p s.1 (length waits) (links_at s.0 s.1 p s.2)).1 in
      subst (λ z. z < length previous) (sym e)
      (first_or_known s.1
      (λ q h. ring.known q
      (subst (λ z. among z q ≡ true) (sym s.2) (among_right s.0 (p ∷ s.1) q (among_more p s.1 q h)))))

  pub cut_links : (p before behind : ℕ) → among xs p ≡ true → before ≡ get_or previous p before
      → behind ≡ get_or next p behind
      → Links (set next before behind) (set previous behind before) (length waits) (without p xs) (length waits)
  cut_links p before behind i eb eh =
      let s : (us : List ℕ) × (vs : List ℕ) × (xs ≡ us ++ (p ∷ vs)) = split_in xs p i in
      let l : p < length waits = ring.known p i in
      let o : Once (s.0 ++ (p ∷ s.1)) = subst Once s.2 ring.once in
      let n : among (s.0 ++ (p ∷ s.1)) (length waits) ≡ false =
      subst (λ z. among z (length waits) ≡ false) s.2 end_out in
      subst (λ z. Links (set next before behind) (set previous behind before) (length waits) z (length waits))
      (sym (without_is s.0 s.1 p s.2))
      (link_cut_out next previous (length waits) s.0 p s.1 (length waits) before behind
      (eb ∙ read_same previous p before 0 (omega (arith, ring.previous_len)))
      (eh ∙ read_same next p behind 0 (omega (arith, ring.next_len)))
      (before_known p before i eb) (behind_known p behind i eh) o n n (links_at s.0 s.1 p s.2))

  -- a person leaves
  pub cut_ring : (p before behind : ℕ) → among xs p ≡ true → before ≡ get_or previous p before
      → behind ≡ get_or next p behind
      → IsLinkedRing (set next before behind) (set previous behind before) (set waits p false) (without p xs)
  cut_ring p before behind i eb eh = record {
    next_len = length-set next before behind ∙ ring.next_len ∙ ap suc (sym (length-set waits p false));
    previous_len = length-set previous behind before ∙ ring.previous_len ∙ ap suc (sym (length-set waits p false));
    links = subst (λ z. Links (set next before behind) (set previous behind before) z (without p xs) z)
        (sym (length-set waits p false)) (cut_links p before behind i eb eh);
    once = once_without p xs ring.once;
    known = λ q h. subst (λ z. q < z) (sym (length-set waits p false))
        (ring.known q (and_parts (among xs q) (not (p == q)) (sym (among-without p xs q) ∙ h)).0);
    waits_are = λ q. elim (cases_eq q p) [
      | inl e ↦ subst (λ z. get_or (set waits p false) z false ≡ among (without p xs) z) (sym e)
          (get_or-set_same waits p false false (ring.known p i)
          ∙ sym (among-without p xs p ∙ and_right (among xs p) (not (p == p)) (rw (eq-eqb p p refl) refl)))
      | inr n ↦ get_or-set_other waits p q false false n ∙ ring.waits_are q
          ∙ sym (among-without p xs q ∙ rw (ne_eqb p q (λ z. n (sym z))) (and-true (among xs q)))
    ];
  }

  -- a person comes to the front
  module _ (p before behind end first : ℕ) (i : among xs p ≡ true) (eb : before ≡ get_or previous p before)
      (eh : behind ≡ get_or next p behind) (ee : end ≡ length waits)
      (ef : first ≡ get_or (set next before behind) end first) where
    l : p < length waits
    l = ring.known p i

    end_left_out : among (without p xs) (length waits) ≡ false
    end_left_out =
        among-without p xs (length waits) ∙ and_left (among xs (length waits)) (not (p == length waits)) end_out

    first_is_next : first ≡ get_or (set next before behind) (length waits) 0
    first_is_next = ap (λ z. z) ef ∙ ap (λ z. get_or (set next before behind) z first) ee
        ∙ read_same (set next before behind) (length waits) first 0
        (omega (arith, length-set next before behind, ring.next_len))

    pub first_known : first < length previous
    first_known =
        subst (λ z. z < length previous)
        (sym (first_is_next ∙ next_is (set next before behind) (set previous behind before) (length waits)
        (without p xs) (length waits) (cut_links p before behind i eb eh)))
        (first_or_known (without p xs)
        (λ q h. ring.known q (and_parts (among xs q) (not (p == q)) (sym (among-without p xs q) ∙ h)).0))

    pub front_ring : IsLinkedRing (set (set (set next before behind) p first) end p)
        (set (set (set previous behind before) first p) p end) waits (p ∷ without p xs)
    front_ring =
        subst (λ z. IsLinkedRing (set (set (set next before behind) p first) z p)
        (set (set (set previous behind before) first p) p z) waits (p ∷ without p xs)) (sym ee) record {
          next_len = length-set (set (set next before behind) p first) (length waits) p
              ∙ length-set (set next before behind) p first ∙ length-set next before behind ∙ ring.next_len;
          previous_len = length-set (set (set previous behind before) first p) p (length waits)
              ∙ length-set (set previous behind before) first p ∙ length-set previous behind before ∙ ring.previous_len;
          links = link_put_in (set next before behind) (set previous behind before) p (without p xs)
              (length waits) first first_is_next
              (omega (arith, length-set next before behind, ring.next_len, l))
              (omega (arith, length-set next before behind, ring.next_len))
              (omega (arith, length-set previous behind before, ring.previous_len, l))
              (omega (arith, length-set previous behind before, first_known))
              gone (λ e. omega (arith, l)) (once_without p xs ring.once) end_left_out
              (cut_links p before behind i eb eh);
          once = (gone, once_without p xs ring.once);
          known = λ q h. elim (or_cases (p == q) (among (without p xs) q) h) [
            | inl y ↦ subst (λ z. z < length waits) (eqb-true p q y) l
            | inr y ↦ ring.known q (and_parts (among xs q) (not (p == q)) (sym (among-without p xs q) ∙ y)).0
          ];
          waits_are = λ q. ring.waits_are q ∙ elim (cases_Bool (p == q)) [
            | inl y ↦ rw y (subst (λ z. among xs z ≡ true) (eqb-true p q y) i)
            | inr n ↦ rw (n, among-without p xs q) (rw n (sym (and-true (among xs q))))
          ];
        }
      where
        gone : among (without p xs) p ≡ false
        gone = among-without p xs p ∙ and_right (among xs p) (not (p == p)) (rw (eq-eqb p p refl) refl)

  -- the front leaves
  module _ (end first second : ℕ) (some : is_empty xs ≡ false) (ee : end ≡ length waits)
      (ef : first ≡ get_or next end first) where
    first_is : first ≡ first_or (length waits) xs
    first_is = ef ∙ ap (λ z. get_or next z first) ee ∙ read_same next (length waits) first 0
        (omega (arith, ring.next_len)) ∙ next_is next previous (length waits) xs (length waits) ring.links

    pub front_there : among xs first ≡ true
    front_there = by_line xs refl some
      where
        by_line : (ys : List ℕ) → xs ≡ ys → is_empty ys ≡ false → among xs first ≡ true
        by_line [] e n = absurd (cc)
        by_line (y ∷ ys) e n =
            subst (λ z. among z first ≡ true) (sym e)
            (subst (λ z. among (y ∷ ys) z ≡ true) (sym (first_is ∙ ap (first_or (length waits)) e)) (among_self y ys))

    pub front_before : end ≡ get_or previous first end
    front_before = by_line xs refl some
      where
        by_line : (ys : List ℕ) → xs ≡ ys → is_empty ys ≡ false → end ≡ get_or previous first end
        by_line [] e n = absurd (cc)
        by_line (y ∷ ys) e n =
            let w : first ≡ y = first_is ∙ ap (first_or (length waits)) e in
            let k : first < length waits = ring.known first front_there in
            let links : Links next previous (length waits) (y ∷ ys) (length waits) =
            subst (λ z. Links next previous (length waits) z (length waits)) e ring.links in
            ee ∙ sym links.1 ∙ ap (λ z. get_or previous z 0) (sym w) ∙ read_same previous first 0 end
            (omega (arith, ring.previous_len))

    pub front_out : without first xs ≡ tail_of xs
    front_out = by_line xs refl some
      where
        by_line : (ys : List ℕ) → xs ≡ ys → is_empty ys ≡ false → without first xs ≡ tail_of xs
        by_line [] e n = absurd (cc)
        by_line (y ∷ ys) e n =
            let w : first ≡ y = first_is ∙ ap (first_or (length waits)) e in
            let o : Once (y ∷ ys) = subst Once e ring.once in
            ap₂ without w e ∙ without_hit y y ys (eq-eqb y y refl) ∙ without_absent y ys o.0 ∙ sym (ap tail_of e)
