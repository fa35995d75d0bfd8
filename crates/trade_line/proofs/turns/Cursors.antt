-- The cursors, turn by turn.
use Rattle.std.proofs.Common.{◌≡◌, ℕ, ◌+◌, ◌-◌, ◌<◌, ◌≤◌, Bool, true, false, not, ◌==◌, List, [], ◌∷◌, ◌++◌, length}
use Rattle.std.proofs.Common.{Option, Some, None, get_or, set, drop, refl, sym, ap, ◌∙◌, subst, inl, inr, arith}
use Rattle.std.proofs.Common.{eqb-true, eq-eqb, ne_eqb, get_or-set_same, get_or-set_other, length-set}
use Rattle.std.proofs.lemmas.List.{get_or-drop, get_or_past, set_past}
use Rattle.std.proofs.lemmas.Bool.{cases_Bool, cases_eq, cases_lt, both_ways, or_cases, or_left, or_right, or_parts}
use Rattle.std.proofs.lemmas.Bool.{and_parts, false_from_ne_true, not-true}
use Rattle.trade_line.specs.Market.{Market, IsMarket, home, list_of, tenant_of}
use Rattle.trade_line.specs.Member.{among, Once}
use Rattle.trade_line.specs.Rank.{rank}
use Rattle.trade_line.specs.Line.{front_of, tail_of, without}
use Rattle.trade_line.specs.TopTradingCycles.{Stage, wish, removed}
use Rattle.trade_line.specs.Inner.Queue.{close, WaitsBehind}
use Rattle.trade_line.specs.Inner.State.{State, stage_at, has_asked, given_to}
use Rattle.trade_line.specs.Inner.Turn.{IsConsistent, Asks}
use Rattle.trade_line.specs.Inner.Loop.{Closed}
use Rattle.trade_line.specs.Inner.Reads.{skipped}
use Rattle.trade_line.specs.Inner.Looks.{cursor, CursorAt, StaysAt, StayBehind, StayInLine, AreCursors, KeepsCursors}
use Rattle.trade_line.proofs.counts.Looks.{skipped_gone, place_is, among_at}
use Rattle.trade_line.proofs.askers.Lines.{among_self, among_more, among-append, among_left, among_right, among-without}
use Rattle.trade_line.proofs.askers.Lines.{waits_front}
use Rattle.trade_line.proofs.turns.Loops.{ring_line}
use Rattle.trade_line.proofs.welfare.Ranks.{rank_listed}
use Rattle.trade_line.proofs.searches.Search.{clash}
use Rattle.trade_line.proofs.turns.Brought.{line_without}
use Rattle.trade_line.proofs.turns.Marks.{granted, marked, brought, tenant_home}
use Rattle.trade_line.proofs.turns.States.{same_state}

close_gone : (remaining : List Bool) (o : Option ℕ) (r : ℕ) → get_or remaining r false ≡ false
    → get_or (close remaining o) r false ≡ false
close_gone remaining None r h = h
close_gone remaining (Some x) r h =
    elim (cases_eq r x) [
      | inl e ↦ subst (λ z. get_or (set remaining x false) z false ≡ false) (sym e) (written remaining x)
      | inr n ↦ get_or-set_other remaining x r false false n ∙ h
    ]
  where
    written : (xs : List Bool) (i : ℕ) → get_or (set xs i false) i false ≡ false
    written xs i =
        elim (cases_lt i (length xs)) [
          | inl l ↦ get_or-set_same xs i false false l
          | inr l ↦ ap (λ z. get_or z i false) (set_past xs i false l) ∙ get_or_past xs i false l
        ]

module _ (m : Market) where
  removed_gone : (s : Stage) (k : ℕ → Bool) (r : ℕ) → s.rooms r ≡ false → (removed m s k).rooms r ≡ false
  unfolding removed
  removed_gone s k r h = rw h refl

  -- a person whose cursor is at an entry stays at its room
  pub stays_at : IsMarket m → (c : List ℕ) (p i x : ℕ) → p < m.people → i < length (list_of m p)
      → get_or (list_of m p) i 0 ≡ x → cursor c p ≡ i → StaysAt m c p (Some x)
  stays_at ok c p i x known l e at = (
    omega arith,
    rank_listed m ok p x (among_at (list_of m p) i x l e) ∙ place_is (list_of m p) i x
        (ok.lists_strict p known) l e ∙ sym at,
  )

  -- other marks and cursors that are the same for those behind
  behind_same : (asked asked' : List Bool) (c c' : List ℕ) (b : ℕ) (xs : List ℕ)
      → ((p : ℕ) → among xs p ≡ true → get_or asked' p false ≡ true → get_or asked p false ≡ true)
      → ((p : ℕ) → among xs p ≡ true → cursor c' p ≡ cursor c p) → StayBehind m asked c b xs
      → StayBehind m asked' c' b xs
  behind_same asked asked' c c' b [] ha hc w = tt
  behind_same asked asked' c c' b (x ∷ xs) ha hc w = (
    λ h. subst (λ z. (z < length (list_of m x)) × (rank m x (home m b) ≡ z)) (sym (hc x (among_self x xs)))
        (w.0 (ha x (among_self x xs) h)),
    behind_same asked asked' c c' x xs (λ p i. ha p (among_more x xs p i)) (λ p i. hc p (among_more x xs p i)) w.1,
  )

  pub behind_fresh : (asked : List Bool) (c : List ℕ) (b : ℕ) (xs : List ℕ)
      → ((p : ℕ) → among xs p ≡ true → get_or asked p false ≡ false) → StayBehind m asked c b xs
  behind_fresh asked c b [] h = tt
  behind_fresh asked c b (x ∷ xs) h = (
    λ y. clash (get_or asked x false) y (h x (among_self x xs)),
    behind_fresh asked c x xs
        (λ p i. h p (among_more x xs p i)),
  )

  behind_front : (asked : List Bool) (c : List ℕ) (b : ℕ) (xs ys : List ℕ)
      → StayBehind m asked c b (xs ++ ys) → StayBehind m asked c b xs
  behind_front asked c b [] ys w = tt
  behind_front asked c b (x ∷ xs) ys w = (w.0, behind_front asked c x xs ys w.1)

  behind_join : (asked : List Bool) (c : List ℕ) (b : ℕ) (xs ys : List ℕ) → StayBehind m asked c b xs
      → ((p : ℕ) → among ys p ≡ true → get_or asked p false ≡ false) → StayBehind m asked c b (xs ++ ys)
  behind_join asked c b [] ys w h = behind_fresh asked c b ys h
  behind_join asked c b (x ∷ xs) ys w h = (w.0, behind_join asked c x xs ys w.1 h)

  behind_tail : (asked : List Bool) (c : List ℕ) (b : ℕ) (xs : List ℕ) → StayBehind m asked c b xs
      → StayInLine m asked c xs
  behind_tail asked c b [] w = tt
  behind_tail asked c b (x ∷ xs) w = w.1

  behind_back : (asked : List Bool) (c : List ℕ) (b : ℕ) (xs ys : List ℕ)
      → StayBehind m asked c b (xs ++ ys) → StayInLine m asked c ys
  behind_back asked c b [] ys w = behind_tail asked c b ys w
  behind_back asked c b (x ∷ xs) ys w = behind_back asked c x xs ys w.1

  -- those who wait have read up to their wishes
  behind_wish : (s : Stage) (asked : List Bool) (c : List ℕ) (b : ℕ) (xs : List ℕ) → WaitsBehind m s b xs
      → StayBehind m asked c b xs → ((p : ℕ) → among xs p ≡ true → get_or asked p false ≡ true) → (p : ℕ)
      → among xs p ≡ true → StaysAt m c p (wish m s p)
  behind_wish s asked c b [] ws w all p h = absurd (both_ways false refl h)
  behind_wish s asked c b (x ∷ xs) ws w all p h =
      elim (or_cases (x == p) (among xs p) h) [
        | inl e ↦ subst (λ z. StaysAt m c z (wish m s z)) (eqb-true x p e)
            (subst (StaysAt m c x) (ws.0.1 ∙ sym ws.0.2) (w.0 (all x (among_self x xs))))
        | inr i ↦ behind_wish s asked c x xs ws.1 w.1 (λ q j. all q (among_more x xs q j)) p i
      ]

  -- the front asks and reads on up to v
  pub asked_cursors : (s : State) (a v : ℕ) (c : List ℕ) → IsConsistent m s → front_of s.line ≡ Some a
      → AreCursors m s c → v ≤ length (list_of m a)
      → ((k : ℕ) → k < v → (stage_at s).rooms (get_or (list_of m a) k 0) ≡ false)
      → AreCursors m (marked s a) (set c a v)
  asked_cursors s a v c st e tr le past = by_line s.line refl e
    where
      by_line : (l : List ℕ) → s.line ≡ l → front_of l ≡ Some a → AreCursors m (marked s a) (set c a v)
      by_line [] le f = absurd (cc)
      by_line (x ∷ t) le0 f =
          let xa : x ≡ a = cc in
          let is : s.line ≡ a ∷ t = le0 ∙ ap (λ y. y ∷ t) xa in
          let absent : among t a ≡ false = (subst Once is st.queue.once).0 in
          let known : a < m.people = st.queue.known a (subst (λ z. among z a ≡ true) (sym is) (among_self a t)) in
          let here : cursor (set c a v) a ≡ v = get_or-set_same c a v 0 (omega (arith, tr.cursors_len)) in
          let away : (p : ℕ) → (p ≡ a → ⊥) → cursor (set c a v) p ≡ cursor c p = λ p n. get_or-set_other c a p v 0 n in
          record {
            cursors_len = length-set c a v ∙ tr.cursors_len;
            within = λ p l. elim (cases_eq p a) [
              | inl y ↦ subst (λ z. cursor (set c a v) z ≤ length (list_of m z)) (sym y) (omega arith)
              | inr n ↦ (let z : cursor (set c a v) p ≡ cursor c p = away p n in omega (arith, tr.within p l))
            ];
            gone = λ p k l lk. elim (cases_eq p a) [
              | inl y ↦ subst (λ z. (stage_at s).rooms (get_or (list_of m z) k 0) ≡ false) (sym y)
                  (past k (let z : cursor (set c a v) p ≡ cursor (set c a v) a = ap (cursor (set c a v)) y in
                  omega arith))
              | inr n ↦ tr.gone p k l (let z : cursor (set c a v) p ≡ cursor c p = away p n in omega arith)
            ];
            waiting = subst (StayInLine m (set s.asked a true) (set c a v)) (sym is)
                (behind_same s.asked (set s.asked a true) c (set c a v) a t
                (λ p i h. sym
                (get_or-set_other s.asked a p true false
                (λ y. both_ways (among t a) absent (subst (λ z. among t z ≡ true) y i))) ∙ h)
                (λ p i. away p (λ y. both_ways (among t a) absent (subst (λ z. among t z ≡ true) y i)))
                (subst (StayInLine m s.asked c) is tr.waiting));
            served = λ p l h. subst (λ z. rank m p (given_to s p) ≡ z)
                (sym (away p
                (λ y. both_ways (among s.line p) h
                (subst (λ z. among s.line z ≡ true) (sym y)
                (subst (λ z. among z a ≡ true) (sym is) (among_self a t))))))
                (tr.served p l h);
          }

  -- the front leaves
  pub granted_cursors : (s : State) (a : ℕ) (o : Option ℕ) (c : List ℕ) → Asks m a s → AreCursors m s c
      → CursorAt m c a o → AreCursors m (granted s a o) c
  granted_cursors s a o c ask tr enough = record {
    cursors_len = tr.cursors_len;
    within = tr.within;
    gone = λ p k l lk. close_gone s.remaining o (get_or (list_of m p) k 0) (tr.gone p k l lk);
    waiting =
        subst (λ z. StayInLine m s.asked c (tail_of z)) (sym ask.split)
        (behind_tail s.asked c a (ask.behind ++ ask.fresh) (subst (StayInLine m s.asked c) ask.split tr.waiting));
    served = λ p l h. elim (cases_eq p a) [
      | inl e ↦ subst (λ z. CursorAt m c z (given_to (granted s a o) z)) (sym e)
          (subst (CursorAt m c a)
          (sym (get_or-set_same s.given a o None (let k : a < m.people = subst (λ z. z < m.people) e l in
          omega (arith, ask.fits.given_len)))) enough)
      | inr n ↦ subst (CursorAt m c p) (sym (get_or-set_other s.given a p o None n)) (tr.served p l (left p n h))
    ];
  }
    where
      left : (p : ℕ) → (p ≡ a → ⊥) → among (tail_of s.line) p ≡ false → among s.line p ≡ false
      left p n h =
          false_from_ne_true (among s.line p)
          (λ y. elim
          (or_cases (a == p) (among (ask.behind ++ ask.fresh) p) (subst (λ z. among z p ≡ true) ask.split y)) [
            | inl e ↦ n (sym (eqb-true a p e))
            | inr i ↦ both_ways (among (tail_of s.line) p) h (subst (λ z. among (tail_of z) p ≡ true) (sym ask.split) i)
          ])

  -- the tenant comes to the front
  pub brought_cursors : (s : State) (a room t : ℕ) (c : List ℕ) → Asks m a s → tenant_of m room ≡ Some t
      → among s.line t ≡ true → has_asked s t ≡ false → AreCursors m s c → StaysAt m c a (Some room)
      → AreCursors m (brought s t) c
  brought_cursors s a room t c ask e i new tr enough = record {
    cursors_len = tr.cursors_len;
    within = tr.within;
    gone = tr.gone;
    waiting = subst (StayBehind m (set s.asked t true) c t) (sym (line_without m s a t ask new)) (
      λ h. subst (StaysAt m c a) (sym (tenant_home m room t e).1) enough,
      behind_join (set s.asked t true) c a ask.behind (without t ask.fresh)
          (behind_same s.asked (set s.asked t true) c c a ask.behind
          (λ p j h. ask.waiting_asked p (among_more a ask.behind p j)) (λ p j. refl)
          (behind_front s.asked c a ask.behind ask.fresh (subst (StayInLine m s.asked c) ask.split tr.waiting))) fresh,
    );
    served = λ p l h. tr.served p l (left p h);
  }
    where
      fresh : (p : ℕ) → among (without t ask.fresh) p ≡ true → get_or (set s.asked t true) p false ≡ false
      fresh p h =
          let b : (among ask.fresh p ≡ true) × (not (t == p) ≡ true) =
          and_parts (among ask.fresh p) (not (t == p)) (sym (among-without t ask.fresh p) ∙ h) in
          get_or-set_other s.asked t p true false
          (λ pe. both_ways (t == p) (not-true (t == p) b.1) (eq-eqb t p (sym pe))) ∙ ask.fresh_unasked p b.0

      left : (p : ℕ) → among (t ∷ without t s.line) p ≡ false → among s.line p ≡ false
      left p h = false_from_ne_true (among s.line p) (λ y.
          let b : ((t == p) ≡ false) × (among (without t s.line) p ≡ false) =
          or_parts (t == p) (among (without t s.line) p) h in
          both_ways (among (without t s.line) p) b.1 (among-without t s.line p ∙ rw (y, b.0) refl))

  -- a loop leaves
  module _ (t room : ℕ) (s u : State) (c : List ℕ) (cl : Closed m t room s u) (tr : AreCursors m s c)
      (enough : StaysAt m c cl.ring.person (Some room)) where
    abbrev ring : List ℕ
    ring = cl.ring.person ∷ cl.ring.others

    line_is_ring_first : s.line ≡ ring ++ u.line
    line_is_ring_first = ring_line m t room s cl.ring ∙ ap (λ z. ring ++ z) (sym cl.line_is)

    ring_stays_behind : StayBehind m s.asked c cl.ring.person (cl.ring.others ++ u.line)
    ring_stays_behind = subst (StayInLine m s.asked c) line_is_ring_first tr.waiting

    -- all of it stay at their wishes
    in_ring : (p : ℕ) → among ring p ≡ true → StaysAt m c p (wish m (stage_at s) p)
    in_ring p y = elim (or_cases (cl.ring.person == p) (among cl.ring.others p) y) [
      | inl e ↦ subst (λ z. StaysAt m c z (wish m (stage_at s) z)) (eqb-true cl.ring.person p e)
          (subst (StaysAt m c cl.ring.person) (sym cl.ring.first_wish) enough)
      | inr i ↦ behind_wish (stage_at s) s.asked c cl.ring.person cl.ring.others waits
          (behind_front s.asked c cl.ring.person cl.ring.others u.line ring_stays_behind) all p i
    ]
      where
        waits : WaitsBehind m (stage_at s) cl.ring.person cl.ring.others
        waits = waits_front m (stage_at s) cl.ring.person cl.ring.others cl.ring.after
            (subst (λ z. WaitsBehind m (stage_at s) cl.ring.person z) cl.ring.behind_split cl.ring.asks.waits)

        all : (p : ℕ) → among cl.ring.others p ≡ true → get_or s.asked p false ≡ true
        all p h =
            cl.ring.asks.waiting_asked p
            (among_more cl.ring.person cl.ring.asks.behind p
            (subst (λ z. among z p ≡ true) (sym cl.ring.behind_split) (among_left cl.ring.others cl.ring.after p h)))

    pub closed_cursors : AreCursors m u c
    closed_cursors = record {
      cursors_len = tr.cursors_len;
      within = tr.within;
      gone = λ p k l lk. ap (λ (z : Stage). z.rooms (get_or (list_of m p) k 0)) cl.stage
          ∙ removed_gone (stage_at s) (among ring) (get_or (list_of m p) k 0) (tr.gone p k l lk);
      waiting =
          subst (λ z. StayInLine m z c u.line) (sym cl.asked_kept)
          (behind_back s.asked c cl.ring.person cl.ring.others u.line ring_stays_behind);
      served = λ p l h. elim (cases_Bool (among ring p)) [
        | inl y ↦ subst (CursorAt m c p) (sym (cl.given_ring p y)) (in_ring p y).1
        | inr n ↦ subst (CursorAt m c p) (sym (cl.given_kept p n))
            (tr.served p l
            (subst (λ z. among z p ≡ false) (sym line_is_ring_first) (among-append ring u.line p ∙ rw (n, h) refl)))
      ];
    }

    pub closed_left : (p : ℕ) → among s.line p ≡ true → among u.line p ≡ false → cursor c p < length (list_of m p)
    closed_left p h out =
        elim (or_cases (among ring p) (among u.line p)
        (sym (among-append ring u.line p) ∙ subst (λ z. among z p ≡ true) line_is_ring_first h)) [
          | inl y ↦ (in_ring p y).0
          | inr y ↦ absurd (both_ways (among u.line p) out y)
        ]

  -- the turns, for states given part by part
  pub marked_cursors : (s v : State) (a place : ℕ) (c d : List ℕ) → IsConsistent m s → front_of s.line ≡ Some a
      → v.line ≡ s.line → v.asked ≡ set s.asked a true → v.remaining ≡ s.remaining → v.given ≡ s.given
      → AreCursors m s c → d ≡ set c a place
      → place ≡ cursor c a + skipped (stage_at v).rooms (drop (cursor c a) (list_of m a))
      → place ≤ length (list_of m a) → AreCursors m v d
  marked_cursors s v a place c d st e x y z u tr de pe le =
      subst (λ q. AreCursors m q d) (sym (same_state v (marked s a) x y z u))
      (subst (AreCursors m (marked s a)) (sym de) (asked_cursors s a place c st e tr le past))
    where
      q : ℕ → Bool
      q = (stage_at v).rooms

      same : (r : ℕ) → (stage_at s).rooms r ≡ q r
      same r = ap (λ w. get_or w r false) (sym z)

      known : a < m.people
      known = by_line s.line refl e
        where
          by_line : (l : List ℕ) → s.line ≡ l → front_of l ≡ Some a → a < m.people
          by_line [] le0 f = absurd (cc)
          by_line (x ∷ t) le0 f =
              st.queue.known a (subst (λ w. among w a ≡ true) (sym le0) (let xa : x ≡ a = cc in
              subst (λ w. among (x ∷ t) w ≡ true) xa (among_self x t)))

      past : (k : ℕ) → k < place → (stage_at s).rooms (get_or (list_of m a) k 0) ≡ false
      past k l = elim (cases_lt k (cursor c a)) [
        | inl b ↦ tr.gone a k known b
        | inr b ↦
            let at : get_or (drop (cursor c a) (list_of m a)) (k - cursor c a) 0 ≡ get_or (list_of m a)
            (cursor c a + (k - cursor c a)) 0 = get_or-drop (cursor c a) (list_of m a) (k - cursor c a) 0 in
            let sum : cursor c a + (k - cursor c a) ≡ k = omega arith in
            same (get_or (list_of m a) k 0)
            ∙ ap q (sym (at ∙ ap (λ n. get_or (list_of m a) n 0) sum))
            ∙ skipped_gone q (drop (cursor c a) (list_of m a)) (k - cursor c a) (omega arith)
      ]

  pub front_in : (a : ℕ) (s : State) → Asks m a s → among s.line a ≡ true
  front_in a s ask = subst (λ z. among z a ≡ true) (sym ask.split) (among_self a (ask.behind ++ ask.fresh))

  pub granted_parts : (a : ℕ) (o : Option ℕ) (s v : State) → Asks m a s → v.line ≡ tail_of s.line
      → v.asked ≡ s.asked → v.remaining ≡ close s.remaining o → v.given ≡ set s.given a o
      → (c : List ℕ) → AreCursors m s c → CursorAt m c a o → AreCursors m v c
  granted_parts a o s v ask x y z u c tr enough =
      subst (λ q. AreCursors m q c) (sym (same_state v (granted s a o) x y z u)) (granted_cursors s a o c ask tr enough)

  -- nobody but the front leaves
  pub others_wait : (a : ℕ) (s v : State) → Asks m a s → v.line ≡ tail_of s.line → (p : ℕ) → (p ≡ a → ⊥)
      → among v.line p ≡ among s.line p
  others_wait a s v ask x p n =
      let ne : (a == p) ≡ false = ne_eqb a p (λ y. n (sym y)) in
      ap (λ z. among z p) (x ∙ ap tail_of ask.split) ∙ sym (ap (λ z. among z p) ask.split ∙ rw ne refl)

  pub granted_keeps : (a room : ℕ) (s v : State) → Asks m a s → v.line ≡ tail_of s.line
      → v.asked ≡ s.asked → v.remaining ≡ close s.remaining (Some room) → v.given ≡ set s.given a (Some room)
      → KeepsCursors m a room s v
  granted_keeps a room s v ask x y z u = record {
    inside = λ p h. elim (cases_eq p a) [
      | inl e ↦ subst (λ w. among s.line w ≡ true) (sym e) (front_in a s ask)
      | inr n ↦ sym (others_wait a s v ask x p n) ∙ h
    ];
    cursors = λ c tr enough. granted_parts a (Some room) s v ask x y z u c tr enough.1;
    left = λ c tr enough p h out. elim (cases_eq p a) [
      | inl e ↦ subst (λ w. cursor c w < length (list_of m w)) (sym e) enough.0
      | inr n ↦ absurd (both_ways (among v.line p) out (others_wait a s v ask x p n ∙ h))
    ];
  }

  pub brought_keeps : (a room t : ℕ) (s v : State) → Asks m a s → tenant_of m room ≡ Some t
      → among s.line t ≡ true → get_or s.asked t false ≡ false → v.line ≡ t ∷ without t s.line
      → v.asked ≡ set s.asked t true → v.remaining ≡ s.remaining → v.given ≡ s.given
      → KeepsCursors m a room s v
  brought_keeps a room t s v ask e i new x y z u = record {
    inside = λ p h. elim (or_cases (t == p) (among (without t s.line) p) (subst (λ w. among w p ≡ true) x h)) [
      | inl b ↦ subst (λ w. among s.line w ≡ true) (eqb-true t p b) i
      | inr b ↦ (and_parts (among s.line p) (not (t == p)) (sym (among-without t s.line p) ∙ b)).0
    ];
    cursors = λ c tr enough. subst (λ q. AreCursors m q c) (sym (same_state v (brought s t) x y z u))
        (brought_cursors s a room t c ask e i new tr enough);
    left = λ c tr enough p h out. absurd
        (both_ways (among v.line p) out (subst (λ w. among w p ≡ true) (sym x) (elim (cases_Bool (t == p)) [
          | inl b ↦ or_left (t == p) (among (without t s.line) p) b
          | inr b ↦ or_right (t == p) (among (without t s.line) p) (among-without t s.line p ∙ rw (h, b) refl)
        ])));
  }

  pub closed_keeps : (a t room : ℕ) (s u : State) → Asks m a s → Closed m t room s u
      → KeepsCursors m a room s u
  closed_keeps a t room s u ask cl = record {
    inside = λ p h. subst (λ w. among w p ≡ true) (sym line) (among_right (cl.ring.person ∷ cl.ring.others) u.line p h);
    cursors = λ c tr enough. closed_cursors t room s u c cl tr (subst (λ w. StaysAt m c w (Some room)) same enough);
    left = λ c tr enough. closed_left t room s u c cl tr (subst (λ w. StaysAt m c w (Some room)) same enough);
  }
    where
      line : s.line ≡ (cl.ring.person ∷ cl.ring.others) ++ u.line
      line = ring_line m t room s cl.ring ∙ ap (λ z. (cl.ring.person ∷ cl.ring.others) ++ z) (sym cl.line_is)

      same : a ≡ cl.ring.person
      same = let z : Some a ≡ Some cl.ring.person = sym (ap front_of ask.split) ∙ ap front_of cl.ring.asks.split in cc

  pub tail_gone : (a : ℕ) (s v : State) → Asks m a s → v.line ≡ tail_of s.line → among v.line a ≡ false
  tail_gone a s v ask x =
      subst (λ z. among z a ≡ false) (sym (x ∙ ap tail_of ask.split)) (subst Once ask.split ask.once).0
