-- Whatever the order in which cycles are removed, everybody gets the same.
use Rattle.std.proofs.Common.{◌≡◌, ℕ, ◌<◌, Bool, true, false, not, ◌&&◌, Option, Some, refl, sym, ap, ap₂, ◌∙◌, subst}
use Rattle.std.proofs.Common.{inl, inr}
use mathlib.Core.Path.{fun_ext}
use Rattle.std.proofs.lemmas.Bool.{cases_Bool, and_parts, and_from, false_from_ne_true, both_ways, not-true}
use Rattle.std.proofs.lemmas.Bool.{not_from_false}
use Rattle.std.specs.Cmp.Derive.{one_truth}
use Rattle.trade_line.specs.Market.{Market, is_room}
use Rattle.trade_line.specs.TopTradingCycles.{Stage, wish, taken, removed}
use Rattle.trade_line.specs.Inner.Removal.{IsTrade, Leads}
use Rattle.trade_line.specs.Inner.Removal.Leads.{done, trade}
use Rattle.trade_line.proofs.searches.Search.{clash, some_from, is_room_from}
use Rattle.trade_line.proofs.cycles.Exchange.{minus, trade_left_over, wish_keeps, taken_gives}

-- two stages with the same people and rooms are one
pub same_stage : (s t : Stage) → ((p : ℕ) → s.people p ≡ t.people p) → ((r : ℕ) → s.rooms r ≡ t.rooms r) → s ≡ t
same_stage s t e f = ap₂ (λ (a : ℕ → Bool) (b : ℕ → Bool). let x : Stage = record { people = a; rooms = b } in
    x) (fun_ext e) (fun_ext f)

module _ (m : Market) where
  pub taken_from : (s : Stage) (k : ℕ → Bool) (r q : ℕ) → q < m.people → k q ≡ true → wish m s q ≡ Some r
      → taken m s k r ≡ true
  unfolding taken
  taken_from s k r q h t w =
      some_from m.people (λ p. k p && is_room r (wish m s p)) q h
      (and_from (k q) (is_room r (wish m s q)) t (is_room_from r (wish m s q) w))

  -- a room that leaves with one of two trades leaves with the first, or then with what is left of the second
  taken_later : (s : Stage) (k l : ℕ → Bool) → IsTrade m s k → IsTrade m s l → (r : ℕ) → taken m s l r ≡ true
      → taken m s k r ≡ false → taken m (removed m s k) (minus k l) r ≡ true
  taken_later s k l tk tl r t f =
      let g : (q : ℕ) × (q < m.people) × (l q ≡ true) × (wish m s q ≡ Some r) = taken_gives m s l r t in
      let out : k g.0 ≡ false =
      false_from_ne_true (k g.0) (λ y. both_ways (taken m s k r) f (taken_from s k r g.0 g.1 y g.3)) in
      taken_from (removed m s k) (minus k l) r g.0 g.1 (and_from (l g.0) (not (k g.0)) g.2 (not_from_false (k g.0) out))
      (wish_keeps m s k l tk tl g.0 g.2 out ∙ g.3)

  taken_before : (s : Stage) (k l : ℕ → Bool) → IsTrade m s k → IsTrade m s l → (r : ℕ)
      → taken m (removed m s k) (minus k l) r ≡ true → taken m s l r ≡ true
  taken_before s k l tk tl r t =
      let g : (q : ℕ) × (q < m.people) × (minus k l q ≡ true) × (wish m (removed m s k) q ≡ Some r) =
      taken_gives m (removed m s k) (minus k l) r t in
      let b : (l g.0 ≡ true) × (not (k g.0) ≡ true) = and_parts (l g.0) (not (k g.0)) g.2 in
      taken_from s l r g.0 g.1 b.0 (sym (wish_keeps m s k l tk tl g.0 b.0 (not-true (k g.0) b.1)) ∙ g.3)

  room_order : (s : Stage) (k l : ℕ → Bool) → IsTrade m s k → IsTrade m s l → (r : ℕ)
      → (removed m (removed m s k) (minus k l)).rooms r ≡ true → (removed m (removed m s l) (minus l k)).rooms r ≡ true
  unfolding removed
  room_order s k l tk tl r h =
      let a : ((s.rooms r && not (taken m s k r)) ≡ true) × (not (taken m (removed m s k) (minus k l) r) ≡ true) =
      and_parts (s.rooms r && not (taken m s k r)) (not (taken m (removed m s k) (minus k l) r)) h in
      let b : (s.rooms r ≡ true) × (not (taken m s k r) ≡ true) = and_parts (s.rooms r) (not (taken m s k r)) a.0 in
      let nk : taken m s k r ≡ false = not-true (taken m s k r) b.1 in
      let nl : taken m s l r ≡ false =
      false_from_ne_true (taken m s l r)
      (λ y. both_ways (taken m (removed m s k) (minus k l) r) (not-true (taken m (removed m s k) (minus k l) r) a.1)
      (taken_later s k l tk tl r y nk)) in
      let nm : taken m (removed m s l) (minus l k) r ≡ false =
      false_from_ne_true (taken m (removed m s l) (minus l k) r)
      (λ y. both_ways (taken m s k r) nk (taken_before s l k tl tk r y)) in
      and_from (s.rooms r && not (taken m s l r)) (not (taken m (removed m s l) (minus l k) r))
      (and_from (s.rooms r) (not (taken m s l r)) b.0 (not_from_false (taken m s l r) nl))
      (not_from_false (taken m (removed m s l) (minus l k) r) nm)

  person_order : (a k l : Bool) → ((a && not k) && not (l && not k)) ≡ ((a && not l) && not (k && not l))
  person_order true true true = refl
  person_order true true false = refl
  person_order true false true = refl
  person_order true false false = refl
  person_order false k l = refl

  pub removed_order : (s : Stage) (k l : ℕ → Bool) → IsTrade m s k → IsTrade m s l
      → removed m (removed m s k) (minus k l) ≡ removed m (removed m s l) (minus l k)
  unfolding removed
  removed_order s k l tk tl =
      same_stage (removed m (removed m s k) (minus k l)) (removed m (removed m s l) (minus l k))
      (λ p. person_order (s.people p) (k p) (l p))
      (λ r. one_truth ((removed m (removed m s k) (minus k l)).rooms r)
      ((removed m (removed m s l) (minus l k)).rooms r)
      (room_order s k l tk tl r) (room_order s l k tl tk r))

  -- the result of removals from a stage gives each trade its wishes, and is a result from the stage after it
  pub trade_removed : (f : ℕ → Option ℕ) {s : Stage} → Leads m f s → (k : ℕ → Bool) → IsTrade m s k
      → ((p : ℕ) → k p ≡ true → f p ≡ wish m s p) × Leads m f (removed m s k)
  unfolding removed
  trade_removed f {s} (done none) k tk =
      (λ p h. clash (s.people p) (tk.remain p h) (none p), done (λ p. ap (λ b. b && not (k p)) (none p)))
  trade_removed f {s} (trade l tl fl d) k tk =
      let ih : ((p : ℕ) → minus l k p ≡ true → f p ≡ wish m (removed m s l) p)
      × Leads m f (removed m (removed m s l) (minus l k)) =
      trade_removed f d (minus l k) (trade_left_over m s l k tl tk) in (
        λ p h. elim (cases_Bool (l p)) [
          | inl y ↦ fl p y
          | inr n ↦ ih.0 p (and_from (k p) (not (l p)) h (not_from_false (l p) n)) ∙ wish_keeps m s l k tl tk p h n
        ],
        trade (minus k l) (trade_left_over m s k l tk tl)
            (λ p h. let b : (l p ≡ true) × (not (k p) ≡ true) = and_parts (l p) (not (k p)) h in
            fl p b.0 ∙ sym (wish_keeps m s k l tk tl p b.0 (not-true (k p) b.1)))
            (subst (λ t. Leads m f t) (removed_order s l k tl tk) ih.1),
      )

  pub wishes_lead_to_one : (f g : ℕ → Option ℕ) {s : Stage} → Leads m f s → Leads m g s → (p : ℕ)
      → s.people p ≡ true → f p ≡ g p
  unfolding removed
  wishes_lead_to_one f g {s} (done none) e p h = clash (s.people p) h (none p)
  wishes_lead_to_one f g {s} (trade k tk fk d) e p h =
      let r : ((p : ℕ) → k p ≡ true → g p ≡ wish m s p) × Leads m g (removed m s k) = trade_removed g e k tk in
      elim (cases_Bool (k p)) [
        | inl y ↦ fk p y ∙ sym (r.0 p y)
        | inr n ↦ wishes_lead_to_one f g d r.1 p (and_from (s.people p) (not (k p)) h (not_from_false (k p) n))
      ]
