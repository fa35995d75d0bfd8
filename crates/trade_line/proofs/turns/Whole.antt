-- A whole run: its start and its end.
use Rattle.trade_line.proofs.askers.Lines.{among_none}
use Rattle.trade_line.proofs.counts.Asked.{asked_none}
use Rattle.std.proofs.Common.{◌≡◌, ℕ, zero, suc, ◌+◌, ◌<◌, ◌≤◌, true, false, not, ◌&&◌, ◌==◌, List, [], ◌∷◌, length}
use Rattle.std.proofs.Common.{replicate, None, get_or, refl, sym, ap, ◌∙◌, subst, inl, inr, arith, ltb, ltb-true}
use Rattle.std.proofs.Common.{lt-ltb, le-ltb, eqb-true, eq-eqb}
use Rattle.std.specs.List.{range_with_len}
use Rattle.std.proofs.lemmas.List.FromFn.{length-range_with_len, fill_by_all}
use Rattle.std.proofs.lemmas.List.{get_or_past, get_or-replicate, length-replicate}
use Rattle.std.proofs.lemmas.Bool.{cases_lt, or_cases, or_left, or_right, false_from_ne_true, both_ways, and_parts}
use Rattle.std.specs.Cmp.Derive.{one_truth}
use Rattle.trade_line.specs.Below.{count_below}
use Rattle.trade_line.specs.Market.{Market, IsMarket, is_tenant, tenant_count}
use Rattle.trade_line.specs.Inner.Fresh.{IsFresh}
use Rattle.trade_line.specs.TopTradingCycles.{start, gets, ttc}
use Rattle.trade_line.specs.Inner.Removal.{Leads}
use Rattle.trade_line.specs.Member.{among, Once}
use Rattle.trade_line.specs.Inner.Queue.{AscendsFrom, Ascends, Settles}
use Rattle.trade_line.specs.Line.{front_of}
use Rattle.trade_line.specs.Inner.State.{State, stage_at, given_to}
use Rattle.trade_line.specs.Inner.Run.{Underway}
use Rattle.trade_line.specs.Inner.Turn.{asked_in}
use Rattle.trade_line.specs.Inner.Removal.Leads.{done}
use Rattle.trade_line.proofs.counts.Count.{count_most, count_le}
use Rattle.trade_line.proofs.cycles.Unique.{same_stage}
use Rattle.trade_line.proofs.cycles.Steps.{leads_gets}

pub range_has : (a n p : ℕ) → a ≤ p → p < a + n → among (range_with_len a n) p ≡ true
range_has a zero p l h = absurd (omega arith)
range_has a (suc n) p l h =
    elim (cases_lt a p) [
      | inl b ↦ or_right (a == p) (among (range_with_len (a + 1) n) p)
          (range_has (a + 1) n p (omega arith) (omega arith))
      | inr b ↦ or_left (a == p) (among (range_with_len (a + 1) n) p) (eq-eqb a p (omega arith))
    ]

pub range_within : (a n p : ℕ) → among (range_with_len a n) p ≡ true → (a ≤ p) × (p < a + n)
range_within a zero p h = absurd (both_ways false refl h)
range_within a (suc n) p h =
    elim (or_cases (a == p) (among (range_with_len (a + 1) n) p) h) [
      | inl e ↦ let z : a ≡ p = eqb-true a p e in (omega arith, omega arith)
      | inr i ↦ let r : (a + 1 ≤ p) × (p < (a + 1) + n) = range_within (a + 1) n p i in
          (omega (arith, r.0), omega (arith, r.1))
    ]

pub range_once : (a n : ℕ) → Once (range_with_len a n)
range_once a zero = tt
range_once a (suc n) = (
  false_from_ne_true (among (range_with_len (a + 1) n) a) (λ h. let r : (a + 1 ≤ a) × (a < (a + 1) + n) =
      range_within (a + 1) n a h in absurd (omega (arith, r.0))),
  range_once (a + 1) n,
)

range_ascends_from : (b a n : ℕ) → b < a → AscendsFrom b (range_with_len a n)
range_ascends_from b a zero h = tt
range_ascends_from b a (suc n) h = (h, range_ascends_from a (a + 1) n (omega arith))

range_ascends : (a n : ℕ) → Ascends (range_with_len a n)
range_ascends a zero = tt
range_ascends a (suc n) = range_ascends_from a (a + 1) n (omega arith)

pub all_same : {A : Type 0} (n : ℕ) (x : A) (i : ℕ) → get_or (replicate n x) i x ≡ x
all_same zero x i = refl
all_same (suc n) x zero = refl
all_same (suc n) x (suc i) = all_same n x i

module _ (m : Market) where
  start_stage : (s : State) → s.line ≡ range_with_len 0 m.people → s.remaining ≡ replicate m.rooms true
      → stage_at s ≡ start m
  unfolding start
  start_stage s le ve = same_stage (stage_at s) (start m) people rooms
    where
      people : (p : ℕ) → among s.line p ≡ ltb p m.people
      people p = one_truth (among s.line p) (ltb p m.people)
          (λ h. let r : (0 ≤ p) × (p < 0 + m.people) = range_within 0 m.people p (subst (λ z. among z p ≡ true) le h) in
          lt-ltb p m.people (omega (arith, r.1)))
          (λ h. let l : p < m.people = ltb-true p m.people h in
          subst (λ z. among z p ≡ true) (sym le) (range_has 0 m.people p (omega arith) (omega arith)))

      rooms : (r : ℕ) → get_or s.remaining r false ≡ ltb r m.rooms
      rooms r =
          elim (cases_lt r m.rooms) [
            | inl l ↦ ap (λ z. get_or z r false) ve ∙ get_or-replicate m.rooms r true false l ∙ sym (lt-ltb r m.rooms l)
            | inr l ↦ get_or_past s.remaining r false (let e : length s.remaining ≡ m.rooms = ap length ve
                ∙ length-replicate m.rooms true in omega arith) ∙ sym (le-ltb r m.rooms l)
          ]

  pub underway_start : IsMarket m → (s : State) (c : List ℕ) → s.line ≡ range_with_len 0 m.people
      → IsFresh s.asked s.remaining s.given c → length s.asked ≡ m.people → length s.remaining ≡ m.rooms
      → Underway m s 0
  underway_start ok s c le fresh ae ve = record {
    consistent = record {
      fits = record { market = ok; asked_len = ae; remaining_len = ve; given_len = fresh.given_len ∙ ae };
      queue = record {
        waiting = [];
        fresh = s.line;
        split = refl;
        waiting_asked = λ p h. absurd (both_ways false refl h);
        fresh_unasked = λ p h. ap (λ z. get_or z p false) fresh.none_asked ∙ all_same (length s.asked) false p;
        waits = tt;
        least = tt;
        ascends = subst Ascends (sym le) (range_ascends 0 m.people);
        once = subst Once (sym le) (range_once 0 m.people);
        known = λ p h.
            (let r : (0 ≤ p) × (p < 0 + m.people) = range_within 0 m.people p (subst (λ z. among z p ≡ true) le h) in
            omega (arith, r.1));
      };
    };
    settles =
        λ f st. subst (λ z. Leads m f z) (start_stage s le (fresh.all_remain ∙ ap (λ n. replicate n true) ve)) st.leads;
    turns = (
        let a : length s.line ≡ m.people = ap length le ∙ length-range_with_len 0 m.people in
        let b : count_below m.people (λ p. is_tenant m p && not (get_or s.asked p false)) ≤ tenant_count m =
        count_le m.people (λ p. is_tenant m p && not (get_or s.asked p false)) (is_tenant m)
        (λ y h. (and_parts (is_tenant m y) (not (get_or s.asked y false)) h).0) in
        omega arith);
    at_least = (
        let a : length s.line ≡ m.people = ap length le ∙ length-range_with_len 0 m.people in
        let b : asked_in s.asked s.line ≡ 0 =
        asked_none s.asked s.line
        (λ p h. ap (λ z. get_or z p false) fresh.none_asked ∙ all_same (length s.asked) false p) in
        omega arith);
    tenants_few = count_most m.people (is_tenant m);
  }

  pub underway_end : (s : State) (asks : ℕ) → Underway m s asks → front_of s.line ≡ None → s.given ≡ ttc m
  unfolding ttc
  underway_end s asks u e =
      fill_by_all (gets m) s.given m.people None u.consistent.fits.given_len
      (λ k l. leads_gets m (given_to s) (u.settles (given_to s) ended) k l)
    where
      ended : Settles m s.line s.remaining s.given (given_to s)
      ended = record {
        served = λ p l h. refl;
        leads = done (λ p. among_none s.line e p);
      }

  pub underway_asks : (s : State) (asks : ℕ) → Underway m s asks → front_of s.line ≡ None → m.people ≤ asks
  underway_asks s asks u e = by_line s.line refl e
    where
      by_line : (l : List ℕ) → s.line ≡ l → front_of l ≡ None → m.people ≤ asks
      by_line [] le f = let a : length s.line ≡ 0 = ap length le in omega (arith, u.at_least)
      by_line (x ∷ xs) le f = absurd (cc)
