-- The number of entries read: turn by turn, and by a whole run.
use Rattle.std.proofs.Common.{◌≡◌, ℕ, suc, ◌+◌, ◌<◌, ◌≤◌, Bool, true, false, cond, List, [], ◌∷◌, length, Option, None}
use Rattle.std.proofs.Common.{get_or, set, sym, ap, ap₂, ◌∙◌, subst, inl, inr, arith, ltb, lt-ltb, le-ltb}
use Rattle.std.proofs.Common.{get_or-set_same, get_or-set_other}
use mathlib.Core.Path.{fun_ext}
use Rattle.std.specs.List.{range_with_len}
use Rattle.std.proofs.lemmas.Bool.{cases_Bool, cases_lt, both_ways, false_from_ne_true, cond-true}
use Rattle.trade_line.proofs.askers.Lines.{among_none}
use Rattle.trade_line.specs.Below.{sum_below}
use Rattle.trade_line.specs.Market.{Market, list_of}
use Rattle.trade_line.specs.Member.{among}
use Rattle.trade_line.specs.Rank.{rank}
use Rattle.trade_line.specs.Looks.{needed, all_needed, all_listed}
use Rattle.trade_line.specs.Line.{front_of}
use Rattle.trade_line.specs.Assignment.{given_in}
use Rattle.trade_line.specs.Inner.State.{State, given_to}
use Rattle.trade_line.specs.Inner.Looks.{cursor, StayInLine, AreCursors, cursor_sum, spent, spent_sum, TurnReads}
use Rattle.trade_line.specs.Inner.Looks.{ReadSoFar}
use Rattle.trade_line.proofs.counts.Looks.{sum_le, sum_none, sum_point, sum_two}
use Rattle.trade_line.proofs.turns.Whole.{range_has}
use Rattle.trade_line.proofs.turns.Cursors.{behind_fresh}

module _ (m : Market) where
  -- what a turn reads
  moved_sum : (a place n : ℕ) (c d : List ℕ) → a < m.people → length c ≡ m.people → d ≡ set c a place
      → place ≡ cursor c a + n → cursor_sum m d ≡ cursor_sum m c + n
  moved_sum a place n c d l len e pe =
      let same : cursor d a ≡ place = ap (λ z. get_or z a 0) e ∙ get_or-set_same c a place 0 (omega arith) in
      let sum : cursor_sum m d + cursor c a ≡ cursor_sum m c + cursor d a =
      sum_point m.people (cursor c) (cursor d) a l
      (λ y yl ne. ap (λ z. get_or z y 0) e ∙ get_or-set_other c a y place 0 ne) in
      omega arith

  moved_not : (a place : ℕ) (c d : List ℕ) → d ≡ set c a place → (p : ℕ) → (p ≡ a → ⊥)
      → cursor d p ≡ cursor c p
  moved_not a place c d e p ne = ap (λ z. get_or z p 0) e ∙ get_or-set_other c a p place 0 ne

  spent_waits : (line c : List ℕ) (p : ℕ) → among line p ≡ true → spent m line c p ≡ 0
  spent_waits line c p y = cond-true {A = ℕ} (among line p) 0 (cond (ltb (cursor c p) (length (list_of m p))) 0 1) y

  spent_not : (line c : List ℕ) (p : ℕ) → among line p ≡ false → cursor c p < length (list_of m p)
      → spent m line c p ≡ 0
  spent_not line c p n l =
      ap₂ (λ (b b2 : Bool). cond {A = ℕ} b 0 (cond b2 0 1)) n (lt-ltb (cursor c p) (length (list_of m p)) l)

  spent_whole : (line c : List ℕ) (p : ℕ) → among line p ≡ false → length (list_of m p) ≤ cursor c p
      → spent m line c p ≡ 1
  spent_whole line c p n l =
      ap₂ (λ (b b2 : Bool). cond {A = ℕ} b 0 (cond b2 0 1)) n (le-ltb (cursor c p) (length (list_of m p)) l)

  spent_same : (line line' c d : List ℕ) (p : ℕ) → among line' p ≡ among line p → cursor d p ≡ cursor c p
      → spent m line' d p ≡ spent m line c p
  spent_same line line' c d p e f =
      ap₂ (λ (b : Bool) (k : ℕ). cond {A = ℕ} b 0 (cond (ltb k (length (list_of m p))) 0 1)) e f

  pub turn_found : (s t : State) (a place n read : ℕ) (c d : List ℕ) → a < m.people → AreCursors m s c
      → d ≡ set c a place → place ≡ cursor c a + n → read ≡ suc n → among s.line a ≡ true
      → ((p : ℕ) → among t.line p ≡ true → among s.line p ≡ true)
      → ((p : ℕ) → among s.line p ≡ true → among t.line p ≡ false → cursor d p < length (list_of m p))
      → AreCursors m t d → TurnReads m s c t d read
  turn_found s t a place n read c d l tr e pe re there inside left td =
      let sum : cursor_sum m d ≡ cursor_sum m c + n = moved_sum a place n c d l tr.cursors_len e pe in
      let same : spent_sum m t.line d ≡ spent_sum m s.line c = ap (sum_below m.people) (fun_ext each) in
      record { cursors = td; reads = omega arith }
    where
      each : (p : ℕ) → spent m t.line d p ≡ spent m s.line c p
      each p =
          elim (cases_Bool (among s.line p)) [
            | inl y ↦ elim (cases_Bool (among t.line p)) [
              | inl y2 ↦ spent_waits t.line d p y2 ∙ sym (spent_waits s.line c p y)
              | inr n2 ↦ spent_not t.line d p n2 (left p y n2) ∙ sym (spent_waits s.line c p y)
            ]
            | inr out ↦ spent_same s.line t.line c d p
                (false_from_ne_true (among t.line p) (λ y. both_ways (among s.line p) out (inside p y)) ∙ sym out)
                (moved_not a place c d e p
                (λ pa. both_ways (among s.line p) out (subst (λ z. among s.line z ≡ true) (sym pa) there)))
          ]

  pub turn_found_none : (s t : State) (a place n read : ℕ) (c d : List ℕ) → a < m.people → AreCursors m s c
      → d ≡ set c a place → place ≡ cursor c a + n → read ≡ n → place ≡ length (list_of m a)
      → among s.line a ≡ true → among t.line a ≡ false
      → ((p : ℕ) → (p ≡ a → ⊥) → among t.line p ≡ among s.line p) → AreCursors m t d
      → TurnReads m s c t d read
  turn_found_none s t a place n read c d l tr e pe re end there gone others td =
      let sum : cursor_sum m d ≡ cursor_sum m c + n = moved_sum a place n c d l tr.cursors_len e pe in
      let same : cursor d a ≡ place =
      ap (λ z. get_or z a 0) e ∙ get_or-set_same c a place 0 (omega (arith, tr.cursors_len)) in
      let before : spent m s.line c a ≡ 0 = spent_waits s.line c a there in
      let after : spent m t.line d a ≡ 1 = spent_whole t.line d a gone (omega arith) in
      let more : spent_sum m t.line d + spent m s.line c a ≡ spent_sum m s.line c + spent m t.line d a =
      sum_point m.people (spent m s.line c) (spent m t.line d) a l
      (λ p pl ne. spent_same s.line t.line c d p (others p ne) (moved_not a place c d e p ne)) in
      record { cursors = td; reads = omega arith }

  -- a whole run
  pub read_start : (s : State) (c : List ℕ) → s.line ≡ range_with_len 0 m.people
      → ((p : ℕ) → get_or s.asked p false ≡ false) → length c ≡ m.people → ((p : ℕ) → cursor c p ≡ 0)
      → ReadSoFar m s c 0 0
  read_start s c le none len zeros = record {
    cursors = record {
      cursors_len = len;
      within = λ p l. (let z : cursor c p ≡ 0 = zeros p in omega arith);
      gone = λ p k l lk. (let z : cursor c p ≡ 0 = zeros p in absurd (omega arith));
      waiting = by_line s.line;
      served = λ p l h. absurd
          (both_ways (among s.line p) h
          (subst (λ z. among z p ≡ true) (sym le) (range_has 0 m.people p (omega arith) (omega arith))));
    };
    reads =
        let none_read : cursor_sum m c ≡ 0 = sum_none m.people (cursor c) (λ y l. zeros y) in
        let none_left : spent_sum m s.line c ≡ 0 =
        sum_none m.people (spent m s.line c)
        (λ y l. spent_waits s.line c y
        (subst (λ z. among z y ≡ true) (sym le) (range_has 0 m.people y (omega arith) (omega arith)))) in
        omega arith;
  }
    where
      by_line : (l : List ℕ) → StayInLine m s.asked c l
      by_line [] = tt
      by_line (x ∷ xs) = behind_fresh m s.asked c x xs (λ p i. none p)

  pub read_more : (s t : State) (c d : List ℕ) (asks looks read : ℕ) → ReadSoFar m s c asks looks
      → TurnReads m s c t d read → ReadSoFar m t d (asks + 1) (looks + read)
  read_more s t c d asks looks read r k = record { cursors = k.cursors; reads = omega (arith, r.reads, k.reads) }

  pub read_all : (s : State) (c : List ℕ) (asks looks : ℕ) → ReadSoFar m s c asks looks
      → front_of s.line ≡ None → looks + m.people ≡ asks + all_needed m (given_in s.given)
  read_all s c asks looks r e =
      let two : all_needed m (given_in s.given) + spent_sum m s.line c ≡ m.people + cursor_sum m c =
      sum_two m.people (λ p. needed m p (given_to s p)) (spent m s.line c) (cursor c) each in
      omega (arith, r.reads)
    where
      each : (p : ℕ) → p < m.people → needed m p (given_to s p) + spent m s.line c p ≡ suc (cursor c p)
      each p l =
          let holds : rank m p (given_to s p) ≡ cursor c p = r.cursors.served p l (among_none s.line e p) in
          elim (cases_lt (cursor c p) (length (list_of m p))) [
            | inl b ↦ let z : spent m s.line c p ≡ 0 = spent_not s.line c p (among_none s.line e p) b in omega arith
            | inr b ↦ let z : spent m s.line c p ≡ 1 = spent_whole s.line c p (among_none s.line e p) b in
                omega (arith, r.cursors.within p l)
          ]

  pub needed_listed : (f : ℕ → Option ℕ) → all_needed m f ≤ all_listed m
  needed_listed f = sum_le m.people (λ p. length (list_of m p)) (λ p. needed m p (f p)) (λ p l. omega arith)
