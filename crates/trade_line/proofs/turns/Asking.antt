-- What an ask finds on the list, and what it costs.
use Rattle.std.proofs.Common.{◌≡◌, ℕ, suc, ◌+◌, ◌<◌, ◌≤◌, Bool, true, false, List, length, Option, Some, None, find}
use Rattle.std.proofs.Common.{get_or, set, drop, refl, sym, ap, ap₂, ◌∙◌, arith, get_or-set_same}
use Rattle.std.proofs.lemmas.List.{get_or-drop, length-drop}
use Rattle.trade_line.specs.Market.{Market, home, list_of}
use Rattle.trade_line.specs.Line.{front_of}
use Rattle.trade_line.specs.Inner.State.{State, stage_at}
use Rattle.trade_line.specs.Inner.Turn.{IsConsistent}
use Rattle.trade_line.specs.Inner.Reads.{reads, skipped}
use Rattle.trade_line.specs.Inner.Looks.{cursor, CursorAt, StaysAt, AreCursors}
use Rattle.trade_line.proofs.counts.Looks.{skipped_most, found_at, none_at, find_on}
use Rattle.trade_line.proofs.welfare.Ranks.{rank_home}
use Rattle.trade_line.proofs.turns.States.{read_same}
use Rattle.trade_line.proofs.turns.Cursors.{stays_at, marked_cursors}

module _ (m : Market) where
  -- what an ask finds, and what it costs
  pub record AskFinds (v : State) (a : ℕ) (c : List ℕ) (place : ℕ) (read : ℕ) (o : Option ℕ) : Type 0 where
    pub passed : ℕ
    pub place_is : place ≡ cursor c a + passed
    pub cursors : AreCursors m v (set c a place)
    pub found : find (stage_at v).rooms (list_of m a) ≡ o
    pub some : (x : ℕ) → o ≡ Some x → StaysAt m (set c a place) a (Some x) × (read ≡ suc passed)
    pub none : o ≡ None → (place ≡ length (list_of m a)) × (read ≡ passed)
    pub ends : o ≡ None → CursorAt m (set c a place) a (home m a)

  pub ask_finds : (s v : State) (a : ℕ) (c : List ℕ) (remaining : List Bool) (list : List ℕ) (from place read : ℕ)
      (o : Option ℕ)
      → IsConsistent m s → front_of s.line ≡ Some a → v.line ≡ s.line → v.asked ≡ set s.asked a true
      → v.remaining ≡ s.remaining → v.given ≡ s.given → AreCursors m s c
      → a < m.people → remaining ≡ v.remaining → list ≡ list_of m a → from ≡ get_or c a from
      → o ≡ find (λ r. get_or remaining r false) (drop from list) → place ≡ from + skipped
      (λ r. get_or remaining r false) (drop from list) → read ≡ reads (λ r. get_or remaining r false) (drop from list)
      → AskFinds v a c place read o
  ask_finds s v a c remaining list from place read o st e x y z u tr known re le fe oe pe de = record {
    passed = n;
    place_is = passes;
    cursors = cursors;
    found = find_on q xs at past ∙ sym oe2;
    some = λ w ow. (
        let f : (n < length rest) × (get_or rest n 0 ≡ w) × (reads q rest ≡ suc n) =
        found_at q rest w (sym oe2 ∙ ow) in (
          stays_at m st.fits.market (set c a place) a place w known (omega (arith, f.0, passes, len))
              (ap (λ k. get_or xs k 0) passes ∙ sym (get_or-drop at xs n 0) ∙ f.1) moved,
          de2 ∙ f.2,
        ));
    none = λ on. (
        let f : (n ≡ length rest) × (reads q rest ≡ length rest) = none_at q rest (sym oe2 ∙ on) in
        (omega (arith, f.0, passes, len), de2 ∙ f.1 ∙ sym f.0));
    ends = λ on. (
        let f : (n ≡ length rest) × (reads q rest ≡ length rest) = none_at q rest (sym oe2 ∙ on) in
        omega (arith, rank_home m st.fits.market a known, f.0, passes, len, moved));
  }
    where
      q : ℕ → Bool
      q = (stage_at v).rooms

      at : ℕ
      at = cursor c a

      xs : List ℕ
      xs = list_of m a

      rest : List ℕ
      rest = drop (cursor c a) (list_of m a)

      n : ℕ
      n = skipped (stage_at v).rooms (drop (cursor c a) (list_of m a))

      from_is : from ≡ cursor c a
      from_is = fe ∙ read_same c a from 0 (omega (arith, tr.cursors_len))

      same : {A : Type 0} (f : (ℕ → Bool) → List ℕ → A)
          → f (λ r. get_or remaining r false) (drop from list) ≡ f (stage_at v).rooms (drop (cursor c a) (list_of m a))
      same f = ap (λ b. f (λ r. get_or b r false) (drop from list)) re
          ∙ ap (λ k. f (stage_at v).rooms (drop k list)) from_is
          ∙ ap (λ l. f (stage_at v).rooms (drop (cursor c a) l)) le

      oe2 : o ≡ find (stage_at v).rooms (drop (cursor c a) (list_of m a))
      oe2 = oe ∙ same find

      de2 : read ≡ reads (stage_at v).rooms (drop (cursor c a) (list_of m a))
      de2 = de ∙ same reads

      passes : place ≡ cursor c a + skipped (stage_at v).rooms (drop (cursor c a) (list_of m a))
      passes = pe ∙ ap₂ (λ (j k : ℕ). j + k) from_is (same skipped)

      len : length (drop (cursor c a) (list_of m a)) + cursor c a ≡ length (list_of m a)
      len = omega (arith, length-drop (cursor c a) (list_of m a), tr.within a known)

      most : skipped (stage_at v).rooms (drop (cursor c a) (list_of m a)) ≤ length (drop (cursor c a) (list_of m a))
      most = skipped_most (stage_at v).rooms (drop (cursor c a) (list_of m a))

      moved : cursor (set c a place) a ≡ place
      moved = get_or-set_same c a place 0 (omega (arith, tr.cursors_len))

      past : (k : ℕ) → k < cursor c a → (stage_at v).rooms (get_or (list_of m a) k 0) ≡ false
      past k l = ap (λ b. get_or b (get_or (list_of m a) k 0) false) z ∙ tr.gone a k known l

      cursors : AreCursors m v (set c a place)
      cursors =
          marked_cursors m s v a place c (set c a place) st e x y z u tr refl passes (omega (arith, passes, len, most))
