-- Chains of entries, numbered from their ends.
use Rattle.std.proofs.Common.{◌≡◌, ◌≢◌, ℕ, zero, suc, ◌+◌, ◌<◌, ◌≤◌, true, false, List, length, get_or, set, Option}
use Rattle.std.proofs.Common.{None, Some, refl, sym, ap, ◌∙◌, subst, inl, inr, ◌⊎◌, arith, eqb, eqb-true}
use Rattle.std.specs.Prelude.{option_and_then}
use Rattle.std.proofs.lemmas.Bool.{cases_lt, eqb-false}
use Rattle.std.proofs.lemmas.Option.{same_Some}
use Rattle.std.proofs.lemmas.List.{get_or-set_same, get_or-set_other, length-set}
use Rattle.std.proofs.Math.ListN.{get_or-eq_default}
use Rattle.room_types.specs.declared.moves.Wave.{Wave}
use Rattle.room_types.specs.declared.moves.Wave.TheVariants.{Swap, Nth}
use Rattle.office_lists.specs.Waves.{next_entry, end_number_at, followed, HasNumber, IsWave, wave_of}
use Rattle.office_lists.specs.Inner.Successors.{AreInjective, AreSuccessors, IsNumbered, NumbersChain}
use Rattle.office_lists.proofs.move_days.Following.{followed-beyond, number-end, number-none, number-later, number-back}
use Rattle.office_lists.proofs.move_days.Following.{one_wave, some_wave}

pub next_entry-within : (ls : List (Option ℕ)) (i j : ℕ) → next_entry ls i ≡ Some j → i < length ls
next_entry-within ls i j e =
    elim (cases_lt i (length ls)) [
      | inl less ↦ less
      | inr past ↦ cc (sym (get_or-eq_default ls None past) ∙ e)
    ]

-- the first `count` entries of the chain that ends at `end` are numbered, counted from that end
pub record IsNumberedTo (fs : List (Option ℕ)) (end first count : ℕ) (old new : List Wave) : Type 0 where
  pub same_length : length new ≡ length old
  pub reached : (c i : ℕ) → c < count → followed fs c end ≡ Some i → IsNumbered new i
  pub right : (i number : ℕ) → get_or new i Swap ≡ Nth number → (get_or old i Swap ≡ Nth number)
      ⊎ ((c : ℕ) × (number ≡ c + first) × (followed fs c end ≡ Some i))
  pub kept : (i number : ℕ) → get_or old i Swap ≡ Nth number → IsNumbered new i

pub none_numbered : (fs : List (Option ℕ)) (end first : ℕ) (waves : List Wave) → IsNumberedTo fs end first 0 waves waves
none_numbered fs end first waves = record {
  same_length = refl;
  reached = λ c i low e. absurd (omega arith);
  right = λ i number e. inl e;
  kept = λ i number e. (number, e);
}

same_number : (m n : ℕ) → Nth m ≡ Nth n → m ≡ n
same_number m n e = cc

-- the waves at each index after one is written
after_write : (ws : List Wave) (here i number : ℕ) → here < length ws
    → ((i ≡ here) × (get_or (set ws here (Nth number)) i Swap ≡ Nth number))
    ⊎ ((i ≢ here) × (get_or (set ws here (Nth number)) i Swap ≡ get_or ws i Swap))
after_write ws here i number in' =
    elim (eqb i here) as (λ b. eqb i here ≡ b → ((i ≡ here) × (get_or (set ws here (Nth number)) i Swap ≡ Nth number))
    ⊎ ((i ≢ here) × (get_or (set ws here (Nth number)) i Swap ≡ get_or ws i Swap))) [
      | true ↦ λ e. let same = eqb-true i here e in
          inl (
            same,
            subst (λ k. get_or (set ws here (Nth number)) k Swap ≡ Nth number) (sym same)
                (get_or-set_same ws here (Nth number) Swap in'),
          )
      | false ↦ λ e. let other = eqb-false i here e in inr (other, get_or-set_other ws here i (Nth number) Swap other)
    ] refl

pub one_numbered : (fs : List (Option ℕ)) (end first count here : ℕ) (old new : List Wave)
    → IsNumberedTo fs end first count old new
    → followed fs count end ≡ Some here → here < length new → IsNumberedTo fs end first (count + 1) old
    (set new here (Nth (count + first)))
one_numbered fs end first count here old new so at in' = record {
  same_length = length-set new here (Nth (count + first)) ∙ so.same_length;
  reached = λ c i low e.
      elim (after_write new here i (count + first) in') [
        | inl now ↦ (count + first, now.1)
        | inr before ↦
            elim (cases_lt c count) [
              | inl less ↦ let was = so.reached c i less e in (was.0, before.1 ∙ was.1)
              | inr more ↦
                  let last : c ≡ count = omega arith in
                  absurd (before.0 (same_Some i here (sym (subst (λ k. followed fs k end ≡ Some i) last e) ∙ at)))
            ]
      ];
  right = λ i number e.
      elim (after_write new here i (count + first) in') [
        | inl now ↦ let same : count + first ≡ number = same_number (count + first) number (sym now.1 ∙ e) in
            inr (count, sym same, at ∙ ap (λ k. Some k) (sym now.0))
        | inr before ↦ so.right i number (sym before.1 ∙ e)
      ];
  kept = λ i number e.
      elim (after_write new here i (count + first) in') [
        | inl now ↦ (count + first, now.1)
        | inr before ↦ let was = so.kept i number e in (was.0, before.1 ∙ was.1)
      ];
}

-- a chain numbered up to its other end is numbered as a whole
pub all_numbered : (fs : List (Option ℕ)) (end first count : ℕ) (old new : List Wave)
    → IsNumberedTo fs end first count old new → followed fs count end ≡ None → NumbersChain fs end first old new
all_numbered fs end first count old new so at = record {
  reached = λ c i e.
      elim (cases_lt c count) [
        | inl less ↦ so.reached c i less e
        | inr more ↦ cc (sym (followed-beyond fs count c end at more) ∙ e)
      ];
  right = so.right;
  kept = so.kept;
}

-- the chains that end at entries below `count` are numbered
pub record AreNumberedTo (ends : List ℕ) (ls fs : List (Option ℕ)) (count : ℕ) (waves : List Wave) : Type 0 where
  pub same_length : length waves ≡ length ls
  pub right : (i number : ℕ) → get_or waves i Swap ≡ Nth number → HasNumber ends ls number i
  pub done : (end c i : ℕ) → end < count → next_entry ls end ≡ None → followed fs c end ≡ Some i → IsNumbered waves i

pub fewer_done : (ends : List ℕ) (ls fs : List (Option ℕ)) (few count : ℕ) (waves : List Wave) → few ≤ count
    → AreNumberedTo ends ls fs count waves → AreNumberedTo ends ls fs few waves
fewer_done ends ls fs few count waves low so = record {
  same_length = so.same_length;
  right = so.right;
  done = λ end c i less. so.done end c i (omega arith);
}

module _ (ends : List ℕ) (ls fs : List (Option ℕ)) (linked : AreSuccessors ls fs) where
  -- an entry that is c steps from the end of its chain has the number of the end plus c
  pub number-along : (c end i : ℕ) → next_entry ls end ≡ None → followed fs c end ≡ Some i
      → HasNumber ends ls (c + end_number_at ends end) i
  number-along zero end i none e =
      let is : end_number_at ends end ≡ 0 + end_number_at ends end = omega arith in
      subst (HasNumber ends ls (0 + end_number_at ends end)) (same_Some end i e)
      (number-end ends ls (0 + end_number_at ends end) end none (sym is))
  number-along (suc c) end i none e =
      let is : suc (c + end_number_at ends end) ≡ suc c + end_number_at ends end = omega arith in
      subst (λ n. HasNumber ends ls n i) is
      (elim (followed fs c end) as (λ o. followed fs c end ≡ o → option_and_then (next_entry fs) o ≡ Some i
      → HasNumber ends ls (suc (c + end_number_at ends end)) i) [
        | None ↦ λ f g. cc
        | Some j ↦ λ f g. number-later ends ls (c + end_number_at ends end) i j (linked.after i j g)
            (number-along c end j none f)
      ] refl e)

  pub within-along : (c end i : ℕ) → end < length ls → followed fs c end ≡ Some i → i < length ls
  within-along zero end i in' e = subst (λ k. k < length ls) (same_Some end i e) in'
  within-along (suc c) end i in' e =
      elim (followed fs c end) as (λ o. followed fs c end ≡ o → option_and_then (next_entry fs) o ≡ Some i
      → i < length ls) [
        | None ↦ λ f g. cc
        | Some j ↦ λ f g. next_entry-within ls i j (linked.after i j g)
      ] refl e

  -- an entry with a number is on a chain that ends
  pub end_of : (n i : ℕ) → i < length ls → AreInjective ls → HasNumber ends ls n i → (end : ℕ) × (c : ℕ)
      × (end < length ls) × (next_entry ls end ≡ None) × (followed fs c end ≡ Some i)
  end_of zero i in' apart h =
      elim (next_entry ls i) as (λ o. next_entry ls i ≡ o → (end : ℕ) × (c : ℕ) × (end < length ls)
      × (next_entry ls end ≡ None)
      × (followed fs c end ≡ Some i)) [
        | None ↦ λ e. (i, 0, in', e, refl)
        | Some j ↦ λ e. absurd (number-none ends ls i j e h)
      ] refl
  end_of (suc n) i in' apart h =
      elim (next_entry ls i) as (λ o. next_entry ls i ≡ o → (end : ℕ) × (c : ℕ) × (end < length ls)
      × (next_entry ls end ≡ None)
      × (followed fs c end ≡ Some i)) [
        | None ↦ λ e. (i, 0, in', e, refl)
        | Some j ↦ λ e.
            let rest = end_of n j (apart.within i j e) apart (number-back ends ls n i j e h) in
            (rest.0, suc rest.1, rest.2, rest.3, ap (option_and_then (next_entry fs)) rest.4 ∙ linked.before i j e)
      ] refl

  -- the next entry ends a chain, which is numbered now
  pub end_done : (count : ℕ) (old new : List Wave) → AreNumberedTo ends ls fs count old → next_entry ls count ≡ None
      → length new ≡ length old → NumbersChain fs count (end_number_at ends count) old new
      → AreNumberedTo ends ls fs (count + 1) new
  end_done count old new so none same chain = record {
    same_length = same ∙ so.same_length;
    right = λ i number e.
        elim (chain.right i number e) [
          | inl was ↦ so.right i number was
          | inr now ↦ subst (λ n. HasNumber ends ls n i) (sym now.1) (number-along now.0 count i none now.2)
        ];
    done = λ end c i low last at.
        elim (cases_lt end count) [
          | inl less ↦ let was = so.done end c i less last at in chain.kept i was.0 was.1
          | inr more ↦ let this : end ≡ count = omega arith in
              chain.reached c i (subst (λ k. followed fs c k ≡ Some i) this at)
        ];
  }

  -- the next entry does not end a chain
  pub other_done : (count : ℕ) (waves : List Wave) → AreNumberedTo ends ls fs count waves → (j : ℕ)
      → next_entry ls count ≡ Some j → AreNumberedTo ends ls fs (count + 1) waves
  other_done count waves so j some = record {
    same_length = so.same_length;
    right = so.right;
    done = λ end c i low last at.
        elim (cases_lt end count) [
          | inl less ↦ so.done end c i less last at
          | inr more ↦ let this : end ≡ count = omega arith in
              cc (sym some ∙ subst (λ k. next_entry ls k ≡ None) this last)
        ];
  }

  module _ (apart : AreInjective ls) (low : (i : ℕ) → end_number_at ends i ≤ 1) (waves : List Wave)
      (so : AreNumberedTo ends ls fs (length ls) waves) where
    pub wave_at : (i : ℕ) → i < length ls → get_or waves i Swap ≡ wave_of ends ls i
    wave_at i in' =
        elim (get_or waves i Swap) as (λ w. get_or waves i Swap ≡ w → w ≡ wave_of ends ls i) [
          | Nth n ↦ λ e. one_wave ends ls i (Nth n) (wave_of ends ls i) (so.right i n e)
              (some_wave ends ls apart low i in')
          | Swap ↦ λ e. elim (wave_of ends ls i) as (λ v. wave_of ends ls i ≡ v → Swap ≡ v) [
            | Swap ↦ λ f. refl
            | Nth m ↦ λ f.
                let last = end_of m i in' apart (subst (IsWave ends ls i) f (some_wave ends ls apart low i in')) in
                let there = so.done last.0 last.1 i last.2 last.3 last.4 in
                cc (sym e ∙ there.1)
          ] refl
        ] refl
