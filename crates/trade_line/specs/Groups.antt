-- Groups that hand in other lists together (group strategy-proofness: Bird 1984; Pápai 2000), and people who get the
-- same with another list (nonbossiness: Satterthwaite and Sonnenschein 1981; Pápai 2000).
use Rattle.std.specs.Prelude.{◌≡◌, ℕ, ◌<◌, ◌≤◌, Bool, true, false, List}
use Rattle.trade_line.specs.Market.{Market, IsMarket, list_of}
use Rattle.trade_line.specs.Rank.{rank}
use Rattle.trade_line.specs.TopTradingCycles.{gets}
use Rattle.trade_line.specs.OtherList.{with_lists, with_list}

-- everybody outside the group keeps their list
abbrev pub OthersKeep : Market → (ℕ → Bool) → List (List ℕ) → Type 0
OthersKeep m group lists =
    (q : ℕ) → q < m.people → group q ≡ false → list_of (with_lists m lists) q ≡ list_of m q

-- nobody in the group loses: by their own recorded list, each of them ranks what they get with the other lists at
-- least as high as what they get with the recorded lists
abbrev pub NoneLoses : Market → (ℕ → Bool) → List (List ℕ) → Type 0
NoneLoses m group lists =
    (q : ℕ) → q < m.people → group q ≡ true
    → rank m q (gets (with_lists m lists) q) ≤ rank m q (gets m q)

-- if a group hands in other lists and nobody in it loses, then everybody, in the group or not, gets the same; so
-- somebody in the group gains only if another in the group loses
abbrev pub IsGroupStrategyproof : Market → Type 0
IsGroupStrategyproof m =
    (group : ℕ → Bool) (lists : List (List ℕ)) → IsMarket (with_lists m lists)
    → OthersKeep m group lists → NoneLoses m group lists
    → (p : ℕ) → p < m.people → gets (with_lists m lists) p ≡ gets m p

-- if a person hands in another list and still gets the same, then everybody else gets the same too
abbrev pub IsNonbossy : Market → Type 0
IsNonbossy m =
    (p : ℕ) (l : List ℕ) → p < m.people → IsMarket (with_list m p l)
    → gets (with_list m p l) p ≡ gets m p
    → (q : ℕ) → q < m.people → gets (with_list m p l) q ≡ gets m q
