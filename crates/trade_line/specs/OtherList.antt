-- Markets with other lists, and strategy-proofness: nobody gains by handing in another list (Roth 1982;
-- Abdulkadiroglu and Sönmez 1999).
use Rattle.std.specs.Prelude.{◌≡◌, ◌≢◌, ℕ, ◌<◌, ◌≤◌, List, Some, All, AllPairs, slice_set}
use Rattle.trade_line.specs.Market.{Market, IsMarket, home}
use Rattle.trade_line.specs.Rank.{rank}
use Rattle.trade_line.specs.TopTradingCycles.{gets}
use Rattle.trade_line.specs.declared.fault.TradeFault.{TradeFault}
use Rattle.trade_line.specs.declared.fault.TradeFault.TheVariants.{BadIndex, HomeShared, ListRepeats, OwnRoomListed, OutOfMemory}

-- the same people, rooms and homes, with other lists
abbrev pub with_lists : Market → List (List ℕ) → Market
with_lists m lists =
    record { people = m.people; rooms = m.rooms; homes = m.homes; lists = lists }

-- the market in which p hands in the list l
abbrev pub with_list : Market → ℕ → List ℕ → Market
with_list m p l = with_lists m (slice_set m.lists p l)

-- p is a person of the market, and each entry of the list is a room of it
abbrev pub IsListIndexed : Market → ℕ → List ℕ → Type 0
IsListIndexed m p l = (p < m.people) × All (λ r. r < m.rooms) l

-- the list lacks the home of p
abbrev pub LacksOwn : Market → ℕ → List ℕ → Type 0
LacksOwn m p l = (r : ℕ) → home m p ≡ Some r → All (λ x. x ≢ r) l

-- p can hand in the list
abbrev pub IsListFor : Market → ℕ → List ℕ → Type 0
IsListFor m p l = IsListIndexed m p l × AllPairs ◌≢◌ l × LacksOwn m p l

-- the fault is for the first rule that the person or the list breaks; if the person and the rooms are in range, the
-- fault may be `OutOfMemory` instead, even if no rule is broken
abbrev pub IsFirstListFault : Market → ℕ → List ℕ → TradeFault → Type 0
IsFirstListFault m p l BadIndex = ¬ IsListIndexed m p l
IsFirstListFault m p l HomeShared = ⊥
IsFirstListFault m p l ListRepeats = IsListIndexed m p l × ¬ AllPairs ◌≢◌ l
IsFirstListFault m p l OwnRoomListed =
    IsListIndexed m p l × AllPairs ◌≢◌ l × ¬ LacksOwn m p l
IsFirstListFault m p l OutOfMemory = IsListIndexed m p l

-- nobody gains by handing in another list: a person's own list does not rank what they get with the other list above
-- what they get with the own list
abbrev pub IsStrategyproof : Market → Type 0
IsStrategyproof m =
    (p : ℕ) (l : List ℕ) → p < m.people → IsMarket (with_list m p l)
    → rank m p (gets m p) ≤ rank m p (gets (with_list m p l) p)
