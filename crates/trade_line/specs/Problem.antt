-- The market that the arguments of `Problem::new` describe, and the faults for which `Problem::new` refuses it.
use Rattle.std.specs.Prelude.{ℕ, List, Option, Vec, map}
use Rattle.std.specs.Global.{Global}
use Rattle.trade_line.specs.Market.{Market, IsIndexed, HomesDiffer, ListsAreStrict, OwnUnlisted}
use Rattle.trade_line.specs.declared.fault.TradeFault.{TradeFault}
use Rattle.trade_line.specs.declared.fault.TradeFault.TheVariants.{BadIndex, HomeShared, ListRepeats, OwnRoomListed, OutOfMemory}

-- the market of these numbers and vectors
abbrev pub market_of : ℕ → ℕ → List (Option ℕ) → List (Vec ℕ Global) → Market
market_of people rooms homes lists = record { people = people; rooms = rooms; homes = homes; lists = map (λ list. list.items) lists }

-- the fault is for the first rule that the market breaks; if the market is indexed, the fault may be `OutOfMemory`
-- instead, even if no rule is broken
abbrev pub IsFirstFault : Market → TradeFault → Type 0
IsFirstFault m BadIndex = ¬ IsIndexed m
IsFirstFault m HomeShared = IsIndexed m × ¬ HomesDiffer m
IsFirstFault m ListRepeats = IsIndexed m × HomesDiffer m × ¬ ListsAreStrict m
IsFirstFault m OwnRoomListed = IsIndexed m × HomesDiffer m × ListsAreStrict m × ¬ OwnUnlisted m
IsFirstFault m OutOfMemory = IsIndexed m
