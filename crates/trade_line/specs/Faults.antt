-- The text of each fault.
use Rattle.std.specs.Prelude.{ℕ, List, codes}
use Rattle.trade_line.specs.declared.fault.TradeFault.{TradeFault}
use Rattle.trade_line.specs.declared.fault.TradeFault.TheVariants.{BadIndex, HomeShared, ListRepeats, OwnRoomListed, OutOfMemory}

abbrev pub out_of_memory_text : List ℕ
out_of_memory_text = codes "memory was refused"

abbrev pub fault_text : TradeFault → List ℕ
fault_text BadIndex =
    codes "there is not one home entry and one list for each person, or a number is out of range"
fault_text HomeShared = codes "two people have the same home"
fault_text ListRepeats = codes "a list has a room twice"
fault_text OwnRoomListed = codes "a person lists their own home"
fault_text OutOfMemory = out_of_memory_text
