-- How many people and rooms a problem has.
use Rattle.std.specs.Prelude.{ℕ}
use Rattle.trade_line.specs.Market.{Market}

-- a number of people and a number of rooms
pub record Size : Type 0 where
  pub people : ℕ
  pub rooms : ℕ

abbrev pub size_of : Market → Size
size_of m = record { people = m.people; rooms = m.rooms }
