-- The limits on what an office stores.
use Rattle.std.specs.Prelude.{ℕ}

abbrev pub room_limit : ℕ
room_limit = 2000

abbrev pub people_limit : ℕ
people_limit = 2000

-- the maximum number of imported lists, each under its own label
abbrev pub label_limit : ℕ
label_limit = 200

-- the maximum number of bytes of an imported list
abbrev pub byte_limit : ℕ
byte_limit = 262144

-- the greatest round number
abbrev pub round_limit : ℕ
round_limit = 9999
