-- Printed texts.
use Rattle.std.proofs.Common.{◌≡◌, ℕ, inl, inr}
use Rattle.room_types.specs.Printing.{Prints}
use Rattle.room_types.specs.Streams.{Output}
use Rattle.room_types.specs.Texts.{Text}

-- if printing a text with status 0 returns another status, the writer has failed, and the status is 3
pub Prints-other_status : (text : Text) (status : ℕ) (out out' : Output) → Prints text 0 status out out'
    → (status ≡ 0 → ⊥) → status ≡ 3
Prints-other_status text status out out' (inl h) other = absurd (other h.0)
Prints-other_status text status out out' (inr h) other = h.0
