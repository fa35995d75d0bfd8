-- What printing a text writes, and the exit status.
use Rattle.std.specs.Prelude.{◌≡◌, ℕ, ◌⊎◌, true, false, ◌∷◌, [], codes, take}
use Rattle.room_types.specs.Streams.{Output, Puts}
use Rattle.room_types.specs.Texts.{Text}
use Rattle.room_types.specs.Watched.{counted}
use Rattle.room_types.specs.OutputLines.{line_of}

-- The whole text was written, one flush followed, the writer's failure flag did not change, and the exit status is
-- `wanted`. Or the writer has failed, the status is 3, and a prefix of the text was written.
abbrev pub Prints : Text → ℕ → ℕ → Output → Output → Type 0
Prints text wanted status out out' =
    ((status ≡ wanted) × Puts out out' text × (out'.flushes ≡ counted out.flushes 1) × (out'.pending ≡ false)
    × (out'.failed ≡ out.failed))
    ⊎ ((status ≡ 3) × (out'.failed ≡ true) × (sent : ℕ) × Puts out out' (take sent text))

-- prints `unavailable` with status 3, as the program does if an allocation, the database, the office's file, the list
-- of an import, or listening on a port failed
abbrev pub PrintsUnavailable : ℕ → Output → Output → Type 0
PrintsUnavailable status out out' = Prints (line_of (codes "unavailable" ∷ [])) 3 status out out'
