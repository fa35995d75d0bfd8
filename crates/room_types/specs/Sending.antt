-- The writes that send a text to a device. The relation `writes` describes one write, as in the traits `Sink` and
-- `Stream`.
use Rattle.std.specs.Prelude.{◌≡◌, ◌⊎◌, ℕ, zero, suc, ◌+◌, ◌<◌, List, Result, Ok, Err, length, drop}
use Rattle.std.specs.declared.io.Error.{Error}

module _ {T : Type 0} (writes : T → List ℕ → Result ℕ Error → T → Type 0) where
  -- One write was given the text after its first `before` bytes, and took at least one byte. Then `sent` bytes of the
  -- text had been written.
  pub record WritesOnce (text : List ℕ) (before sent : ℕ) (old new : T) : Type 0 where
    pub count : ℕ
    pub called : writes old (drop before text) (Ok count) new
    pub some : 0 < count
    pub sum : sent ≡ before + count

  -- this number of writes, one after another, took the first `sent` bytes of the text
  abbrev pub WritesEach : List ℕ → ℕ → ℕ → T → T → Type 0
  WritesEach text zero sent old new = (sent ≡ 0) × (new ≡ old)
  WritesEach text (suc times) sent old new =
      (before : ℕ) × (between : T) × WritesEach text times before old between × WritesOnce text before sent between new

  -- some number of writes, one after another, took the first `sent` bytes of the text
  abbrev pub Writes : List ℕ → ℕ → T → T → Type 0
  Writes text sent old new = (times : ℕ) × WritesEach text times sent old new

  -- Writes, one after another, took the first `sent` bytes of the text, which are not all of it. The next write, of
  -- the remaining bytes, failed or took no byte.
  abbrev pub FailsToWrite : List ℕ → ℕ → T → T → Type 0
  FailsToWrite text sent old new =
      (between : T) × (sent < length text) × Writes text sent old between
      × (writes between (drop sent text) (Ok 0) new
      ⊎ ((error : Error) × writes between (drop sent text) (Err error) new))
