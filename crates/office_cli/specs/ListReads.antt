-- The reads that the program makes on the reader of a list. The relation `reads` of the trait `Source` describes one
-- read.
use Rattle.std.specs.Prelude.{◌≡◌, ℕ, zero, suc, ◌<◌, ◌≤◌, List, [], ◌++◌, length, take, Result, Ok, Err}
use Rattle.std.specs.declared.io.Error.{Error}

module _ {R : Type 0} (reads : R → List ℕ → List ℕ → Result ℕ Error → R → Type 0) where
  -- One read returned at least one byte. `bytes` are `before`, read so far, and then the bytes of this read.
  pub record ReadsOnce (before bytes : List ℕ) (old new : R) : Type 0 where
    pub buffer_before : List ℕ
    pub buffer : List ℕ
    pub count : ℕ
    pub called : reads old buffer_before buffer (Ok count) new
    pub some : 0 < count
    pub within : count ≤ length buffer
    pub joined : bytes ≡ before ++ take count buffer

  -- This number of reads, one after another, returned these bytes in total.
  abbrev pub ReadsEach : ℕ → List ℕ → R → R → Type 0
  ReadsEach zero bytes old new = (bytes ≡ []) × (new ≡ old)
  ReadsEach (suc times) bytes old new =
      (before : List ℕ) × (between : R) × ReadsEach times before old between × ReadsOnce before bytes between new

  -- Some number of reads, one after another, returned these bytes in total.
  abbrev pub Reads : List ℕ → R → R → Type 0
  Reads bytes old new = (times : ℕ) × ReadsEach times bytes old new

  -- one read into a nonempty buffer returned 0: it found the end of the list
  abbrev pub FindsEnd : R → R → Type 0
  FindsEnd old new =
      (buffer_before : List ℕ) × (buffer : List ℕ) × (0 < length buffer) × reads old buffer_before buffer (Ok 0) new

  -- one read failed
  abbrev pub FailsToRead : R → R → Type 0
  FailsToRead old new =
      (buffer_before : List ℕ) × (buffer : List ℕ) × (error : Error) × reads old buffer_before buffer (Err error) new
