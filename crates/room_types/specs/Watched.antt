-- What a `Watched` records about its reader or writer. It counts reads, flushes and the bytes that writes took. It
-- records whether a call failed, whether a read reached the end, whether a call was wasted, and whether bytes wait
-- for a flush. The contract of each read, write and flush says that it makes one call of the inner reader or writer
-- (see `Source`, `Sink`, `Stream`).
use Rattle.std.specs.Prelude.{◌≡◌, ℕ, ◌+◌, ◌-◌, ◌^◌, min, Bool, true, false}
use Rattle.std.specs.Prelude.{Result, Ok, Err, List, length, nat_lt, ◌&&◌, ◌==◌}
use Rattle.room_types.specs.declared.watched.Watched.{Watched}

-- the inner reader or writer
abbrev pub watched_inner : {T : Type 0} → Watched T → T
watched_inner w = w.inner

-- whether a call failed, or a write took nothing of a buffer that is not empty
abbrev pub watched_failed : {T : Type 0} → Watched T → Bool
watched_failed w = w.failed

-- the number of reads, saturating at 2^64 - 1
abbrev pub watched_reads : {T : Type 0} → Watched T → ℕ
watched_reads w = w.reads

-- the number of bytes that writes took, saturating at 2^64 - 1
abbrev pub watched_taken : {T : Type 0} → Watched T → ℕ
watched_taken w = w.taken

-- the number of flushes, saturating at 2^64 - 1
abbrev pub watched_flushes : {T : Type 0} → Watched T → ℕ
watched_flushes w = w.flushes

-- whether a write took at least one byte, and no flush has succeeded after that write
abbrev pub watched_pending : {T : Type 0} → Watched T → Bool
watched_pending w = w.pending

-- whether a read found the end of the input
abbrev pub watched_ended : {T : Type 0} → Watched T → Bool
watched_ended w = w.ended

-- whether a call was wasted: a call after a failure, a read after the end, or a read or a write with an empty buffer
abbrev pub watched_wasted : {T : Type 0} → Watched T → Bool
watched_wasted w = w.wasted

-- the count plus n, saturating at 2^64 - 1
abbrev pub counted : ℕ → ℕ → ℕ
counted count n = min (count + n) (2 ^ 64 - 1)

-- the call failed
abbrev pub is_failure : {A E : Type 0} → Result A E → Bool
is_failure (Ok x) = false
is_failure (Err e) = true

-- the write failed, or took nothing of a buffer that is not empty
abbrev pub is_failed_write : {E : Type 0} → List ℕ → Result ℕ E → Bool
is_failed_write buf (Ok n) = nat_lt 0 (length buf) && n == 0
is_failed_write buf (Err e) = true

-- the number of bytes taken after a write with this result, where `taken` is the number before the write
abbrev pub taken_after : {E : Type 0} → ℕ → Result ℕ E → ℕ
taken_after taken (Ok n) = counted taken n
taken_after taken (Err e) = taken

-- the write took at least one byte
abbrev pub has_taken : {E : Type 0} → Result ℕ E → Bool
has_taken (Ok n) = nat_lt 0 n
has_taken (Err e) = false

-- the read found the end: it returned 0, although its buffer is not empty
abbrev pub is_end : {E : Type 0} → List ℕ → Result ℕ E → Bool
is_end buf (Ok n) = nat_lt 0 (length buf) && n == 0
is_end buf (Err e) = false

-- the buffer of a call is empty
abbrev pub is_empty_buffer : List ℕ → Bool
is_empty_buffer buf = length buf == 0

-- If the writer had not failed before, its `wasted` flag is unchanged. So if the flag was false, no call came after a
-- failure, and no write had an empty buffer.
abbrev pub StopsAtFailure : {T : Type 0} → Watched T → Watched T → Type 0
StopsAtFailure old new = watched_failed old ≡ false → watched_wasted new ≡ watched_wasted old

-- If the reader had neither failed nor reached the end before, its `wasted` flag is unchanged. So if the flag was
-- false, no call came after a failure, no read came after the end, and no read had an empty buffer.
abbrev pub StopsAtEnd : {T : Type 0} → Watched T → Watched T → Type 0
StopsAtEnd old new = watched_failed old ≡ false → watched_ended old ≡ false → watched_wasted new ≡ watched_wasted old

-- no call has failed, no read was made, and no read has reached the end
pub record IsFresh {T : Type 0} (w : Watched T) : Type 0 where
  pub failed : w.failed ≡ false
  pub reads : w.reads ≡ 0
  pub ended : w.ended ≡ false
