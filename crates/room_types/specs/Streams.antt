-- Summaries of the state of monitored readers and writers. Functions that borrow a reader or a writer use these
-- summaries in their contracts.
use Rattle.std.specs.Prelude.{◌≡◌, ℕ, zero, suc, Bool, List, length, Option}
use Rattle.std.specs.Io.KnownBytes.{Appends}
use Rattle.room_types.specs.Watched.{watched_inner, watched_failed, watched_reads, watched_taken, watched_flushes, watched_pending, counted}
use Rattle.room_types.specs.declared.watched.Watched.{Watched}

-- the state of a reader: the bytes left to read, if its type models them; whether a call failed; and the number of
-- reads
pub record Input : Type 0 where
  pub remaining : Option (List ℕ)
  pub failed : Bool
  pub reads : ℕ

-- the state of a writer: the bytes written, if its type models them; whether a call failed; the number of bytes
-- taken; the number of flushes; and whether bytes wait for a flush
pub record Output : Type 0 where
  pub contents : Option (List ℕ)
  pub failed : Bool
  pub taken : ℕ
  pub flushes : ℕ
  pub pending : Bool

abbrev pub input_of : {R : Type 0} → (R → Option (List ℕ)) → Watched R → Input
input_of remaining w = record { remaining = remaining (watched_inner w); failed = watched_failed w; reads = watched_reads w }

abbrev pub output_of : {W : Type 0} → (W → Option (List ℕ)) → Watched W → Output
output_of contents w = record {
  contents = contents (watched_inner w);
  failed = watched_failed w;
  taken = watched_taken w;
  flushes = watched_flushes w;
  pending = watched_pending w;
}

-- the count plus n bytes, saturating at 2^64 - 1; if n is 0, the count is unchanged
abbrev pub count_after : ℕ → ℕ → ℕ
count_after count zero = count
count_after count (suc n) = counted count (suc n)

-- the writer appended exactly these bytes, if its type models its bytes, and its count `taken` includes these bytes
pub record Puts (before after : Output) (bytes : List ℕ) : Type 0 where
  pub written : Appends before.contents after.contents bytes
  pub taken : after.taken ≡ count_after before.taken (length bytes)
