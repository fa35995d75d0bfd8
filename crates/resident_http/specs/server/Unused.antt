-- A connection before its first call.
use Rattle.std.specs.Prelude.{◌≡◌, false}
use Rattle.room_types.specs.Watched.{watched_ended, watched_failed, watched_flushes, watched_wasted, watched_pending, watched_reads, watched_taken}
use Rattle.room_types.specs.declared.watched.Watched.{Watched}

-- nothing was read from the connection, nothing was written to it or flushed, and nothing failed
pub record IsUnused {T : Type 0} (connection : Watched T) : Type 0 where
  pub failed : watched_failed connection ≡ false
  pub reads : watched_reads connection ≡ 0
  pub taken : watched_taken connection ≡ 0
  pub flushes : watched_flushes connection ≡ 0
  pub pending : watched_pending connection ≡ false
  pub ended : watched_ended connection ≡ false
  pub wasted : watched_wasted connection ≡ false
