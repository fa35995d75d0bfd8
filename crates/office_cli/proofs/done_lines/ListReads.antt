-- Reads of a list, one after another.
use Rattle.std.proofs.Common.{◌++◌, ◌<◌, ◌≤◌, ℕ, suc, List, length, take, Result, Ok, refl}
use Rattle.std.specs.declared.io.Error.{Error}
use Rattle.office_cli.specs.ListReads.{Reads, ReadsOnce}

module _ {R : Type 0} (reads : R → List ℕ → List ℕ → Result ℕ Error → R → Type 0) where
  -- one more read returned at least one byte
  pub one_more_read : (before buffer_before buffer : List ℕ) (count : ℕ) (old between new : R)
      → Reads reads before old between
      → reads between buffer_before buffer (Ok count) new → 0 < count → count ≤ length buffer
      → Reads reads (before ++ take count buffer) old new
  one_more_read before buffer_before buffer count old between new earlier called some within =
      let read : ReadsOnce reads before (before ++ take count buffer) between new = record {
        buffer_before = buffer_before;
        buffer = buffer;
        count = count;
        called = called;
        some = some;
        within = within;
        joined = refl;
      } in
      (suc earlier.0, (before, between, earlier.1, read))
