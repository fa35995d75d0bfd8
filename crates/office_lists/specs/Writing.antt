-- What holds when an export stops early.
use Rattle.std.specs.Prelude.{◌≡◌, ◌<◌, ℕ, Bool, true, List, length, take, ⊤}
use Rattle.office_lists.specs.Exports.{export_bytes}
use Rattle.office_lists.specs.Records.{Record}
use Rattle.office_lists.specs.declared.writing.WriteEnd.{WriteEnd}
use Rattle.office_lists.specs.declared.writing.WriteEnd.TheVariants.{Fault, OutOfMemory}

-- how many bytes the export wrote before it stopped
abbrev pub sent_of : WriteEnd → ℕ
sent_of (Fault sent) = sent
sent_of (OutOfMemory sent) = sent

-- whether the output has failed after the export stopped; `before` says whether it had failed before the export
abbrev pub has_failed : Bool → WriteEnd → Bool
has_failed before (Fault sent) = true
has_failed before (OutOfMemory sent) = before

-- If a failed allocation stops an export, the export has written as many bytes as its first `count` records have.
-- Here `count` is less than the number of records.
abbrev pub StopsAfter : List Record → WriteEnd → Type 0
StopsAfter records (Fault sent) = ⊤
StopsAfter records (OutOfMemory sent) =
    (count : ℕ) × (count < length records) × (sent ≡ length (export_bytes (take count records)))
