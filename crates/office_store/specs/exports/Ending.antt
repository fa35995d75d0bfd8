-- How an export ends, and what was written.
use Rattle.std.specs.Prelude.{◌≡◌, ◌<◌, ◌≤◌, ℕ, Bool, true, ⊤, List, [], ◌∷◌, length, take}
use Rattle.room_types.specs.Streams.{Output, Puts}
use Rattle.office_lists.specs.Exports.{export_bytes, header_of}
use Rattle.office_lists.specs.Records.{Record}
use Rattle.office_lists.specs.declared.exports.ExportKind.{ExportKind}
use Rattle.office_store.specs.declared.exports.ending.ExportEnd.{ExportEnd}
use Rattle.office_store.specs.declared.exports.ending.ExportEnd.TheVariants.{Fault, Unavailable}

-- how many bytes were written before the end
abbrev pub sent_of : ExportEnd → ℕ
sent_of (Fault sent) = sent
sent_of (Unavailable sent) = sent

-- whether a write to the output has failed after this end, given whether one had failed before
abbrev pub has_failed : Bool → ExportEnd → Bool
has_failed before (Fault sent) = true
has_failed before (Unavailable sent) = before

-- An early end of an export of `size` bytes. After a failed write, fewer than `size` bytes were written. After any
-- other failure, at most `size` bytes were.
abbrev pub StopsWithin : ℕ → ExportEnd → Type 0
StopsWithin size (Fault sent) = sent < size
StopsWithin size (Unavailable sent) = sent ≤ size

-- Exactly `count` bytes were written.
abbrev pub PutsCount : Output → Output → ℕ → Type 0
PutsCount before after count = (bytes : List ℕ) × Puts before after bytes × (length bytes ≡ count)

-- The header of the export and some records after it were written.
abbrev pub PutsExport : ExportKind → Output → Output → Type 0
PutsExport kind before after =
    (records : List Record) × Puts before after (export_bytes (header_of kind ∷ records))

-- The list is empty, or begins with the header of the export.
abbrev pub BeginsExport : ExportKind → List Record → Type 0
BeginsExport kind [] = ⊤
BeginsExport kind (header ∷ records) = header ≡ header_of kind

-- Unless a write failed, the export ended between two records. Only whole records were written, and `sent` is the
-- number of their bytes.
abbrev pub EndsBetween : ExportKind → Output → Output → ExportEnd → Type 0
EndsBetween kind before after (Fault sent) = ⊤
EndsBetween kind before after (Unavailable sent) =
    (records : List Record) × BeginsExport kind records × Puts before after (export_bytes records)
    × (length (export_bytes records) ≡ sent)

-- The first `count` of these bytes were written, and the list has at least `count` bytes.
pub record PutsPrefix (before after : Output) (count : ℕ) (bytes : List ℕ) : Type 0 where
  pub written : Puts before after (take count bytes)
  pub within : count ≤ length bytes
