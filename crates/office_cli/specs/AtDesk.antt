-- What an action at a desk does and prints, and what making a desk prints.
use Rattle.std.specs.Prelude.{◌≡◌, ◌⊎◌, ◌<◌, ℕ, true, List, [], ◌∷◌, Result, Ok, Err, length, codes}
use Rattle.sqlite.specs.Held.{state}
use Rattle.sqlite.specs.State.{HasCleanDisk}
use Rattle.sqlite_trees.specs.declared.store.Store.{Ghosts}
use Rattle.office_cli.specs.DeskFaults.{RefusesDesk}
use Rattle.office_cli.specs.ListAccess.{ImportsPath, ListAccess}
use Rattle.office_cli.specs.Actions.{Action}
use Rattle.office_cli.specs.Actions.Action.{does, does_lines, imports, exports, serves}
use Rattle.office_state.specs.declared.office.Office.{Office}
use Rattle.office_store.specs.exports.Ending.{EndsBetween, PutsCount, PutsPrefix, has_failed, sent_of}
use Rattle.office_store.specs.exports.Exports.{exported}
use Rattle.office_store.specs.declared.exports.ending.ExportEnd.{ExportEnd}
use Rattle.room_types.specs.Printing.{Prints}
use Rattle.office_lines.specs.Rehearsals.{Rehearses}
use Rattle.office_lines.specs.SingleLines.{DoesWords}
use Rattle.office_lines.specs.declared.ending.Ending.{Ending}
use Rattle.office_lists.specs.Exports.{export_bytes, header_of}
use Rattle.office_lists.specs.Records.{Record}
use Rattle.office_lists.specs.declared.exports.ExportKind.{ExportKind}
use Rattle.office_db.specs.loading.Reading.{OnlyReads}
use Rattle.office_store.specs.Desk.{DeskState, Represents}
use Rattle.office_store.specs.Handling.{HandlesAt}
use Rattle.office_store.specs.LawfulSteps.{HandlesLawfully}
use Rattle.office_store.specs.declared.desk.faults.DeskFault.{DeskFault}
use Rattle.office_schema.specs.tables.Steps.{Follows}
use Rattle.room_types.specs.OutputLines.{line_of}
use Rattle.resident_http.specs.server.Network.{Network}
use Rattle.resident_http.specs.server.Serving.{ServesPort}
use Rattle.room_types.specs.Streams.{Input, Output}
use Rattle.room_types.specs.Texts.{Text}
use Rattle.room_types.specs.declared.kinds.ListKind.{ListKind}

-- The program prints `ok` if there is a desk, and otherwise the reason why there is none.
abbrev pub PrintsMade : {S : Type 0} → Result (DeskState S) DeskFault → ℕ → Output → Output → Type 0
PrintsMade (Ok desk) status out out' = Prints (line_of (codes "ok" ∷ [])) 0 status out out'
PrintsMade (Err fault) status out out' = RefusesDesk fault status out out'

-- A prefix of these bytes was written. Either the writer's failure flag did not change, or the writer has failed and
-- not all bytes were written.
pub record EndsEarly (bytes : List ℕ) (out out' : Output) : Type 0 where
  pub sent : ℕ
  pub prefix : PutsPrefix out out' sent bytes
  pub short : (out'.failed ≡ out.failed) ⊎ ((out'.failed ≡ true) × (sent < length bytes))

-- Either the program prints the whole export, and the status is 0 if printing succeeds. Or the export stops early,
-- no flush follows, and the status is 3.
abbrev pub SendsExport : List ℕ → ℕ → Output → Output → Type 0
SendsExport bytes status out out' =
    Prints bytes 0 status out out' ⊎ ((status ≡ 3) × (out'.flushes ≡ out.flushes) × EndsEarly bytes out out')

-- How an export ends, whatever the disk does. Either the program prints a header and records, and the status is 0
-- if printing succeeds. Or the export ends early, no flush follows, and the status is 3. Unless a write failed, only
-- whole records were written before an early end, or nothing was.
abbrev pub EndsExport : ExportKind → ℕ → Output → Output → Type 0
EndsExport kind status out out' =
    ((records : List Record) × Prints (export_bytes (header_of kind ∷ records)) 0 status out out')
    ⊎ ((status ≡ 3) × (out'.flushes ≡ out.flushes) × (end : ExportEnd) × PutsCount out out' (sent_of end)
    × EndsBetween kind out out' end × (out'.failed ≡ has_failed out.failed end))

module _ {S : Type 0} (g : Ghosts S) where
  -- The desk handles the words as a line. If the disk returned what was written to it, the office that the desk
  -- represents may handle the words in the same way. The desk then represents the office after this line.
  pub record HandlesWords (old new : DeskState S) (words : List Text) (status : ℕ) (out out' : Output) : Type 0 where
    pub follows : Follows (state g old.conn) (state g new.conn)
    pub handled : DoesWords (HandlesAt g) old words status new out out'
    pub done : HasCleanDisk (state g new.conn) → (office : Office) → Represents g old office
        → (next : Office) × DoesWords HandlesLawfully office words status next out out' × Represents g new next

  -- The desk handles the lines of the input as in a rehearsal. So a byte of an answer is written only once its line has
  -- been handled, and what the line changed is committed (`committed` of `HandlesAt`). If the disk returned what was
  -- written to it, the office that the desk represents may handle the lines in the same way. The desk then represents
  -- the office after the handled lines, however the input and the output ended.
  pub record HandlesLines (old new : DeskState S) (status : ℕ) (input input' : Input) (out out' : Output) : Type 0 where
    pub ending : Ending
    pub follows : Follows (state g old.conn) (state g new.conn)
    pub handled : Rehearses (HandlesAt g) ending status old new input input' out out'
    pub done : HasCleanDisk (state g new.conn) → (office : Office) → Represents g old office
        → (next : Office) × Rehearses HandlesLawfully ending status office next input input' out out' × Represents g new next

  -- The desk imports the list at a path. If the disk returned what was written to it, the office that the desk
  -- represents may import the list in the same way. The desk then represents the office after this import.
  pub record ImportsDesk {L : Type 0} (list_access : ListAccess L) (lists : L) (old : DeskState S) (lists' : L) (new : DeskState S) (kind : ListKind) (label path : Text) (status : ℕ) (out out' : Output)
      : Type 0 where
    pub follows : Follows (state g old.conn) (state g new.conn)
    pub handled : ImportsPath (HandlesAt g) list_access lists old kind label path status lists' new out out'
    pub done : HasCleanDisk (state g new.conn) → (office : Office) → Represents g old office
        → (next : Office) × ImportsPath HandlesLawfully list_access lists office kind label path status lists' next out out' × Represents g new next

  -- The desk writes an export. If the disk returned what was written to it, the export is that of the office that the
  -- desk represents, and the desk still represents this office.
  pub record ExportsDesk (old new : DeskState S) (kind : ExportKind) (status : ℕ) (out out' : Output) : Type 0 where
    pub reads : OnlyReads (state g old.conn) (state g new.conn)
    pub written : EndsExport kind status out out'
    pub done : HasCleanDisk (state g new.conn) → (office : Office) → Represents g old office
        → SendsExport (export_bytes (exported kind office)) status out out' × Represents g new office

  module _ {L P : Type 0} (list_access : ListAccess L) (network : Network P) where
    -- The action is performed at the desk. Only an import opens a list, only serving listens on a port, and only
    -- `does_lines` reads the input.
    abbrev pub Performs : Action → L → P → DeskState S → ℕ → L → P → DeskState S → Input → Input → Output → Output → Type 0
    Performs (does words) lists ports old status lists' ports' new input input' out out' =
        HandlesWords old new words status out out' × (lists' ≡ lists) × (ports' ≡ ports) × (input' ≡ input)
    Performs does_lines lists ports old status lists' ports' new input input' out out' =
        HandlesLines old new status input input' out out' × (lists' ≡ lists) × (ports' ≡ ports)
    Performs (imports kind label list) lists ports old status lists' ports' new input input' out out' =
        ImportsDesk list_access lists old lists' new kind label list status out out' × (ports' ≡ ports) × (input' ≡ input)
    Performs (exports kind) lists ports old status lists' ports' new input input' out out' =
        ExportsDesk old new kind status out out' × (lists' ≡ lists) × (ports' ≡ ports) × (input' ≡ input)
    Performs (serves port count) lists ports old status lists' ports' new input input' out out' =
        ServesPort g network ports old ports' new port count status out out' × (lists' ≡ lists) × (input' ≡ input)
