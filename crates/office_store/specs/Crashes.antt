-- What a crash leaves of the office of a desk.
use Rattle.std.specs.Prelude.{◌≡◌, ◌⊎◌, false, List, [], ◌∷◌, IsTrue}
use Rattle.sqlite_trees.specs.Tree.{Trees}
use Rattle.sqlite_trees.specs.declared.store.Store.{Ghosts}
use Rattle.sqlite.specs.Held.{state}
use Rattle.sqlite.specs.State.{HasCleanDisk}
use Rattle.office_state.specs.declared.office.Office.{Office}
use Rattle.office_schema.specs.rows.Tables.{rows_of}
use Rattle.office_schema.specs.tables.Crashes.{LeavesNothingNew, ShowsCommitted}
use Rattle.office_schema.specs.tables.Tables.{AreHeld}
use Rattle.office_store.specs.Desk.{DeskState, Shows}
use Rattle.office_store.specs.Handling.{HandlesAt}
use Rattle.office_store.specs.LawfulSteps.{HandlesLawfully}
use Rattle.office_core.specs.Requests.{IsRun, office_after}
use Rattle.office_core.specs.declared.requests.Answer.{Answer}
use Rattle.office_core.specs.declared.requests.Request.{Request}

module _ {S : Type 0} (g : Ghosts S) where
  -- In this run of requests, which begins at the desk `old` when the office is `office`, a fault closed the connection
  -- during the request `asked`. The office was `before` when this request came. (`run.0` is the desk after the first
  -- request, and `run.2` the run of the others.)
  abbrev pub IsClosedDuring : (old : DeskState S) → Office → (requests : List Request) (answers : List Answer) (new : DeskState S)
      → IsRun (HandlesAt g) old requests answers new → Office → Request → Type 0
  IsClosedDuring old office (request ∷ requests) (answer ∷ answers) new run before asked =
      (IsTrue (state g old.conn).is_open × ((state g run.0.conn).is_open ≡ false) × (before ≡ office) × (asked ≡ request))
      ⊎ (IsTrue (state g run.0.conn).is_open
      × (next : Office) × HandlesLawfully office request answer next × IsClosedDuring run.0 next requests answers new run.2 before asked)
  IsClosedDuring old office [] answers new run before asked = ⊥
  IsClosedDuring old office (request ∷ requests) [] new run before asked = ⊥

  -- A crash leaves tables that hold the rows of this office, and nothing else.
  abbrev pub LeavesOffice : DeskState S → Office → Type 0
  LeavesOffice desk office = (db : Trees) → (state g desk.conn).may_leave db → AreHeld db (rows_of office)

  -- A crash leaves tables that hold the rows of the office before the request, or of the office after it.
  abbrev pub LeavesBeforeOrAfter : DeskState S → Office → Request → Type 0
  LeavesBeforeOrAfter desk office request =
      (db : Trees) → (state g desk.conn).may_leave db
      → AreHeld db (rows_of office) ⊎ AreHeld db (rows_of (office_after office request))

  -- While a connection is open and shows what was committed last, a crash leaves the office that the desk shows.
  abbrev pub LeavesWhatIsShown : Type 0
  LeavesWhatIsShown =
      (desk : DeskState S) (office : Office) → ShowsCommitted (state g desk.conn) → Shows g desk office
      → LeavesOffice desk office

  -- After a request, a crash leaves the office before it or the office after it, if the disk returned what was written.
  abbrev pub LeavesAfterRequest : Type 0
  LeavesAfterRequest =
      (old new : DeskState S) (request : Request) (answer : Answer) (office : Office)
      → HandlesAt g old request answer new → HasCleanDisk (state g new.conn) → ShowsCommitted (state g old.conn)
      → Shows g old office → LeavesBeforeOrAfter new office request

  -- Once a fault has closed the connection, a request adds nothing to what a crash may leave.
  abbrev pub LeavesNothingOnceClosed : Type 0
  LeavesNothingOnceClosed =
      (old new : DeskState S) (request : Request) (answer : Answer) → HandlesAt g old request answer new
      → (state g old.conn).is_open ≡ false → LeavesNothingNew (state g old.conn) (state g new.conn)

  -- After a run of requests, if the disk returned what was written: either the connection is open, and a crash leaves
  -- the office after all requests. Or a fault closed the connection during one of the requests, and a crash leaves the
  -- office before this request or the office after it.
  abbrev pub LeavesAfterRun : Type 0
  LeavesAfterRun =
      (old new : DeskState S) (requests : List Request) (answers : List Answer) (office : Office)
      (run : IsRun (HandlesAt g) old requests answers new) → HasCleanDisk (state g new.conn)
      → ShowsCommitted (state g old.conn) → Shows g old office
      → (IsTrue (state g new.conn).is_open
      × (last : Office) × IsRun HandlesLawfully office requests answers last × LeavesOffice new last)
      ⊎ (((state g new.conn).is_open ≡ false)
      × (before : Office) × (asked : Request) × IsClosedDuring old office requests answers new run before asked
      × LeavesBeforeOrAfter new before asked)
