-- What a desk does with a request.
use Rattle.std.specs.Prelude.{◌≡◌, ◌⊎◌, Bool, true, false, Option, Some, None, Result, IsTrue, IfOk, IfSome}
use Rattle.sqlite_trees.specs.declared.store.Store.{Ghosts}
use Rattle.sqlite.specs.Effect.{Database}
use Rattle.sqlite.specs.Held.{state}
use Rattle.sqlite.specs.State.{HasCleanDisk}
use Rattle.office_state.specs.Office.Invariants.{IsLawful}
use Rattle.office_state.specs.declared.office.Office.{Office}
use Rattle.office_db.specs.loading.Reading.{KeepsDatabase, OnlyReads}
use Rattle.office_schema.specs.tables.Crashes.{LeavesOldOr, ShowsCommitted}
use Rattle.office_schema.specs.tables.Steps.{Follows}
use Rattle.office_schema.specs.tables.Tables.{HoldsOffice}
use Rattle.office_store.specs.Certain.{is_certain}
use Rattle.office_store.specs.Caching.{caching_allocates}
use Rattle.office_store.specs.Desk.{DeskState, Represents}
use Rattle.office_core.specs.Requests.{Handles, answer_to, office_after}
use Rattle.office_store.specs.Storing.{IsStored, changes_nothing}
use Rattle.office_store.specs.declared.desk.faults.Unavailable.{Unavailable as NoAnswer}
use Rattle.office_core.specs.declared.requests.Answer.{Answer}
use Rattle.office_core.specs.declared.requests.Answer.TheVariants.{Unavailable}
use Rattle.office_core.specs.declared.requests.Request.{Request}

-- What a request does to a desk that caches `office`, whatever the disk does. If `is_certain` holds for the request,
-- its answer is the one of this office (`certain`). The office stays cached, unless the desk stores changes of a
-- command (`stays`). If an office is cached afterwards, it results from handling the request (`goes_on`). The cache
-- is empty afterwards only if applying the changes of the command needs memory (`lost`).
pub record UpdatesCache (office : Office) (request : Request) (answer : Answer) (next : Option Office) : Type 0 where
  pub certain : is_certain office request ≡ true → answer ≡ answer_to office request
  pub stays : ¬ IsStored office request answer → next ≡ Some office
  pub goes_on : IfSome next (λ after. Handles office request answer after)
  pub lost : next ≡ None → caching_allocates office request ≡ true

-- This office is lawful, and gave the answer, whatever the disk did. If the desk had cached an office, it is this one
-- (`was_cached`). If the disk returned what was written, it is the office that the desk represented (`represented`).
-- `UpdatesCache` describes the cache afterwards (`keeps`). If the desk stored no changes, it only read the tables
-- (`reads`). If it stored some, and the disk returned what was written, the connection is open (`stored`).
pub record IsAnsweredBy {S : Type 0} (g : Ghosts S) (old : DeskState S) (request : Request) (answer : Answer)
    (new : DeskState S) (office : Office) : Type 0 where
  pub lawful : IsLawful office
  pub was_cached : IfSome old.cached (λ cached. cached ≡ office)
  pub represented : HasCleanDisk (state g new.conn) → (represented : Office) → Represents g old represented → office ≡ represented
  pub answers : answer ≡ answer_to office request
  pub keeps : UpdatesCache office request answer new.cached
  pub reads : ¬ IsStored office request answer → OnlyReads (state g old.conn) (state g new.conn)
  pub stored : IsStored office request answer → HasCleanDisk (state g new.conn) → IsTrue (state g new.conn).is_open

-- Some office gave the answer (`IsAnsweredBy`). Or the answer is `Unavailable`. Then the tables are the same as before,
-- unless a fault closed the connection or the disk did not return what was written.
abbrev pub IsQueryAnswered : {S : Type 0} → Ghosts S → DeskState S → Request → Answer → DeskState S → Type 0
IsQueryAnswered g old request answer new =
    ((office : Office) × IsAnsweredBy g old request answer new office)
    ⊎ ((answer ≡ Unavailable) × KeepsDatabase (state g old.conn) (state g new.conn))

-- `after` is what a request may commit at a desk, and so what a crash may leave of it, whatever the answer. Some office
-- has changes for the request, and the connection was open. If the desk had cached an office, it is this one. If the
-- desk represented an office, it is this one, and `after` holds the rows of this office after the request.
pub record CommitsRequest {S : Type 0} (g : Ghosts S) (old : DeskState S) (request : Request) (after : Database)
    : Type 0 where
  pub office : Office
  pub was_cached : IfSome old.cached (λ cached. cached ≡ office)
  pub represented : (represented : Office) → Represents g old represented → office ≡ represented
  pub changes : changes_nothing office request ≡ false
  pub was_open : IsTrue (state g old.conn).is_open
  pub holds : Represents g old office → HoldsOffice after (office_after office request)

-- How a desk handles a request. Whatever the disk does, some office gives the answer, or the answer is `Unavailable`
-- (`returned`). If the desk caches an office, `UpdatesCache` describes the answer and the cache afterwards (`keeps`).
-- If the cached office answers a query, refuses a command, or accepts a command without changes, no statement runs on
-- the connection (`untouched`). While the connection is open, it shows what was committed last (`committed`).
--
-- If the disk returned what was written, the office that the desk represents handles the request, and the desk then
-- represents the office that results (`steps`). A crash leaves what it could leave before the request, or the office
-- after the request (`crash`).
pub record HandlesAt {S : Type 0} (g : Ghosts S) (old : DeskState S) (request : Request) (answer : Answer)
    (new : DeskState S) : Type 0 where
  pub follows : Follows (state g old.conn) (state g new.conn)
  pub committed : ShowsCommitted (state g new.conn)
  pub returned : IsQueryAnswered g old request answer new
  pub keeps : IfSome old.cached (λ office. UpdatesCache office request answer new.cached)
  pub untouched : IfSome old.cached (λ office. changes_nothing office request ≡ true → new.conn ≡ old.conn)
  pub steps : HasCleanDisk (state g new.conn) → (office : Office) → Represents g old office
      → (next : Office) × Handles office request answer next × Represents g new next
  pub crash : LeavesOldOr (CommitsRequest g old request) (state g old.conn) (state g new.conn)

-- A desk is asked whether its connection is open. It only reads the tables (`reads`), and keeps its cache (`cached`).
-- While the connection is open, it shows what was committed last (`committed`). If the disk returned what was written to
-- it, an answer is right (`right`), and the desk represents the office that it represented before (`represents`).
pub record TellsIfOpen {S : Type 0} (g : Ghosts S) (old : DeskState S) (answer : Result Bool NoAnswer) (new : DeskState S) : Type 0 where
  pub reads : OnlyReads (state g old.conn) (state g new.conn)
  pub committed : ShowsCommitted (state g new.conn)
  pub cached : new.cached ≡ old.cached
  pub right : HasCleanDisk (state g new.conn) → IfOk answer (λ is_open. is_open ≡ (state g new.conn).is_open)
  pub represents : HasCleanDisk (state g new.conn) → (office : Office) → Represents g old office → Represents g new office
