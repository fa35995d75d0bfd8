-- A desk over an office of an earlier version.
use Rattle.std.proofs.Common.{◌≡◌, ℕ, [], Some, arith, refl}
use Rattle.std.proofs.lemmas.List.Elements.{All-cons, All-head, All-nil}
use Rattle.sqlite_trees.specs.declared.store.Store.{Ghosts}
use Rattle.sqlite_schema.specs.declared.schema.Schema.{Schema}
use Rattle.sqlite.specs.Effect.{Database}
use Rattle.sqlite.specs.Held.{Held, state}
use Rattle.office_state.specs.Office.Invariants.{IsLawful}
use Rattle.office_state.specs.declared.office.Office.{Office}
use Rattle.office_schema.specs.cells.Columns.{round_shown}
use Rattle.office_schema.specs.cells.Forms.{IsRoundRow}
use Rattle.office_schema.specs.cells.WellFormed.{IsWellFormed}
use Rattle.office_schema.specs.rows.Tables.{own_version, rows_at, rows_of}
use Rattle.office_schema.specs.tables.Steps.{IsIntact}
use Rattle.office_schema.specs.tables.Tables.{HoldsOffice}
use Rattle.office_migration.specs.Causes.{HasCause, IsAllowed}
use Rattle.office_migration.specs.declared.migrating.MigrateFault.{MigrateFault}
use Rattle.office_migration.specs.declared.migrating.MigrateFault.TheVariants as migrate
use Rattle.office_store.specs.Desk.{Shows}
use Rattle.office_store.specs.Migrating.{IsFaultOfMigration, MayNotMigrate, migrating_fault}
use Rattle.office_store.specs.declared.desk.faults.DeskFault.TheVariants.{AlreadyThere}

-- A fault that a migration may return is one that the desk may return.
pub may_not_migrate : (db : Database) (fault : MigrateFault) → HasCause db fault
    → MayNotMigrate db (migrating_fault fault)
may_not_migrate db migrate.Unavailable cause = tt
may_not_migrate db (migrate.OtherVersion version) cause = cause
may_not_migrate db migrate.NotAnOffice cause = cause
may_not_migrate db migrate.AlreadyThere cause = cause

pub fault_of_migration : (schema : Schema) (fault : MigrateFault) → IsAllowed schema fault
    → IsFaultOfMigration schema (migrating_fault fault)
fault_of_migration schema migrate.Unavailable allowed = tt
fault_of_migration schema (migrate.OtherVersion version) allowed = allowed
fault_of_migration schema migrate.NotAnOffice allowed = allowed
fault_of_migration schema migrate.AlreadyThere allowed = allowed

-- A desk returns `AlreadyThere` only if the migration does.
pub only_there : (fault : MigrateFault) → migrating_fault fault ≡ AlreadyThere → fault ≡ migrate.AlreadyThere
only_there migrate.Unavailable e = absurd (cc)
only_there (migrate.OtherVersion version) e = absurd (cc)
only_there migrate.NotAnOffice e = absurd (cc)
only_there migrate.AlreadyThere e = refl

-- The rows of any version are those of this one, except for the version in the row of table `round`.
pub well_formed_as_own : (version : ℕ) (office : Office) → IsWellFormed (rows_at version office)
    → IsWellFormed (rows_of office)
unfolding rows_at
well_formed_as_own version office well_formed =
    let row =
    All-head IsRoundRow (round_shown (record { version = version; number = office.number; phase = office.phase }))
    [] well_formed.rounds in record {
      rooms = well_formed.rooms;
      people = well_formed.people;
      rounds = All-cons IsRoundRow
          (round_shown (record { version = own_version; number = office.number; phase = office.phase })) []
          ((own_version, refl, omega arith), row.1, row.2) (All-nil IsRoundRow);
      choices = well_formed.choices;
      words = well_formed.words;
      results = well_formed.results;
      moves = well_formed.moves;
      lists = well_formed.lists;
      grades = well_formed.grades;
      going = well_formed.going;
    }

pub shows_migrated : {S : Type 0} (g : Ghosts S) (new : Held S) (version : ℕ) (office : Office) → IsIntact (state g new)
    → IsLawful office → IsWellFormed (rows_at version office)
    → HoldsOffice (state g new).now office → Shows g (record { conn = new; cached = Some office }) office
shows_migrated g new version office intact lawful well_formed holds = record {
  is_open = intact.1;
  tables = holds;
  well_formed = well_formed_as_own version office well_formed;
  lawful = lawful;
  cached = refl;
}
