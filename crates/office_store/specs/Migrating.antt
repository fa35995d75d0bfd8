-- The causes for which `Desk::migrate` fails.
use Rattle.std.specs.Prelude.{⊤}
use Rattle.sqlite_schema.specs.declared.schema.Schema.{Schema}
use Rattle.sqlite.specs.Effect.{Database}
use Rattle.office_migration.specs.Causes.{HasCause, IsAllowed}
use Rattle.office_migration.specs.declared.migrating.MigrateFault.{MigrateFault}
use Rattle.office_migration.specs.declared.migrating.MigrateFault.TheVariants as migrate
use Rattle.office_store.specs.declared.desk.faults.DeskFault.{DeskFault}
use Rattle.office_store.specs.declared.desk.faults.DeskFault.TheVariants.{Unavailable, NotAnOffice, OtherVersion, AlreadyThere}

-- The cause that a database must have for `Desk::migrate` to refuse it with this fault. `HasCause` states it for the
-- fault of the migration that becomes this fault.
abbrev pub MayNotMigrate : Database → DeskFault → Type 0
MayNotMigrate db Unavailable = ⊤
MayNotMigrate db NotAnOffice = HasCause db migrate.NotAnOffice
MayNotMigrate db (OtherVersion version) = HasCause db (migrate.OtherVersion version)
MayNotMigrate db AlreadyThere = HasCause db migrate.AlreadyThere

-- The condition on the schema under which `Desk::migrate` may return this fault, whatever the disk does. `IsAllowed`
-- states it for the fault of the migration that becomes this fault.
abbrev pub IsFaultOfMigration : Schema → DeskFault → Type 0
IsFaultOfMigration schema Unavailable = ⊤
IsFaultOfMigration schema NotAnOffice = IsAllowed schema migrate.NotAnOffice
IsFaultOfMigration schema (OtherVersion version) = IsAllowed schema (migrate.OtherVersion version)
IsFaultOfMigration schema AlreadyThere = IsAllowed schema migrate.AlreadyThere

-- converts the fault of a migration to the fault of a desk
abbrev pub migrating_fault : MigrateFault → DeskFault
migrating_fault migrate.Unavailable = Unavailable
migrating_fault (migrate.OtherVersion version) = OtherVersion version
migrating_fault migrate.NotAnOffice = NotAnOffice
migrating_fault migrate.AlreadyThere = AlreadyThere
