use Rattle.std.proofs.Common.{Err, Some, inl, inr, sym, ap, ◌∙◌, subst}
use Rattle.sqlite.specs.Held.{state}
use Rattle.office_store.specs.Desk.{Shows}
use Rattle.office_store.specs.Migrating.{MayNotMigrate, migrating_fault}
use Rattle.office_schema.specs.tables.Layouts.{version_of}
use Rattle.office_store.proofs.desks.Migrated.{may_not_migrate, shows_migrated, only_there}
use Rattle.office_store.proofs.desk.Desk.migrate.Goals as goal

pub returns-in-Ok-clause-shows : goal.returns-in-Ok-clause-shows
returns-in-Ok-clause-shows g c clean layout laid wide =
    let made = c.in-Ok.ensures.migrated clean layout laid wide in (
      c.in-Ok.office,
      made.0,
      made.1,
      shows_migrated g.S.Store c.migrate.new.conn (version_of layout) c.in-Ok.office
          (clean, c.in-Ok.ensures.is_open clean) c.in-Ok.ensures.lawful made.2 made.3,
    )

pub returns-in-Ok-clause-accepts : goal.returns-in-Ok-clause-accepts
returns-in-Ok-clause-accepts g c layout office earlier clean =
    let made = c.in-Ok.ensures.accepts clean layout office earlier in
    subst (λ cached. Shows g.S.Store (record { conn = c.migrate.new.conn; cached = Some cached }) office) (sym made.0)
    (shows_migrated g.S.Store c.migrate.new.conn (version_of layout) office (clean, c.in-Ok.ensures.is_open clean)
    earlier.lawful earlier.well_formed made.1)

pub returns-in-Ok-clause-other : goal.returns-in-Ok-clause-other
returns-in-Ok-clause-other g c version says other clean = c.in-Ok.ensures.other clean version says other

pub returns-in-Err-clause-other : goal.returns-in-Err-clause-other
returns-in-Err-clause-other g c version says other clean =
    let returned = c.in-Err.ensures.other clean version says other in
    elim returned [
      | inl want ↦ inl (c.migrating_fault.ensures ∙ ap migrating_fault want)
      | inr held ↦ inr (c.migrating_fault.ensures ∙ ap migrating_fault held)
    ]

pub returns-in-Ok-clause-taken : goal.returns-in-Ok-clause-taken
returns-in-Ok-clause-taken g c layout office first used clean = c.in-Ok.ensures.taken clean layout office first used

pub returns-in-Err-clause-taken : goal.returns-in-Err-clause-taken
returns-in-Err-clause-taken g c layout office first used clean =
    let returned = c.in-Err.ensures.taken clean layout office first used in
    elim returned [
      | inl want ↦ inl (c.migrating_fault.ensures ∙ ap migrating_fault want)
      | inr there ↦ inr (c.migrating_fault.ensures ∙ ap migrating_fault there)
    ]

pub returns-in-Err-clause-rows : goal.returns-in-Err-clause-rows
returns-in-Err-clause-rows g c there clean =
    c.in-Err.ensures.rows (ap Err (only_there c.in-Err.fault (sym c.migrating_fault.ensures ∙ there))) clean

pub returns-in-Err-clause-cause : goal.returns-in-Err-clause-cause
returns-in-Err-clause-cause g c clean =
    let old = state g.S.Store c.args.connection in
    subst (MayNotMigrate old.now) (sym c.migrating_fault.ensures)
    (may_not_migrate old.now c.in-Err.fault (c.in-Err.ensures.cause clean))
