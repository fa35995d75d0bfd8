use Rattle.std.proofs.Common.{sym, subst}
use Rattle.sqlite.specs.Effect.{Database}
use Rattle.office_db.proofs.found_offices.Versions.{same_some}
use Rattle.office_schema.specs.tables.Tables.{HoldsOffice}
use Rattle.office_store.specs.Desk.{Represents}
use Rattle.office_store.proofs.desk.Desk.ensure_cached.Goals as goal

pub returns-clause-represents : goal.returns-clause-represents
returns-clause-represents g c clean office represented =
    let open_ = c.in-Ok-Some.ensures.is_open clean in
    let same = c.load-loaded.ensures.same (clean, open_) in
    let inside = subst (λ desk. Represents g.S.Store desk office) (sym c.self.view_is) represented in
    let held = inside.tables (c.load-loaded.ensures.follows.was_open clean open_) in
    let found =
    (rw c.in-Ok-Some.field-0-is at c.in-Ok-Some.ensures.found) clean office represented.lawful
    represented.well_formed held in
    record {
      tables = λ is_open. subst (λ (d : Database). HoldsOffice d office) (sym same) held;
      well_formed = represented.well_formed;
      lawful = represented.lawful;
      cached = same_some c.in-Ok-Some.office office found;
    }
