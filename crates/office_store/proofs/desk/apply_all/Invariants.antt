use Rattle.std.proofs.Common.{◌≡◌, true, drop}
use Rattle.office_state.specs.Change.{applied_all}
use Rattle.office_store.specs.Caching.{changes_allocate}
use Rattle.office_store.proofs.desk.apply_all.Given as goal

-- The remaining changes make of the office now what all of them make of it as it was. If one of the remaining changes
-- needs memory, then one of all of them does.
abbrev pub invariant-loop-change : goal.invariant-loop-change
invariant-loop-change l = record {
  goes : applied_all l.office (drop l.change-index l.changes) ≡ applied_all l.fn.office l.changes;
  takes : changes_allocate l.office (drop l.change-index l.changes) ≡ true
      → changes_allocate l.fn.office l.changes ≡ true;
}
