use Rattle.std.proofs.Common.{◌≡◌}
use Rattle.sqlite.specs.Held.{state}
use Rattle.office_schema.specs.tables.Declaring.{DeclaresFirst}
use Rattle.office_schema.specs.tables.Steps.{StaysInside}
use Rattle.office_schema.proofs.tables.creating.create_tables_from.Given as goal

-- The tables before this place exist.
abbrev pub invariant-loop-place : goal.invariant-loop-place
invariant-loop-place g l = record {
  same_reference : l.tx.conn.ghost_name ≡ l.fn.tx.conn.ghost_name;
  change : DeclaresFirst l.first l.place l.first (state g.S.Store l.fn.tx.conn.now) (state g.S.Store l.tx.conn.now);
  inside : StaysInside (state g.S.Store l.fn.tx.conn.now) (state g.S.Store l.tx.conn.now);
}
