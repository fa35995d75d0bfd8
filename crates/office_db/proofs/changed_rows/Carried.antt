-- From the effects of statements on tables to their effects on the rows of an office.
use Rattle.std.proofs.Common.{◌∙◌}
use Rattle.sqlite.specs.Effect.{Database}
use Rattle.sqlite.specs.State.{State, HasCleanDisk}
use Rattle.office_state.specs.Change.{applied, Fits}
use Rattle.office_state.specs.declared.change.Change.{Change}
use Rattle.office_state.specs.declared.office.Office.{Office}
use Rattle.office_schema.specs.cells.Columns.{room_columns, person_columns, round_columns, choice_columns}
use Rattle.office_schema.specs.cells.Columns.{word_columns, result_columns, move_columns, list_columns, grade_columns}
use Rattle.office_schema.specs.cells.Columns.{going_columns}
use Rattle.office_schema.specs.cells.WellFormed.{IsWellFormed}
use Rattle.office_schema.specs.rows.Tables.{Tables, rows_of}
use Rattle.office_schema.specs.tables.Makes.{Makes}
use Rattle.office_schema.specs.tables.Tables.{HasTables}
use Rattle.office_schema.proofs.statements.Held.{held_permuted}
use Rattle.office_schema.specs.rows.SameRows.{AreSameRows}
use Rattle.office_db.specs.changes.StoresChanges.{Turns, StoresChange}
use Rattle.office_db.proofs.alike_tables.WellFormed.{well_formed_alike}

-- A database that has some tables has all those with the same rows.
pub has_alike : (db : Database) (these those : Tables) → AreSameRows these those → HasTables db those
    → HasTables db these
has_alike db these those same h = record {
  schema = h.schema;
  rows = record {
    rooms = held_permuted room_columns (db.trees 0) _ _ same.rooms h.rows.rooms;
    people = held_permuted person_columns (db.trees 2) _ _ same.people h.rows.people;
    rounds = held_permuted round_columns (db.trees 6) _ _ same.rounds h.rows.rounds;
    choices = held_permuted choice_columns (db.trees 18) _ _ same.choices h.rows.choices;
    words = held_permuted word_columns (db.trees 13) _ _ same.words h.rows.words;
    results = held_permuted result_columns (db.trees 15) _ _ same.results h.rows.results;
    moves = held_permuted move_columns (db.trees 7) _ _ same.moves h.rows.moves;
    lists = held_permuted list_columns (db.trees 9) _ _ same.lists h.rows.lists;
    grades = held_permuted grade_columns (db.trees 11) _ _ same.grades h.rows.grades;
    going = held_permuted going_columns (db.trees 21) _ _ same.going h.rows.going;
  };
}

-- a statement that keeps the form of rows
pub turns : (old new : State) (f : Tables → Tables)
    → ((tables : Tables) → IsWellFormed tables → IsWellFormed (f tables))
    → Makes old new f → Turns old new f
turns old new f keeps m = record {
  shown = λ tables clean well_formed was. (m.shown tables clean was, keeps tables well_formed);
  mode = m.mode;
}

-- one call after another
pub turns_then : (old mid new : State) (f g : Tables → Tables) → (HasCleanDisk new → HasCleanDisk mid)
    → Turns old mid f → Turns mid new g → Turns old new (λ tables. g (f tables))
turns_then old mid new f g early m n = record {
  shown = λ tables clean well_formed was.
      let then = m.shown tables (early clean) well_formed was in
      n.shown (f tables) clean then.1 then.0;
  mode = λ clean. n.mode clean ∙ m.mode (early clean);
}

-- the calls of a change
pub stores : (first : Office) (old new : State) (change : Change) (f : Tables → Tables)
    → ((office : Office) → Fits first office change → AreSameRows (rows_of (applied office change))
    (f (rows_of office)))
    → Turns old new f → StoresChange first old new change
stores first old new change f same m = record {
  shown = λ office clean fits well_formed was.
      let then = m.shown (rows_of office) clean well_formed was in (
        has_alike new.now _ _ (same office fits) then.0,
        well_formed_alike _ _ (same office fits) then.1,
      );
  mode = m.mode;
}
