-- The effect of a statement that edits one table on all tables of an office.
use Rattle.std.proofs.Common.{◌≡◌, ℕ, ℤ, Bool, List, [], ◌∷◌, length, drop, ◌/◌, ap, subst, slice_get, None, Ok}
use Rattle.sqlite_value.specs.Order.{Row}
use Rattle.sqlite_value.specs.declared.value.Value.TheVariants.{Null}
use Rattle.sqlite_trees.specs.Tree.{rowid}
use Rattle.sqlite_sql.specs.Term.{Term}
use Rattle.sqlite_schema.specs.declared.command.Source.TheVariants.{Values}
use Rattle.sqlite_schema.specs.declared.command.Command.{Command}
use Rattle.sqlite_schema.specs.declared.command.Command.TheVariants.{Insert, Update, Delete}
use Rattle.sqlite_schema.specs.declared.schema.Keys.TheVariants.{Enforced}
use Rattle.sqlite.specs.Does.{AtPlace}
use Rattle.sqlite_rules.specs.Cast.{cast_row}
use Rattle.sqlite_rules.specs.Edit.{with_rowid, next_rowid}
use Rattle.sqlite_rules.specs.declared.error.Rowids.TheVariants.{Chosen}
use Rattle.sqlite_keyed.specs.Lists.{update_where, delete_where}
use Rattle.sqlite.specs.Effect.{Database, value_rows}
use Rattle.sqlite.specs.Does.{OnRows, Tally}
use Rattle.sqlite.specs.State.{State, HasCleanDisk, mode_of}
use Rattle.sqlite.proofs.Callers.{runs_as}
use Rattle.office_schema.specs.tables.Holds.{stored}
use Rattle.office_schema.specs.declared.tables.names.TableName.{TableName}
use Rattle.office_schema.specs.tables.ByName.{RecordOf, records_of, with_records}
use Rattle.office_schema.specs.tables.ByName.{columns_of, place_of, table_named}
use Rattle.office_schema.specs.tables.Makes.{Makes}
use Rattle.office_schema.specs.tables.Schema.{office_schema}
use Rattle.office_schema.specs.tables.Steps.{HasRun}
use Rattle.office_schema.specs.tables.Queries.{over, alone}
use Rattle.office_schema.proofs.statements.Meanings.{Means}
use Rattle.office_schema.proofs.statements.Effects.{insert_held, delete_held, update_held}
use Rattle.office_schema.proofs.statements.OneTable.{is_found, is_timeless, held_of, all_held_after}
use Rattle.office_schema.proofs.statements.Rows.{statement_ran, at_schema, row_inserted, rows_updated, rows_deleted}
use Rattle.office_schema.proofs.statements.Rows.{passes, shows}

module _ (name : TableName) (old new : State) (text : List ℕ) (params : Row) where
  -- Only the records of this table change.
  abbrev pub Changes : (List (RecordOf name) → List (RecordOf name)) → Type 0
  Changes change = Makes old new (λ tables. with_records tables name (change (records_of tables name)))

  -- the effect of the statement on its table
  on_rows : (command : Command) (out : Tally × Database)
      → AtPlace
      (λ t. OnRows
      (record { limit = old.step_limit; keys = Enforced; schema = office_schema; table = t; params = params })
      (mode_of old) None command old.now.trees) (slice_get office_schema.tables (place_of name)) (Ok out)
      → OnRows (record {
        limit = old.step_limit;
        keys = Enforced;
        schema = office_schema;
        table = table_named name;
        params = params;
      }) (mode_of old) None command old.now.trees (Ok out)
  on_rows command out does =
      subst (λ o. AtPlace
      (λ t. OnRows
      (record { limit = old.step_limit; keys = Enforced; schema = office_schema; table = t; params = params })
      (mode_of old) None command old.now.trees) o (Ok out)) (is_found name) does

  pub inserted : (terms : List Term) (width : ℕ) → Means text (Insert (place_of name) (Values terms width))
      → (source : Row) → value_rows params width (length terms / width) terms ≡ source ∷ []
      → (id : List Row → ℤ) (x : RecordOf name)
      → ((rows : List Row) → with_rowid Chosen rows (cast_row (table_named name) source) ≡ stored (columns_of name)
      (id rows, x))
      → (HasCleanDisk new → HasRun text params old new) → Changes (λ xs. x ∷ xs)
  inserted terms width means source values id x is runs = record {
    shown = λ tables clean was.
        let r = runs clean in
        let w = runs_as text params old new office_schema was.schema _ means.is means.plain r.count r.ran in
        let does =
        on_rows (Insert (place_of name) (Values terms width)) _
        (statement_ran text params old new was.schema _ means.is means.plain r.count r.ran w) in
        let t = row_inserted old.step_limit (mode_of old) params (table_named name) (is_timeless name) old.now.trees
        (place_of name) terms width source w.tally new.now values does in
        let put = insert_held (columns_of name) (table_named name) (at_schema old) new.now (records_of tables name)
        (held_of old.now.trees tables was.rows name) source (id (old.now.trees (table_named name).tree))
        x (is _) t in
        record { schema = t.schema; rows = all_held_after name (at_schema old) new.now _ tables was.rows t _ put };
    mode = λ clean. (runs clean).mode;
  }

  -- The engine chooses the rowid.
  pub inserted_anew : (terms : List Term) (width : ℕ) → Means text (Insert (place_of name) (Values terms width))
      → (source : Row) → value_rows params width (length terms / width) terms ≡ source ∷ []
      → (x : RecordOf name) → cast_row (table_named name) source ≡ Null ∷ columns_of name x
      → (HasCleanDisk new → HasRun text params old new) → Changes (λ xs. x ∷ xs)
  inserted_anew terms width means source values x casts =
      inserted terms width means source values next_rowid x (λ rows. ap (with_rowid Chosen rows) casts)

  module _ (tests project : List Term) (keyed : (r : Row) → rowid (shows params project r) ≡ rowid r)
      (which : RecordOf name → Bool)
      (tells : (e : ℤ × RecordOf name) → passes params tests (stored (columns_of name) e) ≡ which e.1) where
    pub deleted : Means text (Delete (place_of name) (alone (over (table_named name).tree tests project [])))
        → (HasCleanDisk new → HasRun text params old new) → Changes (delete_where which)
    deleted means runs = record {
      shown = λ tables clean was.
          let r = runs clean in
          let w = runs_as text params old new office_schema was.schema _ means.is means.plain r.count r.ran in
          let does = on_rows (Delete (place_of name) (alone (over (table_named name).tree tests project []))) _
          (statement_ran text params old new was.schema _ means.is means.plain r.count r.ran w) in
          let found =
          rows_deleted old.step_limit (mode_of old) params (table_named name) (is_timeless name) old.now.trees
          (place_of name) (alone (over (table_named name).tree tests project [])) w.tally new.now does in
          let put = delete_held (columns_of name) (table_named name) (at_schema old) new.now (records_of tables name)
          (held_of old.now.trees tables was.rows name) params tests project keyed which tells found.0
          found.1 found.2 in
          record {
            schema = found.2.schema;
            rows = all_held_after name (at_schema old) new.now _ tables was.rows found.2 _ put;
          };
      mode = λ clean. (runs clean).mode;
    }

    pub updated : (f : RecordOf name → RecordOf name)
        → ((e : ℤ × RecordOf name)
        → cast_row (table_named name) (drop 1 (shows params project (stored (columns_of name) e))) ≡ stored
        (columns_of name) (e.0, f e.1))
        → Means text (Update (place_of name) (alone (over (table_named name).tree tests project [])))
        → (HasCleanDisk new → HasRun text params old new) → Changes (update_where which f)
    updated f changed means runs = record {
      shown = λ tables clean was.
          let r = runs clean in
          let w = runs_as text params old new office_schema was.schema _ means.is means.plain r.count r.ran in
          let does = on_rows (Update (place_of name) (alone (over (table_named name).tree tests project []))) _
          (statement_ran text params old new was.schema _ means.is means.plain r.count r.ran w) in
          let found =
          rows_updated old.step_limit (mode_of old) params (table_named name) (is_timeless name) old.now.trees
          (place_of name) (alone (over (table_named name).tree tests project [])) w.tally new.now does in
          let put = update_held (columns_of name) (table_named name) (at_schema old) new.now (records_of tables name)
          (held_of old.now.trees tables was.rows name) params tests project keyed which tells found.0 found.1 f
          changed found.2 in
          record {
            schema = found.2.schema;
            rows = all_held_after name (at_schema old) new.now _ tables was.rows found.2 _ put;
          };
      mode = λ clean. (runs clean).mode;
    }
