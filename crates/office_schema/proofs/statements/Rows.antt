-- The effect of a statement on the rows of one table.
use Rattle.std.proofs.Common.{◌≡◌, ℕ, Bool, true, false, List, [], ◌∷◌, ◌++◌, map, filter, flat_map, drop, length, ◌/◌}
use Rattle.std.proofs.Common.{Option, None, Ok, Err, Result, refl, sym, ap, ◌∙◌, subst, cond, nat_le, unwrap_or, ◌^◌}
use Rattle.std.proofs.Common.{inl, inr, ◌⊎◌}
use Rattle.std.specs.List.{AllByRecursion, list_all, filter_map}
use Rattle.std.specs.List.Sorted.{IsPermutation}
use Rattle.std.proofs.lemmas.List.Sorted.{IsPermutation-map}
use Rattle.sqlite_value.specs.Order.{Row}
use Rattle.sqlite_value.specs.declared.value.Value.TheVariants.{Null}
use Rattle.sqlite_value.specs.declared.keys.Key.{Key}
use Rattle.sqlite_sql.specs.Term.{Term, eval_all, holds}
use Rattle.sqlite_sql.specs.Query.{IsAnswerAs, output, Output}
use Rattle.sqlite_sql.specs.Program.{overlay}
use Rattle.sqlite_trees.specs.Tree.{Trees}
use Rattle.sqlite_schema.specs.declared.schema.Table.{Table}
use Rattle.sqlite_schema.specs.declared.schema.Keys.TheVariants.{Enforced}
use Rattle.sqlite_schema.specs.declared.command.Source.TheVariants.{Values}
use Rattle.sqlite_schema.specs.declared.command.Command.{Command}
use Rattle.sqlite_schema.specs.declared.command.Command.TheVariants.{Insert, Update, Delete}
use Rattle.sqlite_rules.specs.Edit.{Edit, edit_of, edited, are_fresh, left_by, taken_by}
use Rattle.sqlite_rules.specs.declared.error.Rowids.TheVariants.{Chosen, Above, Given}
use Rattle.sqlite_rules.specs.Action.{works, work_by, pairs, deed_for}
use Rattle.sqlite_schema.specs.Rules.{parent_key}
use Rattle.std.proofs.Common.{◌==◌, ◌≢◌, ◌-◌}
use Rattle.sqlite_rules.specs.Calls.{ids_of}
use Rattle.sqlite.specs.Effect.{Database, Answers, value_rows}
use Rattle.sqlite.specs.Rows.{Gives, Written, Task, Edited, rowids_for, count_of, higher, stamped}
use Rattle.sqlite_schema.specs.declared.schema.Stamps.{Stamps}
use Rattle.std.proofs.Common.{fold, is_lt, int_cmp}
use Rattle.std.proofs.lemmas.Bool.{MatchBool-at_false}
use Rattle.sqlite.specs.declared.run.Mode.{Mode}
use Rattle.sqlite_schema.specs.declared.program.Program.{Program}
use Rattle.std.proofs.Common.{append-nil}
use Rattle.sqlite.specs.Does.{Tally, Does, OnRows, Concludes}
use Rattle.sqlite.proofs.Callers.{IsPlain, command_of, statement_of, one_step}
use Rattle.sqlite.specs.Listing.{understood}
use Rattle.sqlite.specs.State.{State, mode_of, Writes, Executes}
use Rattle.sqlite_keyed.proofs.ListLemmas.{map-map}
use Rattle.office_schema.specs.tables.Schema.{office_schema}
use Rattle.office_schema.specs.tables.Queries.{over, alone}

abbrev pub passes : Row → List Term → Row → Bool
passes params tests r = list_all (holds (params ∷ r ∷ [])) tests

abbrev pub shows : Row → List Term → Row → Row
shows params project r = eval_all project (params ∷ r ∷ [])

no_overlay : (trees : Trees) (tree : ℕ) → overlay trees [] tree ≡ trees tree
no_overlay trees tree =
    elim (nat_le (2 ^ 31) tree) as (λ b. unwrap_or (cond b None None) (trees tree) ≡ trees tree)
    [ true ↦ refl | false ↦ refl ]

matching : (params : Row) (tests : List Term) (rows : List Row)
    → flat_map (λ r. cond (passes params tests r) ((params ∷ r ∷ []) ∷ []) []) rows ≡ map (λ r. params ∷ r ∷ [])
    (filter (passes params tests) rows)
matching params tests [] = refl
matching params tests (r ∷ rows) = go (passes params tests r) (matching params tests rows)
  where
    go : (b : Bool) → flat_map (λ x. cond (passes params tests x) ((params ∷ x ∷ []) ∷ []) []) rows ≡ map
        (λ x. params ∷ x ∷ []) (filter (passes params tests) rows)
        → cond b ((params ∷ r ∷ []) ∷ []) [] ++ flat_map (λ x. cond (passes params tests x) ((params ∷ x ∷ []) ∷ []) [])
        rows ≡ map (λ x. params ∷ x ∷ [])
        (cond b (r ∷ filter (passes params tests) rows) (filter (passes params tests) rows))
    go true more = ap (λ l. (params ∷ r ∷ []) ∷ l) more
    go false more = more

-- The answer of a query of one table has the columns of each row that passes the tests.
pub answer_over : (tree : ℕ) (tests project : List Term) (order : List (Term × Key)) (db : Database) (params : Row)
    (rows : List Row) → Answers db (alone (over tree tests project order)) params rows
    → IsPermutation (map (shows params project) (filter (passes params tests) (db.trees tree))) rows
answer_over tree tests project order db params rows h =
    let q = over tree tests project order in
    let a : IsAnswerAs Null q (overlay db.trees []) params rows = h.answer Null in
    let staged : a.staged ≡ map (λ r. params ∷ r ∷ []) (filter (passes params tests) (db.trees tree)) =
    a.grouped ∙ ap (flat_map (λ r. cond (passes params tests r) ((params ∷ r ∷ []) ∷ []) [])) (no_overlay db.trees tree)
    ∙ matching params tests (db.trees tree) in
    let kept : a.kept ≡ map (output q) a.staged = a.distinct in
    let shown : rows ≡ map (λ (o : Output). o.1) a.ordered = a.shown in
    let outputs : map (λ (o : Output). o.1) a.kept ≡ map (shows params project)
    (filter (passes params tests) (db.trees tree)) =
    ap (map (λ (o : Output). o.1)) (kept ∙ ap (map (output q)) staged) ∙ map-map (λ (o : Output). o.1) (output q)
    (map (λ r. params ∷ r ∷ []) (filter (passes params tests) (db.trees tree)))
    ∙ map-map (eval_all project) (λ r. params ∷ r ∷ []) (filter (passes params tests) (db.trees tree)) in
    subst (λ l. IsPermutation l rows) outputs
    (subst (IsPermutation (map (λ (o : Output). o.1) a.kept)) (sym shown) (IsPermutation-map _ _ _ a.same))

-- No reference of an office changes the rows that refer to a row.
pub calm : (tree : ℕ) (olds news : List Row) → works office_schema Enforced 0 tree olds news ≡ []
calm tree olds news = go (length news == 0)
  where
    go : (b : Bool)
        → flat_map
        (λ child. filter_map
        (λ ref. work_by 0 tree (pairs olds news) child ref (deed_for Enforced b ref)
        (parent_key office_schema.tables ref)) child.references) office_schema.tables ≡ []
    go true = refl
    go false = refl

-- A part that returned a value did not stop on the way.
pub continued : {B E R : Type 0} {b : B} {Stops : E → Type 0} → ((stop : E) × Stops stop × (Ok b ≡ Err stop)) ⊎ R → R
continued (inl stopped) = absurd (let e = stopped.2 in cc)
continued (inr on) = on

pub same_value : {B E : Type 0} {a b : B} → ◌≡◌ {A = Result B E} (Ok a) (Ok b) → a ≡ b
same_value e = cc

-- Only the rows of this table differ, and they result from an edit.
pub record Turned (table : Table) (old new : Database) (edit : Edit) : Type 0 where
  pub schema : new.schema ≡ office_schema
  pub fresh : are_fresh (Rattle.sqlite_rules.specs.Edit.left_by old.trees edit) edit.news ≡ true
  pub rows : new.trees table.tree ≡ edited old.trees edit
  pub others : AllByRecursion (λ t. t.tree ≢ table.tree → new.trees t.tree ≡ old.trees t.tree) office_schema.tables

-- a table with no AUTOINCREMENT and no default that reads the time
abbrev pub IsTimeless : Table → Type 0
IsTimeless table = (table.is_counted ≡ false) × (table.stamps ≡ record { places = []; terms = []; formats = [] })

module _ (limit : Option ℕ) (mode : Mode) (params : Row) (table : Table) (timeless : IsTimeless table)
    (trees : Trees) where
  abbrev task : Task
  task = record { limit = limit; keys = Enforced; schema = office_schema; table = table; params = params }

  concluded : (w : Written) (tally : Tally) (after : Database) → Concludes task mode None w (Ok (tally, after))
      → after ≡ record { schema = office_schema; trees = w.trees }
  concluded w tally after h = ap (λ (p : Tally × Database). p.1) (same_value (continued (continued h).2).2)

  turned : (edit : Edit) (next : Trees) (after : Database) → edit.table ≡ table
      → after ≡ record { schema = office_schema; trees = next } → Edited office_schema Enforced trees edit (Ok next)
      → Turned table (record { schema = office_schema; trees = trees }) after edit
  turned edit next after same is h =
      let step =
      one_step office_schema Enforced trees next edit (calm edit.table.tree (taken_by trees edit) edit.news) h in
      record {
        schema = ap (λ (d : Database). d.schema) is;
        fresh = step.fresh;
        rows = ap (λ (d : Database). d.trees table.tree) is ∙ ap (λ (t : Table). next t.tree) (sym same) ∙ step.rows;
        others = subst
            (λ (d : Database). AllByRecursion (λ t. t.tree ≢ table.tree → d.trees t.tree ≡ trees t.tree)
            office_schema.tables) (sym is)
            (subst (λ (it : Table). AllByRecursion (λ t. t.tree ≢ it.tree → next t.tree ≡ trees t.tree)
            office_schema.tables) same step.tables);
      }

  pub row_inserted : (at : ℕ) (terms : List Term) (width : ℕ) (source : Row) (tally : Tally) (after : Database)
      → value_rows params width (length terms / width) terms ≡ source ∷ []
      → OnRows task mode None (Insert at (Values terms width)) trees (Ok (tally, after))
      → Turned table (record { schema = office_schema; trees = trees }) after
      (edit_of trees table [] Chosen 0 (source ∷ []))
  row_inserted at terms width source tally after one h =
      let done = continued h in
      let is = concluded done.0 tally after done.2 in
      let given = continued done.1 in
      let unstamped : stamped table params ≡ params =
      ap (λ (st : Stamps). params ++ eval_all st.terms (drop (length params - length st.formats) params ∷ []))
      timeless.1 ∙ append-nil params in
      let rows : given.0 ≡ source ∷ [] =
      given.1.1 ∙ ap (λ (env : Row). value_rows env width (length terms / width) terms) unstamped ∙ one in
      let counter = continued given.2 in
      let put = continued counter.2 in
      let counts = continued put.2 in
      let edit = edit_of trees table [] (rowids_for table (count_of counter.0)) 0 given.0 in
      let kept : Gives put.0 (Ok counts.0) =
      MatchBool-at_false _ _
      (ap (λ (b : Bool). cond b (is_lt (int_cmp (count_of counter.0) (fold higher (count_of counter.0) edit.news)))
      false) timeless.0) counts.1 in
      let trees_are : done.0.trees ≡ put.0 = ap (λ (it : Written). it.trees) (same_value counts.2) ∙ same_value kept in
      let edit_is : edit ≡ edit_of trees table [] Chosen 0 (source ∷ []) =
      ap (λ (b : Bool). edit_of trees table [] (cond b (Above (count_of counter.0)) Chosen) 0 given.0) timeless.0
      ∙ ap (λ (l : List Row). edit_of trees table [] Chosen 0 l) rows in
      subst (Turned table (record { schema = office_schema; trees = trees }) after) edit_is
      (turned edit put.0 after refl
      (is ∙ ap (λ (t : Trees). record { schema = office_schema; trees = t }) trees_are) put.1)

  pub rows_updated : (at : ℕ) (q : Program) (tally : Tally) (after : Database)
      → OnRows task mode None (Update at q) trees (Ok (tally, after))
      → (rows : List Row) × Answers (record { schema = office_schema; trees = trees }) q params rows
      × Turned table (record { schema = office_schema; trees = trees }) after
      (edit_of trees table (ids_of rows) Given 1 rows)
  rows_updated at q tally after h =
      let done = continued h in
      let is = concluded done.0 tally after done.2 in
      let found = continued done.1 in
      let put = continued found.2 in
      let trees_are : done.0.trees ≡ put.0 = ap (λ (it : Written). it.trees) (same_value put.2) in (
        found.0,
        found.1,
        turned (edit_of trees table (ids_of found.0) Given 1 found.0) put.0 after refl
            (is ∙ ap (λ (t : Trees). record { schema = office_schema; trees = t }) trees_are) put.1,
      )

  pub rows_deleted : (at : ℕ) (q : Program) (tally : Tally) (after : Database)
      → OnRows task mode None (Delete at q) trees (Ok (tally, after))
      → (rows : List Row) × Answers (record { schema = office_schema; trees = trees }) q params rows
      × Turned table (record { schema = office_schema; trees = trees }) after
      (edit_of trees table (ids_of rows) Given 0 [])
  rows_deleted at q tally after h =
      let done = continued h in
      let is = concluded done.0 tally after done.2 in
      let found = continued done.1 in
      let put = continued found.2 in
      let trees_are : done.0.trees ≡ put.0 = ap (λ (it : Written). it.trees) (same_value put.2) in (
        found.0,
        found.1,
        turned (edit_of trees table (ids_of found.0) Given 0 []) put.0 after refl
            (is ∙ ap (λ (t : Trees). record { schema = office_schema; trees = t }) trees_are) put.1,
      )

abbrev pub at_schema : State → Database
at_schema s = record { schema = office_schema; trees = s.now.trees }

module _ (text : List ℕ) (params : Row) (old new : State) (has : old.now.schema ≡ office_schema) (command : Command)
    (is : command_of (understood office_schema text) ≡ command)
    (plain : IsPlain (understood office_schema text)) (count : ℕ) (h : Executes text params old new (Ok count)) where
  pub statement_ran : (w : Writes old new None command (statement_of text (understood office_schema text)) params count)
      → Does old.step_limit (mode_of old) params (at_schema old) (statement_of text (understood office_schema text))
      None command (Ok (w.tally, new.now))
  statement_ran w =
      subst (λ s. Does old.step_limit (mode_of old) params (record old.now { schema = s })
      (statement_of text (understood office_schema text)) None command (Ok (w.tally, new.now))) has w.changed
