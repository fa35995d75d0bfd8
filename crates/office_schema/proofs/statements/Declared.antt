-- CREATE TABLE and DROP TABLE of each table of an office, in each layout.
use Rattle.std.proofs.Common.{◌≡◌, ℕ, List, [], ◌∷◌, cond, slice_get, Option, Some, None, Ok, false, codes, refl, sym}
use Rattle.std.proofs.Common.{ap, ◌∙◌, subst}
use Rattle.std.proofs.lemmas.Bool.{MatchBool-at_false}
use Rattle.sqlite_schema.specs.declared.schema.Schema.{Schema}
use Rattle.sqlite_schema.specs.declared.schema.Table.{Table}
use Rattle.sqlite_schema.specs.declared.schema.Keys.TheVariants.{Enforced}
use Rattle.sqlite_schema.specs.declared.command.Command.TheVariants.{CreateTable, DropTable}
use Rattle.sqlite_trees.specs.Tree.{Trees}
use Rattle.sqlite_resolve.specs.Compile.{table_defined_by}
use Rattle.sqlite_catalog.specs.Change.{created, next_tree, without_table, KeepsRows}
use Rattle.sqlite_tied.specs.Compute.{everything}
use Rattle.sqlite.specs.Does.{AtPlace, Tally, Does, Drops, UncountsIn, is_acted_on, lacks_sequence}
use Rattle.sqlite.specs.Effect.{Database}
use Rattle.sqlite.specs.Listing.{understood}
use Rattle.sqlite.specs.Rows.{Task, sequence}
use Rattle.sqlite.specs.State.{State, HasCleanDisk, Writes, Executes, mode_of}
use Rattle.sqlite.proofs.Callers.{IsPlain, command_of, statement_of, runs_as}
use Rattle.office_schema.specs.tables.Inner.Declaring.{Adds}
use Rattle.office_schema.specs.tables.Declaring.{ChangesSchema}
use Rattle.office_schema.specs.tables.Schema.{first_tables}
use Rattle.office_schema.specs.tables.Layouts.{tables_of}
use Rattle.office_schema.specs.tables.Schema as schema
use Rattle.office_schema.specs.tables.Steps.{HasRun}
use Rattle.office_schema.specs.declared.tables.layouts.Layout.TheVariants.{Documented, EarlierFirst}
use Rattle.office_schema.specs.tables.Inner.Texts.{drop_table_text}
use Rattle.office_schema.proofs.statements.Rows.{continued, same_value}

-- ---- one more table

-- With the schema `before` the text creates one more table, which gives the schema `after`.
pub record IsDeclaredBy (text : List ℕ) (before after : Schema) (table : Table) : Type 0 where
  pub is : command_of (understood before text) ≡ CreateTable
  pub whole : statement_of text (understood before text) ≡ text
  pub defined : table_defined_by text ≡ Ok table
  pub plain : IsPlain (understood before text)
  pub added : created before table ≡ after
  pub uncounted : lacks_sequence after ≡ false

module _ (text : List ℕ) (before after : Schema) (table : Table) (it : IsDeclaredBy text before after table)
    (old new : State) where
  -- the effect of CREATE TABLE on the tables
  pub adds : (count : ℕ) → old.now.schema ≡ before → Executes text [] old new (Ok count) → Adds table old.now new.now
  adds count has h =
      let w = subst (λ t. Writes old new None CreateTable t [] count) it.whole
      (runs_as text [] old new before has CreateTable it.is it.plain count h) in
      let all = continued w.changed in
      let first = continued all.1 in
      let made = first.1 in
      let both : Ok made.table ≡ Ok table = sym made.defined ∙ it.defined in
      let same : made.table ≡ table = cc in
      let schema_is : first.0.schema ≡ created old.now.schema table = made.is ∙ ap (created old.now.schema) same in
      let uncounted : lacks_sequence first.0.schema ≡ false =
      ap lacks_sequence (schema_is ∙ ap (λ s. created s table) has ∙ it.added) ∙ it.uncounted in
      let now : new.now ≡ first.0 = ap (λ (p : Tally × Database). p.1) (same_value all.2)
      ∙ same_value (rw uncounted at first.2) in
      record {
        schema = ap (λ (d : Database). d.schema) now ∙ schema_is;
        empty = ap (λ (d : Database). d.trees (next_tree old.now.schema)) now ∙ made.empty;
        others = subst (λ (d : Database). KeepsRows old.now.schema.tables old.now.trees d.trees) (sym now) made.others;
      }

  pub gains : (HasCleanDisk new → HasRun text [] old new) → ChangesSchema before after before.tables
      (record table { tree = next_tree before } ∷ []) old new
  gains runs = record {
    shown = λ clean has.
        let a = adds (runs clean).count has (runs clean).ran in (
          a.schema ∙ ap (λ s. created s table) has ∙ it.added,
          subst (λ (s : Schema). KeepsRows s.tables old.now.trees new.now.trees) has a.others,
          (subst (λ (s : Schema). new.now.trees (next_tree s) ≡ []) has a.empty, tt),
        );
    mode = λ clean. (runs clean).mode;
  }

-- ---- one table less

-- With the schema `before` the text drops a table to which no other refers, which gives the schema `after`.
pub record IsDroppedBy (text : List ℕ) (before after : Schema) (place : ℕ) (table : Table) : Type 0 where
  pub is : command_of (understood before text) ≡ DropTable place
  pub plain : IsPlain (understood before text)
  pub found : slice_get before.tables place ≡ Some table
  pub unmoved : is_acted_on before Enforced table ≡ false
  pub uncounted : table.is_counted ≡ false
  pub left : without_table before table.tree ≡ after

module _ (text : List ℕ) (before after : Schema) (place : ℕ) (table : Table)
    (it : IsDroppedBy text before after place table) (old new : State) where
  abbrev task : Schema → Table → Task
  task schema t = record { limit = old.step_limit; keys = Enforced; schema = schema; table = t; params = [] }

  drop_runs : (tally : Tally) → old.now.schema ≡ before → Does old.step_limit (mode_of old) [] old.now
      (statement_of text (understood before text)) None (DropTable place) (Ok (tally, new.now))
      → Drops (task before table) (mode_of old) old.now.trees (Ok (tally, new.now))
  drop_runs tally has does =
      subst (λ (o : Option Table). AtPlace (λ t. Drops (task before t) (mode_of old) old.now.trees) o
      (Ok (tally, new.now))) it.found
      (subst (λ (s : Schema). AtPlace (λ t. Drops (task s t) (mode_of old) old.now.trees) (slice_get s.tables place)
      (Ok (tally, new.now))) has does)

  lost : (count : ℕ) → old.now.schema ≡ before → Executes text [] old new (Ok count) → (new.now.schema ≡ after)
      × KeepsRows after.tables old.now.trees new.now.trees
  lost count has h =
      let w = runs_as text [] old new before has (DropTable place) it.is it.plain count h in
      let emptied = continued (drop_runs w.tally has w.changed) in
      let uncounted = continued emptied.2 in
      let tested = continued uncounted.2 in
      let left = continued tested.2 in
      let first : emptied.0 ≡ old.now.trees = same_value (MatchBool-at_false _ _ it.unmoved emptied.1) in
      let second : uncounted.0 ≡ emptied.0 =
      same_value
      (subst (λ b. UncountsIn (task before table) emptied.0 (cond b (sequence before) None) (Ok uncounted.0))
      it.uncounted uncounted.1) in
      let now : new.now ≡ left.0 = ap (λ (p : Tally × Database). p.1) (same_value left.2) in
      let kept = subst (λ (s : Schema). KeepsRows s.tables uncounted.0 left.0.trees) it.left left.1.1 in (
        ap (λ (d : Database). d.schema) now ∙ left.1.0 ∙ it.left,
        subst (λ (trees : Trees). KeepsRows after.tables trees new.now.trees) (second ∙ first)
            (subst (λ (d : Database). KeepsRows after.tables uncounted.0 d.trees) (sym now) kept),
      )

  pub loses : (HasCleanDisk new → HasRun text [] old new) → ChangesSchema before after after.tables [] old new
  loses runs = record {
    shown = λ clean has.
        let a = lost (runs clean).count has (runs clean).ran in
        (a.0, a.1, tt);
    mode = λ clean. (runs clean).mode;
  }

-- ---- the statement that creates each table

pub room_declared : IsDeclaredBy schema.room_text (first_tables 0) (first_tables 1) (schema.room 0)
unfolding understood everything
room_declared = record { is = refl; whole = refl; defined = refl; plain = (refl, refl); added = refl; uncounted = refl }

pub person_declared : IsDeclaredBy schema.person_text (first_tables 1) (first_tables 2) (schema.person 0)
unfolding understood everything
person_declared =
    record { is = refl; whole = refl; defined = refl; plain = (refl, refl); added = refl; uncounted = refl }

pub round_declared : IsDeclaredBy schema.round_text (first_tables 2) (first_tables 3) (schema.round 0)
unfolding understood everything
round_declared =
    record { is = refl; whole = refl; defined = refl; plain = (refl, refl); added = refl; uncounted = refl }

pub move_declared : IsDeclaredBy schema.move_text (first_tables 3) (first_tables 4) (schema.move 0)
unfolding understood everything
move_declared = record { is = refl; whole = refl; defined = refl; plain = (refl, refl); added = refl; uncounted = refl }

pub list_declared : IsDeclaredBy schema.list_text (first_tables 4) (first_tables 5) (schema.list 0)
unfolding understood everything
list_declared = record { is = refl; whole = refl; defined = refl; plain = (refl, refl); added = refl; uncounted = refl }

pub grade_declared : IsDeclaredBy schema.grade_text (first_tables 5) (first_tables 6) (schema.grade 0)
unfolding understood everything
grade_declared =
    record { is = refl; whole = refl; defined = refl; plain = (refl, refl); added = refl; uncounted = refl }

pub word_declared : IsDeclaredBy schema.word_text (first_tables 6) (first_tables 7) (schema.word 0)
unfolding understood everything
word_declared = record { is = refl; whole = refl; defined = refl; plain = (refl, refl); added = refl; uncounted = refl }

pub result_declared : IsDeclaredBy schema.result_text (first_tables 7) (first_tables 8) (schema.result 0)
unfolding understood everything
result_declared =
    record { is = refl; whole = refl; defined = refl; plain = (refl, refl); added = refl; uncounted = refl }

pub choice_declared : IsDeclaredBy schema.choice_text (first_tables 8) (first_tables 9) (schema.choice 0)
unfolding understood everything
choice_declared =
    record { is = refl; whole = refl; defined = refl; plain = (refl, refl); added = refl; uncounted = refl }

pub going_declared : IsDeclaredBy schema.going_text (first_tables 9) (first_tables 10) (schema.going_table 0)
unfolding understood everything
going_declared =
    record { is = refl; whole = refl; defined = refl; plain = (refl, refl); added = refl; uncounted = refl }

-- ---- the statement that drops each table, the last one first, in each order

pub own_move_dropped : IsDroppedBy (drop_table_text (codes "move")) (first_tables 4) (first_tables 3) 3 (schema.move 7)
unfolding understood everything
own_move_dropped =
    record { is = refl; plain = (refl, refl); found = refl; unmoved = refl; uncounted = refl; left = refl }

pub own_list_dropped : IsDroppedBy (drop_table_text (codes "list")) (first_tables 5) (first_tables 4) 4 (schema.list 9)
unfolding understood everything
own_list_dropped =
    record { is = refl; plain = (refl, refl); found = refl; unmoved = refl; uncounted = refl; left = refl }

pub own_grade_dropped : IsDroppedBy (drop_table_text (codes "grade")) (first_tables 6) (first_tables 5) 5
    (schema.grade 11)
unfolding understood everything
own_grade_dropped =
    record { is = refl; plain = (refl, refl); found = refl; unmoved = refl; uncounted = refl; left = refl }

pub own_word_dropped : IsDroppedBy (drop_table_text (codes "word")) (first_tables 7) (first_tables 6) 6 (schema.word 13)
unfolding understood everything
own_word_dropped =
    record { is = refl; plain = (refl, refl); found = refl; unmoved = refl; uncounted = refl; left = refl }

pub own_result_dropped : IsDroppedBy (drop_table_text (codes "result")) (first_tables 8) (first_tables 7) 7
    (schema.result 15)
unfolding understood everything
own_result_dropped =
    record { is = refl; plain = (refl, refl); found = refl; unmoved = refl; uncounted = refl; left = refl }

pub own_choice_dropped : IsDroppedBy (drop_table_text (codes "choice")) (first_tables 9) (first_tables 8) 8
    (schema.choice 18)
unfolding understood everything
own_choice_dropped =
    record { is = refl; plain = (refl, refl); found = refl; unmoved = refl; uncounted = refl; left = refl }

pub own_going_dropped : IsDroppedBy (drop_table_text (codes "going")) (first_tables 10) (first_tables 9) 9
    (schema.going_table 21)
unfolding understood everything
own_going_dropped =
    record { is = refl; plain = (refl, refl); found = refl; unmoved = refl; uncounted = refl; left = refl }

pub documented_choice_dropped : IsDroppedBy (drop_table_text (codes "choice")) (tables_of Documented 4)
    (tables_of Documented 3) 3 (schema.choice 7)
unfolding understood everything
documented_choice_dropped =
    record { is = refl; plain = (refl, refl); found = refl; unmoved = refl; uncounted = refl; left = refl }

pub documented_word_dropped : IsDroppedBy (drop_table_text (codes "word")) (tables_of Documented 5)
    (tables_of Documented 4) 4 (schema.word 10)
unfolding understood everything
documented_word_dropped =
    record { is = refl; plain = (refl, refl); found = refl; unmoved = refl; uncounted = refl; left = refl }

pub documented_result_dropped : IsDroppedBy (drop_table_text (codes "result")) (tables_of Documented 6)
    (tables_of Documented 5) 5 (schema.result 12)
unfolding understood everything
documented_result_dropped =
    record { is = refl; plain = (refl, refl); found = refl; unmoved = refl; uncounted = refl; left = refl }

pub documented_move_dropped : IsDroppedBy (drop_table_text (codes "move")) (tables_of Documented 7)
    (tables_of Documented 6) 6 (schema.move 15)
unfolding understood everything
documented_move_dropped =
    record { is = refl; plain = (refl, refl); found = refl; unmoved = refl; uncounted = refl; left = refl }

pub documented_list_dropped : IsDroppedBy (drop_table_text (codes "list")) (tables_of Documented 8)
    (tables_of Documented 7) 7 (schema.list 17)
unfolding understood everything
documented_list_dropped =
    record { is = refl; plain = (refl, refl); found = refl; unmoved = refl; uncounted = refl; left = refl }

pub documented_grade_dropped : IsDroppedBy (drop_table_text (codes "grade")) (tables_of Documented 9)
    (tables_of Documented 8) 8 (schema.grade 19)
unfolding understood everything
documented_grade_dropped =
    record { is = refl; plain = (refl, refl); found = refl; unmoved = refl; uncounted = refl; left = refl }

pub documented_going_dropped : IsDroppedBy (drop_table_text (codes "going")) (tables_of Documented 10)
    (tables_of Documented 9) 9 (schema.going_table 21)
unfolding understood everything
documented_going_dropped =
    record { is = refl; plain = (refl, refl); found = refl; unmoved = refl; uncounted = refl; left = refl }

pub earlier_move_dropped : IsDroppedBy (drop_table_text (codes "move")) (tables_of EarlierFirst 4)
    (tables_of EarlierFirst 3) 3 (schema.move 7)
unfolding understood everything
earlier_move_dropped =
    record { is = refl; plain = (refl, refl); found = refl; unmoved = refl; uncounted = refl; left = refl }

pub earlier_list_dropped : IsDroppedBy (drop_table_text (codes "list")) (tables_of EarlierFirst 5)
    (tables_of EarlierFirst 4) 4 (schema.list 9)
unfolding understood everything
earlier_list_dropped =
    record { is = refl; plain = (refl, refl); found = refl; unmoved = refl; uncounted = refl; left = refl }

pub earlier_word_dropped : IsDroppedBy (drop_table_text (codes "word")) (tables_of EarlierFirst 6)
    (tables_of EarlierFirst 5) 5 (schema.word 11)
unfolding understood everything
earlier_word_dropped =
    record { is = refl; plain = (refl, refl); found = refl; unmoved = refl; uncounted = refl; left = refl }

pub earlier_result_dropped : IsDroppedBy (drop_table_text (codes "result")) (tables_of EarlierFirst 7)
    (tables_of EarlierFirst 6) 6 (schema.result 13)
unfolding understood everything
earlier_result_dropped =
    record { is = refl; plain = (refl, refl); found = refl; unmoved = refl; uncounted = refl; left = refl }

pub earlier_choice_dropped : IsDroppedBy (drop_table_text (codes "choice")) (tables_of EarlierFirst 8)
    (tables_of EarlierFirst 7) 7 (schema.choice 16)
unfolding understood everything
earlier_choice_dropped =
    record { is = refl; plain = (refl, refl); found = refl; unmoved = refl; uncounted = refl; left = refl }

-- ---- one statement after another
