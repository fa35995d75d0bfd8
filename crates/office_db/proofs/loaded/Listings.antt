-- The records that are read from a table are those that it holds.
use Rattle.std.proofs.Common.{◌≡◌, ℕ, ℤ, Bool, true, false, length, List, [], ◌∷◌, map, filter, Option, Some, None}
use Rattle.std.proofs.Common.{IfSome, MatchOption, refl, sym, ap, ap₂, ◌∙◌, subst, IsPermutation}
use Rattle.std.specs.List.{All, AllByRecursion}
use Rattle.std.proofs.lemmas.List.Elements.{recursion_from_All, All-from_recursion}
use Rattle.std.proofs.lemmas.List.Sorted.{IsPermutation-trans, IsPermutation-sym, IsPermutation-map, All-permutation}
use Rattle.sqlite_value.specs.Order.{Row}
use Rattle.sqlite_sql.specs.Term.{Term}
use Rattle.sqlite_trees.proofs.ListLemmas.{pull_back}
use Rattle.sqlite_keyed.proofs.ListLemmas.{map-map, filter_all, map_same}
use Rattle.sqlite_keyed.proofs.RuleLemmas.{each_true}
use Rattle.sqlite_schema.specs.declared.schema.Schema.{Schema}
use Rattle.sqlite.specs.Effect.{Database}
use Rattle.sqlite.specs.State.{State, Shown}
use Rattle.sqlite.proofs.Callers.{reads_as}
use Rattle.office_schema.specs.tables.Holds.{Holds, stored}
use Rattle.office_schema.proofs.statements.Rows.{answer_over}
use Rattle.office_schema.specs.tables.Listing.{ListsTable, ShowRecords, DeterminesRecords, listed}
use Rattle.office_db.specs.loading.Reading.{ShowIf}
use Rattle.std.proofs.lemmas.List.{nil_from_length}
use Rattle.std.proofs.lemmas.List.Sorted.{length_permutation}

-- The query shows the listed columns of all rows of the table.
pub shows_table : (schema : Schema) (text : List ℕ) (tree : ℕ) (project : List Term) (names : List (List ℕ))
    → ListsTable schema text tree project names
    → (old new : State) (rows : List Row) → old.now.schema ≡ schema → Shown text [] old new rows
    → IsPermutation (map (listed project) (old.now.trees tree)) rows
shows_table schema text tree project names lists old new rows has h =
    let read = reads_as text [] old new schema has _ lists.is lists.plain lists.unlisted rows h in
    let same = answer_over tree [] project lists.order old.now [] rows read in
    let all : filter (λ (r : Row). true) (old.now.trees tree) ≡ old.now.trees tree =
    filter_all _ (old.now.trees tree) (each_true (old.now.trees tree)) in
    subst (λ (l : List Row). IsPermutation (map (listed project) l) rows) all same

-- The records read have the listed columns of all rows. If no records are returned, a row is not in the form of a
-- record.
pub read_all : {X V : Type 0} (shown : X → Row) (IsForm : Row → Type 0) (front : Row → Row) (project : List Term)
    → ((row : Row) → front (listed project row) ≡ listed project row)
    → (rows got : List Row) → IsPermutation (map (listed project) rows) got → (items : V → List X) (found : Option V)
    → MatchOption found (¬ All IsForm got) (λ read. map shown (items read) ≡ map front got)
    → MatchOption found (¬ All IsForm (map (listed project) rows))
    (λ read. IsPermutation (map (listed project) rows) (map shown (items read)))
read_all shown IsForm front project whole rows got same items None none =
    λ all. none (All-permutation IsForm (map (listed project) rows) got same all)
read_all shown IsForm front project whole rows got same items (Some read) e =
    let fronts : map front (map (listed project) rows) ≡ map (listed project) rows =
    map-map front (listed project) rows ∙ map_same (λ row. front (listed project row)) (listed project)
    whole rows in
    subst (IsPermutation (map (listed project) rows)) (sym e)
    (subst (λ l. IsPermutation l (map front got)) fronts (IsPermutation-map front _ _ same))

module _ {X : Type 0} (kept shown : X → Row) (IsForm : Row → Type 0) (front : Row → Row) (project : List Term)
    (determines : DeterminesRecords kept shown IsForm front project) where
  same_records : (xs ys : List X) → AllByRecursion IsForm (map shown xs) → map shown xs ≡ map shown ys → xs ≡ ys
  same_records [] [] forms e = refl
  same_records [] (y ∷ ys) forms e = absurd (cc)
  same_records (x ∷ xs) [] forms e = absurd (cc)
  same_records (x ∷ xs) (y ∷ ys) forms e =
      let head : shown x ≡ shown y = cc in
      let tail : map shown xs ≡ map shown ys = cc in
      ap₂ (λ r l. r ∷ l) (determines.apart x y forms.0 head) (same_records xs ys forms.1 tail)

  listed_are : (rows : List Row) (records : List X) (h : Holds kept rows records)
      → map (listed project) rows ≡ map shown (map (λ (e : ℤ × X). e.1) h.entries)
  listed_are rows records h =
      ap (map (listed project)) h.rows_are ∙ map-map (listed project) (stored kept) h.entries
      ∙ map_same (λ e. listed project (stored kept e)) (λ (e : ℤ × X). shown e.1) determines.projected h.entries
      ∙ sym (map-map shown (λ (e : ℤ × X). e.1) h.entries)

  module _ (rows got : List Row) (records : List X) (h : Holds kept rows records)
      (same : IsPermutation (map (listed project) rows) got) where
    -- The listed rows are those of the records.
    listed_is : IsPermutation (map shown records) got
    listed_is =
        IsPermutation-trans _ _ _ (IsPermutation-map shown _ _ h.same)
        (subst (λ l. IsPermutation l got) (listed_are rows records h) same)

    read_is : (read : List X) → All IsForm (map shown records) → map shown read ≡ map front got
        → IsPermutation records read
    read_is read well_formed e =
        let back = pull_back shown _ got (subst (λ l. IsPermutation l got) (listed_are rows records h) same)
        (map (λ (e : ℤ × X). e.1) h.entries) refl in
        let fronts : map front got ≡ map shown back.0 = ap (map front) back.2 ∙ map-map front shown back.0
        ∙ map_same (λ x. front (shown x)) shown determines.shown_whole back.0 in
        let whole : IsPermutation records back.0 = IsPermutation-trans _ _ _ h.same back.1 in
        let forms =
        recursion_from_All IsForm (map shown back.0)
        (All-permutation IsForm (map shown records) (map shown back.0) (IsPermutation-map shown _ _ whole)
        well_formed) in
        let is : back.0 ≡ read = same_records back.0 read forms (sym fronts ∙ sym e) in
        subst (IsPermutation records) is whole

    pub found_is : {V : Type 0} (items : V → List X) (found : Option V) → All IsForm (map shown records)
        → MatchOption found (¬ All IsForm got) (λ read. map shown (items read) ≡ map front got)
        → MatchOption found ⊥ (λ read. IsPermutation records (items read))
    found_is items None well_formed none = none (All-permutation IsForm (map shown records) got listed_is well_formed)
    found_is items (Some read) well_formed e = read_is (items read) well_formed e

  all_formed : (rows : List Row) → AllByRecursion IsForm rows → AllByRecursion IsForm (map front rows)
  all_formed [] forms = tt
  all_formed (row ∷ rows) forms = (determines.keeps_form row forms.0, all_formed rows forms.1)

  pub shown_is : {V : Type 0} (rows got : List Row) → IsPermutation (map (listed project) rows) got
      → (items : V → List X) (found : Option V)
      → MatchOption found (¬ All IsForm got) (λ read. map shown (items read) ≡ map front got)
      → IfSome found (λ _. All IsForm got)
      → IfSome found (λ read. ShowRecords shown IsForm project rows (items read))
  shown_is rows got same items None none form = tt
  shown_is rows got same items (Some read) e form = record {
    same = read_all shown IsForm front project determines.whole rows got same items (Some read) e;
    formed = subst (All IsForm) (sym e)
        (All-from_recursion IsForm (map front got) (all_formed got (recursion_from_All IsForm got form)));
  }

-- The order of the records does not matter.
pub shown_permuted : {X : Type 0} (shown : X → Row) (IsForm : Row → Type 0) (project : List Term) (rows : List Row)
    (records read : List X) → IsPermutation records read
    → ShowRecords shown IsForm project rows read → ShowRecords shown IsForm project rows records
shown_permuted shown IsForm project rows records read same h =
    let turned = IsPermutation-map shown _ _ (IsPermutation-sym _ _ same) in
    record {
      same = IsPermutation-trans _ _ _ h.same turned;
      formed = All-permutation IsForm (map shown read) (map shown records) turned h.formed;
    }

pub shown_before : {X : Type 0} (shown : X → Row) (IsForm : Row → Type 0) (project : List Term) (old new : Database)
    (tree : ℕ) (records : List X) → new ≡ old
    → ShowRecords shown IsForm project (new.trees tree) records → ShowRecords shown IsForm project
    (old.trees tree) records
shown_before shown IsForm project old new tree records same h =
    subst (λ (d : Database). ShowRecords shown IsForm project (d.trees tree) records) same h

pub some_weaker : {T : Type 0} (found : Option T) (P Q : T → Type 0) → ((x : T) → P x → Q x) → IfSome found P
    → IfSome found Q
some_weaker None P Q f h = tt
some_weaker (Some x) P Q f h = f x h

-- the same for a table that may be missing
pub shown_if_permuted : {X : Type 0} (is_there : Bool) (shown : X → Row) (IsForm : Row → Type 0) (project : List Term)
    (rows : List Row) (records read : List X) → IsPermutation records read
    → ShowIf is_there shown IsForm project rows read → ShowIf is_there shown IsForm project rows records
shown_if_permuted true shown IsForm project rows records read same h =
    shown_permuted shown IsForm project rows records read same h
shown_if_permuted false shown IsForm project rows records read same none =
    nil_from_length records (sym (length_permutation records read same) ∙ ap length none)

pub shown_if_before : {X : Type 0} (is_there : Bool) (shown : X → Row) (IsForm : Row → Type 0) (project : List Term)
    (old new : Database) (tree : ℕ) (records : List X) → new ≡ old
    → ShowIf is_there shown IsForm project (new.trees tree) records → ShowIf is_there shown IsForm project
    (old.trees tree) records
shown_if_before is_there shown IsForm project old new tree records same h =
    subst (λ (d : Database). ShowIf is_there shown IsForm project (d.trees tree) records) same h
