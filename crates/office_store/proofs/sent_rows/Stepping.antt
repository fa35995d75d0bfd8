-- Reading the rows of a query one at a time.
use Rattle.std.proofs.Common.{◌≡◌, ◌<◌, ◌+◌, ℕ, List, [], ◌∷◌, ◌++◌, length, map, refl, take, Option, Some, None}
use Rattle.std.proofs.Common.{IsSome, IsTrue, Result, Ok, Err, true≢false, sym, ap, ◌∙◌, subst, inl, inr, arith}
use Rattle.sqlite_trees.specs.Tree.{Trees}
use Rattle.sqlite_trees.specs.declared.store.Store.{Ghosts}
use Rattle.sqlite_value.specs.Order.{Row}
use Rattle.sqlite_schema.specs.declared.command.Command.TheVariants.{Select}
use Rattle.sqlite_schema.specs.declared.command.Returning.{Returning}
use Rattle.sqlite.specs.declared.error.Error.{Error}
use Rattle.sqlite.specs.Clock.{timed}
use Rattle.sqlite.specs.Effect.{Answers, Database}
use Rattle.sqlite_resolve.specs.declared.compiled.Compiled.{Compiled}
use Rattle.sqlite_resolve.specs.declared.error.CompileError.{CompileError}
use Rattle.sqlite.specs.Given.{Advances, HasBegun, HasGiven, IsPlain, Returns}
use Rattle.sqlite.specs.Held.{Held, state}
use Rattle.sqlite.specs.Listing.{understood}
use Rattle.sqlite.specs.State.{State, HasCleanDisk, CommitsShowing, Survives, Shown, ShowsRows, IsUnchanged}
use Rattle.sqlite.specs.State.{FailsToQuery, FailsToShow, IsNotRun, IsRolledBack}
use Rattle.sqlite.proofs.Callers.{begins_as, begun_plain, given_begin, reads_as, unchanged_then}
use Rattle.sqlite.proofs.StateLemmas.{survives_then}
use Rattle.room_types.specs.Streams.{Output, Puts}
use Rattle.office_state.specs.declared.office.Office.{Office}
use Rattle.office_lists.specs.Exports.{export_bytes, header_of, record_bytes}
use Rattle.office_lists.specs.Records.{Record}
use Rattle.office_lists.specs.declared.exports.ExportKind.{ExportKind}
use Rattle.office_schema.specs.tables.Crashes.{LeavesNothingNew, ShowsCommitted}
use Rattle.office_schema.specs.tables.Schema.{office_schema}
use Rattle.office_schema.specs.tables.Steps.{Follows}
use Rattle.office_schema.specs.tables.Tables.{HoldsOffice}
use Rattle.office_schema.specs.tables.Queries.{alone}
use Rattle.office_schema.proofs.statements.Crashes.{nothing_new_then, survives_nothing_new}
use Rattle.office_schema.proofs.statements.Steps.{follows_then}
use Rattle.office_schema.specs.tables.Asking.{NeverReturns, OnlyAsks}
use Rattle.office_db.specs.loading.Reading.{OnlyReads}
use Rattle.office_db.proofs.found_offices.States.{asks_nothing_new}
use Rattle.office_store.specs.exports.Asking.{AsksForExport}
use Rattle.office_store.specs.exports.Ending.{EndsBetween, PutsCount, PutsExport, PutsPrefix}
use Rattle.office_store.specs.declared.exports.ending.ExportEnd.TheVariants.{Unavailable}
use Rattle.office_store.specs.exports.Exports.{exported}
use Rattle.office_store.specs.exports.Stepping.{IsAtStart, KeepsTables, HoldsLawfulOffice}
use Rattle.office_store.proofs.sent_rows.Sending.{AreSent, cut_counted, cut_prefix, cut_short, prefix_sent, more_sent}
use Rattle.office_store.proofs.sent_rows.Sending.{one_record, one_then, sent_counted, with_more, with_one}

-- ---- what is unchanged

pub keeps_unchanged : (a b : State) → IsUnchanged a b → KeepsTables a b
keeps_unchanged a b h o = (h.0.was_open, λ same. (h.0.now_is, h.0.committed_is))

pub keeps_undone : (a b : State) → IsRolledBack a b → KeepsTables a b
keeps_undone a b h o = (h.was_open o, λ same. ((h.undone o).0 ∙ sym same, (h.undone o).1))

pub keeps_then : (a b c : State) → KeepsTables a b → KeepsTables b c → KeepsTables a c
keeps_then a b c p q o =
    let later = q o in
    let early = p later.0 in (
      early.0,
      λ same.
          let first = early.1 same in
          let next = later.1 (first.0 ∙ same ∙ sym first.1) in
          (next.0 ∙ first.0, next.1 ∙ first.1),
    )

-- after a query that did not begin
pub keeps_failed : (sql : List ℕ) (params : Row) (a b : State) (e : Error) → FailsToQuery sql params a b e
    → KeepsTables a b
unfolding FailsToQuery IsNotRun
keeps_failed sql params a b e (inl (inl h)) = keeps_unchanged a b h.1
keeps_failed sql params a b e (inl (inr h)) = keeps_undone a b h.3
keeps_failed sql params a b e (inr h) = go h.0.returning h.2
  where
    go : (what : Option Returning) → FailsToShow a b sql h.0 (timed params h.0.formats h.1.now) e what → KeepsTables a b
    go None it = keeps_unchanged a b it.3
    go (Some what) (inl it) = keeps_unchanged a b it.1
    go (Some what) (inr it) = keeps_undone a b it.3

shown_was_open : (sql : List ℕ) (params : Row) (a b : State) (rows : List Row) → Shown sql params a b rows
    → IsTrue a.is_open
unfolding Shown
shown_was_open sql params a b rows h = go h.0.returning h.2
  where
    go : (what : Option Returning) → ShowsRows a b sql h.0 (timed params h.0.formats h.1.now) rows what
        → IsTrue a.is_open
    go None it = it.3.0.was_open
    go (Some what) it = it.1.shown.was_open

pub export_follows : (a b : State) (Commits : Trees → Type 0) → Survives a b Commits
    → (HasCleanDisk b → IsTrue b.is_open → IsTrue a.is_open) → Follows a b
export_follows a b Commits survives was_open = record {
  clean = λ h. omega (arith, h, survives.clean);
  was_open = was_open;
  counts = survives.counts;
  limit = survives.limit;
  closes = survives.closes;
}

-- A query that did not begin only reads.
pub reads_refused : (sql : List ℕ) (params : Row) (a b : State) (Commits : Trees → Type 0) (e : Error)
    → Survives a b Commits → LeavesNothingNew a b → ShowsCommitted a
    → (HasCleanDisk b → FailsToQuery sql params a b e) → OnlyReads a b
reads_refused sql params a b Commits e survives nothing settled h = record {
  keeps = record {
    follows = export_follows a b Commits survives (λ clean o. (keeps_failed sql params a b e (h clean) o).0);
    same = λ intact. let keeps = keeps_failed sql params a b e (h intact.0) intact.1 in (keeps.1 (settled keeps.0)).0;
  };
  crash = nothing;
}

never_both : (r : Result Compiled CompileError) → NeverReturns r → Returns r → ⊥
never_both (Ok c) never some = true≢false (sym (subst IsSome never some))
never_both (Err e) never none = none

-- A query that began, and whose rows were read, only reads.
pub reads_through : {S : Type 0} (g : Ghosts S) (sql : List ℕ) (params : Row) (a b c : Held S) → OnlyAsks sql
    → Survives (state g a) (state g b) (CommitsShowing sql params (state g a))
    → (HasCleanDisk (state g b) → HasBegun g sql params a b)
    → ShowsCommitted (state g a)
    → Survives (state g b) (state g c) (λ _. ⊥) → (HasCleanDisk (state g c) → KeepsTables (state g b) (state g c))
    → OnlyReads (state g a) (state g c)
reads_through g sql params a b c asks first begun settled next keeps =
    let before : HasCleanDisk (state g c) → HasCleanDisk (state g b) = λ clean. omega (arith, clean, next.clean) in
    record {
      keeps = record {
        follows = follows_then (state g a) (state g b) (state g c)
            (export_follows (state g a) (state g b) (CommitsShowing sql params (state g a)) first
            (λ clean o. was_open (begun clean)))
            (export_follows (state g b) (state g c) (λ _. ⊥) next (λ clean o. (keeps clean o).0));
        same = λ intact.
            let same = unchanged (begun (before intact.0)) in
            let kept = keeps_then (state g a) (state g b) (state g c) (keeps_unchanged _ _ same)
            (keeps intact.0) intact.1 in
            (kept.1 (settled kept.0)).0;
      };
      crash = nothing_new_then (state g a) (state g b) (state g c) before
          (asks_nothing_new sql params (state g a) (state g b) asks first)
          (survives_nothing_new (state g b) (state g c) next);
    }
  where
    was_open : HasBegun g sql params a b → IsTrue (state g a).is_open
    was_open (inl h) = h.1.0.was_open
    was_open (inr h) = shown_was_open sql params (state g a) (state g b) _ h.1

    unchanged : HasBegun g sql params a b → IsUnchanged (state g a) (state g b)
    unchanged (inl h) = h.1
    unchanged (inr h) = absurd (never_both (understood a.schema sql) (asks a.schema) h.0)

-- A query that began over the rows of an office is at its start.
pub asked_of : {S : Type 0} (g : Ghosts S) (text sql : List ℕ) (old now : Held S) (office : Office)
    → IsPlain (understood office_schema text) → sql ≡ text → HoldsLawfulOffice (state g old) office
    → HasBegun g sql [] old now → IsAtStart g text now office
asked_of {S} g text sql old now office plain same holding begun =
    let holds = holding.tables (was_open begun) in
    let at_old : IsPlain (understood old.schema sql) =
    subst (λ s. IsPlain (understood s sql)) (sym holds.schema)
    (subst (λ t. IsPlain (understood office_schema t)) (sym same) plain) in
    let given = begun_plain g sql [] old now at_old begun in
    record {
      begun = subst (λ t. HasGiven g t [] now []) same given.0;
      holds = subst (λ (d : Database). HoldsOffice d office) (sym given.1.0.now_is) holds;
      lawful = holding.lawful;
    }
  where
    was_open : HasBegun g sql [] old now → IsTrue (state g old).is_open
    was_open (inl h) = h.1.0.was_open
    was_open (inr h) = shown_was_open sql [] (state g old) (state g now) _ h.1

pub survives_next : (a b c : State) → Survives a b (λ _. ⊥) → Survives b c (λ _. ⊥) → Survives a c (λ _. ⊥)
survives_next a b c p q = survives_then a b c _ _ (λ _. ⊥) (λ _ db none. none) (λ _ db none. none) p q

-- ---- the rows of an export

module _ {S : Type 0} (g : Ghosts S) (kind : ExportKind) (text : List ℕ) (fields : Row → Record)
    (asks : AsksForExport kind text fields) where
  module _ (first now : Held S) (office : Office) (asked : IsAtStart g text first office)
      (same : IsUnchanged (state g first) (state g now)) where
    has : (state g now).now.schema ≡ office_schema
    has = ap (λ (d : Database). d.schema) same.0.now_is ∙ asked.holds.schema

    returned : (rows : List Row) → Answers (state g now).now (alone asks.query) [] rows
        → header_of kind ∷ map fields rows ≡ exported kind office
    returned rows h =
        asks.answers (state g now).now office rows
        (subst (λ (d : Database). HoldsOffice d office) (sym same.0.now_is) asked.holds) asked.lawful h

    -- The rows so far are the first of the export.
    pub first_rows : (given : List Row) → HasGiven g text [] now given → (tail : List Row)
        × (header_of kind ∷ map fields (given ++ tail) ≡ exported kind office)
    first_rows given so_far =
        let read =
        begins_as text [] (state g now) (state g now) office_schema has (Select (alone asks.query) asks.names)
        asks.is asks.plain asks.unlisted given (given_begin g text [] now given so_far) in
        (read.1.0, returned (given ++ read.1.0) (record { typed = read.0; answer = read.1.1 }))

    -- Once all rows have been read, they are the export.
    pub all_rows : (next : Held S) (given : List Row) → HasGiven g text [] now given → Advances g now next None
        → header_of kind ∷ map fields given ≡ exported kind office
    all_rows next given so_far ends =
        returned given
        (reads_as text [] (state g now) (state g next) office_schema has (Select (alone asks.query) asks.names)
        asks.is asks.plain asks.unlisted given (ends text [] given so_far))

-- The query runs on an open connection.
given_open : {S : Type 0} (g : Ghosts S) (sql : List ℕ) (params : Row) (h : Held S) (given : List Row)
    → HasGiven g sql params h given → IsTrue (state g h).is_open
unfolding HasGiven
given_open g sql params h given it = it.0.is_open

unchanged_still : (a : State) → IsTrue a.is_open → IsUnchanged a a
unchanged_still a o = (
  record { was_open = o; is_open = o; now_is = refl; committed_is = refl; mode = refl },
  record { changes = refl; last_rowid = refl },
  refl,
)

pub keeps_still : (a : State) → KeepsTables a a
keeps_still a o = (o, λ same. (refl, refl))

pub survives_still : (a : State) → Survives a a (λ _. ⊥)
survives_still a =
    record {
      clean = omega arith;
      shield = λ s. s;
      counts = omega arith;
      limit = refl;
      closes = λ clean o. inl o;
      crash = λ clean db h. inl h;
    }

-- The header and the records of some rows were written. These are the rows that the running query has given, and the
-- tables are unchanged.
abbrev pub UnderWay : {S : Type 0} → Ghosts S → ExportKind → List ℕ → (Row → Record) → Held S → Held S → ℕ → Output
    → Output → Type 0
UnderWay g kind text fields first now sent before after =
    (given : List Row) × AreSent (header_of kind ∷ map fields given) sent before after
    × (HasCleanDisk (state g now) → HasGiven g text [] first [] → HasGiven g text [] now given
    × IsUnchanged (state g first) (state g now))

module _ {S : Type 0} (g : Ghosts S) (kind : ExportKind) (text : List ℕ) (fields : Row → Record) where
  module _ (first now : Held S) (sent : ℕ) (before after : Output)
      (way : UnderWay g kind text fields first now sent before after) where
    -- an end before the next row
    pub prefix_stopped : AsksForExport kind text fields → HasCleanDisk (state g now) → (office : Office)
        → IsAtStart g text first office → PutsPrefix before after sent (export_bytes (exported kind office))
    prefix_stopped asks clean office asked =
        let given = way.2 clean asked.begun in
        let read = first_rows g kind text fields asks first now office asked given.1 way.0 given.0 in
        prefix_sent (header_of kind ∷ map fields way.0) (map fields read.0) (exported kind office) sent before after
        (with_more (header_of kind) fields way.0 read.0 ∙ read.1) way.1

    -- an end after the last row
    pub whole_sent : AsksForExport kind text fields → (next : Held S) → HasCleanDisk (state g now)
        → Advances g now next None → (office : Office) → IsAtStart g text first office
        → Puts before after (export_bytes (exported kind office))
    whole_sent asks next clean ends office asked =
        let given = way.2 clean asked.begun in
        subst (λ (records : List Record). Puts before after (export_bytes records))
        (all_rows g kind text fields asks first now office asked given.1 next way.0 given.0 ends) way.1.written

    module _ (next : Held S) (row : Row) (bytes : List ℕ) (is : bytes ≡ record_bytes (fields row))
        (clean_before : HasCleanDisk (state g next) → HasCleanDisk (state g now))
        (gives : HasCleanDisk (state g next) → Advances g now next (Some row))
        (same : HasCleanDisk (state g next) → IsUnchanged (state g now) (state g next)) where
      next_given : HasCleanDisk (state g next) → HasGiven g text [] first [] → HasGiven g text [] next
          (way.0 ++ row ∷ []) × IsUnchanged (state g first) (state g next)
      next_given clean begun =
          let given = way.2 (clean_before clean) begun in (
            gives clean text [] way.0 given.0,
            unchanged_then (state g first) (state g now) (state g next) given.1 (same clean),
          )

      -- One more record was written.
      pub one_sent : (later : Output) → Puts after later bytes → UnderWay g kind text fields first next
          (sent + length bytes) before later
      one_sent later puts = (
        way.0 ++ row ∷ [],
        subst (λ (records : List Record). AreSent records (sent + length bytes) before later)
            (with_one (header_of kind) fields way.0 row)
            (more_sent (header_of kind ∷ map fields way.0) (fields row) sent before after later bytes is puts way.1),
        next_given,
      )

      -- The row's record is one of the export.
      in_export : AsksForExport kind text fields → HasCleanDisk (state g next) → (office : Office)
          → IsAtStart g text first office
          → (rest : List Record) × ((header_of kind ∷ map fields way.0) ++ fields row ∷ rest ≡ exported kind office)
      in_export asks clean office asked =
          let given = next_given clean asked.begun in
          let read = first_rows g kind text fields asks first next office asked given.1 (way.0 ++ row ∷ []) given.0 in
          (map fields read.0, one_then (header_of kind) fields way.0 read.0 row ∙ read.1)

      -- A write failed within the row's record.
      pub prefix_cut : (later : Output) (part : ℕ) → part < length bytes → Puts after later (take part bytes)
          → AsksForExport kind text fields
          → HasCleanDisk (state g next) → (office : Office) → IsAtStart g text first office
          → PutsPrefix before later (sent + part) (export_bytes (exported kind office))
      prefix_cut later part short puts asks clean office asked =
          let rest = in_export asks clean office asked in
          cut_prefix (header_of kind ∷ map fields way.0) sent part before after later bytes short puts way.1
          (fields row) rest.0 (exported kind office) is rest.1

      pub short_cut : (later : Output) (part : ℕ) → part < length bytes → Puts after later (take part bytes)
          → AsksForExport kind text fields
          → HasCleanDisk (state g next) → (office : Office) → IsAtStart g text first office
          → sent + part < length (export_bytes (exported kind office))
      short_cut later part short puts asks clean office asked =
          let rest = in_export asks clean office asked in
          cut_short (header_of kind ∷ map fields way.0) sent part before after later bytes short puts way.1
          (fields row) rest.0 (exported kind office) is rest.1

      pub counted_cut : (later : Output) (part : ℕ) → part < length bytes → Puts after later (take part bytes)
          → PutsCount before later (sent + part)
      counted_cut later part short puts =
          cut_counted (header_of kind ∷ map fields way.0) sent part before after later bytes short puts way.1

    pub counted_stopped : PutsCount before after sent
    counted_stopped = sent_counted (header_of kind ∷ map fields way.0) sent before after way.1

    pub formed_sent : PutsExport kind before after
    formed_sent = (map fields way.0, way.1.written)

    pub between_stopped : EndsBetween kind before after (Unavailable sent)
    between_stopped = (header_of kind ∷ map fields way.0, refl, way.1.written, sym way.1.size)

  -- The header was written.
  pub head_sent : (first : Held S) (before after : Output) (bytes : List ℕ) → bytes ≡ record_bytes (header_of kind)
      → Puts before after bytes → UnderWay g kind text fields first first (length bytes) before after
  head_sent first before after bytes is puts = (
    [],
    one_record (header_of kind) before after bytes is puts,
    λ clean begun. (begun, unchanged_still (state g first) (given_open g text [] first [] begun)),
  )
