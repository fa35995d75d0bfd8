-- A SELECT changes nothing, whatever the schema.
use Rattle.std.proofs.Common.{◌≡◌, ◌+◌, ℕ, true, false, List, Option, None, Result, Ok, Err, refl, sym, subst}
use Rattle.std.proofs.Common.{if◌then◌else◌}
use Rattle.sqlite_ast.specs.declared.Statement.{Statement}
use Rattle.sqlite_ast.specs.declared.Statement.TheVariants as written
use Rattle.sqlite_resolve.specs.Compile.{command, compiled, first, meaning, planned, returning, small, timed}
use Rattle.sqlite_resolve.specs.Compile.{with_command}
use Rattle.sqlite_resolve.specs.Lowering.{Checked, and_then}
use Rattle.sqlite_resolve.specs.declared.compiled.Compiled.{Compiled}
use Rattle.sqlite_resolve.specs.declared.error.CompileError.{CompileError}
use Rattle.sqlite_resolve.specs.declared.error.CompileError.TheVariants.{NoSuchTable}
use Rattle.sqlite_schema.specs.declared.command.Command.{Command}
use Rattle.sqlite_schema.specs.declared.command.Returning.{Returning}
use Rattle.sqlite_schema.specs.declared.schema.Schema.{Schema}
use Rattle.sqlite_syntax.specs.declared.statement.Parsed.{Parsed}
use Rattle.sqlite.specs.Listing.{if_select, is_select, listing_schema, reads_listing, understood}
use Rattle.office_schema.specs.tables.Asking.{NeverReturns, OnlyAsks}

-- The statement is a SELECT.
abbrev pub IsSelectOnly : Statement → Type 0
IsSelectOnly (written.Select s) = Unit {0}
IsSelectOnly _ = ⊥

-- The text is a SELECT, or is not understood.
abbrev pub SelectsOnly : Checked Parsed → Type 0
SelectsOnly (Ok p) = IsSelectOnly p.statement
SelectsOnly (Err e) = Unit {0}

select_without_returning : (schema : Schema) (base : ℕ) (statement : Statement) → IsSelectOnly statement
    → returning schema base statement ≡ Ok None
unfolding returning
select_without_returning schema base (written.Select s) only = refl
select_without_returning schema base written.Empty only = absurd only
select_without_returning schema base (written.Insert how name columns rows clauses shown) only = absurd only
select_without_returning schema base (written.Update name sets test shown) only = absurd only
select_without_returning schema base (written.Delete name test shown) only = absurd only
select_without_returning schema base (written.Pragma name value) only = absurd only
select_without_returning schema base (written.CreateTable def) only = absurd only
select_without_returning schema base (written.CreateIndex def) only = absurd only
select_without_returning schema base (written.CreateView if_missing name columns s) only = absurd only
select_without_returning schema base (written.DropTable if_exists name) only = absurd only
select_without_returning schema base (written.DropIndex if_exists name) only = absurd only
select_without_returning schema base (written.DropView if_exists name) only = absurd only
select_without_returning schema base written.Begin only = absurd only
select_without_returning schema base written.Commit only = absurd only
select_without_returning schema base written.Rollback only = absurd only
select_without_returning schema base (written.Savepoint name) only = absurd only
select_without_returning schema base (written.Release name) only = absurd only
select_without_returning schema base (written.RollbackTo name) only = absurd only

-- the compiled statement of a parsed one, from what it shows and its command
abbrev compiled_from : List (List ℕ) → Parsed → Checked (Option Returning) → Checked Command → Checked Compiled
compiled_from formats p shown command =
    and_then (and_then (and_then shown (λ s. and_then command (λ c. Ok (c, s)))) (λ found. Ok (formats, found)))
    (λ plan. Ok (with_command p plan))

from : (formats : List (List ℕ)) (p : Parsed) (command : Checked Command)
    → NeverReturns (compiled_from formats p (Ok None) command)
from formats p (Ok c) = refl
from formats p (Err e) = tt

parsed : (schema : Schema) (r : Checked Parsed) → SelectsOnly r
    → NeverReturns (and_then r (λ p. and_then (planned schema p) (λ plan. Ok (with_command p plan))))
unfolding planned meaning
parsed schema (Err e) only = tt
parsed schema (Ok p) only =
    let formats = timed schema p.formats p.statement in
    let base = small p.names + small formats in
    subst (λ shown. NeverReturns (compiled_from formats p shown (command schema p.formats base p.statement)))
    (sym (select_without_returning schema base p.statement only))
    (from formats p (command schema p.formats base p.statement))

select_never_returns : (schema : Schema) (text : List ℕ) → SelectsOnly (first text)
    → NeverReturns (compiled schema text)
unfolding compiled
select_never_returns schema text only = parsed schema (first text) only

selected : (r : Result Compiled CompileError) → NeverReturns r → NeverReturns (if_select r)
selected (Ok c) never =
    elim (is_select c.command) as (λ b. NeverReturns (if b then Ok c else Err NoSuchTable))
    [ true ↦ never | false ↦ tt ]
selected (Err e) never = tt

pub selects_only_ask : (text : List ℕ) → SelectsOnly (first text) → OnlyAsks text
unfolding understood
selects_only_ask text only schema =
    elim (reads_listing schema text) as
    (λ b. NeverReturns (if b then if_select (compiled listing_schema text) else compiled schema text)) [
      | true ↦ selected _ (select_never_returns listing_schema text only)
      | false ↦ select_never_returns schema text only
    ]
