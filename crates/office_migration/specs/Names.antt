-- The names of the tables that earlier versions lack.
use Rattle.std.specs.Prelude.{ℕ, Bool, ◌&&◌, ◌||◌, codes, nat_le, not}
use Rattle.sqlite_schema.specs.declared.schema.Schema.{Schema}
use Rattle.sqlite_catalog.specs.Change.{is_used}

-- Something has the name of a table that this version lacks. Version 1 lacks `grade`, and versions 1 and 2 lack
-- `going`. The arguments `grade` and `going` say whether these names are in use.
abbrev pub takes_name : Bool → Bool → ℕ → Bool
takes_name grade going version = not (nat_le 2 version) && grade || going

-- Something has the name of a table that this version lacks.
abbrev pub uses_missing_name : ℕ → Schema → Bool
uses_missing_name version schema =
    takes_name (is_used schema (codes "grade")) (is_used schema (codes "going")) version
