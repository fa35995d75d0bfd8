-- The result of a function that makes some of the checks.
use Rattle.std.specs.Prelude.{◌≡◌, List, [], None, MatchResult, Result}
use Rattle.office_core.specs.Command.Decision.{IsRefusal}
use Rattle.office_core.specs.Refusal.Checks.{Check, first_refusal}
use Rattle.office_core.specs.declared.refusal.Refusal.{Refusal}

-- `Ok` if no check refuses, else the first refusal that applies, or `OutOfMemory` if reporting it needs memory
abbrev pub Passes : List Check → Result (Unit {0}) Refusal → Type 0
Passes checks result = MatchResult result (λ _. first_refusal checks ≡ None) (IsRefusal [] checks)
