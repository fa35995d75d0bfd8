use Rattle.office_state.specs.Office.Invariants.{IsLawful}
use Rattle.office_tests.proofs.office.carry_out_all.Given as goal

-- the office is lawful after each command
abbrev pub invariant-loop-command : goal.invariant-loop-command
invariant-loop-command g l = IsLawful l.office
