use Rattle.std.proofs.Common.{◌≡◌, take, map}
use Rattle.std.specs.Prelude.{option_and_then}
use Rattle.office_lists.specs.Waves.{leaver}
use Rattle.office_lists.proofs.schedule.leavers.Given as goal

abbrev pub invariant-loop-entry : goal.invariant-loop-entry
invariant-loop-entry l = l.leavers.items ≡ map (λ entry. option_and_then (leaver l.entries) entry.2)
    (take l.entry-index l.entries)
