use Rattle.std.proofs.Common.{◌≡◌, take}
use Rattle.std.specs.List.{filter_map}
use Rattle.std.specs.FinMap as maps
use Rattle.office_state.proofs.round.lists.numbers_of.Given as goal

abbrev pub invariant-loop-code : goal.invariant-loop-code
invariant-loop-code l =
    l.list.items ≡ filter_map (maps.get l.numbers) (take l.code-index l.code-items)
