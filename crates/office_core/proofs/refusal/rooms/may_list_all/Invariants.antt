use Rattle.std.proofs.Common.{◌≡◌, drop}
use Rattle.std.specs.List.{flat_map}
use Rattle.office_core.specs.Refusal.Checks.{first_refusal, room_checks}
use Rattle.office_core.proofs.refusal.rooms.may_list_all.Given as goal

-- the first refusal is that of the remaining rooms
abbrev pub invariant-loop-room : goal.invariant-loop-room
invariant-loop-room l =
    first_refusal (flat_map (room_checks l.office) l.rooms)
    ≡ first_refusal (flat_map (room_checks l.office) (drop l.room-index l.rooms))
