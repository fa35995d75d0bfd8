use Rattle.std.proofs.Common.{◌≡◌, take}
use Rattle.std.specs.BTreeMap.{get_by}
use Rattle.room_types.specs.Texts.{Text, text_cmp}
use Rattle.office_lists.specs.Waves.{leaver}
use Rattle.office_lists.proofs.schedule.leavers_by_room.Given as goal

abbrev pub invariant-loop-i : goal.invariant-loop-i
invariant-loop-i l = (room : Text) → get_by (λ key. text_cmp room key.now) l.by_room ≡ leaver (take l.i l.entries) room
