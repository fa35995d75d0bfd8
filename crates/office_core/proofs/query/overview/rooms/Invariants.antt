use Rattle.std.proofs.Common.{◌≡◌, ◌++◌, map}
use Rattle.office_core.specs.Query.Overview.{room_row, room_rows}
use Rattle.office_core.proofs.query.overview.rooms.Given as goal

-- the rows so far, followed by those of the remaining rooms, are all rows
abbrev pub invariant-loop-room : goal.invariant-loop-room
invariant-loop-room l = record {
  can : (goal.iterator-loop-room).can_next l.room-iterator;
  ends : (goal.iterator-loop-room).is_finite l.room-iterator;
  rows : l.rows.items ++ map (room_row l.office) l.room-iterator ≡ room_rows l.office;
}
