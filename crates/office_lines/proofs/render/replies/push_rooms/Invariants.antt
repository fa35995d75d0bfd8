use Rattle.std.proofs.Common.{◌≡◌, ◌++◌, drop}
use Rattle.std.specs.String.{string_bytes}
use Rattle.office_lines.specs.render.Replies.{spaced}
use Rattle.office_lines.proofs.render.replies.push_rooms.Given as goal

-- the text so far, followed by the remaining codes, is the text before, the heading and all codes
abbrev pub invariant-loop-room : goal.invariant-loop-room
invariant-loop-room l = string_bytes l.text ++ spaced (drop l.room-index l.rooms) ≡ string_bytes l.fn.text ++ l.heading
    ++ spaced l.rooms
