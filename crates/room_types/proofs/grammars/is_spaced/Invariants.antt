use Rattle.std.proofs.Common.{◌≡◌, drop, true}
use Rattle.room_types.specs.Grammars.{is_spaced}
use Rattle.room_types.proofs.grammars.is_spaced.Given as goal

-- the result depends only on the bytes that are left and on whether a space came just before them
abbrev pub invariant-loop-byte : goal.invariant-loop-byte
invariant-loop-byte l = is_spaced true l.text ≡ is_spaced l.after_space (drop l.byte-index l.byte-items)
