use Rattle.std.proofs.Common.{◌≡◌, ◌++◌, drop, map}
use Rattle.std.specs.String.{string_bytes}
use Rattle.rooms.proofs.texts_after_name.Given as goal

-- the texts so far, followed by those of the remaining words, are all texts
abbrev pub invariant-loop-word : goal.invariant-loop-word
invariant-loop-word l =
    map (λ text. text.now) l.texts.items ++ map string_bytes (drop l.word-index l.rest) ≡ map string_bytes l.rest
