use Rattle.room_types.proofs.hex_words.Digits.{sixteen_digits}
use Rattle.room_types.proofs.word.WordDisplay.fmt.Goals as goal

pub returns-clause-writes : goal.returns-clause-writes
returns-clause-writes g c =
    rw (c.laid_out.ensures, c.in_radix.ensures, sixteen_digits c.self.inside.value, c.self.view_is)
    at c.write.ensures.writes
