-- The lines that the server prints.
use Rattle.std.specs.Prelude.{ℕ, [], ◌∷◌, codes}
use Rattle.std.specs.Fmt.{decimal}
use Rattle.room_types.specs.OutputLines.{line_of}
use Rattle.room_types.specs.Texts.{Text}

-- the line with the port on which the server listens
abbrev pub listening_text : ℕ → Text
listening_text port = line_of (codes "listening on 127.0.0.1:" ∷ decimal port ∷ [])

-- the line with the number of connections that the server asked for
abbrev pub served_text : ℕ → Text
served_text count = line_of (codes "served " ∷ decimal count ∷ [])
