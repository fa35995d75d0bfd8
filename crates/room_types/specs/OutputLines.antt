-- Lines of text.
use Rattle.std.specs.Prelude.{List, [], ◌∷◌, ◌++◌, codes}
use Rattle.room_types.specs.Texts.{Text}

-- joins the parts and appends a line feed
abbrev pub line_of : List Text → Text
line_of [] = codes "\n"
line_of (part ∷ parts) = part ++ line_of parts
