-- Texts that occur twice in a list.
use Rattle.std.specs.Prelude.{List, [], ◌∷◌, ◌++◌, Option, None, Some, if◌then◌else◌}
use Rattle.std.specs.List.{list_any}
use Rattle.room_types.specs.Texts.{Text, text_eq}

-- the first text of the list that also occurs earlier, in `seen` or in the list
abbrev pub first_repeated : List Text → List Text → Option Text
first_repeated seen [] = None
first_repeated seen (text ∷ texts) =
    if list_any (λ other. text_eq other text) seen then Some text
    else first_repeated (seen ++ text ∷ []) texts
