-- Inserting entries and keys into a map one by one.
use Rattle.std.specs.Prelude.{List, [], ◌∷◌, Option, Some, None, if◌then◌else◌}
use Rattle.std.specs.FinMap as map
use Rattle.room_types.specs.Texts.{Text, TextMap}

-- Inserts the entries in order. The result is `None` if the key of an entry is in the map already.
abbrev pub filled : {X : Type 0} → TextMap X → List (Text × X) → Option (TextMap X)
filled m [] = Some m
filled m (e ∷ es) = if map.contains_key m e.0 then None else filled (map.insert m e.0 e.1) es

-- a key of a set, as an entry of a map that has no values
abbrev pub key_entry : Text → Text × Unit {0}
key_entry key = (key, tt)
