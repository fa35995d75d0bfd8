-- Maps with entries inserted one by one.
use Rattle.std.specs.Prelude.{List}
use Rattle.std.specs.List.{fold}
use Rattle.std.specs.FinMap as map
use Rattle.room_types.specs.Texts.{Text, TextMap}

-- the map after inserting these entries one by one, in the order of the list
abbrev pub with_all : {X : Type 0} → TextMap X → List (Text × X) → TextMap X
with_all = fold (λ m e. map.insert m e.0 e.1)
