-- Items in ascending order, under any comparison.
use Rattle.std.specs.Prelude.{◌≡◌, List, [], ◌∷◌, map, if◌then◌else◌}
use Rattle.std.specs.List.Sorted.{IsPermutation, IsSorted, IsStable, IsStrictlySortedBy}
use Rattle.std.specs.declared.cmp.Ordering.{Ordering}
use Rattle.std.specs.Ordering.{is_gt}
use Rattle.room_types.specs.Texts.{Text, text_cmp}

-- `arranged` is a stable sort of `items`: it has the same items in ascending order, and items that compare as equal
-- keep their old order
pub record IsArrangement {X : Type 0} (cmp : X → X → Ordering)
    (items arranged : List X) : Type 0 where
  pub same_items : IsPermutation items arranged
  pub ascends : IsSorted cmp arranged
  pub ties_stay : IsStable cmp items arranged

-- inserts an item into an ascending list, directly before the first item that is not below it
abbrev pub placed : {X : Type 0} → (X → X → Ordering) → X → List X → List X
placed cmp item [] = item ∷ []
placed cmp item (first ∷ rest) =
    if is_gt (cmp item first) then first ∷ placed cmp item rest else item ∷ first ∷ rest

-- sorts the items by insertion
abbrev pub ascending : {X : Type 0} → (X → X → Ordering) → List X → List X
ascending cmp [] = []
ascending cmp (item ∷ items) = placed cmp item (ascending cmp items)

-- the items have exactly one arrangement, which `ascending` computes
pub record HasOneArrangement {X : Type 0} (cmp : X → X → Ordering) (items : List X) : Type 0 where
  pub some : IsArrangement cmp items (ascending cmp items)
  pub one : (arranged : List X) → IsArrangement cmp items arranged → arranged ≡ ascending cmp items

-- the keys of the items strictly ascend
abbrev pub AscendsBy : {X : Type 0} → (X → Text) → List X → Type 0
AscendsBy key items = IsStrictlySortedBy text_cmp (map key items)
