-- Lists of changes that are not empty.
use Rattle.std.proofs.Common.{◌≡◌, false, List, [], ◌∷◌, ◌++◌, refl}
use Rattle.office_state.specs.Empty.{is_empty}
use Rattle.office_state.specs.declared.change.Change.{Change}

-- a list of changes with this one in it is not empty
pub has_last : (changes others : List Change) (change : Change)
    → is_empty (changes ++ change ∷ others) ≡ false
has_last [] others change = refl
has_last (first ∷ changes) others change = refl
