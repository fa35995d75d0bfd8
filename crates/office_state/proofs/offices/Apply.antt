-- Several changes, one after the other.
use Rattle.std.proofs.Common.{◌≡◌, ℕ, ◌+◌, ◌<◌, List, [], ◌∷◌, ◌++◌, length, take, get_or, refl, ap}
use Rattle.std.proofs.Common.{◌∙◌}
use Rattle.std.proofs.lemmas.List.{take_more}
use Rattle.office_state.specs.Change.{applied, applied_all}
use Rattle.office_state.specs.declared.change.Change.{Change}
use Rattle.office_state.specs.declared.office.Office.{Office}

pub applied_all-append : (office : Office) (first then : List Change)
    → applied_all office (first ++ then) ≡ applied_all (applied_all office first) then
applied_all-append office [] then = refl
applied_all-append office (change ∷ first) then =
    applied_all-append (applied office change) first then

pub applied_all-more : (office : Office) (changes : List Change) (i : ℕ) (d : Change)
    → i < length changes
    → applied_all office (take (i + 1) changes)
    ≡ applied (applied_all office (take i changes)) (get_or changes i d)
applied_all-more office changes i d below =
    ap (λ some. applied_all office some) (take_more changes i d below)
    ∙ applied_all-append office (take i changes) (get_or changes i d ∷ [])
