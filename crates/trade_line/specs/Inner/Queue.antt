-- The invariant of the line of askers between two turns.
use Rattle.std.specs.Prelude.{◌≡◌, ℕ, ◌<◌, ◌≤◌, Bool, true, Option, Some, None, List, [], ◌∷◌, slice_set, slice_index_or, false, ◌++◌}
use Rattle.trade_line.specs.Inner.Removal.{Leads}
use Rattle.trade_line.specs.Market.{Market, home}
use Rattle.trade_line.specs.Member.{among, Once}
use Rattle.trade_line.specs.TopTradingCycles.{Stage, wish}

-- the list ascends, and all its numbers are above a
abbrev pub AscendsFrom : ℕ → List ℕ → Type 0
AscendsFrom a [] = Unit {0}
AscendsFrom a (b ∷ r) = (a < b) × AscendsFrom b r

abbrev pub Ascends : List ℕ → Type 0
Ascends [] = Unit {0}
Ascends (a ∷ r) = AscendsFrom a r

-- the last number of the list, or a if the list is empty
abbrev pub last_of : ℕ → List ℕ → ℕ
last_of a [] = a
last_of a (b ∷ r) = last_of b r

-- the people behind a wait, each for the home of the person before them
abbrev pub WaitsBehind : Market → Stage → ℕ → List ℕ → Type 0
WaitsBehind m s a [] = Unit {0}
WaitsBehind m s a (b ∷ r) = ((h : ℕ) × (home m a ≡ Some h) × (wish m s b ≡ Some h))
    × WaitsBehind m s b r

abbrev pub Waits : Market → Stage → List ℕ → Type 0
Waits m s [] = Unit {0}
Waits m s (a ∷ r) = WaitsBehind m s a r

-- the last of those who wait has the highest priority of all people in line
abbrev pub LastIsLeast : List ℕ → List ℕ → Type 0
LastIsLeast [] line = Unit {0}
LastIsLeast (a ∷ r) line = (p : ℕ) → among line p ≡ true → last_of a r ≤ p

-- the stage at which the people in line and the rooms marked in `remaining` remain
abbrev pub stage_of : List ℕ → List Bool → Stage
stage_of line remaining = record { people = among line; rooms = λ r. slice_index_or remaining r false }

-- the line begins with the people who have asked; each of them but the first waits for the home of the person before
-- them; the people behind have not asked and are in priority order
pub record Queue (m : Market) (line : List ℕ) (asked : List Bool) (remaining : List Bool) : Type 0 where
  pub waiting : List ℕ
  pub fresh : List ℕ
  pub split : line ≡ waiting ++ fresh
  pub waiting_asked : (p : ℕ) → among waiting p ≡ true → slice_index_or asked p false ≡ true
  pub fresh_unasked : (p : ℕ) → among fresh p ≡ true → slice_index_or asked p false ≡ false
  pub waits : Waits m (stage_of line remaining) waiting
  pub least : LastIsLeast waiting line
  pub ascends : Ascends fresh
  pub once : Once line
  pub known : (p : ℕ) → among line p ≡ true → p < m.people

-- f gives each served person what they were given, and gives the people in line what some series of removals from
-- this stage gives
pub record Settles (m : Market) (line : List ℕ) (remaining : List Bool) (given : List (Option ℕ)) (f : ℕ → Option ℕ) : Type 0 where
  pub served : (p : ℕ) → p < m.people → among line p ≡ false → f p ≡ slice_index_or given p None
  pub leads : Leads m f (stage_of line remaining)

-- the rooms that remain after somebody got one
abbrev pub close : List Bool → Option ℕ → List Bool
close remaining None = remaining
close remaining (Some r) = slice_set remaining r false
