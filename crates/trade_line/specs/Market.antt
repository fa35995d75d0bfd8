-- A problem of room exchange, as a market (Shapley and Scarf 1974; Abdulkadiroglu and Sönmez 1999): people in priority
-- order, rooms, who lives where, and which rooms each person lists, best first. People are the numbers below `people`,
-- and 0 is the first in priority. Rooms are the numbers below `rooms`.
use Rattle.std.specs.Prelude.{◌≡◌, ℕ, ◌<◌, Bool, Option, Some, None, List, [], length, ◌==◌, slice_index_or, false, All, AllPairs, ◌≢◌, is_some}
use Rattle.trade_line.specs.Below.{first_below, count_below}

pub record Market : Type 0 where
  pub people : ℕ
  pub rooms : ℕ
  pub homes : List (Option ℕ)
  pub lists : List (List ℕ)

-- where p lives
abbrev pub home : Market → ℕ → Option ℕ
home m p = slice_index_or m.homes p None

-- the floor of p: the home of p, or nothing for a newcomer
abbrev pub floor : Market → ℕ → Option ℕ
floor m p = home m p

-- the rooms that p lists, best first
abbrev pub list_of : Market → ℕ → List ℕ
list_of m p = slice_index_or m.lists p []

-- whether the option is `Some r`
abbrev pub is_room : ℕ → Option ℕ → Bool
is_room r None = false
is_room r (Some x) = x == r

-- who lives in r
abbrev pub tenant_of : Market → ℕ → Option ℕ
tenant_of m r = first_below m.people (λ p. is_room r (home m p))

-- whether p lives somewhere
abbrev pub is_tenant : Market → ℕ → Bool
is_tenant m p = is_some (home m p)

-- how many people live somewhere
abbrev pub tenant_count : Market → ℕ
tenant_count m = count_below m.people (is_tenant m)

-- there is one home entry and one list for each person, and every number in them is a room of the market
pub record IsIndexed (m : Market) : Type 0 where
  pub homes_len : length m.homes ≡ m.people
  pub lists_len : length m.lists ≡ m.people
  pub homes_known : (p r : ℕ) → p < m.people → home m p ≡ Some r → r < m.rooms
  pub lists_known : (p : ℕ) → p < m.people → All (λ r. r < m.rooms) (list_of m p)

-- no two people have the same home
abbrev pub HomesDiffer : Market → Type 0
HomesDiffer m = (p q r : ℕ) → p < m.people → q < m.people → home m p ≡ Some r → home m q ≡ Some r
    → p ≡ q

-- each list ranks its rooms strictly: no list has a room twice
abbrev pub ListsAreStrict : Market → Type 0
ListsAreStrict m = (p : ℕ) → p < m.people → AllPairs ◌≢◌ (list_of m p)

-- nobody lists their own home
abbrev pub OwnUnlisted : Market → Type 0
OwnUnlisted m = (p r : ℕ) → p < m.people → home m p ≡ Some r → All (λ x. x ≢ r) (list_of m p)

-- the market is well formed
pub record IsMarket (m : Market) : Type 0 where
  pub indexed : IsIndexed m
  pub homes_differ : HomesDiffer m
  pub lists_strict : ListsAreStrict m
  pub own_unlisted : OwnUnlisted m
