-- The table of tenants that a problem keeps.
use Rattle.std.specs.Prelude.{◌≡◌, ℕ, ◌<◌, Option, Some, None, List, length, slice_index_or}
use Rattle.trade_line.specs.Below.{first_below}
use Rattle.trade_line.specs.Market.{Market, is_room, tenant_of}

-- `tenants` has the tenant of each room, if any
pub record IsTenants (m : Market) (tenants : List (Option ℕ)) : Type 0 where
  pub tenants_len : length tenants ≡ m.rooms
  pub tenants_are : (r : ℕ) → r < m.rooms → slice_index_or tenants r None ≡ tenant_of m r

-- `tenants` gives, for each room, who of the first n people lives there; no two of these people have the same home
pub record AreHoused (homes : List (Option ℕ)) (tenants : List (Option ℕ)) (n : ℕ) : Type 0 where
  pub housed : (r : ℕ) → r < length tenants
      → slice_index_or tenants r None ≡ first_below n (λ p. is_room r (slice_index_or homes p None))
  pub differ : (p q r : ℕ) → p < n → q < n → slice_index_or homes p None ≡ Some r
      → slice_index_or homes q None ≡ Some r → p ≡ q
