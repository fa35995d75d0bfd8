-- The rows of the router, for inner contracts.
use Rattle.std.specs.Prelude.{ℕ, List, [], ◌∷◌, codes}
use Rattle.matchit.specs.Rows.{RowsOf}
use Rattle.matchit.specs.Router.{RouteOf}
use Rattle.resident_requests.specs.declared.routes.Route.{Route}
use Rattle.resident_requests.specs.declared.routes.Route.TheVariants as route

-- the router's row for a path without parameters
abbrev pub plain_route : List ℕ → Route → List ℕ × RouteOf Route
plain_route path route = (path, record { pattern = path; text = path; names = []; value = route })

abbrev pub route_rows : RowsOf (RouteOf Route)
route_rows =
    plain_route (codes "/me/choices") route.Choices
    ∷ plain_route (codes "/me/withdraw") route.Withdrawal
    ∷ plain_route (codes "/me") route.Standing
    ∷ plain_route (codes "/rooms") route.Rooms
    ∷ []
