-- Which route a path has, which method a route takes, and how the server routes a request.
use Rattle.std.specs.Prelude.{ℕ, List, codes, if◌then◌else◌, Option, Some, None}
use Rattle.std.specs.Str.{bytes_eq}
use Rattle.room_types.specs.Texts.{Text}
use Rattle.resident_requests.specs.Answers.{method_text}
use Rattle.resident_requests.specs.declared.method.Method.{Method}
use Rattle.resident_requests.specs.declared.method.Method.TheVariants.{Get, Put, Post}
use Rattle.resident_requests.specs.declared.routes.Route.{Route}
use Rattle.resident_requests.specs.declared.routes.Route.TheVariants as route
use Rattle.resident_requests.specs.declared.routes.Routed.{Routed}
use Rattle.resident_requests.specs.declared.routes.Routed.TheVariants as routed

-- the route of a path, if it has one
abbrev pub route_of : Text → Option Route
route_of path =
    if bytes_eq (codes "/me/choices") path then Some route.Choices
    else if bytes_eq (codes "/me/withdraw") path then Some route.Withdrawal
    else if bytes_eq (codes "/me") path then Some route.Standing
    else if bytes_eq (codes "/rooms") path then Some route.Rooms
    else None

abbrev pub method_of : Route → Method
method_of route.Choices = Put
method_of route.Withdrawal = Post
method_of route.Standing = Get
method_of route.Rooms = Get

-- the result of routing a request, like `Routed`, but with a list of bytes in place of the borrowed key
pub data Wanted : Type 0 where
  unknown : Wanted
  wrong_method : (allow : Method) → Wanted
  forbidden : Wanted
  wanted : (route : Route) (key : Text) → Wanted

abbrev pub seen_wanted : Routed → Wanted
seen_wanted routed.Unknown = unknown
seen_wanted (routed.WrongMethod allow) = wrong_method allow
seen_wanted routed.Forbidden = forbidden
seen_wanted (routed.To route key) = wanted route key.now

abbrev pub with_key : Route → Option Text → Wanted
with_key route None = forbidden
with_key route (Some key) = wanted route key

abbrev pub with_method : List ℕ → Option Text → Route → Wanted
with_method method key route =
    if bytes_eq method (method_text (method_of route)) then with_key route key else wrong_method (method_of route)

-- The route and the key of a request, or its first error. An unknown path comes before a wrong method, and a wrong
-- method comes before a missing key.
abbrev pub wanted_of : List ℕ → Text → Option Text → Wanted
wanted_of method path key = on_route (route_of path)
  where
    on_route : Option Route → Wanted
    on_route None = unknown
    on_route (Some route) = with_method method key route
