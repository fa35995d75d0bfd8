use Rattle.std.proofs.Common.{sym, ap, ◌∙◌, option_map}
use Rattle.matchit.specs.Router.{RouteOf}
use Rattle.matchit.specs.Seek.{first}
use Rattle.resident_requests.specs.declared.routes.Route.{Route}
use Rattle.resident_requests.proofs.http_routes.Found.{route_found}
use Rattle.resident_requests.proofs.routes.find.Goals as goal

pub returns-in-Ok : goal.returns-in-Ok
returns-in-Ok c =
    let value = option_map (λ (route : RouteOf Route). route.value) in
    ap value (sym c.in-Ok.ensures.found) ∙ ap (λ rows. value (first rows c.args.path.now)) c.requires
    ∙ route_found c.args.path.now

pub returns-in-Err : goal.returns-in-Err
returns-in-Err c =
    let value = option_map (λ (route : RouteOf Route). route.value) in
    ap value (sym c.in-Err.ensures.missing) ∙ ap (λ rows. value (first rows c.args.path.now)) c.requires
    ∙ route_found c.args.path.now
