-- The router finds the route of a path.
use Rattle.std.proofs.Common.{◌≡◌, ℕ, Bool, true, false, cond, List, [], ◌∷◌, Some, None, refl, ap, ◌∙◌, arith, nat_lt}
use Rattle.std.proofs.Common.{codes, bytes_eq, option_map}
use Rattle.std.proofs.lemmas.Bool.{and_parts}
use Rattle.std.proofs.lemmas.Bool.Decides.{nat_tests}
use Rattle.std.specs.List.{list_all}
use Rattle.matchit.specs.Router.{RouteOf}
use Rattle.matchit.specs.Seek.{first}
use Rattle.resident_requests.specs.declared.routes.Route.{Route}
use Rattle.resident_requests.specs.Routes.{route_of}
use Rattle.resident_requests.specs.Inner.RouteRows.{route_rows}
use Rattle.resident_requests.proofs.http_routes.Literal.{IsLiteral, seek_literal}

literal : (text : List ℕ) → list_all (λ b. nat_lt b 256) text ≡ true → IsLiteral text
literal [] e = tt
literal (b ∷ text) e =
    let parts = and_parts (nat_lt b 256) (list_all (λ x. nat_lt x 256) text) e in
    let first = parts.0 in
    (grind (arith, nat_tests), literal text parts.1)

one_of_four : (a b c d : Bool) (p q r s : RouteOf Route)
    → option_map (λ (route : RouteOf Route). route.value)
    (cond a (Some p) (cond b (Some q) (cond c (Some r) (cond d (Some s) None))))
    ≡ cond a (Some p.value) (cond b (Some q.value) (cond c (Some r.value) (cond d (Some s.value) None)))
one_of_four true b c d p q r s = refl
one_of_four false true c d p q r s = refl
one_of_four false false true d p q r s = refl
one_of_four false false false true p q r s = refl
one_of_four false false false false p q r s = refl

pub route_found : (path : List ℕ) → option_map (λ (route : RouteOf Route). route.value)
    (first route_rows path) ≡ route_of path
route_found path =
    let found =
    seek_literal path route_rows (
      literal (codes "/me/choices") refl,
      (literal (codes "/me/withdraw") refl, (literal (codes "/me") refl, (literal (codes "/rooms") refl, tt))),
    ) in
    ap (option_map (λ (route : RouteOf Route). route.value)) found
    ∙ one_of_four (bytes_eq (codes "/me/choices") path) (bytes_eq (codes "/me/withdraw") path)
    (bytes_eq (codes "/me") path) (bytes_eq (codes "/rooms") path) _ _ _ _
