-- A complete head with a complete body is a request.
use Rattle.std.proofs.Common.{◌≡◌, ℕ, ◌+◌, ◌-◌, ◌≤◌, false, List, length, take, drop, refl, sym, arith, codes, Option}
use Rattle.std.proofs.Common.{Ok, nat_lt}
use Rattle.std.proofs.lemmas.Bool.Decides.{nat_tests}
use Rattle.std.proofs.lemmas.List.{take_all, length-drop}
use Rattle.resident_requests.specs.Fields.{NamedValue, values_of}
use Rattle.resident_requests.specs.Asks.{ask, asked_of, has_bad_host, is_present, key_of, body_length, path_of}

pub asked_request : (method target path : List ℕ) (key : Option (List ℕ)) (minor : ℕ) (fields : List NamedValue)
    (len n : ℕ) (bytes : List ℕ)
    → false ≡ has_bad_host minor (values_of (codes "host") fields)
    → false ≡ is_present (values_of (codes "expect") fields)
    → false ≡ is_present (values_of (codes "transfer-encoding") fields)
    → Ok n ≡ body_length (values_of (codes "content-length") fields)
    → key ≡ key_of (values_of (codes "room-key") fields)
    → path ≡ path_of target
    → n ≤ length (take (length bytes - len) (drop len bytes))
    → ask method path key (take n (take (length bytes - len) (drop len bytes))) (len + n) ≡ asked_of method target minor
    fields len (drop len bytes)
unfolding asked_of
asked_request method target path key minor fields len n bytes host expect coding returned keyed cut whole =
    let all : take (length bytes - len) (drop len bytes) ≡ drop len bytes =
    take_all (length bytes - len) (drop len bytes) (omega (arith, length-drop len bytes)) in
    let enough : n ≤ length (drop len bytes) = rw all at whole in
    let test : nat_lt (length (drop len bytes)) n ≡ false = grind (arith, nat_tests) in
    rw (sym host, sym expect, sym coding, sym returned, test, all, keyed, cut) refl
