use Rattle.std.proofs.Common.{◌≡◌, map, take}
use Rattle.draw_order.proofs.tickets.identifiers.Given as goal

abbrev pub invariant-loop-person : goal.invariant-loop-person
invariant-loop-person l = l.people.items ≡ map (λ sort_key. sort_key.2.now) (take l.person-index l.sort_keys)
