use Rattle.std.proofs.Common.{◌≡◌, length}
use Rattle.trade_line.specs.Inner.Tenants.{AreHoused}
use Rattle.trade_line.proofs.draft.Draft.tenants.Given as goal

abbrev pub invariant-loop-person : goal.invariant-loop-person
invariant-loop-person l = AreHoused l.self.homes.items l.tenants.items l.person
    × (length l.tenants.items ≡ l.self.room_count)
