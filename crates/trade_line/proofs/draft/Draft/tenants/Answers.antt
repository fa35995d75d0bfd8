use Rattle.std.proofs.Common.{false, ◌≡◌, ℕ, ◌<◌, ◌+◌, Some, None, length, get_or, sym, ◌∙◌, ap, arith, subst, is_some}
use Rattle.std.proofs.Common.{length-set}
use Rattle.trade_line.specs.Inner.Tenants.{AreHoused}
use Rattle.trade_line.proofs.markets.Drafts.{housed_none, housed_some, housed_shared}
use Rattle.trade_line.proofs.turns.States.{read_same}
use Rattle.trade_line.proofs.draft.Draft.tenants.Goals as goal
use Rattle.trade_line.proofs.draft.Draft.tenants.Goals.{in-Some+else-is_some, in_default}

pub returns-then-is_some-clause-fault : goal.returns-then-is_some-clause-fault
returns-then-is_some-clause-fault c =
    let lp : c.loop-person.person < length c.args.self.now.homes.items =
    omega (arith, ap length c.deref-home-items.ensures.value, c.loop-person-test.true) in
    let home_is : get_or c.args.self.now.homes.items c.loop-person.person None ≡ Some c.in-Some.room =
    sym (ap (λ z. get_or z c.loop-person.person None) c.deref-home-items.ensures.value) ∙ c.in-Some.is in
    let room : c.in-Some.room < length c.loop-person.tenants.items =
    omega (
      arith,
      c.requires.homes_known c.loop-person.person c.in-Some.room (omega (arith, c.requires.homes_len))
          home_is,
      c.loop-person.invariant.1,
    ) in
    let read : get_or c.loop-person.tenants.items c.in-Some.room None ≡ c.index.result.now =
    read_same c.loop-person.tenants.items c.in-Some.room None c.index.result.now room ∙ sym c.index.ensures in
    let was : (p : ℕ) × (p < c.loop-person.person) × (get_or c.args.self.now.homes.items p None ≡ Some c.in-Some.room) =
    housed_shared c.args.self.now.homes.items c.loop-person.tenants.items c.loop-person.person c.in-Some.room
    c.loop-person.invariant.0 home_is room (ap is_some read ∙ sym c.is_some.ensures ∙ c.if-is_some.true) in (
      c.requires,
      λ differ.
          let same : was.0 ≡ c.loop-person.person =
          differ was.0 c.loop-person.person c.in-Some.room (omega (arith, was.1, c.requires.homes_len))
          (omega (arith, c.requires.homes_len)) was.2 home_is in
          absurd (omega (arith, was.1)),
    )

pub loop-person-preserved : goal.loop-person-preserved
loop-person-preserved c =
    elim c.match-home.branch [
      | in-Some+else-is_some w ↦
          let lp : c.loop-person.person < length c.args.self.now.homes.items =
          omega (arith, ap length c.deref-home-items.ensures.value, c.loop-person-test.true) in
          let home_is : get_or c.args.self.now.homes.items c.loop-person.person None ≡ Some w.in-Some.room =
          sym (ap (λ z. get_or z c.loop-person.person None) c.deref-home-items.ensures.value) ∙ w.in-Some.is in
          let room : w.in-Some.room < length c.loop-person.tenants.items =
          omega (
            arith,
            c.requires.homes_known c.loop-person.person w.in-Some.room
                (omega (arith, c.requires.homes_len)) home_is,
            c.loop-person.invariant.1,
          ) in
          let unlet : is_some (get_or c.loop-person.tenants.items w.in-Some.room None) ≡ false =
          ap is_some (read_same c.loop-person.tenants.items w.in-Some.room None w.index.result.now room
          ∙ sym w.index.ensures) ∙ sym w.is_some.ensures ∙ w.if-is_some.false in
          let free : get_or c.loop-person.tenants.items w.in-Some.room None ≡ None = grind (arith, unlet) in (
            subst (λ z. AreHoused c.args.self.now.homes.items z (c.loop-person.person + 1))
                (sym (ap (λ v. v.items) w.tenants-is))
                (housed_some c.args.self.now.homes.items c.loop-person.tenants.items c.loop-person.person w.in-Some.room
                c.loop-person.invariant.0 home_is room free),
            ap (λ v. length v.items) w.tenants-is ∙ length-set c.loop-person.tenants.items w.in-Some.room
                (Some c.loop-person.person) ∙ c.loop-person.invariant.1,
          )
      | in_default w ↦
          let home_is : get_or c.args.self.now.homes.items c.loop-person.person None ≡ None =
          sym (ap (λ z. get_or z c.loop-person.person None) c.deref-home-items.ensures.value) ∙ w.in_default.is in (
            subst (λ z. AreHoused c.args.self.now.homes.items z (c.loop-person.person + 1))
                (sym (ap (λ v. v.items) w.tenants-is))
                (housed_none c.args.self.now.homes.items c.loop-person.tenants.items c.loop-person.person
                c.loop-person.invariant.0 home_is),
            ap (λ v. length v.items) w.tenants-is ∙ c.loop-person.invariant.1,
          )
    ]
