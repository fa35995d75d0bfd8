use Rattle.std.proofs.Common.{◌≡◌, ◌<◌, ◌+◌, ℕ, Bool, Option, Some, None, List, false, set, sym, ◌∙◌, ap, subst, arith}
use Rattle.trade_line.specs.Market.{Market}
use Rattle.trade_line.specs.TopTradingCycles.{Stage, wish}
use Rattle.trade_line.specs.Inner.Queue.{close}
use Rattle.trade_line.specs.Inner.Plain.{remains, Stepping}
use Rattle.trade_line.proofs.askers.Lines.{wish_known}
use Rattle.trade_line.proofs.searches.PlainSteps.{stepping_stays, stepping_leaves, stepping_end}
use Rattle.trade_line.proofs.plain.step.Goals as goal
use Rattle.trade_line.proofs.plain.step.Goals.{then-is_on_cycle+in-Some, then-is_on_cycle+in_default, else-is_on_cycle}

same_parts : (m : Market) (s : Stage) (old given given' : List (Option ℕ)) (people people' rooms rooms' : List Bool)
    (n : ℕ) → given' ≡ given → people' ≡ people → rooms' ≡ rooms → Stepping m s old given people rooms n
    → Stepping m s old given' people' rooms' n
same_parts m s old given given' people people' rooms rooms' n g p r t =
    subst (λ z. Stepping m s old z people' rooms' n) (sym g)
    (subst (λ z. Stepping m s old given z rooms' n) (sym p)
    (subst (λ z. Stepping m s old given people z n) (sym r) t))

pub index_mut-requires-in-Some : goal.index_mut-requires-in-Some
index_mut-requires-in-Some c =
    let known : c.in-Some.taken < c.args.problem.now.rooms =
    wish_known c.args.problem.now c.requires.marks.market (remains c.args.stage.now) c.loop-person.person
    c.in-Some.taken (omega (arith, c.loop-person-test.true, c.people-person-end.ensures.count))
    (sym c.wish-room.ensures ∙ c.in-Some.is) in
    omega (arith, known, c.loop-person.invariant.rooms_len, c.loop-person.next.rooms.ok.0)

pub loop-person-preserved : goal.loop-person-preserved
loop-person-preserved c =
    let s : Stage = remains c.args.stage.now in
    let l : c.loop-person.person < c.args.problem.now.people =
    omega (arith, c.loop-person-test.true, c.people-person-end.ensures.count) in
    let given : List (Option ℕ) = c.loop-person.given.items in
    let people : List Bool = c.loop-person.next.people.items in
    let rooms : List Bool = c.loop-person.next.rooms.items in
    elim c.if-is_on_cycle.branch [
      | then-is_on_cycle+in-Some w ↦
          let is : wish c.args.problem.now s c.loop-person.person ≡ Some w.in-Some.taken =
          sym w.wish-room.ensures ∙ w.in-Some.is in
          same_parts c.args.problem.now s c.args.given.now.items
          (set given c.loop-person.person (wish c.args.problem.now s c.loop-person.person))
          c.if-is_on_cycle.given.items (set people c.loop-person.person false) c.if-is_on_cycle.next.people.items
          (close rooms (wish c.args.problem.now s c.loop-person.person)) c.if-is_on_cycle.next.rooms.items
          (c.loop-person.person + 1)
          (ap (λ v. v.items) w.given-is ∙ ap (set given c.loop-person.person) w.wish-room.ensures)
          (ap (λ v. v.people.items) w.next-is)
          (ap (λ v. v.rooms.items) w.next-is ∙ sym (ap (close rooms) is))
          (stepping_leaves c.args.problem.now s c.args.given.now.items given people rooms c.loop-person.person
          c.loop-person.invariant l (sym c.is_on_cycle.ensures ∙ w.if-is_on_cycle.true)
          (λ x e. wish_known c.args.problem.now c.requires.marks.market s c.loop-person.person x l e))
      | then-is_on_cycle+in_default w ↦
          let is : wish c.args.problem.now s c.loop-person.person ≡ None = sym w.wish-room.ensures ∙ w.in_default.is in
          same_parts c.args.problem.now s c.args.given.now.items
          (set given c.loop-person.person (wish c.args.problem.now s c.loop-person.person))
          c.if-is_on_cycle.given.items (set people c.loop-person.person false) c.if-is_on_cycle.next.people.items
          (close rooms (wish c.args.problem.now s c.loop-person.person)) c.if-is_on_cycle.next.rooms.items
          (c.loop-person.person + 1)
          (ap (λ v. v.items) w.given-is ∙ ap (set given c.loop-person.person) w.wish-room.ensures)
          (ap (λ v. v.people.items) w.next-is)
          (ap (λ v. v.rooms.items) w.next-is ∙ sym (ap (close rooms) is))
          (stepping_leaves c.args.problem.now s c.args.given.now.items given people rooms c.loop-person.person
          c.loop-person.invariant l (sym c.is_on_cycle.ensures ∙ w.if-is_on_cycle.true)
          (λ x e. wish_known c.args.problem.now c.requires.marks.market s c.loop-person.person x l e))
      | else-is_on_cycle w ↦
          same_parts c.args.problem.now s c.args.given.now.items given c.if-is_on_cycle.given.items people
          c.if-is_on_cycle.next.people.items rooms c.if-is_on_cycle.next.rooms.items (c.loop-person.person + 1)
          (ap (λ v. v.items) w.given-is) (ap (λ v. v.people.items) w.next-is) (ap (λ v. v.rooms.items) w.next-is)
          (stepping_stays c.args.problem.now s c.args.given.now.items given people rooms c.loop-person.person
          c.loop-person.invariant (sym c.is_on_cycle.ensures ∙ w.if-is_on_cycle.false))
    ]

pub returns-clause-next : goal.returns-clause-next
returns-clause-next c =
    let at : c.loop-person.person ≡ c.args.problem.now.people =
    omega (arith, c.loop-person-test.false, c.loop-person.auto.person-end, c.people-person-end.ensures.count) in
    stepping_end c.args.problem.now (remains c.args.stage.now) c.args.given.now.items c.loop-person.given.items
    c.loop-person.next.people.items c.loop-person.next.rooms.items
    (subst (λ n. Stepping c.args.problem.now (remains c.args.stage.now) c.args.given.now.items c.loop-person.given.items
    c.loop-person.next.people.items c.loop-person.next.rooms.items n) at c.loop-person.invariant)
