use Rattle.std.proofs.Common.{◌≡◌, ◌<◌, ◌≤◌, [], length, get_or, set, sym, ap, ◌∙◌, subst, arith, get_or-set_same}
use Rattle.std.proofs.Common.{get_or-set_other, length-set}
use Rattle.trade_line.proofs.markets.Flat.{flat_next, flat_whole, flat_self, flat_lists_are}
use Rattle.trade_line.proofs.flat_lists.FlatLists.with_list.Goals as goal
use Rattle.trade_line.proofs.flat_lists.FlatLists.with_list.Goals.{then-other-person, else-other-person}

pub loop-other-preserved : goal.loop-other-preserved
loop-other-preserved c =
    let below : c.loop-other.other < length c.args.self.now =
    omega (arith, c.loop-other-test.true, c.len-other-end.ensures) in
    let l : c.loop-other.other < length (set c.args.self.now c.args.person c.args.list.now) =
    omega (arith, length-set c.args.self.now c.args.person c.args.list.now) in
    let next : get_or (set c.args.self.now c.args.person c.args.list.now) c.loop-other.other
    [] ≡ c.if-other-person.next.now = elim c.if-other-person.branch [
      | then-other-person w ↦
          subst (λ z. get_or (set c.args.self.now z c.args.list.now) c.loop-other.other [] ≡ c.args.list.now)
          w.if-other-person.true (get_or-set_same c.args.self.now c.loop-other.other c.args.list.now [] below)
          ∙ ap (λ z. z.now) (sym w.next-is)
      | else-other-person w ↦
          get_or-set_other c.args.self.now c.args.person c.loop-other.other c.args.list.now [] w.if-other-person.false
          ∙ sym w.list-next.ensures ∙ ap (λ z. z.now) (sym w.next-is)
    ] in
    flat_next _ _ (set c.args.self.now c.args.person c.args.list.now) c.loop-other.other c.if-other-person.next.now _ _
    c.len-in-loop-other.result l next c.loop-other.invariant
    c.in_ok-extend_from_slice.ensures.items
    (c.len-in-loop-other.ensures ∙ omega (arith, c.extend_from_slice.new.self.ok.0)) c.in_ok-push-2.ensures.items

pub invariant_of-result : goal.invariant_of-result
invariant_of-result c =
    let lists = set c.args.self.now c.args.person c.args.list.now in
    let all : length (set c.args.self.now c.args.person c.args.list.now) ≤ c.loop-other.other =
    omega (
      arith,
      c.loop-other-test.false,
      c.len-other-end.ensures,
      length-set c.args.self.now c.args.person
          c.args.list.now,
    ) in
    flat_self _ _ lists (flat_whole _ _ lists c.loop-other.other all c.loop-other.invariant)

pub returns : goal.returns
returns c =
    let lists = set c.args.self.now c.args.person c.args.list.now in
    let all : length (set c.args.self.now c.args.person c.args.list.now) ≤ c.loop-other.other =
    omega (
      arith,
      c.loop-other-test.false,
      c.len-other-end.ensures,
      length-set c.args.self.now c.args.person
          c.args.list.now,
    ) in
    flat_lists_are _ _ lists (flat_whole _ _ lists c.loop-other.other all c.loop-other.invariant)
