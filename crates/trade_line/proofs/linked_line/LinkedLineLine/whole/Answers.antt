use Rattle.std.proofs.Common.{◌≡◌, ◌+◌, ◌∷◌, ◌++◌, [], ap, ◌∙◌, sym, subst, zero-add, arith}
use Rattle.std.specs.List.{range_with_len}
use Rattle.trade_line.specs.Inner.Links.{IsLinkedRing}
use Rattle.trade_line.proofs.askers.Lines.{range_push}
use Rattle.trade_line.proofs.askers.Links.{people_are}
use Rattle.trade_line.proofs.askers.WholeRing.{whole_ring}
use Rattle.trade_line.proofs.linked_line.LinkedLineLine.whole.Goals as goal

pub loop-person-preserved : goal.loop-person-preserved
loop-person-preserved c =
    let n = c.loop-person.person in
    record {
      next = c.in_ok-push-2.ensures.items ∙ ap (λ z. z ++ (n + 1) ∷ []) c.loop-person.invariant.next
          ∙ sym (range_push 1 n ∙ ap (λ z. range_with_len 1 n ++ z ∷ []) (let e : 1 + n ≡ n + 1 = omega arith in e));
      previous = c.in_ok-push-3.ensures.items ∙ ap (λ z. z ++ n ∷ []) c.loop-person.invariant.previous
          ∙ ap (λ z. c.args.count ∷ z) (sym (range_push 0 n ∙ ap (λ z. range_with_len 0 n ++ z ∷ []) (zero-add n)));
      waits = c.loop-person.invariant.waits;
    }

pub invariant_of-result : goal.invariant_of-result
invariant_of-result c =
    let all : c.loop-person.person ≡ c.args.count =
    omega (arith, c.loop-person-test.false, c.loop-person.auto.person-end) in
    let ring =
    whole_ring c.args.count _ _ _ (c.in_ok-push-4.ensures.items ∙ ap (λ z. z ++ 0 ∷ []) c.loop-person.invariant.next
    ∙ ap (λ n. range_with_len 1 n ++ 0 ∷ []) all)
    (c.loop-person.invariant.previous ∙ ap (λ n. c.args.count ∷ range_with_len 0 n) all)
    c.loop-person.invariant.waits in
    subst (IsLinkedRing _ _ _) (sym (people_are _ _ _ _ ring)) ring

pub returns : goal.returns
returns c =
    let all : c.loop-person.person ≡ c.args.count =
    omega (arith, c.loop-person-test.false, c.loop-person.auto.person-end) in
    let ring =
    whole_ring c.args.count _ _ _ (c.in_ok-push-4.ensures.items ∙ ap (λ z. z ++ 0 ∷ []) c.loop-person.invariant.next
    ∙ ap (λ n. range_with_len 1 n ++ 0 ∷ []) all)
    (c.loop-person.invariant.previous ∙ ap (λ n. c.args.count ∷ range_with_len 0 n) all)
    c.loop-person.invariant.waits in
    people_are _ _ _ _ ring
