use Rattle.std.proofs.Common.{◌≡◌, ◌∷◌, length, sym, ap, ◌∙◌, subst, arith, true}
use Rattle.trade_line.specs.Member.{among}
use Rattle.trade_line.specs.Line.{without}
use Rattle.trade_line.specs.Inner.Links.{IsLinkedRing, linked_people}
use Rattle.trade_line.proofs.askers.Links.{before_known, behind_known, first_known, front_ring, people_are}
use Rattle.trade_line.proofs.linked_line.LinkedLineLine.bring_to_front.Goals as goal

pub index_mut-requires : goal.index_mut-requires
index_mut-requires c =
    let here : among (linked_people c.self.inside.next.items c.self.inside.waits.items) c.args.person ≡ true =
    subst (λ z. among z c.args.person ≡ true) (sym c.self.view_is) c.requires in
    omega (
      arith,
      c.self.inside.next.ok.0,
      before_known _ _ _ _ c.self.invariant c.args.person _ here
          c.index-before.ensures,
    )

pub index_mut-requires-2 : goal.index_mut-requires-2
index_mut-requires-2 c =
    let here : among (linked_people c.self.inside.next.items c.self.inside.waits.items) c.args.person ≡ true =
    subst (λ z. among z c.args.person ≡ true) (sym c.self.view_is) c.requires in
    omega (
      arith,
      c.self.inside.previous.ok.0,
      behind_known _ _ _ _ c.self.invariant c.args.person _ here
          c.index-behind.ensures,
    )

pub index_mut-requires-4 : goal.index_mut-requires-4
index_mut-requires-4 c =
    let here : among (linked_people c.self.inside.next.items c.self.inside.waits.items) c.args.person ≡ true =
    subst (λ z. among z c.args.person ≡ true) (sym c.self.view_is) c.requires in
    let end : c.len-end.result ≡ length c.self.inside.waits.items =
    omega (arith, c.len-end.ensures, c.self.inside.waits.ok.0) in
    omega (
      arith,
      c.self.inside.previous.ok.0,
      first_known _ _ _ _ c.self.invariant c.args.person _ _ _ _ here
          c.index-before.ensures c.index-behind.ensures end c.index-first.ensures,
    )

pub invariant_of-self : goal.invariant_of-self
invariant_of-self c =
    let here : among (linked_people c.self.inside.next.items c.self.inside.waits.items) c.args.person ≡ true =
    subst (λ z. among z c.args.person ≡ true) (sym c.self.view_is) c.requires in
    let end : c.len-end.result ≡ length c.self.inside.waits.items =
    omega (arith, c.len-end.ensures, c.self.inside.waits.ok.0) in
    let ring =
    front_ring _ _ _ _ c.self.invariant c.args.person _ _ _ _ here c.index-before.ensures c.index-behind.ensures end
    c.index-first.ensures in
    subst (IsLinkedRing _ _ _) (sym (people_are _ _ _ _ ring)) ring

pub returns : goal.returns
returns c =
    let here : among (linked_people c.self.inside.next.items c.self.inside.waits.items) c.args.person ≡ true =
    subst (λ z. among z c.args.person ≡ true) (sym c.self.view_is) c.requires in
    let end : c.len-end.result ≡ length c.self.inside.waits.items =
    omega (arith, c.len-end.ensures, c.self.inside.waits.ok.0) in
    people_are _ _ _ _
    (front_ring _ _ _ _ c.self.invariant c.args.person _ _ _ _ here c.index-before.ensures c.index-behind.ensures
    end c.index-first.ensures)
    ∙ ap (λ z. c.args.person ∷ without c.args.person z) c.self.view_is
