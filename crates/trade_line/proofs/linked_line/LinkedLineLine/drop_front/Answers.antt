use Rattle.std.proofs.Common.{◌≡◌, length, sym, ap, ◌∙◌, subst, arith, false}
use Rattle.trade_line.specs.Line.{tail_of, is_empty}
use Rattle.trade_line.specs.Inner.Links.{IsLinkedRing, linked_people}
use Rattle.trade_line.proofs.askers.Links.{behind_known, cut_ring, people_are, front_there, front_before, front_out}
use Rattle.trade_line.proofs.linked_line.LinkedLineLine.drop_front.Goals as goal

pub index_mut-requires-2 : goal.index_mut-requires-2
index_mut-requires-2 c =
    let some : is_empty (linked_people c.self.inside.next.items c.self.inside.waits.items) ≡ false =
    ap is_empty c.self.view_is ∙ c.requires in
    let end : c.len-end.result ≡ length c.self.inside.waits.items =
    omega (arith, c.len-end.ensures, c.self.inside.waits.ok.0) in
    omega (
      arith,
      c.self.inside.previous.ok.0,
      behind_known _ _ _ _ c.self.invariant _ _
          (front_there _ _ _ _ c.self.invariant _ _ c.index-second.result.now some end c.index-first.ensures)
          c.index-second.ensures,
    )

pub index_mut-requires-3 : goal.index_mut-requires-3
index_mut-requires-3 c =
    let some : is_empty (linked_people c.self.inside.next.items c.self.inside.waits.items) ≡ false =
    ap is_empty c.self.view_is ∙ c.requires in
    let end : c.len-end.result ≡ length c.self.inside.waits.items =
    omega (arith, c.len-end.ensures, c.self.inside.waits.ok.0) in
    omega (
      arith,
      c.self.inside.waits.ok.0,
      c.self.invariant.known _
          (front_there _ _ _ _ c.self.invariant _ _ c.index-second.result.now some end c.index-first.ensures),
    )

pub invariant_of-self : goal.invariant_of-self
invariant_of-self c =
    let some : is_empty (linked_people c.self.inside.next.items c.self.inside.waits.items) ≡ false =
    ap is_empty c.self.view_is ∙ c.requires in
    let end : c.len-end.result ≡ length c.self.inside.waits.items =
    omega (arith, c.len-end.ensures, c.self.inside.waits.ok.0) in
    let ring =
    cut_ring _ _ _ _ c.self.invariant _ _ _
    (front_there _ _ _ _ c.self.invariant _ _ c.index-second.result.now some end c.index-first.ensures)
    (front_before _ _ _ _ c.self.invariant _ _ c.index-second.result.now some end c.index-first.ensures)
    c.index-second.ensures in
    subst (IsLinkedRing _ _ _) (sym (people_are _ _ _ _ ring)) ring

pub returns : goal.returns
returns c =
    let some : is_empty (linked_people c.self.inside.next.items c.self.inside.waits.items) ≡ false =
    ap is_empty c.self.view_is ∙ c.requires in
    let end : c.len-end.result ≡ length c.self.inside.waits.items =
    omega (arith, c.len-end.ensures, c.self.inside.waits.ok.0) in
    let ring =
    cut_ring _ _ _ _ c.self.invariant _ _ _
    (front_there _ _ _ _ c.self.invariant _ _ c.index-second.result.now some end c.index-first.ensures)
    (front_before _ _ _ _ c.self.invariant _ _ c.index-second.result.now some end c.index-first.ensures)
    c.index-second.ensures in
    people_are _ _ _ _ ring ∙ front_out _ _ _ _ c.self.invariant _ _ c.index-second.result.now some end
    c.index-first.ensures ∙ ap tail_of c.self.view_is
