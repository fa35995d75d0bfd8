use Rattle.std.proofs.Common.{◌≡◌, ◌<◌, ◌≤◌, [], length, map, get_or, ◌∙◌, arith, refl}
use Rattle.std.proofs.lemmas.List.{length-map}
use Rattle.trade_line.proofs.markets.Drafts.{items_of, read_list}
use Rattle.trade_line.proofs.markets.Flat.{flat_next, flat_whole, flat_self, flat_lists_are}
use Rattle.trade_line.proofs.flat_lists.FlatLists.copied.Goals as goal

pub loop-list-preserved : goal.loop-list-preserved
loop-list-preserved c =
    let l : c.loop-list.list-index < length (map items_of c.args.lists.now) =
    omega (arith, c.loop-list-test.true, length-map c.args.lists.now items_of) in
    let next : get_or (map items_of c.args.lists.now) c.loop-list.list-index [] ≡ c.deref.result.now =
    read_list c.args.lists.now c.args.lists.now c.loop-list.list-index c.list-item.result c.deref.result.now refl
    c.loop-list-test.true c.list-item.is c.deref.ensures.value in
    flat_next _ _ (map items_of c.args.lists.now) c.loop-list.list-index c.deref.result.now _ _ c.len.result l next
    c.loop-list.invariant
    c.in_ok-extend_from_slice.ensures.items (c.len.ensures ∙ omega (arith, c.extend_from_slice.new.self.ok.0))
    c.in_ok-push-2.ensures.items

pub invariant_of-result : goal.invariant_of-result
invariant_of-result c =
    let all : length (map items_of c.args.lists.now) ≤ c.loop-list.list-index =
    omega (arith, c.loop-list-test.false, length-map c.args.lists.now items_of) in
    flat_self _ _ (map items_of c.args.lists.now)
    (flat_whole _ _ (map items_of c.args.lists.now) c.loop-list.list-index all c.loop-list.invariant)

pub returns : goal.returns
returns c =
    let all : length (map items_of c.args.lists.now) ≤ c.loop-list.list-index =
    omega (arith, c.loop-list-test.false, length-map c.args.lists.now items_of) in
    flat_lists_are _ _ (map items_of c.args.lists.now)
    (flat_whole _ _ (map items_of c.args.lists.now) c.loop-list.list-index all c.loop-list.invariant)
