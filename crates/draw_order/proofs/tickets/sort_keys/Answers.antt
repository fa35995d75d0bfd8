use Rattle.std.proofs.Common.{◌≡◌, map, ◌∙◌, rules}
use Rattle.std.proofs.lemmas.Iterator.{YieldsList-from_slice, YieldsList-from_map_by}
use Rattle.std.proofs.lemmas.Iterator.Consumers.{map_from_collect}
use Rattle.std.proofs.lemmas.List.{map-id}
use Rattle.std.proofs.lemmas.Result.{IfOk-at_ok}
use Rattle.draw_order.specs.Inner.SortKeys.{ticket_of}
use Rattle.draw_order.proofs.tickets.sort_keys.Goals as goal

pub returns : goal.returns
returns c =
    let shown : map ticket_of c.in_ok-sort_keys.sort_keys.items ≡ map (λ ticket. ticket) c.args.tickets.now =
    IfOk-at_ok _ c.in_ok-sort_keys.was
    (map_from_collect _ c.collect.ensures.ran
    (YieldsList-from_map_by _ ticket_of (λ ticket. ticket) (YieldsList-from_slice c.args.tickets.now cc)
    c.map.ensures.closure (λ x r q k. search rules))) in
    shown ∙ map-id c.args.tickets.now
