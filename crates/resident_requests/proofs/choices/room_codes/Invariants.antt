use Rattle.std.proofs.Common.{◌≡◌, drop}
use Rattle.serde_json.specs.View.{items_view}
use Rattle.resident_requests.specs.Bodies.{codes_in}
use Rattle.resident_requests.proofs.json.CodeLists.{codes_before}
use Rattle.resident_requests.proofs.choices.room_codes.Given as goal

-- the codes so far, followed by those of the remaining items, are all codes
abbrev pub invariant-loop-item : goal.invariant-loop-item
invariant-loop-item l = codes_before l.codes.items (codes_in (items_view (drop l.item-index l.items))) ≡ codes_in
    (items_view l.items)
