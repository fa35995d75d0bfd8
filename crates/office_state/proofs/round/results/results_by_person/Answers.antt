use Rattle.std.proofs.Common.{ℕ, None, ap, ◌∙◌, slice_index_or}
use Rattle.std.specs.Option.{option_and_then}
use Rattle.std.specs.List.{slice_get}
use Rattle.std.specs.FinMap as map
use Rattle.std.specs.FinMap.{get-empty}
use Rattle.room_types.specs.Texts.{text_cmp}
use Rattle.office_state.specs.declared.office.Assigned.{Assigned}
use Rattle.office_state.proofs.round_problems.Names.{given-more}
use Rattle.office_state.proofs.round.results.results_by_person.Goals as goal

pub loop-number-init : goal.loop-number-init
loop-number-init c =
    λ name. ap (λ m. map.get m name) c.new-results.ensures ∙ get-empty text_cmp name

pub loop-number-preserved : goal.loop-number-preserved
loop-number-preserved c = λ name.
    let rooms = c.args.rooms.now in
    let gives : ℕ → Assigned =
    λ number. record {
      room = option_and_then (slice_get rooms)
          (slice_index_or c.args.outcome.now.rooms number None);
    } in
    ap (λ m. map.get m name) (c.in_ok-insert.ensures.ok
    ∙ ap (λ k. map.insert c.loop-number.results k (record { room = c.in_ok-room.room }))
    c.in_ok-copy.ensures)
    ∙ given-more gives c.loop-number.results c.args.people.now c.loop-number.number
    c.index-people-number.result (record { room = c.in_ok-room.room }) c.requires
    c.loop-number-test.true c.index-people-number.is
    (ap (λ o. record { room = o })
    (c.in_ok-room.ensures ∙ ap (option_and_then (slice_get rooms)) c.room_of.ensures))
    c.loop-number.invariant name
