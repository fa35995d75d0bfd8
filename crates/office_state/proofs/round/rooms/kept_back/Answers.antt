use Rattle.std.proofs.Common.{◌&&◌, ◌||◌, List, sym, ap, ◌∙◌}
use Rattle.std.specs.List.{list_any}
use Rattle.std.specs.Map.Iter.{deref_pair}
use Rattle.std.specs.Option.{is_some}
use Rattle.std.specs.FinMap as map
use Rattle.std.specs.FinMap.{get-empty}
use Rattle.std.proofs.lemmas.Map.Iter.{rest_more}
use Rattle.room_types.specs.Texts.{text_cmp}
use Rattle.office_state.specs.Office.{has_withdrawn, lives_in, is_text}
use Rattle.office_state.proofs.round_problems.Names.{kept_back-more}
use Rattle.office_state.proofs.round.rooms.kept_back.Goals as goal

pub loop-id-init : goal.loop-id-init
loop-id-init c = record {
  can = tt;
  ends = tt;
  found = λ room.
      let left = λ (es : List _). list_any
      (λ e. has_withdrawn c.args.office.now e.0 && lives_in room e.1) es in
      ap (λ m. map.contains_key m room || left c.into_iter-id-iterator.result) c.new-homes.ensures
      ∙ ap (λ o. is_some o || left c.into_iter-id-iterator.result) (get-empty text_cmp room)
      ∙ ap left (c.into_iter-id-iterator.ensures.into_iter_gives ∙ c.iter-id-items.ensures.rest);
}

pub loop-id-preserved-in_ok-insert : goal.loop-id-preserved-in_ok-insert
loop-id-preserved-in_ok-insert c = record {
  can = tt;
  ends = tt;
  found = λ room.
      let left = list_any (λ e. has_withdrawn c.args.office.now e.0 && lives_in room e.1)
      c.next.new.self in
      let m = c.loop-id.homes in
      ap (λ n. map.contains_key n room || left)
      (c.in_ok-insert.ensures.ok ∙ ap (λ home. map.insert m home tt) c.in_ok-copy.ensures)
      ∙ kept_back-more m c.in-Some-home.home room left
      ∙ ap (λ home. map.contains_key m room || (is_text home room || left)) (sym c.in-Some-home.is)
      ∙ ap (λ b. map.contains_key m room || ((b && is_text c.in-Some.person.now.home room) || left))
      (sym (sym c.contains_key.ensures ∙ c.if-contains_key.true))
      ∙ ap (λ es. map.contains_key m room
      || list_any (λ e. has_withdrawn c.args.office.now e.0 && lives_in room e.1) es)
      (sym (rest_more deref_pair _ _ _
      (c.in-Some.id, c.in-Some.person) c.in-Some.is c.next.ensures.steps))
      ∙ c.loop-id.invariant.found room;
}
