use Rattle.std.proofs.Common.{◌∙◌, sym, ap, rules, Some, cond}
use Rattle.std.specs.Option.{option_or}
use Rattle.std.specs.FinMap as map
use Rattle.std.specs.Map.Iter.{deref_pair}
use Rattle.std.proofs.lemmas.Map.Iter.{rest_more}
use Rattle.room_types.specs.Texts.{text_eq}
use Rattle.office_state.specs.Office.{first_person, lives_in, is_text}
use Rattle.office_state.proofs.offices.Tenants.{tenants-none, tenants-put}
use Rattle.office_state.proofs.office.Office.tenants.Goals as goal

pub loop-id-init : goal.loop-id-init
loop-id-init c = record {
  can = tt;
  ends = tt;
  found = λ room.
      ap (λ m. option_or (map.get m room)
      (first_person (lives_in room) c.into_iter-id-iterator.result)) c.new-tenants.ensures
      ∙ tenants-none room (first_person (lives_in room) c.into_iter-id-iterator.result)
      ∙ ap (λ es. first_person (lives_in room) es)
      (c.into_iter-id-iterator.ensures.into_iter_gives ∙ c.iter-id-items.ensures.rest);
  left = search rules;
}

pub loop-id-preserved-in_ok-insert : goal.loop-id-preserved-in_ok-insert
loop-id-preserved-in_ok-insert c = record {
  can = tt;
  ends = tt;
  found = λ room.
      let left = first_person (lives_in room) c.next.new.self in
      let m = c.loop-id.tenants in
      ap (λ n. option_or (map.get n room) left) c.in_ok-insert.ensures.ok
      ∙ ap (λ home. option_or (map.get (map.insert m home c.in_ok-copy-2.field-0) room) left)
      c.in_ok-copy.ensures
      ∙ tenants-put m c.in-Some-home.home c.in_ok-copy-2.field-0 room left
      (sym c.contains_key.ensures ∙ c.if-not-contains_key.true)
      ∙ ap (λ id. option_or (map.get m room)
      (cond (text_eq c.in-Some-home.home room) (Some id) left)) c.in_ok-copy-2.ensures
      ∙ ap (λ home. option_or (map.get m room)
      (cond (is_text home room) (Some c.in-Some.id.now) left)) (sym c.in-Some-home.is)
      ∙ ap (λ es. option_or (map.get m room) (first_person (lives_in room) es))
      (sym (rest_more deref_pair _ _ _
      (c.in-Some.id, c.in-Some.person) c.in-Some.is c.next.ensures.steps))
      ∙ c.loop-id.invariant.found room;
  left = search rules;
}
