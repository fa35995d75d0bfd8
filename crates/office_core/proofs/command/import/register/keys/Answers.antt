use Rattle.std.proofs.Common.{◌||◌, ◌∙◌, sym, ap, Some}
use Rattle.std.specs.Option.{is_some}
use Rattle.std.specs.FinMap as map
use Rattle.std.specs.FinMap.{get-empty}
use Rattle.std.specs.Map.Iter.{deref_pair}
use Rattle.std.proofs.lemmas.Map.Iter.{rest_more}
use Rattle.room_types.specs.Texts.{text_cmp}
use Rattle.office_state.specs.Office.{first_person, is_text}
use Rattle.office_core.proofs.imports.Indexed.{keys-put}
use Rattle.office_core.proofs.command.import.register.keys.Goals as goal

pub loop-person-init : goal.loop-person-init
loop-person-init c = record {
  can = tt;
  ends = tt;
  found = λ key.
      let all = first_person (λ p. is_text (Some p.key) key) in
      ap (λ m. map.contains_key m key || is_some (all c.into_iter-person-iterator.result))
      c.new-keys.ensures
      ∙ ap (λ o. is_some o || is_some (all c.into_iter-person-iterator.result))
      (get-empty text_cmp key)
      ∙ ap (λ es. is_some (all es))
      (c.into_iter-person-iterator.ensures.into_iter_gives ∙ c.iter-person-items.ensures.rest);
}

pub loop-person-preserved : goal.loop-person-preserved
loop-person-preserved c = record {
  can = tt;
  ends = tt;
  found = λ key.
      let all = first_person (λ p. is_text (Some p.key) key) in
      let left = all c.next.new.self in
      let m = c.loop-person.keys in
      ap (λ n. map.contains_key n key || is_some left) c.in_ok-insert.ensures.ok
      ∙ ap (λ k. map.contains_key (map.insert m k tt) key || is_some left) c.in_ok-copy.ensures
      ∙ keys-put m c.in-Some.person.now.key tt c.in-Some.field-0-0.now key left
      ∙ ap (λ es. map.contains_key m key || is_some (all es))
      (sym (rest_more deref_pair _ _ _
      (c.in-Some.field-0-0, c.in-Some.person) c.in-Some.is c.next.ensures.steps))
      ∙ c.loop-person.invariant.found key;
}
