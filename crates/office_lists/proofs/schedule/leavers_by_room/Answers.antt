use Rattle.std.proofs.Common.{◌≡◌, true, false, cond, take, Some, sym, ap, ◌∙◌}
use Rattle.std.specs.Option.{is_some}
use Rattle.std.specs.BTreeMap.{get_by}
use Rattle.room_types.specs.Texts.{text_cmp, text_eq}
use Rattle.std.proofs.lemmas.Map.Text.{btree_map_updates_str}
use Rattle.office_lists.specs.Waves.{leaver}
use Rattle.office_lists.proofs.move_days.Leavers.{without_old_room, known_old_room, new_old_room}
use Rattle.office_lists.proofs.schedule.leavers_by_room.Goals as goal
use Rattle.office_lists.proofs.schedule.leavers_by_room.Goals.{in-Some+then-not-contains_key+in_ok-insert}
use Rattle.office_lists.proofs.schedule.leavers_by_room.Goals.{in-Some+else-not-contains_key, in_default}

pub loop-i-preserved : goal.loop-i-preserved
loop-i-preserved c = λ room.
    let entries = c.args.entries.now in
    let i = c.loop-i.i in
    let entry = c.index-entries-i.result in
    let before = c.loop-i.invariant in
    elim c.match-entry.branch [
      | in-Some+then-not-contains_key+in_ok-insert w ↦
          let old = w.in-Some.room in
          let key : w.as_str-then-not-contains_key.result.now ≡ old = w.as_str-then-not-contains_key.ensures.text in
          let new : is_some (leaver (take i entries) old) ≡ false = ap is_some (sym (before old))
          ∙ ap (λ t. is_some (get_by (λ k. text_cmp t k.now) c.loop-i.by_room)) (sym w.as_str.ensures.text)
          ∙ sym w.contains_key.ensures ∙ w.if-not-contains_key.true in
          ap (λ m. get_by (λ k. text_cmp room k.now) m) w.by_room-is
          ∙ btree_map_updates_str w.as_str-then-not-contains_key.result.now c.loop-i.by_room w.insert.new.self
          (Some i) w.in_ok-insert.ensures.updates room
          ∙ (λ j. cond (text_eq (key j) room) (Some i) (before room j))
          ∙ sym (new_old_room entries i entry c.loop-i-test.true c.index-entries-i.is room old w.in-Some.is new)
      | in-Some+else-not-contains_key w ↦
          let old = w.in-Some.room in
          let known : is_some (leaver (take i entries) old) ≡ true = ap is_some (sym (before old))
          ∙ ap (λ t. is_some (get_by (λ k. text_cmp t k.now) c.loop-i.by_room)) (sym w.as_str.ensures.text)
          ∙ sym w.contains_key.ensures ∙ w.if-not-contains_key.false in
          ap (λ m. get_by (λ k. text_cmp room k.now) m) w.by_room-is ∙ before room
          ∙ sym (known_old_room entries i entry c.loop-i-test.true c.index-entries-i.is room old w.in-Some.is known)
      | in_default w ↦
          ap (λ m. get_by (λ k. text_cmp room k.now) m) w.by_room-is ∙ before room
          ∙ sym (without_old_room entries i entry c.loop-i-test.true c.index-entries-i.is room w.in_default.is)
    ]
