use Rattle.std.proofs.Common.{◌≡◌, ℕ, Option, ◌++◌, [], ◌∷◌, map, take, sym, ◌∙◌, ap}
use Rattle.std.specs.Prelude.{option_and_then}
use Rattle.std.specs.BTreeMap.{get_by}
use Rattle.room_types.specs.Texts.{text_cmp}
use Rattle.std.proofs.lemmas.List.{map_more, take_all}
use Rattle.office_lists.specs.Waves.{Relocation, leaver}
use Rattle.office_lists.proofs.schedule.leavers.Goals as goal
use Rattle.office_lists.proofs.schedule.leavers.Goals.{in-Some, in-None}

pub loop-entry-preserved : goal.loop-entry-preserved
loop-entry-preserved c =
    let entries = c.args.entries.now in
    let leaver_of : Relocation → Option ℕ = λ entry. option_and_then (leaver entries) entry.2 in
    let entry = c.entry-item.result in
    let is : c.match-entry.leaver ≡ leaver_of entry =
    elim c.match-entry.branch [
      | in-Some w ↦
          w.leaver-is ∙ w.copied-leaver.ensures ∙ w.get.ensures.value
          ∙ ap (λ t. get_by (λ key. text_cmp t key.now) c.in_ok-by_room.by_room) w.as_str.ensures.text
          ∙ c.in_ok-by_room.ensures w.in-Some.room ∙ sym (ap (option_and_then (leaver entries)) w.in-Some.is)
      | in-None w ↦ w.leaver-is ∙ sym (ap (option_and_then (leaver entries)) w.in-None.is)
    ] in
    c.in_ok-push.ensures.items ∙ (λ j. c.loop-entry.invariant j ++ is j ∷ [])
    ∙ ap (λ e. map leaver_of (take c.loop-entry.entry-index entries) ++ leaver_of e ∷ []) c.entry-item.is
    ∙ sym (map_more leaver_of entries c.loop-entry.entry-index entry c.loop-entry-test.true)

pub returns : goal.returns
returns c = c.loop-entry.invariant ∙ ap (map (λ entry. option_and_then (leaver c.args.entries.now) entry.2))
    (take_all c.loop-entry.entry-index c.args.entries.now c.loop-entry-test.false)
