use Rattle.std.proofs.Common.{◌≡◌, List, [], ◌∷◌, ◌++◌, map, rules, length, ap, ◌∙◌}
use Rattle.std.proofs.lemmas.List.{append_assoc}
use Rattle.room_types.specs.Ascending.{ascending}
use Rattle.office_lists.specs.MoveDay.{move_cmp}
use Rattle.office_state.specs.declared.change.Change.{Change}
use Rattle.office_state.specs.declared.change.Change.TheVariants.{AddMove}
use Rattle.office_core.specs.Command.Changes.{leaving, arriving, first_out}
use Rattle.office_core.specs.declared.reply.Reply.TheVariants.{Settled}
use Rattle.office_core.proofs.settlements.Recorded.{as_many_settled}
use Rattle.office_core.proofs.command.settle.settle.Goals as goal

-- the list of changes, from its parts in the order in which they are appended
collected : (left arrived recorded once twice leaves arrivals records : List Change) (clear last : Change)
    → left ≡ leaves → arrived ≡ left ++ arrivals → recorded ≡ arrived ++ records
    → once ≡ recorded ++ clear ∷ [] → twice ≡ once ++ last ∷ []
    → twice ≡ leaves ++ (arrivals ++ (records ++ clear ∷ last ∷ []))
collected left arrived recorded once twice leaves arrivals records clear last a b c d e =
    e ∙ ap (λ x. x ++ last ∷ []) (d ∙ ap (λ x. x ++ clear ∷ []) (c ∙ ap (λ x. x ++ records) (b
    ∙ ap (λ x. x ++ arrivals) a)))
    ∙ append_assoc ((leaves ++ arrivals) ++ records) (clear ∷ []) (last ∷ [])
    ∙ append_assoc (leaves ++ arrivals) records (clear ∷ last ∷ [])
    ∙ append_assoc leaves arrivals (records ++ clear ∷ last ∷ [])

pub returns : goal.returns
returns c =
    let moves = c.as_slice-moves.ensures.value ∙ c.in_ok-moves.ensures in
    let order = c.as_slice.ensures.value in
    record {
      accepted = search rules;
      replied = ap (λ count. Settled count) (ap length moves ∙ as_many_settled c.args.office.now);
      changed = collected c.push_first_out.new.changes.items c.push_arrivals.new.changes.items
          c.push_records.new.changes.items c.push.new.self.items c.push-2.new.self.items _ _ _ _ _
          (c.in_ok-push_first_out.ensures ∙ ap (λ x. x ++ map leaving (first_out c.as_slice-moves.result.now))
          c.new-changes.ensures.items
          ∙ ap (λ m. map leaving (first_out m)) moves)
          (c.in_ok-push_arrivals.ensures
          ∙ ap (λ rows. c.push_first_out.new.changes.items ++ map arriving (map (λ moved. moved.now) rows)) order
          ∙ ap (λ rows. c.push_first_out.new.changes.items ++ map arriving rows) c.in_ok-in_order.ensures.ordered
          ∙ ap (λ ms. c.push_first_out.new.changes.items ++ map arriving (ascending move_cmp ms)) moves)
          (c.in_ok-push_records.ensures
          ∙ ap (λ ms. c.push_arrivals.new.changes.items ++ map (λ move. AddMove move) ms) moves)
          c.in_ok-push.ensures.items c.in_ok-push-2.ensures.items;
    }
