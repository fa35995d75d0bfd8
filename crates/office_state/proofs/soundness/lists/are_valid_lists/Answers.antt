use Rattle.std.proofs.Common.{sym, ◌∙◌}
use Rattle.std.proofs.lemmas.Bool.Decides.{Decides-at}
use Rattle.std.proofs.lemmas.Bool.{both_ways}
use Rattle.office_state.proofs.sound_offices.InvariantTests.{never, as_well, keys_known-decides, lists-decides}
use Rattle.office_state.proofs.soundness.lists.are_valid_lists.Goals as goal

pub returns-then-not-are_choosers_known : goal.returns-then-not-are_choosers_known
returns-then-not-are_choosers_known c =
    let office = c.args.office.now in
    never (λ l. both_ways _ (sym c.are_choosers_known.ensures ∙ c.if-not-are_choosers_known.true)
    ((keys_known-decides office.choices office.people).1 l.choosers))

pub returns-then-not-are_lists_recorded : goal.returns-then-not-are_lists_recorded
returns-then-not-are_lists_recorded c =
    let office = c.args.office.now in
    never (λ l. both_ways _ (sym c.are_lists_recorded.ensures ∙ c.if-not-are_lists_recorded.true)
    ((lists-decides office.rooms office.choices).1
    (record { listed = l.listed; none_empty = l.none_empty; chosen = l.chosen })))

pub returns : goal.returns
returns c =
    let office = c.args.office.now in
    let kept =
    (lists-decides office.rooms office.choices).0
    (sym c.are_lists_recorded.ensures ∙ c.if-not-are_lists_recorded.false) in
    as_well _
    (λ known. record {
      choosers =
          (keys_known-decides office.choices office.people).0 (sym c.are_choosers_known.ensures
          ∙ c.if-not-are_choosers_known.false);
      listed = kept.listed;
      none_empty = kept.none_empty;
      chosen = kept.chosen;
      withdrawers = known;
    })
    (λ l. l.withdrawers)
    (Decides-at _ _ c.are_withdrawers_known.ensures (keys_known-decides office.withdrawn office.people))
