use Rattle.std.proofs.Common.{◌≤◌, refl, subst, sym}
use Rattle.std.proofs.lemmas.Bool.{not-false}
use Rattle.office_state.specs.Round.{round_rank}
use Rattle.office_state.proofs.round_outcomes.WellTraded.{recorded}
use Rattle.office_core.specs.Query.Personal.{what_if_checks}
use Rattle.office_core.proofs.refusals.Checks.{none_applies}
use Rattle.std.proofs.lemmas.Result.{err_from_is_err_and}
use Rattle.office_state.specs.Round.{result_by}
use Rattle.office_core.specs.declared.reply.Reply.TheVariants as reply
use Rattle.office_core.proofs.refusals.WithoutRecord.{IsAnswered-refused, room_checks-name_no_record}
use Rattle.office_core.proofs.query.personal.what_if.Goals as goal

pub returns-clause-no_gain : goal.returns-clause-no_gain
returns-clause-no_gain c =
    let office = c.args.office.now in
    let person = c.args.person.now in
    let (has_run, (_, (takes_part, _))) =
    none_applies (what_if_checks office person c.args.choices.now) c.in_ok-may_ask.ensures in
    subst (λ room. round_rank office person room ≤ round_rank office person c.in_ok-room.room)
    (sym (recorded office c.requires (not-false _ has_run) person (not-false _ takes_part)))
    c.in_ok-room.ensures.no_gain

pub returns-in_err-may_ask-clause-returned : goal.returns-in_err-may_ask-clause-returned
returns-in_err-may_ask-clause-returned c =
    let office = c.args.office.now in
    let person = c.args.person.now in
    let choices = c.args.choices.now in
    let p = err_from_is_err_and c.from_residual.result c.from_residual.ensures.1 in
    rw (p.1, p.2) (IsAnswered-refused (what_if_checks office person choices)
    (reply.WouldGet (result_by office person choices)) c.in_err-may_ask.field-0.0
    (refl, (refl, (refl, room_checks-name_no_record office choices))) c.in_err-may_ask.ensures)
