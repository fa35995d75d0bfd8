use Rattle.std.proofs.Common.{Some, sym, ◌∙◌, arith}
use Rattle.std.proofs.lemmas.Bool.Decides.{Decides-at}
use Rattle.std.proofs.lemmas.Result.{IfOk-weaker, on_err_weaker}
use Rattle.std.proofs.lemmas.Bool.{both_ways}
use Rattle.office_state.proofs.sound_offices.Differing.{differ-decides}
use Rattle.office_state.proofs.sound_offices.InvariantTests.{never, as_well, homes_open-decides, noted, on_err}
use Rattle.office_state.proofs.soundness.register.is_valid_register.Goals as goal

pub returns-then-not-are_homes_open-clause-lawful : goal.returns-then-not-are_homes_open-clause-lawful
returns-then-not-are_homes_open-clause-lawful c =
    let office = c.args.office.now in
    never (λ l. both_ways _ (sym c.are_homes_open.ensures ∙ c.if-not-are_homes_open.true)
    ((homes_open-decides office.rooms office.people).1 l.homes_open))

pub returns-then-not-branch-clause-lawful : goal.returns-then-not-branch-clause-lawful
returns-then-not-branch-clause-lawful c =
    never (λ l. both_ways _ (sym c.in_ok-have_distinct_keys.ensures.differ ∙ c.if-not-branch.true)
    ((differ-decides (λ p. Some p.key) c.args.office.now.people).1 l.keys))

pub returns-clause-lawful : goal.returns-clause-lawful
returns-clause-lawful c =
    let office = c.args.office.now in
    IfOk-weaker c.have_distinct_homes.result _ _ (λ b e.
    as_well b
    (λ homes. record {
      keys = (differ-decides (λ p. Some p.key) office.people).0 (sym c.in_ok-have_distinct_keys.ensures.differ
          ∙ c.if-not-branch.false);
      homes = homes;
      homes_open =
          (homes_open-decides office.rooms office.people).0
          (sym c.are_homes_open.ensures ∙ c.if-not-are_homes_open.false);
      few_rooms = omega (arith, c.len.ensures, c.if-len-gt-ROOM_LIMIT.false);
      few_people = omega (arith, c.len-2.ensures, c.if-len-gt-PEOPLE_LIMIT.false);
    })
    (λ l. l.homes)
    (Decides-at b _ e (differ-decides (λ p. p.home) office.people))) c.have_distinct_homes.ensures.differ

pub returns-in_err-have_distinct_keys-clause-memory : goal.returns-in_err-have_distinct_keys-clause-memory
returns-in_err-have_distinct_keys-clause-memory c =
    let office = c.args.office.now in
    on_err c.from_residual.result
    (noted office.rooms office.people
    (omega (arith, c.len.ensures, c.if-len-gt-ROOM_LIMIT.false))
    (omega (arith, c.len-2.ensures, c.if-len-gt-PEOPLE_LIMIT.false))
    (sym c.are_homes_open.ensures ∙ c.if-not-are_homes_open.false)
    c.in_err-have_distinct_keys.ensures.memory)

pub returns-clause-memory : goal.returns-clause-memory
returns-clause-memory c =
    let office = c.args.office.now in
    on_err_weaker c.have_distinct_homes.result
    (noted office.rooms office.people
    (omega (arith, c.len.ensures, c.if-len-gt-ROOM_LIMIT.false))
    (omega (arith, c.len-2.ensures, c.if-len-gt-PEOPLE_LIMIT.false))
    (sym c.are_homes_open.ensures ∙ c.if-not-are_homes_open.false))
    c.have_distinct_homes.ensures.memory
