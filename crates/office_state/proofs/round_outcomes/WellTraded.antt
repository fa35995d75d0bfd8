-- What top trading cycles give in a lawful office is well traded, and so are the recorded results.
use Rattle.std.proofs.Common.{◌≡◌, ◌≤◌, true, Option, sym, subst, ◌∙◌}
use Rattle.room_types.specs.Texts.{Text}
use Rattle.office_state.specs.Office.Invariants.{IsLawful}
use Rattle.office_state.specs.Office.{home_of, recorded_result}
use Rattle.office_state.specs.Office.Phases.{has_results}
use Rattle.office_state.specs.Round.{is_participant, result_of, round_rank}
use Rattle.office_state.specs.Round.Laws.{IsWellTraded}
use Rattle.office_state.specs.declared.office.Office.{Office}
use Rattle.office_state.proofs.round_outcomes.Apart.{no_better_trade}
use Rattle.office_state.proofs.round_problems.Problem.{lawful-IsMarket}
use Rattle.office_state.proofs.round_problems.Rooms.{given_numbered, given_once}
use Rattle.office_state.proofs.moving_people.Settled.{recorded_is}
use Rattle.office_state.proofs.round_outcomes.Ranks.{outcome_is_rational, outcome_is_efficient}

pub outcome_is_well_traded : (office : Office) → IsLawful office → IsWellTraded office (result_of office)
outcome_is_well_traded office l = record {
  assignment = record {
    known = λ p room part e. given_numbered office (lawful-IsMarket office l) p room part e;
    differ = λ p q room part_p part_q ep eq. given_once office
        (lawful-IsMarket office l) p q room part_p part_q ep eq;
  };
  rational = outcome_is_rational office (lawful-IsMarket office l);
  efficient = outcome_is_efficient office (lawful-IsMarket office l);
  apart = no_better_trade office l.register (lawful-IsMarket office l);
}

-- so is everything that gives each participant the same
traded_too : (office : Office) (f g : Text → Option Text) → IsWellTraded office f
    → ((p : Text) → is_participant office p ≡ true → g p ≡ f p) → IsWellTraded office g
traded_too office f g w same = record {
  assignment = record {
    known = λ p room part e. w.assignment.known p room part (sym (same p part) ∙ e);
    differ = λ p q room part_p part_q ep eq. w.assignment.differ p q room part_p part_q
        (sym (same p part_p) ∙ ep) (sym (same q part_q) ∙ eq);
  };
  rational = λ p part. subst (λ room. round_rank office p room ≤ round_rank office p
      (home_of office p)) (sym (same p part)) (w.rational p part);
  efficient = λ gives assigned better p part.
      w.efficient gives assigned (λ q takes. subst
      (λ room. round_rank office q (gives q) ≤ round_rank office q room) (same q takes)
      (better q takes)) p part
      ∙ sym (same p part);
  apart = λ group gives trade better p h.
      w.apart group gives trade (λ q hq. subst
      (λ room. round_rank office q (gives q) ≤ round_rank office q room)
      (same q (trade.participants q hq)) (better q hq)) p h
      ∙ sym (same p (trade.participants p h));
}

pub recorded : (office : Office) → IsLawful office → has_results office.phase ≡ true → (p : Text)
    → is_participant office p ≡ true → recorded_result office p ≡ result_of office p
recorded office l there p part =
    recorded_is office l.register (lawful-IsMarket office l) (l.results.given there) p part

pub recorded_traded : (office : Office) → IsLawful office → has_results office.phase ≡ true
    → IsWellTraded office (recorded_result office)
recorded_traded office l there =
    traded_too office (result_of office) (recorded_result office) (outcome_is_well_traded office l)
    (recorded office l there)
