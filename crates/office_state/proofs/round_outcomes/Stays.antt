-- The round's results do not depend on the phase and on the recorded results.
use Rattle.std.proofs.Common.{◌≡◌, refl}
use Rattle.room_types.specs.Texts.{TextMap}
use Rattle.room_types.specs.declared.phase.Phase.{Phase}
use Rattle.office_state.specs.Round.{round_results}
use Rattle.office_state.specs.declared.office.Assigned.{Assigned}
use Rattle.office_state.specs.declared.office.Office.{Office}
use Rattle.office_state.proofs.round_outcomes.Entries.{same_entries_same_round}

pub round_results-along : (office : Office) (results : TextMap Assigned) (phase : Phase)
    → round_results (record office { results = results; phase = phase }) ≡ round_results office
round_results-along office results phase =
    (same_entries_same_round (record office { results = results; phase = phase }) office
    (record {
      rooms = refl;
      homes = λ person. refl;
      choices = refl;
      withdrawn = refl;
      words = refl;
      grades = refl;
      going = refl;
    })).results
