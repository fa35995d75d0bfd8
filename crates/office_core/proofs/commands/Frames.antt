-- What commands leave alone. Before the draw: words, results, moves, imported lists, and the round's number and phase.
-- A command that leads a round under way to its next phase: all but words and results.
use Rattle.std.proofs.Common.{◌≡◌, ℕ, false, refl, subst, sym}
use Rattle.room_types.specs.Texts.{TextMap}
use Rattle.room_types.specs.declared.phase.Phase.{Phase}
use Rattle.office_state.specs.Office.Invariants.{AreValidGrades, AreValidLeavers, AreValidLists, IsLawful}
use Rattle.office_state.specs.Office.Invariants.{AreValidResults, AreValidWords, IsValidRegister, IsValidRound}
use Rattle.office_state.specs.Office.Phases.{has_words, is_idle}
use Rattle.office_state.specs.declared.office.Assigned.{Assigned}
use Rattle.office_state.specs.declared.office.Office.{Office}
use Rattle.office_state.proofs.offices.Leavers.{leaver_phase}
use Rattle.office_state.proofs.round_phases.Over.{over-under_way}
use Rattle.office_state.proofs.round_phases.Untouched.{moves_stay, results_undrawn, undrawn, words_undrawn}

-- the office with the rooms, people, grades, lists, withdrawals and departing tenants of the other one
abbrev pub prepared_as : Office → Office → Office
prepared_as office other = record office {
  rooms = other.rooms;
  people = other.people;
  grades = other.grades;
  choices = other.choices;
  withdrawn = other.withdrawn;
  going = other.going;
}

-- the parts of `IsLawful` that a command before the draw may change
pub record IsPrepared (office : Office) : Type 0 where
  pub register : IsValidRegister office.rooms office.people
  pub lists : AreValidLists office.rooms office.people office.choices office.withdrawn
  pub round : IsValidRound office.number office.phase office.choices office.withdrawn
  pub grades : AreValidGrades office.people office.grades
  pub leavers : AreValidLeavers office.phase office.people office.withdrawn office.going

-- a command before the draw that changes only these tables preserves the other invariants
pub prepared-lawful : (old new : Office) → IsLawful old → has_words old.phase ≡ false
    → new ≡ prepared_as old new → IsPrepared (prepared_as old new) → IsLawful new
prepared-lawful old new l before rest parts =
    let u = undrawn old l before in
    let mixed : Office = prepared_as old new in
    subst IsLawful (sym rest) (record {
      register = parts.register;
      lists = parts.lists;
      round = parts.round;
      grades = parts.grades;
      leavers = parts.leavers;
      words = words_undrawn old.phase new.people new.withdrawn new.going old.words u.has_no_words u.no_words;
      results = results_undrawn mixed u.has_no_results u.no_results;
      moves = moves_stay old mixed refl (λ round over. over) l.moves;
      kept = l.kept;
    })

-- a round under way that goes on to another phase, with these words and results, keeps the other invariants
pub under_way-lawful : (office : Office) (phase : Phase) (words : TextMap ℕ) (results : TextMap Assigned)
    → IsLawful office → is_idle office.phase ≡ false → is_idle phase ≡ false
    → AreValidWords phase office.people office.withdrawn office.going words
    → AreValidResults (record office { phase = phase; words = words; results = results })
    → IsLawful (record office { phase = phase; words = words; results = results })
under_way-lawful office phase words results l busy still are_words are_results =
    let new : Office = record office { phase = phase; words = words; results = results } in
    record {
      register = l.register;
      lists = l.lists;
      round = record {
        few_rounds = l.round.few_rounds;
        numbered = λ _. l.round.numbered busy;
        idle_choices = λ idle. absurd (cc);
        idle_withdrawn = λ idle. absurd (cc);
      };
      grades = l.grades;
      leavers = leaver_phase office.phase office.people office.withdrawn office.going l.leavers phase still;
      words = are_words;
      results = are_results;
      moves = moves_stay office new refl (over-under_way office phase busy still) l.moves;
      kept = l.kept;
    }
