-- What the queries about one person return.
use Rattle.std.specs.Prelude.{Err, List, None, Ok, Option, Result, Some, if◌then◌else◌, not, ◌∷◌, ◌≤◌}
use Rattle.std.specs.List.{flat_map}
use Rattle.std.specs.FinMap as map
use Rattle.room_types.specs.Texts.{Text}
use Rattle.office_state.specs.Office.{choices_of, has_withdrawn, is_going, is_shown, knows_person, recorded_result}
use Rattle.office_state.specs.declared.office.Office.{Office}
use Rattle.office_state.specs.declared.office.person.Person.{Person}
use Rattle.office_state.specs.Office.Phases.{has_results}
use Rattle.office_state.specs.Round.{is_participant, round_rank}
use Rattle.office_core.specs.declared.refusal.Refusal.{Refusal}
use Rattle.office_core.specs.declared.refusal.Refusal.TheVariants.{BadPhase, NotInRound, UnknownPerson}
use Rattle.office_core.specs.declared.reply.Standing.{Standing}
use Rattle.office_core.specs.declared.reply.Reply.{Reply}
use Rattle.office_core.specs.Refusal.Checks.{Check, room_checks}
use Rattle.office_core.specs.declared.reply.Reply.TheVariants as reply

-- the person's result, or `None` if the person may not see it
abbrev pub shown_result : Office → Text → Option Text
shown_result office person = if is_shown office person then recorded_result office person else None

-- what the person sees
abbrev pub standing_of : Office → Text → Person → Standing
standing_of office person kept = record {
  person = person;
  name = kept.name;
  home = kept.home;
  round = office.number;
  phase = office.phase;
  choices = choices_of office person;
  withdrawn = has_withdrawn office person;
  going = is_going office person;
  shown = is_shown office person;
  result = shown_result office person;
}

-- the answer for the person with this identifier, or the refusal if the person is unknown
abbrev pub person_answer : Office → Text → Option Person → Result Reply Refusal
person_answer office person None = Err UnknownPerson
person_answer office person (Some kept) = Ok (reply.Me (standing_of office person kept))

-- the answer for the owner of a key, or the refusal if the key has no owner
abbrev pub owner_answer : Office → Option Text → Result Reply Refusal
owner_answer office None = Err UnknownPerson
owner_answer office (Some person) = person_answer office person (map.get office.people person)

-- the round has run, the person is known and takes part, and each room of the other list is known and not shut
abbrev pub what_if_checks : Office → Text → List Text → List Check
what_if_checks office person choices =
    (not (has_results office.phase), BadPhase office.phase)
    ∷ (not (knows_person office person), UnknownPerson)
    ∷ (not (is_participant office person), NotInRound)
    ∷ flat_map (room_checks office) choices

-- The person's recorded list does not rank the room of the reply `WouldGet` above the person's recorded result. Any
-- other reply meets this condition.
abbrev pub IsNoGain : Office → Text → Reply → Type 0
IsNoGain office person (reply.WouldGet room) =
    round_rank office person (recorded_result office person) ≤ round_rank office person room
IsNoGain office person _ = Unit {0}

-- the refusal, if any, or else the reply
abbrev pub result_unless : Option Refusal → Reply → Result Reply Refusal
result_unless None reply = Ok reply
result_unless (Some refusal) reply = Err refusal
