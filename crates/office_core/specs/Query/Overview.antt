-- What the queries about the whole office return, as rows.
use Rattle.std.specs.Prelude.{Bool, List, Option, if◌then◌else◌, map, ℕ}
use Rattle.std.specs.Option.{is_some}
use Rattle.std.specs.FinMap as maps
use Rattle.room_types.specs.Texts.{Text}
use Rattle.room_types.specs.declared.rows.State.{State}
use Rattle.room_types.specs.declared.rows.State.TheVariants.{Free, Occupied, Shut}
use Rattle.room_types.specs.declared.rows.RoomRow.{RoomRow}
use Rattle.room_types.specs.declared.rows.PersonRow.{PersonRow}
use Rattle.room_types.specs.declared.rows.ResultRow.{ResultRow}
use Rattle.room_types.specs.declared.moves.Move.{Move}
use Rattle.office_state.specs.Office.{recorded_grade, tenant}
use Rattle.office_state.specs.declared.office.Office.{Office}
use Rattle.office_state.specs.declared.office.person.Person.{Person}
use Rattle.office_state.specs.Round.{round_people, word_of}
use Rattle.office_state.specs.declared.office.Assigned.{Assigned}
use Rattle.office_state.specs.Office.Moves.{moves_of}
use Rattle.office_state.specs.declared.office.moves.Moved.{Moved}
use Rattle.office_core.specs.declared.reply.OrderRow.{OrderRow}

-- the state of a room with this tenant, or without one
abbrev pub state_of : Bool → Option Text → State
state_of shut tenant = if shut then Shut else (if is_some tenant then Occupied else Free)

-- a room, with its state and its tenant
abbrev pub room_row : Office → Text × Bool → RoomRow
room_row office entry =
    record {
      room = entry.0;
      state = state_of entry.1 (tenant office entry.0);
      tenant = tenant office entry.0;
    }

-- the rooms by code
abbrev pub room_rows : Office → List RoomRow
room_rows office = map (room_row office) (maps.entries office.rooms)

-- a person, with the name and the home
abbrev pub person_row : Text × Person → PersonRow
person_row entry = record { person = entry.0; name = entry.1.name; home = entry.1.home }

-- the people by identifier
abbrev pub person_rows : Office → List PersonRow
person_rows office = map person_row (maps.entries office.people)

-- a participant, with the lottery number and the grade
abbrev pub order_row : Office → Text → OrderRow
order_row office person = record {
  word = word_of office person;
  person = person;
  grade = recorded_grade office person;
}

-- the participants in the drawn order
abbrev pub order_rows : Office → List OrderRow
order_rows office = map (order_row office) (round_people office)

-- a participant, with the result
abbrev pub result_row : Text × Assigned → ResultRow
result_row entry = record { person = entry.0; room = entry.1.room }

-- the results of the participants, by identifier
abbrev pub result_rows : Office → List ResultRow
result_rows office = map result_row (maps.entries office.results)

-- a move of this round
abbrev pub move_row : ℕ → Text × Moved → Move
move_row round entry =
    record {
      round = round;
      person = entry.0;
      from = entry.1.from;
      to = entry.1.to;
      wave = entry.1.wave;
    }

-- the moves of a round, by identifier; a cancelled round has none
abbrev pub move_rows : Office → ℕ → List Move
move_rows office round = map (move_row round) (maps.entries (moves_of office.moves round))
