-- The effect of each statement on the rows.
use Rattle.std.specs.Prelude.{ℕ, Bool, true, false, List, [], ◌∷◌, map, Option}
use Rattle.room_types.specs.Texts.{Text, text_eq}
use Rattle.room_types.specs.declared.moves.Move.{Move}
use Rattle.room_types.specs.declared.phase.Phase.{Phase}
use Rattle.sqlite_keyed.specs.Lists.{update_where, delete_where}
use Rattle.office_state.specs.declared.office.stored_import.StoredImport.{StoredImport}
use Rattle.office_state.specs.declared.office.person.Person.{Person}
use Rattle.office_schema.specs.rows.Tables.{Tables, own_version}
use Rattle.office_schema.specs.declared.rows.records.PersonRecord.{PersonRecord}
use Rattle.office_schema.specs.declared.rows.records.RoundRecord.{RoundRecord}

-- ---- rooms

unfoldable pub with_room : Text → Bool → Tables → Tables
with_room room shut tables = record tables { rooms = (room, shut) ∷ tables.rooms }

-- sets the room's `shut` flag, if the room is known
unfoldable pub with_shut : Text → Bool → Tables → Tables
with_shut room shut tables = record tables {
  rooms = update_where (λ r. text_eq r.0 room) (λ r. (r.0, shut)) tables.rooms;
}

-- ---- people

-- adds a person, who has not withdrawn
unfoldable pub with_person : Text → Person → Tables → Tables
with_person id person tables = record tables {
  people = record { id = id; person = person; withdrawn = false } ∷ tables.people;
}

unfoldable pub without_person : Text → Tables → Tables
without_person id tables =
    record tables { people = delete_where (λ r. text_eq r.id id) tables.people }

-- sets or clears the person's home, if the person is known
unfoldable pub with_home : Text → Option Text → Tables → Tables
with_home id home tables = record tables {
  people = update_where (λ r. text_eq r.id id)
      (λ r. record r { person = record r.person { home = home } }) tables.people;
}

-- replaces the person's name and key, if the person is known
unfoldable pub with_name_and_key : Text → Text → Text → Tables → Tables
with_name_and_key id name key tables = record tables {
  people = update_where (λ r. text_eq r.id id)
      (λ r. record r { person = record r.person { name = name; key = key } }) tables.people;
}

-- sets the person's `withdrawn` flag, if the person is known
unfoldable pub with_withdrawn : Text → Tables → Tables
with_withdrawn id tables = record tables {
  people = update_where (λ r. text_eq r.id id) (λ r. record r { withdrawn = true }) tables.people;
}

abbrev pub taking_part : PersonRecord → PersonRecord
taking_part r = record r { withdrawn = false }

-- clears everybody's `withdrawn` flag
unfoldable pub without_withdrawn : Tables → Tables
without_withdrawn tables = record tables { people = map taking_part tables.people }

-- ---- the round

unfoldable pub with_round : ℕ → Phase → Tables → Tables
with_round number phase tables = record tables {
  rounds = map (λ (r : RoundRecord). record r { number = number; phase = phase }) tables.rounds;
}

-- sets the version of the tables
unfoldable pub with_version : ℕ → Tables → Tables
with_version version tables = record tables {
  rounds = map (λ (r : RoundRecord). record r { version = version }) tables.rounds;
}

-- adds a row of the round, with the version that this program creates
unfoldable pub with_first_round : ℕ → Phase → Tables → Tables
with_first_round number phase tables =
    record tables {
      rounds = record { version = own_version; number = number; phase = phase } ∷ tables.rounds;
    }

-- ---- choices, words and results

unfoldable pub with_choice : Text → ℕ → Text → Tables → Tables
with_choice person place room tables = record tables {
  choices = record { person = person; place = place; room = room } ∷ tables.choices;
}

unfoldable pub without_choices_of : Text → Tables → Tables
without_choices_of person tables =
    record tables { choices = delete_where (λ r. text_eq r.person person) tables.choices }

unfoldable pub with_word : Text → ℕ → Tables → Tables
with_word person word tables = record tables { words = (person, word) ∷ tables.words }

unfoldable pub with_result : Text → Option Text → Tables → Tables
with_result person room tables =
    record tables { results = (person, record { room = room }) ∷ tables.results }

-- deletes all choices, words, results and leavers
unfoldable pub without_round_tables : Tables → Tables
without_round_tables tables = record tables { choices = []; words = []; results = []; going = [] }

-- ---- grades and leavers

unfoldable pub with_grade : Text → ℕ → Tables → Tables
with_grade person grade tables = record tables { grades = (person, grade) ∷ tables.grades }

unfoldable pub without_grade_of : Text → Tables → Tables
without_grade_of person tables =
    record tables { grades = delete_where (λ r. text_eq r.0 person) tables.grades }

unfoldable pub with_going : Text → Tables → Tables
with_going person tables = record tables { going = person ∷ tables.going }

-- ---- moves

unfoldable pub with_move : Move → Tables → Tables
with_move move tables = record tables { moves = move ∷ tables.moves }

-- ---- imported lists

unfoldable pub with_import : Text → StoredImport → Tables → Tables
with_import label kept tables = record tables { lists = (label, kept) ∷ tables.lists }

-- replaces the bytes of a list, if there is one with this label
unfoldable pub with_body : Text → List ℕ → Tables → Tables
with_body label bytes tables = record tables {
  lists = update_where (λ r. text_eq r.0 label) (λ r. (r.0, record r.1 { bytes = bytes }))
      tables.lists;
}
