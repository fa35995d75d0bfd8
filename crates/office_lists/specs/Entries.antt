-- The kinds of imported lists, and the entry that a record of each kind makes.
use Rattle.std.specs.Prelude.{ℕ, Bool, true, ◌&&◌, is_none, is_some, eqb, List, [], ◌∷◌, codes, Option, Some, None, unwrap_or}
use Rattle.std.specs.List.{list_all, slice_split}
use Rattle.std.specs.Option.{option_map_or}
use Rattle.room_types.specs.Choices.{choices_fault}
use Rattle.room_types.specs.Grades.{grade_of}
use Rattle.room_types.specs.Grammars.{is_room_code, is_person_id, is_key, is_name}
use Rattle.room_types.specs.Texts.{Text}
use Rattle.room_types.specs.declared.rows.GradeRow.{GradeRow}
use Rattle.office_lists.specs.Records.{ListForm, field}
use Rattle.office_lists.specs.declared.entries.PersonEntry.{PersonEntry}
use Rattle.office_lists.specs.declared.entries.ChoicesEntry.{ChoicesEntry}

-- lists of rooms: each data record has a room code
abbrev pub room_list : ListForm Text
room_list = record { header = codes "room" ∷ []; grammars = is_room_code ∷ []; entry = field 0 }

-- the value of a field that may be empty: none if the field is empty, otherwise its text
abbrev pub text_or_none : Text → Option Text
text_or_none [] = None
text_or_none (byte ∷ rest) = Some (byte ∷ rest)

abbrev pub is_optional_room_code : Text → Bool
is_optional_room_code text = option_map_or is_room_code (text_or_none text) true

abbrev pub person_entry : List Text → PersonEntry
person_entry fields = record {
  person = field 0 fields;
  name = field 1 fields;
  key = field 2 fields;
  home = text_or_none (field 3 fields);
}

-- lists of people: each data record has a person's identifier, name, key and home; the home may be empty
abbrev pub people_list : ListForm PersonEntry
people_list = record {
  header = codes "person" ∷ codes "name" ∷ codes "key" ∷ codes "home" ∷ [];
  grammars = is_person_id ∷ is_name ∷ is_key ∷ is_optional_room_code ∷ [];
  entry = person_entry;
}

abbrev pub is_space : ℕ → Bool
is_space byte = eqb byte 32

-- splits a field at each space into room codes; an empty field has no codes
abbrev pub codes_in : Text → List Text
codes_in [] = []
codes_in (byte ∷ rest) = slice_split is_space (byte ∷ rest)

-- whether the field is a list of at most `choice_limit` room codes in which no code occurs twice
abbrev pub is_choices : Text → Bool
is_choices text = list_all is_room_code (codes_in text) && is_none (choices_fault (codes_in text))

abbrev pub choices_entry : List Text → ChoicesEntry
choices_entry fields = record { person = field 0 fields; choices = codes_in (field 1 fields) }

-- lists of choices: each data record has a person's identifier and preference list
abbrev pub choices_list : ListForm ChoicesEntry
choices_list = record {
  header = codes "person" ∷ codes "choices" ∷ [];
  grammars = is_person_id ∷ is_choices ∷ [];
  entry = choices_entry;
}

-- whether the text is a grade, which is one decimal digit
abbrev pub is_grade : Text → Bool
is_grade text = is_some (grade_of text)

-- the grade of a field, or 0 if the field is outside its grammar
abbrev pub grade_in : Text → ℕ
grade_in text = unwrap_or (grade_of text) 0

abbrev pub grade_entry : List Text → GradeRow
grade_entry fields = record { person = field 0 fields; grade = grade_in (field 1 fields) }

-- lists of grades: each data record has a person's identifier and grade
abbrev pub grades_list : ListForm GradeRow
grades_list = record {
  header = codes "person" ∷ codes "grade" ∷ [];
  grammars = is_person_id ∷ is_grade ∷ [];
  entry = grade_entry;
}
