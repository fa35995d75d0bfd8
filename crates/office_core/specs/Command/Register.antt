-- The commands that change the register: its rooms and its people, with their homes, grades, names and keys.
use Rattle.std.specs.FinMap as map
use Rattle.std.specs.Option.{is_some, option_map_or}
use Rattle.std.specs.Prelude.{Bool, List, None, Option, Some, [], false, nat_le, not, true, ℕ, ◌++◌, ◌∷◌}
use Rattle.room_types.specs.Texts.{Text, text_eq}
use Rattle.office_state.specs.Change.{with_grade, with_home, with_name_and_key, without_person}
use Rattle.office_state.specs.Office.Limits.{people_limit, room_limit}
use Rattle.office_state.specs.Office.Phases.{is_idle, is_preparing}
use Rattle.office_state.specs.Office.{home_of, is_shut, key_in_use, knows_person, knows_room, owner, tenant}
use Rattle.office_state.specs.declared.office.Office.{Office}
use Rattle.office_core.specs.Command.Rule.{CommandRule}
use Rattle.office_core.specs.Refusal.Checks.{Check, home_checks, home_checks_if_any, room_checks}
use Rattle.office_core.specs.declared.refusal.Refusal.TheVariants.{BadPhase, DuplicatePerson, DuplicateRoom, HasHome}
use Rattle.office_core.specs.declared.refusal.Refusal.TheVariants.{KeyInUse, LimitReached, NoHome, NotShut}
use Rattle.office_core.specs.declared.refusal.Refusal.TheVariants.{UnknownPerson, UnknownRoom}
use Rattle.office_core.specs.declared.reply.Reply.TheVariants as reply

-- adds a room that is not shut
abbrev pub add_room : Text → CommandRule
add_room room = record {
  checks = λ office.
      (not (is_preparing office.phase), BadPhase office.phase)
      ∷ (knows_room office room, DuplicateRoom)
      ∷ (nat_le room_limit (map.len office.rooms), LimitReached) ∷ [];
  next = λ office. record office { rooms = map.insert office.rooms room false };
  reply = λ office. reply.Done;
}

-- adds a person, perhaps with a home
abbrev pub add_person : Text → Text → Text → Option Text → CommandRule
add_person person name key home = record {
  checks = λ office.
      (not (is_preparing office.phase), BadPhase office.phase)
      ∷ (knows_person office person, DuplicatePerson)
      ∷ (key_in_use office key, KeyInUse)
      ∷ (home_checks_if_any office home
      ++ (nat_le people_limit (map.len office.people), LimitReached) ∷ []);
  next = λ office. record office {
    people = map.insert office.people person (record { name = name; key = key; home = home });
  };
  reply = λ office. reply.Done;
}

-- gives a home to somebody who has none
abbrev pub set_home : Text → Text → CommandRule
set_home person room = record {
  checks = λ office.
      (not (is_idle office.phase), BadPhase office.phase)
      ∷ (not (knows_person office person), UnknownPerson)
      ∷ (is_some (home_of office person), HasHome)
      ∷ home_checks office room;
  next = λ office. with_home office person (Some room);
  reply = λ office. reply.Done;
}

-- ends a tenancy: a person gives up the home
abbrev pub leave : Text → CommandRule
leave person = record {
  checks = λ office.
      (not (is_idle office.phase), BadPhase office.phase)
      ∷ (not (knows_person office person), UnknownPerson)
      ∷ (not (is_some (home_of office person)), NoHome) ∷ [];
  next = λ office. with_home office person None;
  reply = λ office. reply.Done;
}

-- removes a person who has no home; this also removes the person's grade, and the recorded moves remain
abbrev pub remove : Text → CommandRule
remove person = record {
  checks = λ office.
      (not (is_idle office.phase), BadPhase office.phase)
      ∷ (not (knows_person office person), UnknownPerson)
      ∷ (is_some (home_of office person), HasHome) ∷ [];
  next = λ office. without_person office person;
  reply = λ office. reply.Done;
}

-- the office after the tenant, if there is one, gives up the home
abbrev pub without_tenant : Office → Option Text → Office
without_tenant office None = office
without_tenant office (Some person) = with_home office person None

-- takes a room out of use and ends its tenancy
abbrev pub shut : Text → CommandRule
shut room = record {
  checks = λ office.
      (not (is_preparing office.phase), BadPhase office.phase)
      ∷ room_checks office room;
  next = λ office. record (without_tenant office (tenant office room))
      { rooms = map.insert office.rooms room true };
  reply = λ office. reply.Shut (tenant office room);
}

-- brings a shut room back into use, without a tenant
abbrev pub reopen : Text → CommandRule
reopen room = record {
  checks = λ office.
      (not (is_preparing office.phase), BadPhase office.phase)
      ∷ (not (knows_room office room), UnknownRoom room)
      ∷ (not (is_shut office room), NotShut) ∷ [];
  next = λ office. record office { rooms = map.insert office.rooms room false };
  reply = λ office. reply.Done;
}

-- the checks of a grade, whichever it is
abbrev pub grade_checks : Office → Text → List Check
grade_checks office person =
    (not (is_preparing office.phase), BadPhase office.phase)
    ∷ (not (knows_person office person), UnknownPerson) ∷ []

-- gives a person a grade; grade 0 is the same as none
abbrev pub set_grade : Text → ℕ → CommandRule
set_grade person grade = record {
  checks = λ office. grade_checks office person;
  next = λ office. record office { grades = with_grade office.grades person grade };
  reply = λ office. reply.Done;
}

-- replaces a person's name alone
abbrev pub set_name : Text → Text → CommandRule
set_name person name = record {
  checks = λ office. (not (knows_person office person), UnknownPerson) ∷ [];
  next = λ office. elim (map.get office.people person) [
    | None ↦ office
    | Some kept ↦ with_name_and_key office person name kept.key
  ];
  reply = λ office. reply.Done;
}

-- whether somebody else has this key; in a lawful office no two people have the same key
abbrev pub is_of_another : Office → Text → Text → Bool
is_of_another office person key =
    option_map_or (λ other. not (text_eq other person)) (owner office key) false

-- replaces a person's key alone
abbrev pub set_key : Text → Text → CommandRule
set_key person key = record {
  checks = λ office.
      (not (knows_person office person), UnknownPerson)
      ∷ (is_of_another office person key, KeyInUse) ∷ [];
  next = λ office. elim (map.get office.people person) [
    | None ↦ office
    | Some kept ↦ with_name_and_key office person kept.name key
  ];
  reply = λ office. reply.Done;
}
