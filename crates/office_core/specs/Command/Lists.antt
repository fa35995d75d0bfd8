-- The commands about people's lists (choices, withdrawals and departures of a round), and the blanking of an imported
-- list.
use Rattle.std.specs.FinMap as map
use Rattle.std.specs.List.{flat_map}
use Rattle.std.specs.Option.{is_some}
use Rattle.std.specs.Prelude.{List, [], codes, not, ℕ, ◌&&◌, ◌∷◌}
use Rattle.room_types.specs.Texts.{Text}
use Rattle.office_state.specs.Change.{with_bytes, with_choice_list}
use Rattle.office_state.specs.Office.Phases.{is_open}
use Rattle.office_state.specs.Office.{has_withdrawn, home_of, is_going, knows_person}
use Rattle.office_core.specs.Command.Rule.{CommandRule}
use Rattle.office_core.specs.Refusal.Checks.{room_checks}
use Rattle.office_core.specs.declared.refusal.Refusal.TheVariants.{BadPhase, Going, NoHome, UnknownLabel}
use Rattle.office_core.specs.declared.refusal.Refusal.TheVariants.{UnknownPerson, Withdrawn}
use Rattle.office_core.specs.declared.reply.Reply.TheVariants as reply

-- replaces a person's list of choices; an empty list is the same as none
abbrev pub set_choices : Text → List Text → CommandRule
set_choices person choices = record {
  checks = λ office.
      (not (is_open office.phase), BadPhase office.phase)
      ∷ (not (knows_person office person), UnknownPerson)
      ∷ (has_withdrawn office person, Withdrawn)
      ∷ (is_going office person, Going)
      ∷ flat_map (room_checks office) choices;
  next = λ office. record office { choices = with_choice_list office.choices person choices };
  reply = λ office. reply.Chosen choices;
}

-- takes a person out of the round; if the person has already withdrawn, the command changes nothing
abbrev pub withdraw : Text → CommandRule
withdraw person = record {
  checks = λ office.
      (not (is_open office.phase), BadPhase office.phase)
      ∷ (not (knows_person office person), UnknownPerson)
      ∷ (is_going office person, Going) ∷ [];
  next = λ office. record office { withdrawn = map.insert office.withdrawn person tt };
  reply = λ office. reply.Withdrawn;
}

-- Records that a person leaves the college after the round. The round trades their room as a vacant one. If this is
-- already recorded, the command changes nothing, and the office does not check that the person has a home.
abbrev pub going : Text → CommandRule
going person = record {
  checks = λ office.
      (not (is_open office.phase), BadPhase office.phase)
      ∷ (not (knows_person office person), UnknownPerson)
      ∷ (has_withdrawn office person, Withdrawn)
      ∷ (not (is_going office person) && not (is_some (home_of office person)), NoHome) ∷ [];
  next = λ office. record office { going = map.insert office.going person tt };
  reply = λ office. reply.Going;
}

-- the bytes of a list that has been blanked
abbrev pub blanked : List ℕ
blanked = codes "blanked"

-- overwrites the bytes of an imported list; its label stays in use, and its kind and its count stay
abbrev pub blank : Text → CommandRule
blank label = record {
  checks = λ office. (not (map.contains_key office.lists label), UnknownLabel) ∷ [];
  next = λ office. with_bytes office label blanked;
  reply = λ office. reply.Done;
}
