-- What participants get if one of them, or a group, hands in other lists.
use Rattle.std.specs.Prelude.{◌≡◌, ◌≤◌, Bool, true, false, List, Option, Some}
use Rattle.std.specs.FinMap as map
use Rattle.room_types.specs.Choices.{IsChoices}
use Rattle.room_types.specs.Texts.{Text, TextMap}
use Rattle.office_state.specs.Office.{choices_of}
use Rattle.office_state.specs.Round.{is_participant, result_by, result_of, round_rank}
use Rattle.office_state.specs.declared.office.Office.{Office}

-- the office with `lists` as its recorded preference lists
abbrev pub with_choices : Office → TextMap (List Text) → Office
with_choices office lists = record office { choices = lists }

-- the office in which `codes` is the recorded list of one person
abbrev pub with_choices_of : Office → Text → List Text → Office
with_choices_of office person codes =
    with_choices office (map.insert office.choices person codes)

-- each list has at most forty rooms, and no room twice
abbrev pub AreChoices : TextMap (List Text) → Type 0
AreChoices lists =
    (person : Text) (codes : List Text) → map.get lists person ≡ Some codes → IsChoices codes

-- no participant can gain by handing in another list: by their recorded list, they rank what `gets` gives them at
-- least as high as what the other list would get them
abbrev pub IsStrategyproofFor : Office → (Text → Option Text) → Type 0
IsStrategyproofFor office gets =
    (person : Text) (codes : List Text) → is_participant office person ≡ true → IsChoices codes
    → round_rank office person (gets person)
    ≤ round_rank office person (result_by office person codes)

-- each participant outside the group has the same list in `lists` as in the office
abbrev pub OthersKeepList : Office → (Text → Bool) → TextMap (List Text) → Type 0
OthersKeepList office group lists =
    (person : Text) → is_participant office person ≡ true → group person ≡ false
    → choices_of (with_choices office lists) person ≡ choices_of office person

-- nobody in the group loses: by their recorded list, each member ranks what they get with `lists` at least as high as
-- what `gets` gives them
abbrev pub NoneLosesBy :
    Office → (Text → Option Text) → (Text → Bool) → TextMap (List Text) → Type 0
NoneLosesBy office gets group lists =
    (person : Text) → is_participant office person ≡ true → group person ≡ true
    → round_rank office person (result_of (with_choices office lists) person)
    ≤ round_rank office person (gets person)

-- if a group of participants hands in other lists, all others keep theirs, and nobody in the group loses, then every
-- participant, in the group or not, gets what `gets` gives them
abbrev pub IsGroupStrategyproofFor : Office → (Text → Option Text) → Type 0
IsGroupStrategyproofFor office gets =
    (group : Text → Bool) (lists : TextMap (List Text)) → AreChoices lists
    → OthersKeepList office group lists → NoneLosesBy office gets group lists
    → (person : Text) → is_participant office person ≡ true
    → result_of (with_choices office lists) person ≡ gets person

-- if a participant hands in another list and still gets what `gets` gives them, then every other participant also
-- gets what `gets` gives them
abbrev pub IsNonbossyFor : Office → (Text → Option Text) → Type 0
IsNonbossyFor office gets =
    (person : Text) (codes : List Text) → is_participant office person ≡ true → IsChoices codes
    → result_by office person codes ≡ gets person
    → (other : Text) → is_participant office other ≡ true
    → result_of (with_choices_of office person codes) other ≡ gets other
