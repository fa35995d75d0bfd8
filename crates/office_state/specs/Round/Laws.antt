-- Properties of the round's problem and of its results.
use Rattle.std.specs.Prelude.{◌≡◌, ◌≤◌, Bool, true, List, length, Option, Some, is_some, map as map_list}
use Rattle.std.specs.Option.{option_and_then, option_map}
use Rattle.std.specs.FinMap as map
use Rattle.draw_order.specs.Draw.{PlainTicket, plain_order}
use Rattle.room_types.specs.Texts.{Text, TextMap}
use Rattle.trade_line.specs.Market.{Market}
use Rattle.trade_line.specs.TopTradingCycles.{gets}
use Rattle.office_state.specs.Office.{choices_of, home_of, participants}
use Rattle.office_state.specs.Round.{is_participant, word_of, round_people, round_rooms}
use Rattle.office_state.specs.Round.{round_home, round_list, round_room}
use Rattle.office_state.specs.Round.{round_market, round_results, round_rank, number_in}
use Rattle.office_state.specs.declared.office.Assigned.{Assigned}
use Rattle.office_state.specs.declared.office.Office.{Office}

-- an assignment: each participant gets a room of the round or nothing, and no two participants get the same room
pub record IsRoundAssignment (office : Office) (gives : Text → Option Text) : Type 0 where
  pub known :
      (person room : Text) → is_participant office person ≡ true
      → gives person ≡ Some room → is_some (number_in (round_rooms office) room) ≡ true
  pub differ :
      (person other room : Text) → is_participant office person ≡ true
      → is_participant office other ≡ true
      → gives person ≡ Some room → gives other ≡ Some room → person ≡ other

-- each participant ranks what they get at least as high as their home, or as no room if they have no home
abbrev pub IsRationalFor : Office → (Text → Option Text) → Type 0
IsRationalFor office gets =
    (person : Text) → is_participant office person ≡ true
    → round_rank office person (gets person) ≤ round_rank office person (home_of office person)

-- Pareto efficient: if an assignment leaves no participant worse off than `gets`, it gives every participant the same
-- as `gets`. So no assignment makes somebody better off and nobody worse.
abbrev pub IsEfficientFor : Office → (Text → Option Text) → Type 0
IsEfficientFor office gets =
    (gives : Text → Option Text) → IsRoundAssignment office gives
    → ((person : Text) → is_participant office person ≡ true
    → round_rank office person (gives person) ≤ round_rank office person (gets person))
    → (person : Text) → is_participant office person ≡ true → gives person ≡ gets person

-- a group of participants, all with homes, trades its own homes: each member gets a member's home, and no two members
-- get the same home
pub record TradesOwnRooms
    (office : Office) (group : Text → Bool) (gives : Text → Option Text) : Type 0 where
  pub participants : (person : Text) → group person ≡ true → is_participant office person ≡ true
  pub tenants :
      (person : Text) → group person ≡ true
      → (room : Text) × (home_of office person ≡ Some room)
  pub own :
      (person : Text) → group person ≡ true
      → (other : Text) × (group other ≡ true) × (gives person ≡ home_of office other)
  pub differ :
      (person other : Text) → group person ≡ true → group other ≡ true
      → gives person ≡ gives other → person ≡ other

-- if a group trades its own homes and no member is worse off than with `gets`, then every member gets the same as
-- with `gets`
abbrev pub HasNoBetterTradeFor : Office → (Text → Option Text) → Type 0
HasNoBetterTradeFor office gets =
    (group : Text → Bool) (gives : Text → Option Text) → TradesOwnRooms office group gives
    → ((person : Text) → group person ≡ true
    → round_rank office person (gives person) ≤ round_rank office person (gets person))
    → (person : Text) → group person ≡ true → gives person ≡ gets person

-- `gets` is an assignment of the round's rooms. It is individually rational and Pareto efficient, and no group of
-- tenants has a better trade of its own rooms.
pub record IsWellTraded (office : Office) (gets : Text → Option Text) : Type 0 where
  pub assignment : IsRoundAssignment office gets
  pub rational : IsRationalFor office gets
  pub efficient : IsEfficientFor office gets
  pub apart : HasNoBetterTradeFor office gets

-- the home on record of a person, who may have none; nothing if the person is unknown
abbrev pub recorded_home : Office → Text → Option (Option Text)
recorded_home office person = option_map (λ p. p.home) (map.get office.people person)

-- two offices have the same rooms, people, homes, grades, lists, withdrawals and words, and the same people leave the
-- college. Names and keys may differ.
pub record HaveSameEntries (one other : Office) : Type 0 where
  pub rooms : one.rooms ≡ other.rooms
  pub homes : (person : Text) → recorded_home one person ≡ recorded_home other person
  pub choices : one.choices ≡ other.choices
  pub withdrawn : one.withdrawn ≡ other.withdrawn
  pub words : one.words ≡ other.words
  pub grades : one.grades ≡ other.grades
  pub going : one.going ≡ other.going

-- the identifier and word of each participant, without the grade, in order of identifier
abbrev pub plain_tickets_of : Office → List PlainTicket
plain_tickets_of office =
    map_list (λ person. (person, word_of office person)) (participants office)

-- the participants by word, and by identifier if words are equal; their grades do not count
abbrev pub people_by_word : Office → List Text
people_by_word office = plain_order (plain_tickets_of office)

-- the round's problem if `people` is the order of the people. Homes and lists are those that count in the round.
abbrev pub market_in : Office → List Text → Market
market_in office people = record {
  people = length people;
  rooms = length (round_rooms office);
  homes = map_list (round_home office) people;
  lists = map_list (λ person. round_list office person (choices_of office person)) people;
}

-- what each participant gets by top trading cycles if `people` is the order of the people
abbrev pub results_in : Office → List Text → TextMap Assigned
results_in office people =
    map.from_entries
    (map_list (λ person. (
      person,
      record {
        room =
            option_and_then (λ number. round_room office (gets (market_in office people) number))
            (number_in people person);
      },
    )) (participants office))

-- the round's people, problem and results are those that the order by word and identifier gives
pub record GoesByWord (office : Office) : Type 0 where
  pub people : round_people office ≡ people_by_word office
  pub market : round_market office ≡ market_in office (people_by_word office)
  pub results : round_results office ≡ results_in office (people_by_word office)

-- if no grades are recorded, the round's order is the order by word and identifier alone
abbrev pub UngradedGoesByWord : Type 0
UngradedGoesByWord = (office : Office) → office.grades ≡ map.empty → GoesByWord office

-- the rounds of two offices have the same people, rooms, problem and results
pub record HaveSameRound (one other : Office) : Type 0 where
  pub people : round_people one ≡ round_people other
  pub rooms : round_rooms one ≡ round_rooms other
  pub market : round_market one ≡ round_market other
  pub results : round_results one ≡ round_results other
