-- The problem of a round: the participants in order, the rooms that are traded, and the lists; and what each
-- participant gets.
pub mod Laws
pub mod Lists
pub mod Settlement
use Rattle.std.specs.Prelude.{ℕ, ◌+◌, Bool, ◌&&◌, not, List, Option, None, Some}
use Rattle.std.specs.Prelude.{length, filter_map, position, slice_get, map as map_list}
use Rattle.std.specs.Option.{unwrap_or, option_and_then, option_map}
use Rattle.std.specs.List.{filter, list_any, before_first}
use Rattle.std.specs.FinMap as map
use Rattle.room_types.specs.Texts.{Text, TextMap, text_eq}
use Rattle.draw_order.specs.Draw.{Ticket, drawn_order}
use Rattle.trade_line.specs.Market.{Market, list_of}
use Rattle.trade_line.specs.OtherList.{with_list}
use Rattle.trade_line.specs.Rank.{rank}
use Rattle.trade_line.specs.TopTradingCycles.{gets}
use Rattle.office_state.specs.Office.{is_text, knows_person, lives_in, home_of, has_withdrawn}
use Rattle.office_state.specs.Office.{sits_out, recorded_grade, choices_of, participants}
use Rattle.office_state.specs.declared.office.Assigned.{Assigned}
use Rattle.office_state.specs.declared.office.Office.{Office}

-- whether a person takes part: they are known, have not withdrawn and do not leave the college
abbrev pub is_participant : Office → Text → Bool
is_participant office person = knows_person office person && not (sits_out office person)

-- the word that was drawn for a person, or 0 if none is recorded
abbrev pub word_of : Office → Text → ℕ
word_of office person = unwrap_or (map.get office.words person) 0

-- the identifier, grade and word of each participant, in order of identifier
abbrev pub tickets_of : Office → List Ticket
tickets_of office =
    map_list (λ person. (person, recorded_grade office person, word_of office person))
    (participants office)

-- the participants in the drawn order: by grade, then by word, then by identifier
unfoldable pub round_people : Office → List Text
round_people office = drawn_order (tickets_of office)

-- whether a room is the home of a person who has withdrawn
abbrev pub is_kept_back : Office → Text → Bool
is_kept_back office room =
    list_any (λ e. has_withdrawn office e.0 && lives_in room e.1) (map.entries office.people)

-- the rooms of the round, in order of code: the rooms that are not shut and are not the home of a person who has
-- withdrawn
unfoldable pub round_rooms : Office → List Text
round_rooms office =
    map_list (λ e. e.0)
    (filter (λ e. not e.1 && not (is_kept_back office e.0)) (map.entries office.rooms))

-- the number of a name: the index of its first occurrence in `names`, or none if it does not occur
abbrev pub number_in : List Text → Text → Option ℕ
number_in names name = position (λ other. text_eq other name) names

-- the rooms that a list names before the person's own room. If the person has no room or does not list it, these are
-- all rooms of the list. No other room of the list counts in the round.
abbrev pub before_own : Option Text → List Text → List Text
before_own home codes = before_first (is_text home) codes

-- the number of a participant's home among the rooms of the round; none if they have no home, or if the home is not a
-- room of the round
abbrev pub round_home : Office → Text → Option ℕ
round_home office person = option_and_then (number_in (round_rooms office)) (home_of office person)

-- a participant's list as it counts in the round, as room numbers in the order of the list. `before_own` leaves out
-- the participant's own room and all rooms listed after it. Rooms outside the round are left out too.
abbrev pub round_list : Office → Text → List Text → List ℕ
round_list office person codes =
    filter_map (number_in (round_rooms office)) (before_own (home_of office person) codes)

-- the problem of the round. The number of a person is their index in `round_people`, and the number of a room is its
-- index in `round_rooms`.
unfoldable pub round_market : Office → Market
round_market office = record {
  people = length (round_people office);
  rooms = length (round_rooms office);
  homes = map_list (round_home office) (round_people office);
  lists =
      map_list (λ person. round_list office person (choices_of office person))
      (round_people office);
}

-- the room of the round that has this number, if any
abbrev pub round_room : Office → Option ℕ → Option Text
round_room office number = option_and_then (slice_get (round_rooms office)) number

-- the room that a participant gets by top trading cycles, if any
unfoldable pub result_of : Office → Text → Option Text
result_of office person =
    option_and_then (λ number. round_room office (gets (round_market office) number))
    (number_in (round_people office) person)

-- the result of each participant, by identifier
unfoldable pub round_results : Office → TextMap Assigned
round_results office =
    map.from_entries
    (map_list (λ person. (person, record { room = result_of office person }))
    (participants office))

-- the room that a participant would get with another list, in the same order and with all other lists unchanged
unfoldable pub result_by : Office → Text → List Text → Option Text
result_by office person codes =
    option_and_then (λ number.
    let other = with_list (round_market office) number (round_list office person codes) in
    round_room office (gets other number))
    (number_in (round_people office) person)

-- the rank that the participant with this number gives to a room or nothing; a room outside the round comes last
abbrev pub rank_by_number : Office → ℕ → Option Text → ℕ
rank_by_number office number None = rank (round_market office) number None
rank_by_number office number (Some room) =
    unwrap_or
    (option_map (λ r. rank (round_market office) number (Some r))
    (number_in (round_rooms office) room))
    (length (list_of (round_market office) number) + 1)

-- the rank that a participant gives to a room or nothing, by their recorded list as it counts in the round; the best
-- has rank 0. A person who does not take part has no list in the round: for them `None` has rank 0, and every room
-- has rank 1.
unfoldable pub round_rank : Office → Text → Option Text → ℕ
round_rank office person =
    rank_by_number office
    (unwrap_or (number_in (round_people office) person) (length (round_people office)))
