use Rattle.std.specs.Cmp.Lexicographic.{nat_list_cmp_total}
use Rattle.room_types.proofs.maps.TextMaps.{exact_texts}
use Rattle.room_types.proofs.maps.Entries.{one_map}
use Rattle.office_schema.specs.rows.Tables.{rows_at}
use Rattle.office_schema.proofs.rows_read.Gathering.{one_lists}
use Rattle.office_schema.proofs.rows_read.Keys.{one_set}
use Rattle.office_schema.proofs.rows_read.Moving.{one_moves}
use Rattle.office_schema.proofs.rows_read.FillingPeople.{one_people}
use Rattle.office_schema.proofs.rows_read.Rounds.{one_round}
use Rattle.office_schema.proofs.rows.laws.rows_determine_office.Goals as goal

pub returns : goal.returns
unfolding rows_at
returns c = λ one other lawful also same.
    let rooms = one_map nat_list_cmp_total exact_texts one.rooms other.rooms same.rooms in
    let people =
    one_people (record { people = one.people; withdrawn = one.withdrawn })
    (record { people = other.people; withdrawn = other.withdrawn })
    (record { withdrawers = lawful.lists.withdrawers }) (record { withdrawers = also.lists.withdrawers }) same.people in
    let round =
    one_round (record { version = 3; number = one.number; phase = one.phase })
    (record { version = 3; number = other.number; phase = other.phase }) same.rounds in
    let choices =
    one_lists one.choices other.choices (record { none_empty = lawful.lists.none_empty; chosen = lawful.lists.chosen })
    (record { none_empty = also.lists.none_empty; chosen = also.lists.chosen }) same.choices in
    let words = one_map nat_list_cmp_total exact_texts one.words other.words same.words in
    let results = one_map nat_list_cmp_total exact_texts one.results other.results same.results in
    let moves = one_moves one.moves other.moves (record { none_empty = lawful.moves.none_empty })
    (record { none_empty = also.moves.none_empty }) same.moves in
    let lists = one_map nat_list_cmp_total exact_texts one.lists other.lists same.lists in
    let grades = one_map nat_list_cmp_total exact_texts one.grades other.grades same.grades in
    let going = one_set one.going other.going same.going in
    λ i. record {
      rooms = rooms i;
      people = (people i).people;
      choices = choices i;
      withdrawn = (people i).withdrawn;
      words = words i;
      results = results i;
      moves = moves i;
      lists = lists i;
      grades = grades i;
      going = going i;
      number = (round i).number;
      phase = (round i).phase;
    }
