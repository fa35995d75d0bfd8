use Rattle.std.proofs.Common.{Some, refl, sym, subst, IsPermutation}
use Rattle.room_types.proofs.options.Options.{none_some}
use Rattle.office_schema.specs.rows.Rows.{only_row}
use Rattle.office_schema.specs.declared.rows.records.RoundRecord.{RoundRecord}
use Rattle.office_schema.specs.rows.Tables.{rows_at}
use Rattle.office_schema.proofs.rows_read.Rounds.{found_is}
use Rattle.office_schema.proofs.rows.office.build_office.Goals as goal

pub returns-in_default-2-clause-makes : goal.returns-in_default-2-clause-makes
unfolding rows_at
returns-in_default-2-clause-makes c = record {
  returned = tt;
  only = λ office lawful has.
      absurd (none_some _ _ c.in_default-2.is
      (c.in_ok-people.ensures.reads.only (record { people = office.people; withdrawn = office.withdrawn })
      (record { withdrawers = lawful.lists.withdrawers }) has.people));
}

pub returns-in_default-read_round-clause-makes : goal.returns-in_default-read_round-clause-makes
unfolding rows_at
returns-in_default-read_round-clause-makes c = record {
  returned = tt;
  only = λ office lawful has.
      let round : RoundRecord = record { version = c.args.version; number = office.number; phase = office.phase } in
      absurd (none_some _ _ c.in_default-read_round.is
      (c.read_round.ensures.only round refl
      (subst (λ l. IsPermutation (only_row round) l) (sym c.as_slice.ensures.value) has.rounds)));
}

pub returns-clause-makes : goal.returns-clause-makes
unfolding rows_at
returns-clause-makes c = record {
  returned = record {
    rooms = (rw c.in-Some.is at c.in_ok-rooms.ensures.reads.returned).1;
    people = (rw c.in-Some-2.is at c.in_ok-people.ensures.reads.returned).1;
    rounds =
        let returned = rw c.in-Some-read_round.is at c.read_round.ensures.returned in
        let read = c.in-Some-read_round.round in
        subst (λ v. IsPermutation (only_row (record { version = v; number = read.number; phase = read.phase }))
        c.args.records.rounds.items) returned.0
        (subst (λ l. IsPermutation (only_row read) l) c.as_slice.ensures.value returned.1);
    choices = (rw c.in-Some-3.is at c.in_ok-choices.ensures.reads.returned).1;
    words = (rw c.in-Some-4.is at c.in_ok-words.ensures.reads.returned).1;
    results = (rw c.in-Some-5.is at c.in_ok-results.ensures.reads.returned).1;
    moves = (rw c.in-Some-6.is at c.in_ok-moves.ensures.reads.returned).1;
    lists = (rw c.in-Some-7.is at c.in_ok-lists.ensures.reads.returned).1;
    grades = (rw c.in-Some-8.is at c.in_ok-grades.ensures.reads.returned).1;
    going = (rw c.in-Some-9.is at c.in_ok-going.ensures.reads.returned).1;
  };
  only = λ office lawful has.
      let rooms = found_is _ _ _ c.in-Some.is (c.in_ok-rooms.ensures.reads.only office.rooms tt has.rooms) in
      let people =
      found_is _ _ _ c.in-Some-2.is
      (c.in_ok-people.ensures.reads.only (record { people = office.people; withdrawn = office.withdrawn })
      (record { withdrawers = lawful.lists.withdrawers }) has.people) in
      let now : RoundRecord = record { version = c.args.version; number = office.number; phase = office.phase } in
      let round =
      found_is _ _ _ c.in-Some-read_round.is
      (c.read_round.ensures.only now refl
      (subst (λ l. IsPermutation (only_row now) l) (sym c.as_slice.ensures.value) has.rounds)) in
      let choices =
      found_is _ _ _ c.in-Some-3.is
      (c.in_ok-choices.ensures.reads.only office.choices
      (record { none_empty = lawful.lists.none_empty; chosen = lawful.lists.chosen }) has.choices) in
      let words = found_is _ _ _ c.in-Some-4.is (c.in_ok-words.ensures.reads.only office.words tt has.words) in
      let results = found_is _ _ _ c.in-Some-5.is (c.in_ok-results.ensures.reads.only office.results tt has.results) in
      let moves =
      found_is _ _ _ c.in-Some-6.is
      (c.in_ok-moves.ensures.reads.only office.moves (record { none_empty = lawful.moves.none_empty }) has.moves) in
      let lists = found_is _ _ _ c.in-Some-7.is (c.in_ok-lists.ensures.reads.only office.lists tt has.lists) in
      let grades = found_is _ _ _ c.in-Some-8.is (c.in_ok-grades.ensures.reads.only office.grades tt has.grades) in
      let going = found_is _ _ _ c.in-Some-9.is (c.in_ok-going.ensures.reads.only office.going tt has.going) in
      λ i. Some (record {
        rooms = rooms i;
        people = (people i).people;
        choices = choices i;
        withdrawn = (people i).withdrawn;
        words = words i;
        results = results i;
        moves = moves i;
        lists = lists i;
        grades = grades i;
        going = going i;
        number = (round i).number;
        phase = (round i).phase;
      });
}
