use Rattle.std.proofs.Common.{sym, subst}
use Rattle.office_schema.specs.tables.Layouts.{has_grades, has_leavers, trees_of}
use Rattle.sqlite.specs.Effect.{Database}
use Rattle.sqlite.specs.Held.{state}
use Rattle.office_schema.specs.tables.FirstTables.{Begins}
use Rattle.office_db.proofs.loaded.Listings.{shown_before, shown_permuted, shown_if_before, shown_if_permuted}
use Rattle.office_db.proofs.found_offices.First.{first_if_has, still_first}
use Rattle.office_db.proofs.found_offices.Following.{reads_then}
use Rattle.office_db.proofs.loading.reading.read_records.Goals as goal

pub returns-in_default-clause-first : goal.returns-in_default-clause-first
returns-in_default-clause-first g c clean tables has well_formed =
    rw c.in_default.is at c.in_ok-rooms.ensures.found clean has.schema tables.rooms tables.people has.rows.rooms
    has.rows.people well_formed.rooms well_formed.people

pub returns-in_default-2-clause-first : goal.returns-in_default-2-clause-first
returns-in_default-2-clause-first g c clean tables has well_formed =
    let reads_1 = c.read_two.ensures.reads in
    let clean_1 = c.read_two-2.ensures.reads.keeps.follows.clean clean in
    let has_1 = still_first c.args.layout _ _ tables reads_1 (clean_1, c.in_ok-rooms.ensures.is_open clean_1) has in
    rw c.in_default-2.is at c.in_ok-rounds.ensures.found clean has_1.schema tables.rounds tables.choices
    has_1.rows.rounds has_1.rows.choices well_formed.rounds well_formed.choices

pub returns-in_default-3-clause-first : goal.returns-in_default-3-clause-first
returns-in_default-3-clause-first g c clean tables has well_formed =
    let reads_1 = c.read_two.ensures.reads in
    let reads_2 = reads_then _ _ _ reads_1 c.read_two-2.ensures.reads in
    let clean_2 = c.read_two-3.ensures.reads.keeps.follows.clean clean in
    let has_2 = still_first c.args.layout _ _ tables reads_2 (clean_2, c.in_ok-rounds.ensures.is_open clean_2) has in
    rw c.in_default-3.is at c.in_ok-words.ensures.found clean has_2.schema tables.words tables.results
    has_2.rows.words has_2.rows.results well_formed.words well_formed.results

pub returns-in_default-4-clause-first : goal.returns-in_default-4-clause-first
returns-in_default-4-clause-first g c clean tables has well_formed =
    let reads_1 = c.read_two.ensures.reads in
    let reads_2 = reads_then _ _ _ reads_1 c.read_two-2.ensures.reads in
    let reads_3 = reads_then _ _ _ reads_2 c.read_two-3.ensures.reads in
    let clean_3 = c.read_two-4.ensures.reads.keeps.follows.clean clean in
    let has_3 = still_first c.args.layout _ _ tables reads_3 (clean_3, c.in_ok-words.ensures.is_open clean_3) has in
    rw c.in_default-4.is at c.in_ok-moves.ensures.found clean has_3.schema tables.moves tables.lists
    has_3.rows.moves has_3.rows.lists well_formed.moves well_formed.lists

pub returns-in_default-5-clause-first : goal.returns-in_default-5-clause-first
returns-in_default-5-clause-first g c clean tables has well_formed =
    let reads_1 = c.read_two.ensures.reads in
    let reads_2 = reads_then _ _ _ reads_1 c.read_two-2.ensures.reads in
    let reads_3 = reads_then _ _ _ reads_2 c.read_two-3.ensures.reads in
    let reads_4 = reads_then _ _ _ reads_3 c.read_two-4.ensures.reads in
    let clean_4 = c.records_if_there.ensures.reads.keeps.follows.clean clean in
    let has_4 = still_first c.args.layout _ _ tables reads_4 (clean_4, c.in_ok-moves.ensures.is_open clean_4) has in
    rw c.in_default-5.is at c.in_ok-grades.ensures.found clean has_4.schema tables.grades
    has_4.rows.grades well_formed.grades

pub returns-in_default-6-clause-first : goal.returns-in_default-6-clause-first
returns-in_default-6-clause-first g c clean tables has well_formed =
    let reads_1 = c.read_two.ensures.reads in
    let reads_2 = reads_then _ _ _ reads_1 c.read_two-2.ensures.reads in
    let reads_3 = reads_then _ _ _ reads_2 c.read_two-3.ensures.reads in
    let reads_4 = reads_then _ _ _ reads_3 c.read_two-4.ensures.reads in
    let reads_5 = reads_then _ _ _ reads_4 c.records_if_there.ensures.reads in
    let clean_5 = c.records_if_there-2.ensures.reads.keeps.follows.clean clean in
    let clean_4 = c.records_if_there.ensures.reads.keeps.follows.clean clean_5 in
    let has_5 =
    still_first c.args.layout _ _ tables reads_5
    (clean_5, c.in_ok-grades.ensures.is_open clean_5 (c.in_ok-moves.ensures.is_open clean_4)) has in
    rw c.in_default-6.is at c.in_ok-going.ensures.found clean has_5.schema tables.going
    has_5.rows.going well_formed.going

pub returns-clause-first : goal.returns-clause-first
returns-clause-first g c clean tables has well_formed =
    let reads_1 = c.read_two.ensures.reads in
    let reads_2 = reads_then _ _ _ reads_1 c.read_two-2.ensures.reads in
    let reads_3 = reads_then _ _ _ reads_2 c.read_two-3.ensures.reads in
    let reads_4 = reads_then _ _ _ reads_3 c.read_two-4.ensures.reads in
    let reads_5 = reads_then _ _ _ reads_4 c.records_if_there.ensures.reads in
    let clean_5 = c.records_if_there-2.ensures.reads.keeps.follows.clean clean in
    let clean_4 = c.records_if_there.ensures.reads.keeps.follows.clean clean_5 in
    let clean_3 = c.read_two-4.ensures.reads.keeps.follows.clean clean_4 in
    let clean_2 = c.read_two-3.ensures.reads.keeps.follows.clean clean_3 in
    let clean_1 = c.read_two-2.ensures.reads.keeps.follows.clean clean_2 in
    let has_1 = still_first c.args.layout _ _ tables reads_1 (clean_1, c.in_ok-rooms.ensures.is_open clean_1) has in
    let has_2 = still_first c.args.layout _ _ tables reads_2 (clean_2, c.in_ok-rounds.ensures.is_open clean_2) has in
    let has_3 = still_first c.args.layout _ _ tables reads_3 (clean_3, c.in_ok-words.ensures.is_open clean_3) has in
    let has_4 = still_first c.args.layout _ _ tables reads_4 (clean_4, c.in_ok-moves.ensures.is_open clean_4) has in
    let has_5 =
    still_first c.args.layout _ _ tables reads_5
    (clean_5, c.in_ok-grades.ensures.is_open clean_5 (c.in_ok-moves.ensures.is_open clean_4)) has in
    let first =
    rw c.in-Some.is at c.in_ok-rooms.ensures.found clean_1 has.schema tables.rooms tables.people
    has.rows.rooms has.rows.people well_formed.rooms well_formed.people in
    let second =
    rw c.in-Some-2.is at c.in_ok-rounds.ensures.found clean_2 has_1.schema tables.rounds tables.choices
    has_1.rows.rounds has_1.rows.choices well_formed.rounds well_formed.choices in
    let third =
    rw c.in-Some-3.is at c.in_ok-words.ensures.found clean_3 has_2.schema tables.words tables.results
    has_2.rows.words has_2.rows.results well_formed.words well_formed.results in
    let fourth =
    rw c.in-Some-4.is at c.in_ok-moves.ensures.found clean_4 has_3.schema tables.moves tables.lists
    has_3.rows.moves has_3.rows.lists well_formed.moves well_formed.lists in
    let fifth =
    rw c.in-Some-5.is at c.in_ok-grades.ensures.found clean_5 has_4.schema tables.grades
    has_4.rows.grades well_formed.grades in
    let sixth =
    rw c.in-Some-6.is at c.in_ok-going.ensures.found clean has_5.schema tables.going
    has_5.rows.going well_formed.going in
    record {
      rooms = first.0;
      people = first.1;
      rounds = second.0;
      choices = second.1;
      words = third.0;
      results = third.1;
      moves = fourth.0;
      lists = fourth.1;
      grades = fifth;
      going = sixth;
    }

pub returns-in_default-clause-found : goal.returns-in_default-clause-found
returns-in_default-clause-found g c clean tables has well_formed =
    returns-in_default-clause-first g c clean tables
    (first_if_has c.args.layout (state g.S.Store c.args.conn.now).now tables has) well_formed

pub returns-in_default-2-clause-found : goal.returns-in_default-2-clause-found
returns-in_default-2-clause-found g c clean tables has well_formed =
    returns-in_default-2-clause-first g c clean tables
    (first_if_has c.args.layout (state g.S.Store c.args.conn.now).now tables has) well_formed

pub returns-in_default-3-clause-found : goal.returns-in_default-3-clause-found
returns-in_default-3-clause-found g c clean tables has well_formed =
    returns-in_default-3-clause-first g c clean tables
    (first_if_has c.args.layout (state g.S.Store c.args.conn.now).now tables has) well_formed

pub returns-in_default-4-clause-found : goal.returns-in_default-4-clause-found
returns-in_default-4-clause-found g c clean tables has well_formed =
    returns-in_default-4-clause-first g c clean tables
    (first_if_has c.args.layout (state g.S.Store c.args.conn.now).now tables has) well_formed

pub returns-in_default-5-clause-found : goal.returns-in_default-5-clause-found
returns-in_default-5-clause-found g c clean tables has well_formed =
    returns-in_default-5-clause-first g c clean tables
    (first_if_has c.args.layout (state g.S.Store c.args.conn.now).now tables has) well_formed

pub returns-in_default-6-clause-found : goal.returns-in_default-6-clause-found
returns-in_default-6-clause-found g c clean tables has well_formed =
    returns-in_default-6-clause-first g c clean tables
    (first_if_has c.args.layout (state g.S.Store c.args.conn.now).now tables has) well_formed

pub returns-clause-found : goal.returns-clause-found
returns-clause-found g c clean tables has well_formed =
    returns-clause-first g c clean tables
    (first_if_has c.args.layout (state g.S.Store c.args.conn.now).now tables has) well_formed

pub returns-clause-shown : goal.returns-clause-shown
returns-clause-shown g c clean has tables are =
    let start = state g.S.Store c.args.conn.now in
    let begins = λ (d : Database). Begins c.args.layout d.schema in
    let reads_1 = c.read_two.ensures.reads in
    let reads_2 = reads_then _ _ _ reads_1 c.read_two-2.ensures.reads in
    let reads_3 = reads_then _ _ _ reads_2 c.read_two-3.ensures.reads in
    let reads_4 = reads_then _ _ _ reads_3 c.read_two-4.ensures.reads in
    let reads_5 = reads_then _ _ _ reads_4 c.records_if_there.ensures.reads in
    let clean_5 = c.records_if_there-2.ensures.reads.keeps.follows.clean clean in
    let clean_4 = c.records_if_there.ensures.reads.keeps.follows.clean clean_5 in
    let clean_3 = c.read_two-4.ensures.reads.keeps.follows.clean clean_4 in
    let clean_2 = c.read_two-3.ensures.reads.keeps.follows.clean clean_3 in
    let clean_1 = c.read_two-2.ensures.reads.keeps.follows.clean clean_2 in
    let same_1 = reads_1.keeps.same (clean_1, c.in_ok-rooms.ensures.is_open clean_1) in
    let same_2 = reads_2.keeps.same (clean_2, c.in_ok-rounds.ensures.is_open clean_2) in
    let same_3 = reads_3.keeps.same (clean_3, c.in_ok-words.ensures.is_open clean_3) in
    let same_4 = reads_4.keeps.same (clean_4, c.in_ok-moves.ensures.is_open clean_4) in
    let same_5 =
    reads_5.keeps.same (clean_5, c.in_ok-grades.ensures.is_open clean_5 (c.in_ok-moves.ensures.is_open clean_4)) in
    let first = rw c.in-Some.is at c.in_ok-rooms.ensures.shown clean_1 has in
    let second = rw c.in-Some-2.is at c.in_ok-rounds.ensures.shown clean_2 (subst begins (sym same_1) has) in
    let third = rw c.in-Some-3.is at c.in_ok-words.ensures.shown clean_3 (subst begins (sym same_2) has) in
    let fourth = rw c.in-Some-4.is at c.in_ok-moves.ensures.shown clean_4 (subst begins (sym same_3) has) in
    let fifth = rw c.in-Some-5.is at c.in_ok-grades.ensures.shown clean_5 (subst begins (sym same_4) has) in
    let sixth = rw c.in-Some-6.is at c.in_ok-going.ensures.shown clean (subst begins (sym same_5) has) in
    let trees = trees_of c.args.layout in
    record {
      rooms = shown_permuted _ _ _ _ _ _ are.rooms first.0;
      people = shown_permuted _ _ _ _ _ _ are.people first.1;
      rounds = shown_permuted _ _ _ _ _ _ are.rounds (shown_before _ _ _ start.now _ 6 _ same_1 second.0);
      choices =
          shown_permuted _ _ _ _ _ _ are.choices (shown_before _ _ _ start.now _ trees.choices _ same_1 second.1);
      words = shown_permuted _ _ _ _ _ _ are.words (shown_before _ _ _ start.now _ trees.words _ same_2 third.0);
      results =
          shown_permuted _ _ _ _ _ _ are.results (shown_before _ _ _ start.now _ trees.results _ same_2 third.1);
      moves = shown_permuted _ _ _ _ _ _ are.moves
          (shown_before _ _ _ start.now _ trees.moves _ same_3 fourth.0);
      lists = shown_permuted _ _ _ _ _ _ are.lists
          (shown_before _ _ _ start.now _ trees.lists _ same_3 fourth.1);
      grades = shown_if_permuted (has_grades c.args.layout) _ _ _ _ _ _ are.grades
          (shown_if_before (has_grades c.args.layout) _ _ _ start.now _ trees.grades _ same_4 fifth);
      going = shown_if_permuted (has_leavers c.args.layout) _ _ _ _ _ _ are.going
          (shown_if_before (has_leavers c.args.layout) _ _ _ start.now _ trees.going _ same_5 sixth);
    }

pub returns-clause-is_open : goal.returns-clause-is_open
returns-clause-is_open g c clean =
    let clean_5 = c.records_if_there-2.ensures.reads.keeps.follows.clean clean in
    let clean_4 = c.records_if_there.ensures.reads.keeps.follows.clean clean_5 in
    c.in_ok-going.ensures.is_open clean (c.in_ok-grades.ensures.is_open clean_5 (c.in_ok-moves.ensures.is_open clean_4))
