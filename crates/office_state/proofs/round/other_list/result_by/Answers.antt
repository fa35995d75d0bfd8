use Rattle.std.proofs.Common.{◌≡◌, ◌≢◌, ◌≤◌, ℕ, Some, sym, ap, subst, ◌∙◌}
use Rattle.std.specs.List.{AllPairs, slice_get}
use Rattle.std.specs.Option.{option_copied, option_and_then, is_some}
use Rattle.std.specs.FinMap as maps
use Rattle.std.proofs.lemmas.Result.{IfOk-weaker}
use Rattle.trade_line.specs.Market.{Market, IsMarket}
use Rattle.trade_line.specs.OtherList.{with_list, IsListFor}
use Rattle.trade_line.specs.Rank.{rank}
use Rattle.trade_line.specs.TopTradingCycles.{gets}
use Rattle.trade_line.proofs.welfare.Manipulation.{list_proof}
use Rattle.trade_line.proofs.welfare.OtherLists.{with_list_market}
use Rattle.office_state.specs.Round.{round_market, round_people, round_list, number_in}
use Rattle.office_state.proofs.round_problems.People.{participant_number}
use Rattle.office_state.proofs.round_problems.Problem.{codes_differ, fits, list-same, sole_list_fault}
use Rattle.office_state.proofs.round.other_list.result_by.Goals as goal
use Rattle.office_state.proofs.round_outcomes.Ranks.{result_by-numbered, no_gain-named}

pub unreachable-requires : goal.unreachable-requires
unreachable-requires c =
    let none = sym (c.number_in.ensures) ∙ c.in_default.is in
    let person = c.args.person.now in
    let part = participant_number c.args.office.now person ∙ c.requires.participant in
    cc (
      ap (λ names. is_some (number_in names person))
          (c.deref.ensures.value ∙ c.in_ok-round.ensures.problem.people),
      ap is_some none,
      part,
    )

pub returns-in-Ok-clause-room : goal.returns-in-Ok-clause-room
returns-in-Ok-clause-room c =
    let office = c.args.office.now in
    let person = c.args.person.now in
    let codes = c.args.choices.now in
    let about = c.in_ok-round.ensures.problem in
    let ok : IsMarket (round_market office) = c.in_ok-round.ensures.well_formed in
    let numbered : number_in (round_people office) person ≡ Some c.in-Some.number =
    ap (λ names. number_in names person) (sym (c.deref.ensures.value ∙ about.people))
    ∙ sym c.number_in.ensures ∙ c.in-Some.is in
    let list : c.in_ok-list.list.items ≡ round_list office person codes =
    c.in_ok-list.ensures ∙ list-same office person codes c.as_slice.result.now
    (option_copied c.home_of.result)
    (maps.get c.in_ok-round.round.numbers) about.numbers c.home_of.ensures
    c.as_slice.ensures.rooms in
    let apart : AllPairs ◌≢◌ codes = codes_differ codes c.as_slice.ensures.choices.1 in
    let may : IsListFor (round_market office) c.in-Some.number (round_list office person codes) =
    fits office person c.in-Some.number codes numbered apart in
    let same : gets (with_list c.in_ok-round.round.problem c.in-Some.number c.in_ok-list.list.items)
    c.in-Some.number ≡ gets (with_list (round_market office) c.in-Some.number
    (round_list office person codes)) c.in-Some.number =
    λ i. gets (with_list (about.market i) c.in-Some.number (list i)) c.in-Some.number in
    let room : c.in-Ok.room ≡ gets
    (with_list (round_market office) c.in-Some.number (round_list office person codes))
    c.in-Some.number = c.in-Ok.ensures.room ∙ same in
    IfOk-weaker c.room_named.result _ _ (λ named is.
    is ∙ (λ i. option_and_then (slice_get ((c.deref-in-Ok.ensures.value ∙ about.rooms) i)) (room i))
    ∙ sym (result_by-numbered office ok person c.in-Some.number numbered codes))
    c.room_named.ensures

pub returns-in-Ok-clause-no_gain : goal.returns-in-Ok-clause-no_gain
returns-in-Ok-clause-no_gain c =
    let office = c.args.office.now in
    let person = c.args.person.now in
    let codes = c.args.choices.now in
    let about = c.in_ok-round.ensures.problem in
    let ok : IsMarket (round_market office) = c.in_ok-round.ensures.well_formed in
    let numbered : number_in (round_people office) person ≡ Some c.in-Some.number =
    ap (λ names. number_in names person) (sym (c.deref.ensures.value ∙ about.people))
    ∙ sym c.number_in.ensures ∙ c.in-Some.is in
    let list : c.in_ok-list.list.items ≡ round_list office person codes =
    c.in_ok-list.ensures ∙ list-same office person codes c.as_slice.result.now
    (option_copied c.home_of.result)
    (maps.get c.in_ok-round.round.numbers) about.numbers c.home_of.ensures
    c.as_slice.ensures.rooms in
    let apart : AllPairs ◌≢◌ codes = codes_differ codes c.as_slice.ensures.choices.1 in
    let may : IsListFor (round_market office) c.in-Some.number (round_list office person codes) =
    fits office person c.in-Some.number codes numbered apart in
    let m : Market = round_market office in
    let n : ℕ = c.in-Some.number in
    let no_gain : rank m n (gets m n) ≤ rank m n
    (gets (with_list m n (round_list office person codes)) n) =
    list_proof m ok n (round_list office person codes) may.0.0
    (with_list_market m ok n (round_list office person codes) may) in
    IfOk-weaker c.room_named.result _ _ (λ named is.
    no_gain-named office ok person n numbered codes may no_gain named
    (is ∙ result_by-numbered office ok person n numbered codes)) (returns-in-Ok-clause-room c)

pub out_of_memory-requires : goal.out_of_memory-requires
out_of_memory-requires c =
    let office = c.args.office.now in
    let person = c.args.person.now in
    let codes = c.args.choices.now in
    let about = c.in_ok-round.ensures.problem in
    let ok : IsMarket (round_market office) = c.in_ok-round.ensures.well_formed in
    let numbered : number_in (round_people office) person ≡ Some c.in-Some.number =
    ap (λ names. number_in names person) (sym (c.deref.ensures.value ∙ about.people))
    ∙ sym c.number_in.ensures ∙ c.in-Some.is in
    let list : c.in_ok-list.list.items ≡ round_list office person codes =
    c.in_ok-list.ensures ∙ list-same office person codes c.as_slice.result.now
    (option_copied c.home_of.result)
    (maps.get c.in_ok-round.round.numbers) about.numbers c.home_of.ensures
    c.as_slice.ensures.rooms in
    let apart : AllPairs ◌≢◌ codes = codes_differ codes c.as_slice.ensures.choices.1 in
    let may : IsListFor (round_market office) c.in-Some.number (round_list office person codes) =
    fits office person c.in-Some.number codes numbered apart in
    sole_list_fault c.in_ok-round.round.problem c.in-Some.number c.in_ok-list.list.items
    (subst (λ m. IsListFor m c.in-Some.number c.in_ok-list.list.items) (sym about.market)
    (subst (λ l. IsListFor (round_market office) c.in-Some.number l) (sym list) may))
    c.in-Err.fault c.in-Err.ensures.first_fault
