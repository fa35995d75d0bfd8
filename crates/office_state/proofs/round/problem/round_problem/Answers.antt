use Rattle.std.proofs.Common.{◌≡◌, ℕ, None, [], map, Vec, Global, sym, ap, subst, ◌∙◌}
use Rattle.std.specs.List.{All}
use Rattle.std.specs.FinMap as maps
use Rattle.room_types.specs.Repeats.{first_repeated}
use Rattle.trade_line.specs.Market.{IsMarket}
use Rattle.trade_line.specs.Problem.{market_of}
use Rattle.office_state.specs.Office.{choices_of}
use Rattle.office_state.specs.Round.{round_market, number_in}
use Rattle.office_state.proofs.round_problems.Problem.{market-IsMarket, market-same, sole_fault}
use Rattle.office_state.proofs.round.problem.round_problem.Goals as goal

pub out_of_memory-requires : goal.out_of_memory-requires
out_of_memory-requires c =
    let made : market_of c.len.result c.len-2.result c.in_ok-homes.homes.items
    c.in_ok-lists.lists.items ≡ round_market c.args.office.now =
    market-same c.args.office.now c.len.result c.len-2.result c.deref-3.result.now
    c.deref-2.result.now c.deref-3.result.now c.deref.result.now c.deref.result.now
    c.in_ok-homes.homes.items (map (λ (list : Vec ℕ Global). list.items) c.in_ok-lists.lists.items)
    (maps.get c.in_ok-numbers.numbers)
    (c.deref-3.ensures.value ∙ c.in_ok-people.ensures.people)
    (c.deref-2.ensures.value ∙ c.in_ok-people.ensures.people)
    (c.deref-3.ensures.value ∙ c.in_ok-people.ensures.people)
    (c.deref.ensures.value ∙ c.in_ok-rooms.ensures) (c.deref.ensures.value ∙ c.in_ok-rooms.ensures)
    (c.len.ensures ∙ sym c.deref-3.ensures.len)
    (c.len-2.ensures ∙ sym c.deref.ensures.len) c.in_ok-numbers.ensures c.in_ok-homes.ensures
    c.in_ok-lists.ensures.lists in
    let ok : IsMarket (round_market c.args.office.now) =
    market-IsMarket c.args.office.now c.requires
    (subst (λ people. All (λ p. first_repeated [] (choices_of c.args.office.now p) ≡ None) people)
    (c.deref-3.ensures.value ∙ c.in_ok-people.ensures.people) c.in_ok-lists.ensures.differ) in
    sole_fault (market_of c.len.result c.len-2.result c.in_ok-homes.homes.items
    c.in_ok-lists.lists.items) (subst IsMarket (sym made) ok) c.in-Err.fault
    c.in-Err.ensures.first_fault

pub returns-in-Ok-clause-problem : goal.returns-in-Ok-clause-problem
returns-in-Ok-clause-problem c =
    let made : market_of c.len.result c.len-2.result c.in_ok-homes.homes.items
    c.in_ok-lists.lists.items ≡ round_market c.args.office.now =
    market-same c.args.office.now c.len.result c.len-2.result c.deref-3.result.now
    c.deref-2.result.now c.deref-3.result.now c.deref.result.now c.deref.result.now
    c.in_ok-homes.homes.items (map (λ (list : Vec ℕ Global). list.items) c.in_ok-lists.lists.items)
    (maps.get c.in_ok-numbers.numbers)
    (c.deref-3.ensures.value ∙ c.in_ok-people.ensures.people)
    (c.deref-2.ensures.value ∙ c.in_ok-people.ensures.people)
    (c.deref-3.ensures.value ∙ c.in_ok-people.ensures.people)
    (c.deref.ensures.value ∙ c.in_ok-rooms.ensures) (c.deref.ensures.value ∙ c.in_ok-rooms.ensures)
    (c.len.ensures ∙ sym c.deref-3.ensures.len)
    (c.len-2.ensures ∙ sym c.deref.ensures.len) c.in_ok-numbers.ensures c.in_ok-homes.ensures
    c.in_ok-lists.ensures.lists in
    record {
      people = c.in_ok-people.ensures.people;
      rooms = c.in_ok-rooms.ensures;
      numbers = λ room. c.in_ok-numbers.ensures room
          ∙ ap (λ names. number_in names room) (c.deref.ensures.value ∙ c.in_ok-rooms.ensures);
      market = c.in-Ok.ensures.problem ∙ made;
    }

pub returns-in-Ok-clause-well_formed : goal.returns-in-Ok-clause-well_formed
returns-in-Ok-clause-well_formed c =
    market-IsMarket c.args.office.now c.requires
    (subst (λ people. All (λ p. first_repeated [] (choices_of c.args.office.now p) ≡ None) people)
    (c.deref-3.ensures.value ∙ c.in_ok-people.ensures.people) c.in_ok-lists.ensures.differ)
