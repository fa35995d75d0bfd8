-- Settling preserves the invariants.
use Rattle.std.proofs.Common.{◌≡◌, ℕ, ◌≤◌, ◌<◌, true, false, ◌&&◌, List, [], ◌∷◌, length, get_or, map as map_list}
use Rattle.std.proofs.Common.{Some, None, cond, refl, ap, ◌∙◌, sym, subst, inl, inr, ◌⊎◌, arith}
use Rattle.std.specs.Option.{is_some, option_and_then, option_map}
use Rattle.std.specs.List.{All, AllByRecursion}
use Rattle.std.proofs.lemmas.Bool.{not-false, le-leb}
use Rattle.std.proofs.lemmas.List.Elements.{All-map, recursion_from_All}
use Rattle.std.proofs.lemmas.List.Sorted.{All-permutation}
use Rattle.std.specs.FinMap as map
use Rattle.room_types.specs.Ascending.{ascending}
use Rattle.room_types.specs.Texts.{Text, TextMap}
use Rattle.room_types.specs.declared.moves.Move.{Move}
use Rattle.room_types.specs.declared.phase.Phase.TheVariants.{Idle}
use Rattle.room_types.proofs.arranged.Arrangements.{arrangements_agree}
use Rattle.office_lists.specs.MoveDay.{move_cmp}
use Rattle.office_lists.specs.Waves.{Relocation, waves_of}
use Rattle.office_lists.proofs.move_days.Leavers.{length-waves_of}
use Rattle.office_lists.proofs.move_days.MoveDayLists.{move_total}
use Rattle.office_state.specs.Change.{without_round, LeadsTo}
use Rattle.office_state.specs.Office.Invariants.{IsLawful, IsValidRegister, Unshared}
use Rattle.office_state.specs.Office.Moves.{moves_of}
use Rattle.office_state.specs.Office.Phases.{is_published}
use Rattle.office_state.specs.Office.{home_of, is_over, recorded_result}
use Rattle.office_state.specs.Round.{round_results}
use Rattle.office_state.specs.Round.Settlement.{relocations, settled_moves, settled_people, with_moves}
use Rattle.office_state.specs.declared.change.Change.{Change}
use Rattle.office_state.specs.declared.change.Change.TheVariants.{ClearRound, PutRound}
use Rattle.office_state.specs.declared.office.Office.{Office}
use Rattle.office_state.specs.declared.office.person.Person.{Person}
use Rattle.office_state.proofs.offices.Moves.{no_moves_known}
use Rattle.office_state.proofs.round_phases.Over.{over-idle, under_way-not_over}
use Rattle.office_state.proofs.round_phases.Untouched.{published_busy, published_given}
use Rattle.office_state.proofs.moving_people.Relocations.{relocates, relocation_to, settled, get-settled}
use Rattle.office_state.proofs.moving_people.Relocations.{relocation_to-by, each_relocation}
use Rattle.office_state.proofs.moving_people.Relocations.{left_people, arrived_people, people_settled, left_home}
use Rattle.office_state.proofs.moving_people.Relocations.{stays_settled}
use Rattle.office_state.proofs.round_problems.Problem.{lawful-IsMarket}
use Rattle.office_state.proofs.moving_people.Settled.{KeepsMoves, with_moves-keeps, fresh, leave_first}
use Rattle.office_state.proofs.moving_people.Settled.{relocations_lead, relocations_differ, new_rooms_differ}
use Rattle.office_state.proofs.moving_people.Settled.{settled_register}
use Rattle.office_state.proofs.moving_people.Settling.{home_in}
use Rattle.office_core.specs.Command.{accepts, checks, next}
use Rattle.office_core.specs.Command.Changes.{changes_of, first_out}
use Rattle.office_core.specs.declared.command.Command.TheVariants as command
use Rattle.office_core.proofs.refusals.Checks.{none_applies}
use Rattle.office_core.proofs.commands.Round.{ended-lawful}
use Rattle.office_core.proofs.settlements.Moving.{relocation_of, relocations_of, all_moves, all_cleared}
use Rattle.office_core.proofs.settlements.Moving.{relocates-ascending, relocates-first_out, no_swap, FindEmpty}
use Rattle.office_core.proofs.settlements.Moving.{empty_in_order}
use Rattle.office_core.proofs.settlements.Settling.{left-lead, arrived-lead, moves-lead, left-apart}
use Rattle.office_core.proofs.settlements.Settling.{arrived-apart, moves-apart, left-fit, Leads}
use Rattle.office_core.proofs.settlements.Settling.{arrived-fit, moves-fit}

-- no moves are recorded for a round that is under way
none_yet : (office : Office) → IsLawful office → is_over office office.number ≡ false
    → (ms : List Relocation) → AllByRecursion
    (λ (m : Relocation). map.contains_key (moves_of office.moves office.number) m.0 ≡ false) ms
none_yet office l open_round [] = tt
none_yet office l open_round (m ∷ ms) = (
  no_moves_known office.moves office.number m.0
      (λ known. let over = l.moves.over office.number known in cc),
  none_yet office l open_round ms,
)

module _ (office : Office) (l : IsLawful office) (h : accepts office command.Settle ≡ None) where
  abbrev ms : List Relocation
  ms = relocations office

  abbrev moves : List Move
  moves = settled_moves office

  abbrev order : List Move
  order = ascending move_cmp moves

  abbrev gone : List Relocation
  gone = map_list relocation_of (first_out moves)

  abbrev left : TextMap Person
  left = left_people office.people gone

  published : is_published office.phase ≡ true
  published = let (in_phase, _) = none_applies (checks office command.Settle) h in not-false _ in_phase

  results_are_given : office.results ≡ round_results office
  results_are_given = l.results.given (published_given office.phase published)

  -- everybody who is known is still known after settling
  still_known : (p : Text) → map.contains_key office.people p ≡ true
      → map.contains_key (settled_people office) p ≡ true
  still_known p known =
      ap is_some (get-settled office p)
      ∙ elim (map.get office.people p) as
      (λ o. is_some o ≡ true → is_some (option_map (settled office p) o) ≡ true) [
        | None ↦ λ h. h
        | Some kept ↦ λ h. refl
      ] known

  -- what holds for all moves holds for all of them in the order of the day
  in_order : (P : Move → Type 0) → All P moves → All P order
  in_order P h = All-permutation P moves order (arrangements_agree move_cmp move_total moves).some.same_items h

  gets : (rows : List Move) → All (λ (m : Move). m.to ≡ recorded_result office m.person) rows
      → AllByRecursion (λ (m : Relocation). m.2 ≡ recorded_result office m.0) (map_list relocation_of rows)
  gets rows h =
      recursion_from_All (λ (m : Relocation). m.2 ≡ recorded_result office m.0) (map_list relocation_of rows)
      (All-map (λ (m : Relocation). m.2 ≡ recorded_result office m.0) relocation_of rows h)

  order_gets : All (λ (m : Move). m.to ≡ recorded_result office m.person) order
  order_gets = in_order (λ m. m.to ≡ recorded_result office m.person)
      (all_moves (λ m. m.to ≡ recorded_result office m.person) office.number ms (waves_of ms) (length-waves_of ms)
      (λ k within. each_relocation office (λ m. m.2 ≡ recorded_result office m.0) (λ p. refl) k
      ([], None, None) within))

  -- the moves in the order of the day move the same people
  same_people : (q : Text) → relocates (map_list relocation_of order) q ≡ relocates ms q
  same_people q =
      relocates-ascending moves q
      ∙ ap (λ each. relocates each q) (relocations_of office.number ms (waves_of ms) (length-waves_of ms))

  same_rooms : (q : Text) → relocation_to (map_list relocation_of order) q ≡ relocation_to ms q
  same_rooms q =
      relocation_to-by (recorded_result office) (map_list relocation_of order) q (gets order order_gets)
      ∙ ap (λ b. cond b (Some (recorded_result office q)) None) (same_people q)
      ∙ sym (relocation_to-by (recorded_result office) ms q
      (recursion_from_All (λ (m : Relocation). m.2 ≡ recorded_result office m.0) ms
      (each_relocation office (λ m. m.2 ≡ recorded_result office m.0) (λ p. refl))))

  -- the changes lead to the settled people
  arrived_are_settled : arrived_people left (map_list relocation_of order) ≡ settled_people office
  arrived_are_settled = people_settled office gone (map_list relocation_of order)
      (λ q h. relocates-ascending moves q ∙ relocates-first_out moves q h) same_rooms

  settled_register_is_valid : IsValidRegister office.rooms (settled_people office)
  settled_register_is_valid = settled_register office l.register (lawful-IsMarket office l) results_are_given

  relocation_leads : (k : ℕ) → k < length ms → (room : Text)
      → (get_or ms k ([], None, None)).2 ≡ Some room
      → home_in (settled_people office) (get_or ms k ([], None, None)).0 ≡ Some room
  relocation_leads k within =
      relocations_lead office l.register (lawful-IsMarket office l) results_are_given k ([], None, None) within

  moves_lead : All (Leads (settled_people office)) moves
  moves_lead =
      all_moves (Leads (settled_people office)) office.number ms (waves_of ms) (length-waves_of ms) relocation_leads

  -- anyone who lives in the new room of a relocation is its person, or relocates too
  known : (k : ℕ) (q room : Text) → k < length ms → (get_or ms k ([], None, None)).2 ≡ Some room
      → home_of office q ≡ Some room
      → (q ≡ (get_or ms k ([], None, None)).0) ⊎ (relocates ms q ≡ true)
  known k q room within goes lives =
      elim (relocates ms q) as (λ b. relocates ms q ≡ b
      → (q ≡ (get_or ms k ([], None, None)).0) ⊎ (relocates ms q ≡ true)) [
        | true ↦ λ relocation. inr relocation
        | false ↦ λ stays. inl (settled_register_is_valid.homes q (get_or ms k ([], None, None)).0 room
            (ap (option_and_then (λ (p : Person). p.home)) (stays_settled office q stays) ∙ lives)
            (relocation_leads k within room goes))
      ] refl

  find_empty : FindEmpty (home_in left) order
  find_empty = empty_in_order (home_in left) moves
      (all_cleared office.number ms
      (new_rooms_differ office l.register (lawful-IsMarket office l) results_are_given) (home_of office)
      (home_in left) l.register.homes each_from
      (λ q room lives. let h = left_home office.people gone q room lives in (h.1, no_swap moves q h.0))
      known)
    where
      each_from : (k : ℕ) → k < length ms
          → (get_or ms k ([], None, None)).1 ≡ home_of office (get_or ms k ([], None, None)).0
      each_from k within =
          each_relocation office (λ m. m.1 ≡ home_of office m.0) (λ p. refl) k ([], None, None) within

  pub settle-leads : LeadsTo office (next office command.Settle) (changes_of office command.Settle)
  settle-leads =
      let busy = published_busy office.phase published in
      let ok = lawful-IsMarket office l in
      let new : Office = next office command.Settle in
      let there : TextMap Person = arrived_people left (map_list relocation_of order) in
      let rest : List Change = ClearRound ∷ PutRound office.number Idle ∷ [] in
      let differ : Unshared (λ p. p.home) there =
      subst (λ people. Unshared (λ p. p.home) people) (sym arrived_are_settled) settled_register_is_valid.homes in
      let numbered : 1 ≤ office.number = l.round.numbered busy in
      let fine : is_over new office.number ≡ true =
      (λ i. le-leb 1 office.number numbered i
      && le-leb office.number office.number (omega arith) i && true) in
      let kept : KeepsMoves (is_over new) new.moves =
      with_moves-keeps (is_over new) office.moves office.number ms (waves_of ms)
      (record {
        over = λ round known. over-idle office round (l.moves.over round known);
        none_empty = l.moves.none_empty;
        arrived = l.moves.arrived;
      })
      fine (leave_first ms) in
      record {
        leads =
            left-lead office (first_out moves) _
            ∙ arrived-lead (record office { people = left }) order _
            ∙ moves-lead (record office { people = there }) moves rest
            ∙ ap (λ people. record (without_round office)
            { people = people; moves = with_moves office.moves moves; phase = Idle }) arrived_are_settled;
        apart =
            left-apart office (first_out moves) _ l.register.homes
            (λ apart. arrived-apart (record office { people = left })
            (settled_people office) order _ apart settled_register_is_valid.homes
            (in_order (Leads (settled_people office)) moves_lead) find_empty
            (moves-apart (record office { people = there }) moves rest differ
            (differ, (differ, differ))));
        fits =
            left-fit office office (first_out moves) _
            (arrived-fit office (record office { people = left }) order _
            (moves-fit office (record office { people = there }) moves rest
            (fresh office.moves office.number ms (waves_of ms)
            (none_yet office l (under_way-not_over office busy) ms)
            (relocations_differ office l.register ok results_are_given)) (tt, (tt, tt))));
        lawful = ended-lawful office (settled_people office) new.moves l settled_register_is_valid
            (record { graded = λ p h. still_known p (l.grades.graded p h); none_zero = l.grades.none_zero })
            (record { over = kept.over; none_empty = kept.none_empty; arrived = kept.arrived });
      }
