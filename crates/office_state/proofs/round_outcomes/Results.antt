-- The results of a round as they are recorded: one for each participant, by identifier.
use Rattle.std.proofs.Common.{◌≡◌, ℕ, ◌<◌, true, false, cond}
use Rattle.std.proofs.Common.{List, [], ◌∷◌, ◌||◌, Option, Some, None, map, refl}
use Rattle.std.proofs.Common.{sym, ap, ◌∙◌, subst, inl, inr}
use Rattle.std.specs.Option.{option_map, option_and_then, is_some}
use Rattle.std.specs.Ordering.{eq_by_cmp}
use Rattle.std.specs.Cmp.Lexicographic.{nat_list_cmp_total}
use Rattle.std.specs.List.{slice_get, list_any}
use Rattle.std.specs.List.Sorted.{IsStrictlySortedBy}
use Rattle.std.specs.Map.{keys_of}
use Rattle.std.specs.FinMap as maps
use Rattle.std.specs.FinMap.{find, get-from_entries, same_map}
use Rattle.room_types.proofs.maps.Trees.{entries-sorted}
use Rattle.room_types.specs.Texts.{Text, TextMap, text_cmp}
use Rattle.room_types.proofs.maps.TextMaps.{exact_texts, text_cases, unequal_texts}
use Rattle.trade_line.specs.Assignment.{given_in}
use Rattle.trade_line.specs.Market.{IsMarket}
use Rattle.trade_line.specs.TopTradingCycles.{gets, ttc}
use Rattle.trade_line.proofs.welfare.Given.{given_gets}
use Rattle.office_state.specs.Office.{participants}
use Rattle.office_state.specs.Round.{is_participant, round_people, round_rooms, round_market}
use Rattle.office_state.specs.Round.{round_room, result_of}
use Rattle.office_state.specs.Round.{round_results, number_in}
use Rattle.office_state.specs.declared.office.Assigned.{Assigned}
use Rattle.office_state.specs.declared.office.Office.{Office}
use Rattle.office_state.proofs.round_problems.Names.{number_in-below}
use Rattle.office_state.proofs.round_problems.People.{participants_ascend, participants_hold}
use Rattle.office_state.proofs.round_problems.People.{participant_number}
use Rattle.office_state.proofs.round_problems.Problem.{market_people}

find_named : {A : Type 0} (f : Text → A) (names : List Text) (q : Text)
    → find text_cmp q (map (λ name. (name, f name)) names)
    ≡ cond (list_any (eq_by_cmp text_cmp q) names) (Some (f q)) None
find_named f [] q = refl
find_named f (name ∷ names) q =
    elim (text_cases q name) as (λ _. cond (eq_by_cmp text_cmp q name) (Some (f name))
    (find text_cmp q (map (λ n. (n, f n)) names))
    ≡ cond (eq_by_cmp text_cmp q name || list_any (eq_by_cmp text_cmp q) names)
    (Some (f q)) None) [
      | inl same ↦ elim (eq_by_cmp text_cmp q name) as
          (λ b. eq_by_cmp text_cmp q name ≡ b
          → cond b (Some (f name)) (find text_cmp q (map (λ n. (n, f n)) names))
          ≡ cond (b || list_any (eq_by_cmp text_cmp q) names) (Some (f q)) None) [
            | true ↦ λ e. ap (λ t. Some (f t)) (sym same)
            | false ↦ λ e. absurd (unequal_texts q name same e)
          ] refl
      | inr other ↦
          ap (λ b. cond b (Some (f name)) (find text_cmp q (map (λ n. (n, f n)) names))) other
          ∙ find_named f names q
          ∙ sym (ap (λ b. cond (b || list_any (eq_by_cmp text_cmp q) names) (Some (f q)) None)
          other)
    ]

-- what the table of results has for a person
pub get-round_results : (office : Office) (person : Text)
    → maps.get (round_results office) person
    ≡ cond (is_participant office person) (Some (record { room = result_of office person })) None
unfolding round_results
get-round_results office person =
    get-from_entries nat_list_cmp_total
    (map (λ p. (p, record { room = result_of office p })) (participants office)) person
    ∙ find_named (λ p. record { room = result_of office p }) (participants office) person
    ∙ ap (λ b. cond b (Some (record { room = result_of office person })) None)
    (participants_hold office person)

pub contains_key-round_results : (office : Office) (person : Text)
    → maps.contains_key (round_results office) person ≡ is_participant office person
contains_key-round_results office person =
    ap is_some (get-round_results office person)
    ∙ (let given : Assigned = record { room = result_of office person } in
    elim (is_participant office person) as
    (λ b. is_some (cond b (Some given) None) ≡ b) [ true ↦ refl | false ↦ refl ])

keys_named : {A : Type 0} (f : Text → A) (names : List Text)
    → keys_of (map (λ name. (name, f name)) names) ≡ names
keys_named f [] = refl
keys_named f (name ∷ names) = ap (λ (rest : List Text). name ∷ rest) (keys_named f names)

-- the results are in order of identifier
pub entries-round_results : (office : Office)
    → maps.entries (round_results office)
    ≡ map (λ person. (person, record { room = result_of office person })) (participants office)
unfolding round_results
entries-round_results office =
    entries-sorted nat_list_cmp_total
    (map (λ person. (person, record { room = result_of office person })) (participants office))
    (subst (λ names. IsStrictlySortedBy text_cmp names)
    (sym (keys_named (λ person. record { room = result_of office person })
    (participants office))) (participants_ascend office))

-- what the run gives, by name
pub results-same : (office : Office) (results : TextMap Assigned) (people rooms : List Text)
    (given : List (Option ℕ)) → IsMarket (round_market office)
    → people ≡ round_people office → rooms ≡ round_rooms office → given ≡ ttc (round_market office)
    → ((person : Text) → maps.get results person
    ≡ option_map (λ number. record
    { room = option_and_then (slice_get rooms) (given_in given number) })
    (number_in people person))
    → results ≡ round_results office
unfolding result_of
results-same office results people rooms given ok is_people is_rooms is_given returned =
    same_map nat_list_cmp_total exact_texts results (round_results office) (λ person.
    let by_number : ℕ → Assigned =
    λ number. record { room = round_room office (gets (round_market office) number) } in
    let as_given : ℕ → Assigned =
    λ number. record {
      room = round_room office
          (given_in (ttc (round_market office)) number);
    } in
    returned person
    ∙ (λ i. option_map (λ number. record
    { room = option_and_then (slice_get (is_rooms i)) (given_in (is_given i) number) })
    (number_in (is_people i) person))
    ∙ elim (number_in (round_people office) person) as
    (λ o. number_in (round_people office) person ≡ o → is_some o ≡ is_participant office person
    → option_map as_given o ≡ cond (is_participant office person)
    (Some (record {
      room = option_and_then
          (λ number. round_room office (gets (round_market office) number)) o;
    })) None) [
      | None ↦ λ e part. ap (λ b. cond b (Some (record { room = None })) None) part
      | Some number ↦ λ e part.
          ap (λ o. Some (record { room = round_room office o }))
          (given_gets (round_market office) ok number
          (subst (λ n. number < n) (sym (market_people office))
          (number_in-below (round_people office) person number e)))
          ∙ ap (λ b. cond b (Some (by_number number)) None) part
    ] refl (participant_number office person)
    ∙ sym (get-round_results office person))
