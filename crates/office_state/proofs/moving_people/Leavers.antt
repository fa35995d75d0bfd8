-- Those who leave the college: they get no room, and nobody else loses a room without getting another.
use Rattle.std.proofs.Common.{◌≡◌, Bool, true, false, not, ◌&&◌, ◌||◌, Some, None, cond, refl, ap, ◌∙◌, sym}
use Rattle.std.specs.Option.{option_and_then}
use Rattle.std.specs.List.{filter}
use Rattle.std.specs.FinMap as map
use Rattle.std.specs.FinMap.{get-empty}
use Rattle.std.proofs.lemmas.Bool.{and_parts, not-true}
use Rattle.std.proofs.lemmas.List.Elements.{All-map, filter_passes}
use Rattle.room_types.specs.Texts.{Text, text_cmp}
use Rattle.office_lists.specs.Waves.{Relocation}
use Rattle.office_state.specs.Office.Invariants.{IsLawful}
use Rattle.office_state.specs.Office.Phases.{has_results}
use Rattle.office_state.specs.Office.{has_withdrawn, home_of, is_going, is_same_text, knows_person}
use Rattle.office_state.specs.Office.{people_not_withdrawn, recorded_result}
use Rattle.office_state.specs.Round.{is_participant, result_of}
use Rattle.office_state.specs.Round.Settlement.{is_settled, changes_home, OnlyLeaversMoveOut}
use Rattle.office_state.specs.declared.office.Assigned.{Assigned}
use Rattle.office_state.specs.declared.office.Office.{Office}
use Rattle.office_state.proofs.round_problems.Problem.{lawful-IsMarket}
use Rattle.office_state.proofs.round_problems.Rooms.{tenant_gets}
use Rattle.office_state.proofs.round_outcomes.Results.{get-round_results}
use Rattle.office_state.proofs.moving_people.Settled.{moving, recorded_is}

goer_is_out : (known left goes : Bool) → goes ≡ true → (known && not (left || goes)) ≡ false
goer_is_out true true goes e = refl
goer_is_out true false goes e = ap not e
goer_is_out false left goes e = refl

-- a person who leaves has no result
pub leaver_unplaced : (office : Office) (p : Text) → IsLawful office
    → is_going office p ≡ true → recorded_result office p ≡ None
leaver_unplaced office p l goes =
    elim (has_results office.phase) as
    (λ b. has_results office.phase ≡ b → recorded_result office p ≡ None) [
      | true ↦ λ there.
          ap (option_and_then (λ (given : Assigned). given.room))
          (ap (λ kept. map.get kept p) (l.results.given there) ∙ get-round_results office p
          ∙ ap (λ b. cond b (Some (record { room = result_of office p })) None)
          (goer_is_out (knows_person office p) (has_withdrawn office p) (is_going office p) goes))
      | false ↦ λ before.
          ap (option_and_then (λ (given : Assigned). given.room))
          (ap (λ kept. map.get kept p) (l.results.none before) ∙ get-empty text_cmp p)
    ] refl

module _ (office : Office) (l : IsLawful office) (there : has_results office.phase ≡ true) where
  -- a participant who moves gets a room
  relocated_if_given : (p : Text) → is_participant office p ≡ true → changes_home office p ≡ true
      → recorded_result office p ≡ None → ⊥
  relocated_if_given p part out nothing =
      elim (home_of office p) as
      (λ o. home_of office p ≡ o → not (is_same_text o None) ≡ true → ⊥) [
        | None ↦ λ _ stays. cc
        | Some room ↦ λ lives _.
            tenant_gets office (lawful-IsMarket office l) p room l.register
            part lives
            (sym (recorded_is office l.register (lawful-IsMarket office l)
            (l.results.given there) p part) ∙ nothing)
      ] refl (ap (λ o. not (is_same_text (home_of office p) o)) (sym nothing) ∙ out)

  unplaced_goes : (p : Text) → is_settled office p ≡ true → changes_home office p ≡ true
      → recorded_result office p ≡ None → is_going office p ≡ true
  unplaced_goes p settled out nothing =
      elim (is_going office p) as (λ b. is_going office p ≡ b → b ≡ true) [
        | true ↦ λ _. refl
        | false ↦ λ stays.
            let parts = and_parts (knows_person office p) (not (has_withdrawn office p)) settled in
            let in_round : has_withdrawn office p ≡ false = not-true (has_withdrawn office p) parts.1 in
            let part : is_participant office p ≡ true = (λ i. parts.0 i && not (in_round i || stays i)) in
            absurd (relocated_if_given p part out nothing)
      ] refl

  -- a person who moves and gets no room leaves the college
  pub only_leavers : OnlyLeaversMoveOut office
  only_leavers =
      All-map (λ (m : Relocation). m.2 ≡ None → is_going office m.0 ≡ true)
      (λ p. (p, home_of office p, recorded_result office p))
      (filter (changes_home office) (people_not_withdrawn office))
      (λ k d b nothing. unplaced_goes _
      (moving office l.register (lawful-IsMarket office l) (l.results.given there) k d b)
      (filter_passes (changes_home office) (people_not_withdrawn office) k d b) nothing)
