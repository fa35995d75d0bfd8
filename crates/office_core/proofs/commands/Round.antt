-- The commands that lead a round from phase to phase, or cancel it, preserve the invariants.
use Rattle.std.proofs.Common.{Bool, List, Option, Some, T, [], ap, arith, cond, false, inl, inr, length}
use Rattle.std.proofs.Common.{map as map_list, not, refl, sym, true, ℕ, ◌+◌, ◌++◌, ◌||◌, ◌∙◌, ◌∷◌, ◌≡◌}
use Rattle.std.proofs.lemmas.Bool.{and_parts, eqb-true, leb-false, not-false}
use Rattle.std.proofs.lemmas.Map.Keys.{IsDistinct-from_sorted}
use Rattle.std.proofs.Math.Bool.{or-false}
use Rattle.std.specs.List.{list_any}
use Rattle.std.specs.Option.{is_some}
use Rattle.std.specs.Ordering.{eq_by_cmp, is_eq}
use Rattle.std.specs.FinMap.{entries_sorted, find, get-empty, get-entries, is_sorted}
use Rattle.std.specs.Cmp.{tied_itself}
use Rattle.std.specs.Cmp.Lexicographic.{nat_list_cmp_total}
use Rattle.std.specs.FinMap.Entries.{below_all}
use Rattle.std.specs.FinMap as map
use Rattle.room_types.specs.Texts.{Text, TextMap, text_cmp}
use Rattle.room_types.specs.declared.phase.Phase.TheVariants.{Closed, Drawn, Idle, Opened, Published, Ran}
use Rattle.room_types.proofs.maps.TextMaps.{first_holds, get-put_other, second_holds, text_cases}
use Rattle.room_types.proofs.maps.Entries.{none_below}
use Rattle.office_state.specs.Change.{AllFit, HomesStayDistinct, applied_all, without_round}
use Rattle.office_state.specs.Office.Invariants.{AreValidGrades, AreValidMoves, HomesDiffer, IsLawful}
use Rattle.office_state.specs.Office.Invariants.{IsValidRegister}
use Rattle.office_state.specs.Office.Moves.{RoundMap}
use Rattle.office_state.specs.declared.office.Office.{Office}
use Rattle.office_state.specs.declared.office.moves.RoundMoves.{RoundMoves}
use Rattle.office_state.specs.declared.office.person.Person.{Person}
use Rattle.office_state.specs.Office.Limits.{round_limit}
use Rattle.office_state.specs.Office.{knows_person, participants, sits_out}
use Rattle.office_state.specs.declared.change.Change.{Change}
use Rattle.office_state.specs.declared.change.Change.TheVariants.{PutRound}
use Rattle.office_state.specs.Round.{round_results}
use Rattle.office_state.specs.Puts.{with_all}
use Rattle.office_state.specs.declared.office.Assigned.{Assigned}
use Rattle.office_state.proofs.offices.Empty.{no_leavers, no_lists}
use Rattle.office_state.proofs.round_phases.Untouched.{closed_busy, closed_undrawn, drawn_busy, drawn_unran}
use Rattle.office_state.proofs.round_phases.Untouched.{drawn_worded, idle_preparing, moves_stay, open_busy}
use Rattle.office_state.proofs.round_phases.Untouched.{open_preparing, prepared, ran_busy, ran_given, ran_worded}
use Rattle.office_state.proofs.round_phases.Untouched.{results_undrawn, undrawn, words_undrawn}
use Rattle.office_state.proofs.offices.Leavers.{leaver_phase}
use Rattle.office_state.proofs.round_phases.Over.{over-begun, over-idle}
use Rattle.office_state.proofs.round_problems.People.{participants_ascend, participants_hold}
use Rattle.office_state.proofs.round_problems.Puts.{with_all-entries}
use Rattle.office_state.proofs.round_outcomes.Results.{contains_key-round_results}
use Rattle.office_state.proofs.round_outcomes.Stays.{round_results-along}
use Rattle.office_core.specs.Command.Changes.{result_change}
use Rattle.office_core.specs.Command.Round.{with_words}
use Rattle.office_core.specs.Command.{checks, next}
use Rattle.office_core.specs.declared.command.Command.TheVariants as command
use Rattle.office_core.proofs.refusals.Checks.{none_applies}
use Rattle.office_core.proofs.commands.Words.{with_words-has, word_changes-apart, word_changes-fit, word_changes-lead}
use Rattle.office_core.proofs.commands.CarriedOut.{IsCarriedOut, one_change}
use Rattle.office_core.proofs.commands.Frames.{under_way-lawful}

-- the office between two rounds, with these people and moves
abbrev pub ended : Office → TextMap Person → RoundMap RoundMoves → Office
ended office people moves =
    record (without_round office) { people = people; moves = moves; phase = Idle }

pub ended-lawful : (office : Office) (people : TextMap Person) (moves : RoundMap RoundMoves)
    → IsLawful office → IsValidRegister office.rooms people → AreValidGrades people office.grades
    → AreValidMoves (ended office people moves) → IsLawful (ended office people moves)
ended-lawful office people moves l register are_grades are_moves = record {
  kept = l.kept;
  grades = are_grades;
  leavers = no_leavers Idle people map.empty;
  register = register;
  lists = no_lists office.rooms people;
  round = record {
    few_rounds = l.round.few_rounds;
    numbered = λ e. absurd (cc);
    idle_choices = λ _. refl;
    idle_withdrawn = λ _. refl;
  };
  words = record { none = λ _. refl; each = λ e. absurd (cc) };
  results = results_undrawn (ended office people moves) refl refl;
  moves = are_moves;
}

pub open_round-leads : (office : Office) → IsCarriedOut office command.OpenRound
open_round-leads office l h =
    let (in_phase, (below_limit, _)) = none_applies (checks office command.OpenRound) h in
    let idle = not-false _ in_phase in
    let u = undrawn office l (prepared office.phase (idle_preparing office.phase idle)) in
    let few = leb-false round_limit office.number below_limit in
    one_change office (PutRound (office.number + 1) Opened) l tt
    (record {
      kept = l.kept;
      grades = l.grades;
      leavers = leaver_phase office.phase office.people office.withdrawn office.going l.leavers
          Opened refl;
      register = l.register;
      lists = l.lists;
      round = record {
        few_rounds = omega (arith, few);
        numbered = λ _. omega arith;
        idle_choices = λ e. absurd (cc);
        idle_withdrawn = λ e. absurd (cc);
      };
      words = words_undrawn Opened office.people office.withdrawn office.going office.words refl u.no_words;
      results = results_undrawn (next office command.OpenRound) refl u.no_results;
      moves = moves_stay office (next office command.OpenRound) refl (over-begun office idle) l.moves;
    })

pub close_round-leads : (office : Office) → IsCarriedOut office command.CloseRound
close_round-leads office l h =
    let (in_phase, _) = none_applies (checks office command.CloseRound) h in
    let busy = open_busy office.phase (not-false _ in_phase) in
    let u = undrawn office l (prepared office.phase (open_preparing office.phase (not-false _ in_phase))) in
    one_change office (PutRound office.number Closed) l tt
    (under_way-lawful office Closed office.words office.results l busy refl
    (words_undrawn Closed office.people office.withdrawn office.going office.words refl u.no_words)
    (results_undrawn (next office command.CloseRound) refl u.no_results))

pub draw-leads : (office : Office) (words : List ℕ) → IsCarriedOut office (command.Draw words)
draw-leads office words l h =
    let (in_phase, (counted, _)) = none_applies (checks office (command.Draw words)) h in
    let closed = not-false _ in_phase in
    let busy = closed_busy office.phase closed in
    let u = undrawn office l (closed_undrawn office.phase closed) in
    let people : List Text = participants office in
    let same : length words ≡ length people = eqb-true _ _ (not-false _ counted) in
    let new : Office = next office (command.Draw words) in
    let rest : List Change = PutRound office.number Drawn ∷ [] in
    let lawful : IsLawful new =
    under_way-lawful office Drawn (with_words map.empty people words) office.results l busy refl
    (record {
      none = λ e. absurd (cc);
      each = λ _ p.
          with_words-has map.empty people words p same
          ∙ ap (λ b. list_any (eq_by_cmp text_cmp p) people || b)
          (ap is_some (get-empty text_cmp p))
          ∙ or-false (list_any (eq_by_cmp text_cmp p) people)
          ∙ participants_hold office p;
    })
    (results_undrawn new refl u.no_results) in
    record {
      leads = word_changes-lead office people words rest
          ∙ ap (λ kept. record office { words = with_words kept people words; phase = Drawn })
          u.no_words;
      apart = word_changes-apart office people words rest l.register.homes
          (l.register.homes, l.register.homes);
      fits = word_changes-fit office office people words rest
          (IsDistinct-from_sorted text_cmp people (participants_ascend office))
          (λ q e. (
            (and_parts (knows_person office q) (not (sits_out office q))
                (sym (participants_hold office q) ∙ e)).0,
            ap (λ kept. map.contains_key kept q) u.no_words ∙ ap is_some (get-empty text_cmp q),
          ))
          (tt, tt);
      lawful = lawful;
    }

results-lead : (office : Office) (es : List (Text × Assigned)) (rest : List Change)
    → applied_all office (map_list result_change es ++ rest)
    ≡ applied_all (record office { results = with_all office.results es }) rest
results-lead office [] rest = refl
results-lead office (e ∷ es) rest =
    results-lead (record office { results = map.insert office.results e.0 e.1 }) es rest

results-apart : (office : Office) (es : List (Text × Assigned)) (rest : List Change)
    → HomesDiffer office → HomesStayDistinct (record office { results = with_all office.results es }) rest
    → HomesStayDistinct office (map_list result_change es ++ rest)
results-apart office [] rest differ s = s
results-apart office (e ∷ es) rest differ s = (
  differ,
  results-apart (record office { results = map.insert office.results e.0 e.1 }) es rest
      differ s,
)

found_later : {X : Type 0} (b : Bool) (x : X) (o : Option X) → is_some o ≡ true
    → is_some (cond b (Some x) o) ≡ true
found_later true x o e = refl
found_later false x o e = e

-- a person who is found after an entry of a sorted table is another one
found_below : {X : Type 0} (p : Text) (es : List (Text × X)) → T (below_all text_cmp p es)
    → (q : Text) → is_some (find text_cmp q es) ≡ true → eq_by_cmp text_cmp q p ≡ false
found_below p es below q found =
    elim (text_cases q p) as (λ _. eq_by_cmp text_cmp q p ≡ false) [
      | inl same ↦
          let no : true ≡ false = sym found
          ∙ ap (λ k. is_some (find text_cmp k es)) same
          ∙ ap is_some (none_below text_cmp p es below) in
          absurd (cc)
      | inr other ↦ other
    ]

-- the changes fit if each person who gets a result is known and has none yet
results-fit : (first office : Office) (es : List (Text × Assigned)) (rest : List Change)
    → T (is_sorted text_cmp es)
    → ((q : Text) → is_some (find text_cmp q es) ≡ true
    → (knows_person office q ≡ true) × (map.contains_key office.results q ≡ false))
    → AllFit first (record office { results = with_all office.results es }) rest
    → AllFit first office (map_list result_change es ++ rest)
results-fit first office [] rest sorted new s = s
results-fit first office (e ∷ es) rest sorted new s = (
  new e.0 (ap (λ o. is_some (cond (is_eq o) (Some e.1) (find text_cmp e.0 es)))
      (tied_itself nat_list_cmp_total e.0)),
  results-fit first (record office { results = map.insert office.results e.0 e.1 }) es rest
      (second_holds _ _ sorted)
      (λ q h. let there = new q (found_later (eq_by_cmp text_cmp q e.0) e.1 (find text_cmp q es) h) in (
        there.0,
        ap is_some (get-put_other office.results e.0 e.1 q
            (found_below e.0 es (first_holds _ _ sorted) q h)) ∙ there.1,
      )) s,
)

pub run-leads : (office : Office) → IsCarriedOut office command.Run
run-leads office l h =
    let (in_phase, _) = none_applies (checks office command.Run) h in
    let drawn = not-false _ in_phase in
    let busy = drawn_busy office.phase drawn in
    let new : Office = next office command.Run in
    let rest : List Change = PutRound office.number Ran ∷ [] in
    let entries = map.entries (round_results office) in
    let lawful : IsLawful new = under_way-lawful office Ran office.words (round_results office) l busy refl
    (record {
      none = λ e. absurd (cc);
      each = λ _. l.words.each (drawn_worded office.phase drawn);
    })
    (record {
      none = λ e. absurd (cc);
      given = λ _. sym (round_results-along office (round_results office) Ran);
    }) in
    record {
      leads = results-lead office entries rest
          ∙ ap (λ results. record office { results = results; phase = Ran })
          (ap (λ kept. with_all kept entries) (l.results.none (drawn_unran office.phase drawn))
          ∙ with_all-entries (round_results office));
      apart = results-apart office entries rest l.register.homes
          (l.register.homes, l.register.homes);
      fits = results-fit office office entries rest (entries_sorted (round_results office))
          (λ q e. (
            (and_parts (knows_person office q) (not (sits_out office q))
                (sym (contains_key-round_results office q)
                ∙ ap is_some (get-entries (round_results office) q) ∙ e)).0,
            ap (λ kept. map.contains_key kept q) (l.results.none (drawn_unran office.phase drawn))
                ∙ ap is_some (get-empty text_cmp q),
          ))
          (tt, tt);
      lawful = lawful;
    }

pub publish-leads : (office : Office) → IsCarriedOut office command.Publish
publish-leads office l h =
    let (in_phase, _) = none_applies (checks office command.Publish) h in
    let ran = not-false _ in_phase in
    let busy = ran_busy office.phase ran in
    one_change office (PutRound office.number Published) l tt
    (under_way-lawful office Published office.words office.results l busy refl
    (record {
      none = λ e. absurd (cc);
      each = λ _. l.words.each (ran_worded office.phase ran);
    })
    (record {
      none = λ e. absurd (cc);
      given = λ _. l.results.given (ran_given office.phase ran)
          ∙ sym (round_results-along office office.results Published);
    }))

pub cancel-leads : (office : Office) → IsCarriedOut office command.Cancel
cancel-leads office l h =
    let lawful : IsLawful (next office command.Cancel) =
    ended-lawful office office.people office.moves l l.register l.grades
    (moves_stay office (next office command.Cancel) refl (over-idle office) l.moves) in
    record {
      leads = refl;
      apart = (l.register.homes, (l.register.homes, l.register.homes));
      fits = (tt, (tt, tt));
      lawful = lawful;
    }
