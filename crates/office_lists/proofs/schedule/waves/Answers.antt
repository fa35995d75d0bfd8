use Rattle.std.proofs.Common.{◌≡◌, ℕ, ◌+◌, ◌≤◌, not, List, length, Option, None, Some, sym, ap, ◌∙◌, subst, arith}
use Rattle.std.proofs.lemmas.List.{with_items_is}
use Rattle.room_types.specs.declared.moves.Wave.{Wave}
use Rattle.room_types.proofs.options.Options.{none_if_not_some, some_of}
use Rattle.office_lists.specs.Waves.{leavers, end_numbers, end_number_at, next_entry, followed}
use Rattle.office_lists.specs.Inner.Successors.{AreInjective, AreSuccessors, NumbersChain}
use Rattle.office_lists.proofs.move_days.Following.{number-le}
use Rattle.office_lists.proofs.move_days.Chains.{AreNumberedTo, number-along, within-along, end_done, other_done}
use Rattle.office_lists.proofs.move_days.Chains.{fewer_done}
use Rattle.office_lists.proofs.move_days.Leavers.{first_at_most_one, leavers-injective, length-leavers, are_waves}
use Rattle.office_lists.proofs.move_days.Leavers.{are_computed}
use Rattle.office_lists.proofs.schedule.waves.Goals as goal
use Rattle.office_lists.proofs.schedule.waves.Goals.{then-is_none, else-is_none}

same_chain : (fs gs : List (Option ℕ)) (end first own : ℕ) (old was new : List Wave) → gs ≡ fs → was ≡ old → first ≡ own
    → NumbersChain gs end first was new → NumbersChain fs end own old new
same_chain fs gs end first own old was new same before number chain =
    subst (λ l. NumbersChain l end own old new) same
    (subst (λ ws. NumbersChain gs end own ws new) before (subst (λ n. NumbersChain gs end n was new) number chain))

pub successors-requires : goal.successors-requires
successors-requires c = subst AreInjective (sym (c.deref.ensures.value ∙ c.in_ok-leavers.ensures))
    (leavers-injective c.args.entries.now c.requires.new_rooms_differ)

pub number_chain-requires-clause-within : goal.number_chain-requires-clause-within
number_chain-requires-clause-within c = λ count i e.
    let at : followed c.in_ok-successors.successors.items count c.loop-end.end ≡ Some i =
    ap (λ fs. followed fs count c.loop-end.end) (sym c.deref-then-is_none.ensures.value) ∙ e in
    let within =
    within-along (end_numbers c.args.entries.now) c.deref-leaver-items.result.now
    c.in_ok-successors.successors.items c.loop-end.invariant.linked count c.loop-end.end i
    c.loop-end-test.true at in
    omega (arith, within, c.loop-end.invariant.numbered.same_length, ap length c.deref_mut.ensures.value)

pub number_chain-requires-clause-short : goal.number_chain-requires-clause-short
number_chain-requires-clause-short c = λ count i e.
    let ls = c.deref-leaver-items.result.now in
    let fs = c.in_ok-successors.successors.items in
    let end = c.loop-end.end in
    let at : followed fs count end ≡ Some i =
    ap (λ l. followed l count end) (sym c.deref-then-is_none.ensures.value) ∙ e in
    let last : next_entry ls end ≡ None =
    none_if_not_some (next_entry ls end) (c.is_none.ensures ∙ ap not c.if-is_none.true) in
    let apart : AreInjective ls =
    subst AreInjective (sym c.loop-end.invariant.leavers)
    (leavers-injective c.args.entries.now c.requires.new_rooms_differ) in
    let ends = end_numbers c.args.entries.now in
    let few = number-le ends ls apart (first_at_most_one c.args.entries.now) (count + end_number_at ends end) i
    (within-along ends ls fs c.loop-end.invariant.linked count end i c.loop-end-test.true at)
    (number-along ends ls fs c.loop-end.invariant.linked count end i last at) in
    omega (arith, few, ap length c.loop-end.invariant.leavers, length-leavers c.args.entries.now, c.requires.few)

pub loop-end-preserved : goal.loop-end-preserved
loop-end-preserved c =
    let ls = c.deref-leaver-items.result.now in
    let fs = c.in_ok-successors.successors.items in
    let end = c.loop-end.end in
    let ends = end_numbers c.args.entries.now in
    record {
      leavers = c.loop-end.invariant.leavers;
      linked = c.loop-end.invariant.linked;
      numbered =
          elim c.if-is_none.branch [
            | then-is_none w ↦
                let last : next_entry ls end ≡ None =
                none_if_not_some (next_entry ls end) (c.is_none.ensures ∙ ap not w.if-is_none.true) in
                let same = w.deref-then-is_none.ensures.value in
                let was = w.deref_mut.ensures.value in
                let new = w.number_chain.new.waves in
                let many = w.number_chain.auto.waves ∙ ap length was in
                subst (λ ws. AreNumberedTo ends ls fs (end + 1) ws)
                (sym (ap (λ v. v.items) w.waves-is ∙ with_items_is c.loop-end.waves new
                (w.number_chain.auto.waves ∙ w.deref_mut.ensures.len)))
                (end_done ends ls fs c.loop-end.invariant.linked end c.loop-end.waves.items new
                c.loop-end.invariant.numbered last many
                (same_chain fs w.deref-then-is_none.result.now end w.end_number_at-first.result
                (end_number_at ends end) c.loop-end.waves.items w.deref_mut.result.now new same was
                w.end_number_at-first.ensures.value w.number_chain.ensures))
            | else-is_none w ↦
                let more = some_of (next_entry ls end) (c.is_none.ensures ∙ ap not w.if-is_none.false) in
                subst (λ ws. AreNumberedTo ends ls fs (end + 1) ws) (sym (ap (λ v. v.items) w.waves-is))
                (other_done ends ls fs c.loop-end.invariant.linked end c.loop-end.waves.items
                c.loop-end.invariant.numbered more.0 more.1)
          ];
    }

-- after the loop, all entries are passed
passed : (ends : List ℕ) (ls all : List (Option ℕ)) (fs : List (Option ℕ)) (count : ℕ) (waves : List Wave) → ls ≡ all
    → length ls ≤ count → AreNumberedTo ends ls fs count waves → AreNumberedTo ends all fs (length all) waves
passed ends ls all fs count waves same low so =
    subst (λ l. AreNumberedTo ends l fs (length l) waves) same (fewer_done ends ls fs (length ls) count waves low so)

pub returns-clause-each : goal.returns-clause-each
returns-clause-each c =
    let entries = c.args.entries.now in
    let fs = c.in_ok-successors.successors.items in
    are_waves entries c.requires.new_rooms_differ fs c.loop-end.waves.items
    (subst (λ ls. AreSuccessors ls fs) c.loop-end.invariant.leavers c.loop-end.invariant.linked)
    (passed (end_numbers entries) c.deref-leaver-items.result.now (leavers entries) fs c.loop-end.end
    c.loop-end.waves.items c.loop-end.invariant.leavers c.loop-end-test.false c.loop-end.invariant.numbered)

pub returns-clause-computed : goal.returns-clause-computed
returns-clause-computed c =
    let entries = c.args.entries.now in
    let fs = c.in_ok-successors.successors.items in
    are_computed entries c.requires.new_rooms_differ fs c.loop-end.waves.items
    (subst (λ ls. AreSuccessors ls fs) c.loop-end.invariant.leavers c.loop-end.invariant.linked)
    (passed (end_numbers entries) c.deref-leaver-items.result.now (leavers entries) fs c.loop-end.end
    c.loop-end.waves.items c.loop-end.invariant.leavers c.loop-end-test.false c.loop-end.invariant.numbered)
