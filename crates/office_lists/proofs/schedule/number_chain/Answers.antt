use Rattle.std.proofs.Common.{◌≡◌, ◌<◌, length, Some, sym, ap, ◌∙◌, add-one, arith}
use Rattle.std.specs.Prelude.{option_and_then}
use Rattle.room_types.proofs.options.Options.{none_if_never}
use Rattle.office_lists.specs.Waves.{next_entry, followed}
use Rattle.office_lists.proofs.move_days.Chains.{one_numbered, all_numbered}
use Rattle.office_lists.proofs.schedule.number_chain.Goals as goal

pub loop-at-preserved : goal.loop-at-preserved
loop-at-preserved c =
    let successors = c.args.successors.now in
    let count = c.loop-at.count in
    let end = c.args.end in
    let there : followed successors count end ≡ Some c.in-Some.here = sym c.loop-at.invariant.here ∙ c.in-Some.is in
    let within : c.in-Some.here < length c.loop-at.waves =
    omega (arith, c.requires.within count c.in-Some.here there, c.loop-at.invariant.numbered.same_length) in
    record {
      numbered =
          one_numbered successors end c.args.first count c.in-Some.here c.args.waves.now c.loop-at.waves
          c.loop-at.invariant.numbered there within;
      here = sym (ap (λ n. followed successors n end) (add-one count)
          ∙ ap (option_and_then (next_entry successors)) there);
    }

pub returns : goal.returns
returns c =
    all_numbered c.args.successors.now c.args.end c.args.first c.loop-at.count c.args.waves.now c.loop-at.waves
    c.loop-at.invariant.numbered (sym c.loop-at.invariant.here ∙ none_if_never c.loop-at.at c.in_default.not-Some)
