use Rattle.std.proofs.Common.{rules, arith, ap, length}
use Rattle.std.specs.FinMap.{len-entries}
use Rattle.office_state.proofs.office.Office.participant_count.Goals as goal

pub loop-id-init : goal.loop-id-init
loop-id-init c = record {
  can = search rules;
  ends = search rules;
  counted = search rules;
  fits = omega (
    arith,
    c.iter-id-items.ensures.fits,
    len-entries c.args.self.now.people,
    ap length
        c.iter-id-items.ensures.rest,
    ap length c.into_iter-id-iterator.ensures.into_iter_gives,
  );
}
