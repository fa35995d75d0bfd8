use Rattle.std.proofs.Common.{arith, sym}
use Rattle.room_types.proofs.repeats.Repeats.{first_repeated-found}
use Rattle.room_types.proofs.choices.first_repeated.Goals as goal

pub returns-then-contains : goal.returns-then-contains
returns-then-contains c =
    sym (rw c.if-contains.true
    at (first_repeated-found c.args.codes.now c.loop-i.i c.index-codes-i.result c.contains.result
    (omega arith) c.index-codes-i.is c.loop-i.invariant c.contains.ensures.value))

pub loop-i-preserved : goal.loop-i-preserved
loop-i-preserved c =
    rw c.if-contains.false at (first_repeated-found c.args.codes.now c.loop-i.i c.index-codes-i.result c.contains.result
    (omega arith) c.index-codes-i.is c.loop-i.invariant c.contains.ensures.value)
