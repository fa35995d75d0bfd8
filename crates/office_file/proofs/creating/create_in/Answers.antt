use Rattle.std.proofs.Common.{inr}
use Rattle.office_file.proofs.creating.create_in.Goals as goal

pub returns-in-Err-create-clause-cause : goal.returns-in-Err-create-clause-cause
returns-in-Err-create-clause-cause g c = inr (record {
  connection = c.in-Ok.connection;
  between = c.open.new.self;
  opened = c.in-Ok.ensures.opened;
  refused = c.in-Err-create.back.connection;
  refuses = record {
    outside = c.in-Err-create.ensures.outside;
    follows = c.in-Err-create.ensures.followed;
    undone = c.in-Err-create.ensures.undone;
    cause = c.in-Err-create.ensures.cause;
    taken = c.in-Err-create.ensures.taken;
    foreign = c.in-Err-create.ensures.foreign;
    crash = c.in-Err-create.ensures.crash;
  };
  closed = c.close.ensures;
})
