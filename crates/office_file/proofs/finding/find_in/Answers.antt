use Rattle.std.proofs.Common.{inr}
use Rattle.office_file.proofs.finding.find_in.Goals as goal

pub returns-in-Ok-adopt-clause-shows : goal.returns-in-Ok-adopt-clause-shows
returns-in-Ok-adopt-clause-shows g c = record {
  connection = c.in-Ok.connection;
  opened = c.in-Ok.ensures.found;
  laid = c.in-Ok-adopt.ensures.laid;
  follows = c.in-Ok-adopt.ensures.follows;
  committed = c.in-Ok-adopt.ensures.committed;
  cached = c.in-Ok-adopt.ensures.cached;
  shows = c.in-Ok-adopt.ensures.shows;
  unchanged = c.in-Ok-adopt.ensures.unchanged;
  other = c.in-Ok-adopt.ensures.other;
  crash = c.in-Ok-adopt.ensures.crash;
}

pub returns-in-Err-adopt-clause-cause : goal.returns-in-Err-adopt-clause-cause
returns-in-Err-adopt-clause-cause g c = inr (record {
  connection = c.in-Ok.connection;
  between = c.open_present.new.self;
  opened = c.in-Ok.ensures.found;
  refused = c.in-Err-adopt.back.connection;
  refuses = record {
    outside = c.in-Err-adopt.ensures.outside;
    follows = c.in-Err-adopt.ensures.followed;
    undone = c.in-Err-adopt.ensures.undone;
    unread = c.in-Err-adopt.ensures.unread;
    absent = λ none. (c.in-Err-adopt.ensures.absent none).0;
    allowed = c.in-Err-adopt.ensures.allowed;
    cause = c.in-Err-adopt.ensures.cause;
    other = c.in-Err-adopt.ensures.other;
    crash = c.in-Err-adopt.ensures.crash;
  };
  closed = c.close.ensures;
})
