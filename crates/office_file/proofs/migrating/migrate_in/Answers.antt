use Rattle.std.proofs.Common.{inr}
use Rattle.office_file.proofs.migrating.migrate_in.Goals as goal

pub returns-in-Ok-migrate-clause-shows : goal.returns-in-Ok-migrate-clause-shows
returns-in-Ok-migrate-clause-shows g c = record {
  connection = c.in-Ok.connection;
  opened = c.in-Ok.ensures.found;
  laid = c.in-Ok-migrate.ensures.laid;
  follows = c.in-Ok-migrate.ensures.follows;
  committed = c.in-Ok-migrate.ensures.committed;
  cached = c.in-Ok-migrate.ensures.cached;
  stated = c.in-Ok-migrate.ensures.stated;
  shows = c.in-Ok-migrate.ensures.shows;
  taken = c.in-Ok-migrate.ensures.taken;
  other = c.in-Ok-migrate.ensures.other;
  crash = c.in-Ok-migrate.ensures.crash;
}

pub returns-in-Err-migrate-clause-cause : goal.returns-in-Err-migrate-clause-cause
returns-in-Err-migrate-clause-cause g c = inr (record {
  connection = c.in-Ok.connection;
  between = c.open_present.new.self;
  opened = c.in-Ok.ensures.found;
  refused = c.in-Err-migrate.back.connection;
  refuses = record {
    outside = c.in-Err-migrate.ensures.outside;
    follows = c.in-Err-migrate.ensures.followed;
    undone = c.in-Err-migrate.ensures.undone;
    unread = c.in-Err-migrate.ensures.unread;
    absent = λ none. (c.in-Err-migrate.ensures.absent none).0;
    allowed = c.in-Err-migrate.ensures.allowed;
    cause = c.in-Err-migrate.ensures.cause;
    taken = c.in-Err-migrate.ensures.taken;
    rows = c.in-Err-migrate.ensures.rows;
    other = c.in-Err-migrate.ensures.other;
    crash = c.in-Err-migrate.ensures.crash;
  };
  closed = c.close.ensures;
})
