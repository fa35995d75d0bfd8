use Rattle.std.proofs.Common.{inl}
use Rattle.office_cli.proofs.in_file.with_office.Goals as goal

pub returns-in-Ok-clause-performs : goal.returns-in-Ok-clause-performs
returns-in-Ok-clause-performs g c =
    inl (record {
      desk = c.in-Ok.desk;
      between = c.find_in.new.files;
      last = c.perform-status.new.desk;
      begins = c.in-Ok.ensures.shows;
      done = c.perform-status.ensures.performs;
      outside = c.close.ensures.outside;
      committed = c.close.ensures.committed;
      closed = c.close.ensures.closed;
    })
