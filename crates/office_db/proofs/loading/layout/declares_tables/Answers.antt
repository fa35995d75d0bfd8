use Rattle.office_db.proofs.found_offices.Among.{declares-Decides}
use Rattle.office_db.proofs.loading.layout.declares_tables.Goals as goal

pub returns : goal.returns
returns c =
    declares-Decides c.args.layout c.args.schema.now _
    (rw (c.as_slice.ensures, c.order.ensures.order, c.tables.ensures) at c.are_declared.ensures)
