use Rattle.office_cli.proofs.done_lines.AtDesk.{no_list, opened_list}
use Rattle.office_cli.specs.ListAccess.{list_access_of}
use Rattle.office_cli.proofs.importing.import_at.Goals as goal

pub returns-in-Ok-clause-imports : goal.returns-in-Ok-clause-imports
returns-in-Ok-clause-imports g c =
    let list_access =
    list_access_of g.L.Lists.opens g.L.Lists.fails g.L.Lists.closes g.L.List.Source.reads g.L.List.Read.remaining in
    let list = c.import_list-status in
    opened_list g.S.Store list_access c.args.lists.now _ c.close.new.self _ c.args.kind c.args.label c.args.list.now
    list.result _ _ (record {
      source = c.in-Ok.source;
      source' = list.new.source;
      between = c.open.new.self;
      opened = c.in-Ok.ensures.opened;
      unused = c.in-Ok.ensures.unused;
      few = list.ensures.few;
      no_wasted_read = list.ensures.no_wasted_read;
      imports = list.ensures.imports;
      closed = c.close.ensures;
    })

pub returns-in-Err-clause-imports : goal.returns-in-Err-clause-imports
returns-in-Err-clause-imports g c =
    let list_access =
    list_access_of g.L.Lists.opens g.L.Lists.fails g.L.Lists.closes g.L.List.Source.reads g.L.List.Read.remaining in
    no_list g.S.Store list_access c.args.lists.now c.open.new.self _ c.args.kind c.args.label c.args.list.now
    c.print_unavailable.result _ _ c.in-Err.ensures.failed c.print_unavailable.ensures.prints
