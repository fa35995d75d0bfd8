use Rattle.office_core.proofs.imports.Indexed.{still_indexed}
use Rattle.office_core.proofs.command.import.register.Register.add.Goals as goal

pub returns-clause-indexed : goal.returns-clause-indexed
returns-clause-indexed c =
    rw (
      c.in_ok-insert-2.ensures.ok,
      c.in_ok-insert.ensures.ok,
      c.in_ok-place_in_register.ensures,
      c.in_ok-copy.ensures,
      c.in_ok-copy-2.ensures,
      c.in_ok-copy-3.ensures,
      c.in_ok-copy_optional.ensures.copy,
      c.in_ok-copy-4.ensures,
    )
    (still_indexed c.args.self.now.people c.args.self.now.keys c.args.self.now.tenants
    c.args.entry.now.person (record {
      name = c.args.entry.now.name;
      key = c.args.entry.now.key;
      home = c.args.entry.now.home;
    }) c.requires.unknown c.requires.indexed)
