use Rattle.std.proofs.Common.{◌∙◌, sym, ap, Some}
use Rattle.std.specs.Option.{is_some}
use Rattle.office_state.specs.Office.{holder}
use Rattle.office_core.proofs.command.import.register.Register.of.Goals as goal

pub returns-clause-indexed : goal.returns-clause-indexed
returns-clause-indexed c =
    let same = sym c.in_ok-copy.ensures.copy in
    record {
      keys = λ key. c.in_ok-keys.ensures key
          ∙ ap (λ people. is_some (holder (λ p. Some p.key) people key)) same;
      homes = λ room. ap is_some (c.in_ok-tenants.ensures.tenants room)
          ∙ ap (λ people. is_some (holder (λ p. p.home) people room)) same;
    }
