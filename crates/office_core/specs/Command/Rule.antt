-- What the office does with one command.
use Rattle.std.specs.Prelude.{List}
use Rattle.office_state.specs.declared.office.Office.{Office}
use Rattle.office_core.specs.Refusal.Checks.{Check}
use Rattle.office_core.specs.declared.reply.Reply.{Reply}

-- The checks come in the order in which the office makes them. The office after the command and the reply count only
-- if no check refuses.
pub record CommandRule : Type 0 where
  pub checks : Office → List Check
  pub next : Office → Office
  pub reply : Office → Reply
