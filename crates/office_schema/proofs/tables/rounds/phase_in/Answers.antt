use Rattle.office_schema.proofs.cell_texts.TextCells.{phase_utf8}
use Rattle.office_schema.proofs.tables.rounds.phase_in.Goals as goal

pub returns-in_default-clause-returned : goal.returns-in_default-clause-returned
returns-in_default-clause-returned c w = (rw c.in_default.is at c.str_in.ensures) (_, w.1, phase_utf8 w.0)
