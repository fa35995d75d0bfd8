use Rattle.office_cli.proofs.carrying_out.carry_out_over.Goals as goal

pub returns-clause-carries_out : goal.returns-clause-carries_out
returns-clause-carries_out g c = (_, _, _, _, _, _, c.carry_out_from.ensures.carries_out)
