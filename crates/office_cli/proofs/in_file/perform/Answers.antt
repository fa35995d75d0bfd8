use Rattle.std.proofs.Common.{map, refl}
use Rattle.office_cli.proofs.done_lines.AtDesk.{handles_words}
use Rattle.office_cli.proofs.done_lines.Rehearsed.{handles_lines}
use Rattle.office_cli.proofs.in_file.perform.Goals as goal

pub returns-in-Line-clause-performs : goal.returns-in-Line-clause-performs
returns-in-Line-clause-performs g c =
    let words = map (λ word. word.now) c.in-Line.words.items in
    rw c.in-Line.is (
      handles_words g.S.Store c.args.desk.now c.do_words.new.handler words c.do_words.result _ _
          (rw c.deref.ensures.value at c.do_words.ensures.does),
      refl,
      refl,
      refl,
    )

pub returns-in-Lines-clause-performs : goal.returns-in-Lines-clause-performs
returns-in-Lines-clause-performs g c =
    rw c.in-Lines.is (
      handles_lines g.S.Store c.rehearse.result.ending c.rehearse.result.status c.args.desk.now
          c.rehearse.new.handler _ _ _ _ c.rehearse.ensures.rehearses,
      refl,
      refl,
    )
