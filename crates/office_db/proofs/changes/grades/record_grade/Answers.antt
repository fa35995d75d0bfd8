use Rattle.std.proofs.Common.{true≢false, refl, sym, ◌∙◌}
use Rattle.sqlite.specs.Held.{state}
use Rattle.office_schema.proofs.statements.Runs.{runs_so, some_of}
use Rattle.office_schema.proofs.statements.Steps.{inside_none}
use Rattle.office_db.proofs.changed_rows.Calls.{turns_grade, turns_none}
use Rattle.office_db.proofs.changes.grades.record_grade.Goals as goal

pub returns-then-is_first : goal.returns-then-is_first
returns-then-is_first g c =
    let old = state g.S.Store c.args.tx.now.conn.now in
    record {
      same_reference = refl;
      made = turns_none old old c.args.person.now c.args.grade (c.is_first.ensures.0 c.if-is_first.true);
      inside = inside_none old;
    }

pub returns : goal.returns
returns g c =
    some_of
    (runs_so c.add_grade.ensures
    (turns_grade _ _ c.args.person.now c.args.grade
    (λ none. true≢false (sym (c.is_first.ensures.1 none) ∙ c.if-is_first.false))
    c.lemma_text.ensures c.lemma_grade.ensures))
