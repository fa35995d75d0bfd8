use Rattle.std.proofs.Common.{rules, ◌<◌, length, sym, ap, ◌∙◌, subst}
use Rattle.std.specs.FinMap as map
use Rattle.std.proofs.lemmas.Result.{IfOk-weaker, on_err_weaker}
use Rattle.office_schema.specs.rows.Rows.{AreStorableLists, choice_rows}
use Rattle.office_schema.specs.rows.Inner.Gathered.{gathered}
use Rattle.office_schema.specs.rows.Reads.{Reads}
use Rattle.office_schema.proofs.rows_read.Gathering.{fewer_moved, gathered-from, reads-none, reads-some}
use Rattle.office_schema.proofs.rows.choices.read_choices.Goals as goal

pub returns-in_default-clause-reads : goal.returns-in_default-clause-reads
returns-in_default-clause-reads c =
    reads-none c.args.rows.items c.sort_choice_rows.new.rows.items c.sort_choice_rows.ensures.moved
    c.sort_choice_rows.ensures.ascending
    (ap (gathered map.empty) (sym c.as_slice.ensures.value) ∙ sym c.in_ok-lists.ensures.gathers ∙ c.in_default.is)

pub returns-clause-reads : goal.returns-clause-reads
returns-clause-reads c =
    IfOk-weaker c.all_chosen.result _ _
    (λ found e. subst (λ o. Reads AreStorableLists choice_rows c.args.rows.items o) (sym e)
    (reads-some c.args.rows.items c.sort_choice_rows.new.rows.items c.sort_choice_rows.ensures.moved
    c.sort_choice_rows.ensures.ascending c.in-Some.lists
    (ap (gathered map.empty) (sym c.as_slice.ensures.value) ∙ sym c.in_ok-lists.ensures.gathers ∙ c.in-Some.is)))
    c.all_chosen.ensures.chooses

pub returns-in_err-lists-clause-memory : goal.returns-in_err-lists-clause-memory
returns-in_err-lists-clause-memory c =
    let some =
    fewer_moved c.args.rows.items c.sort_choice_rows.new.rows.items c.sort_choice_rows.ensures.moved
    (subst (λ rows. 0 < length rows) c.as_slice.ensures.value c.in_err-lists.ensures.memory) in
    search (rules, some)

pub returns-clause-memory : goal.returns-clause-memory
returns-clause-memory c =
    on_err_weaker c.all_chosen.result (λ some.
    fewer_moved c.args.rows.items c.sort_choice_rows.new.rows.items c.sort_choice_rows.ensures.moved
    (gathered-from c.sort_choice_rows.new.rows.items c.in-Some.lists
    (ap (gathered map.empty) (sym c.as_slice.ensures.value) ∙ sym c.in_ok-lists.ensures.gathers ∙ c.in-Some.is) some))
    c.all_chosen.ensures.memory
