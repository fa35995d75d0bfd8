use Rattle.std.proofs.Common.{◌≡◌, List, [], sym, ap, ◌∙◌}
use Rattle.std.specs.Prelude.{unwrap_or, Option}
use Rattle.room_types.specs.Texts.{Text}
use Rattle.office_schema.specs.rows.Inner.Gathered.{list_at}
use Rattle.office_schema.proofs.rows_read.Gathering.{turn}
use Rattle.office_schema.proofs.rows.choices.gather.Goals.{in-Some, in-None}
use Rattle.office_schema.proofs.rows.choices.gather.Goals as goal

pub loop-row-preserved : goal.loop-row-preserved
loop-row-preserved c =
    let row = c.row-item.result in
    let codes_are : c.match-take.codes ≡ list_at c.loop-row.lists row.person = elim c.match-take.branch [
      | in-Some w ↦ w.codes-is ∙ ap (λ (o : Option (List Text)). unwrap_or o [])
          (sym w.in-Some.is ∙ c.take.ensures.value)
      | in-None w ↦ w.codes-is ∙ w.empty-codes.ensures ∙ ap (λ (o : Option (List Text)). unwrap_or o [])
          (sym w.in-None.is ∙ c.take.ensures.value)
    ] in
    c.loop-row.invariant
    ∙ turn c.loop-row.lists c.take.new.self c.insert.new.self c.args.rows.now c.loop-row.row-index row
    c.match-take.codes c.push.new.self c.in_ok-copy-2.field-0 c.in_ok-copy.field-0
    c.loop-row-test.true c.row-item.is codes_are (c.if-row-len.false ∙ c.len.ensures) c.take.ensures.gone
    c.in_ok-copy-2.ensures c.in_ok-copy.ensures c.in_ok-push.ensures.ok c.in_ok-insert.ensures.ok
