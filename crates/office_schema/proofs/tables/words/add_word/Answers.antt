use Rattle.std.proofs.Common.{◌≡◌, rules}
use Rattle.room_types.specs.Words.{word_text}
use Rattle.office_schema.proofs.statements.Made.{makes_word}
use Rattle.office_schema.proofs.statements.Runs.{runs_so}
use Rattle.office_schema.proofs.tables.words.add_word.Goals as goal

pub returns : goal.returns
returns g c =
    let digits : c.as_str-2.result.now ≡ word_text c.args.word = search rules in
    runs_so c.run.ensures
    (λ ran. makes_word _ _ c.args.person.now c.args.word
    (λ clean. rw (c.params-to_sql.ensures, c.params-to_sql-2.ensures, c.as_str.ensures.text, digits)
    at (ran clean)))
