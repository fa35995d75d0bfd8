use Rattle.std.proofs.Common.{sym}
use Rattle.office_lines.proofs.request_words.Rounds.{round_read}
use Rattle.office_lines.proofs.parse.values.round_number.Goals as goal

pub returns-in-Err : goal.returns-in-Err
returns-in-Err c =
    let read =
    round_read c.args.word.now c.parse.result c.parse.ensures.value.0 (sym c.if-not-is_round_number.ensures) in
    absurd (let failed = c.in-Err.is in cc)
