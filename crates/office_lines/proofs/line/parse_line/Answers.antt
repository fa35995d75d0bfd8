use Rattle.std.proofs.Common.{sym, ◌∙◌}
use Rattle.office_lines.proofs.request_words.Parsing.{named_line, parsed_line-not_utf8, parsed_line-utf8}
use Rattle.office_lines.proofs.line.parse_line.Goals as goal

pub returns-in-Ok-clause-meaning : goal.returns-in-Ok-clause-meaning
returns-in-Ok-clause-meaning c =
    let plain = sym c.is_comment.ensures ∙ c.if-is_comment.false in
    let cut = c.strip_carriage_return-text.ensures in
    let blank = sym c.is_blank.ensures ∙ c.if-is_blank.false in
    let read = parsed_line-utf8 c.args.line.now plain (rw cut at blank) (rw cut at c.in-Ok.ensures.cases.1) in
    rw read (rw (c.in-Ok.ensures.cases.0, cut) at c.parse_request.ensures.meaning)

pub returns-in-Ok-clause-named : goal.returns-in-Ok-clause-named
returns-in-Ok-clause-named c =
    let cut = c.strip_carriage_return-text.ensures in
    let named = rw (c.in-Ok.ensures.cases.0, cut) at c.parse_request.ensures.named in
    named_line c.parse_request.result c.args.line.now (rw cut at c.in-Ok.ensures.cases.1) named

pub returns-in-Err-clause-meaning : goal.returns-in-Err-clause-meaning
returns-in-Err-clause-meaning c =
    let plain = sym c.is_comment.ensures ∙ c.if-is_comment.false in
    let cut = c.strip_carriage_return-text.ensures in
    let blank = sym c.is_blank.ensures ∙ c.if-is_blank.false in
    sym (parsed_line-not_utf8 c.args.line.now plain (rw cut at blank) (rw cut at c.in-Err.ensures.cases.0))
