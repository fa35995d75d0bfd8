use Rattle.std.proofs.Common.{rules, tests, ◌≡◌, ◌≤◌, ◌<◌, length, arith, eqb, false}
use Rattle.std.proofs.lemmas.Result.{MatchResult-weaker}
use Rattle.office_lines.specs.Lines.{line_limit}
use Rattle.office_lines.proofs.handled.Sessions.{newline_handled, newline_halted, longer_handled, too_long, no_memory}
use Rattle.office_lines.proofs.session.Session.take_byte.Goals as goal

pub returns-then-byte-eq10-clause-handled : goal.returns-then-byte-eq10-clause-handled
returns-then-byte-eq10-clause-handled g c =
    let line = c.args.self.now.partial_line in
    let short : length line.items ≤ line_limit = omega (arith, line.ok.0, c.args.self.now.short) in
    search (rules, MatchResult-weaker, newline_handled, c.answer_line.ensures.answered, c.if-byte-eq10.true, short)

pub returns-then-byte-eq10-clause-halted : goal.returns-then-byte-eq10-clause-halted
returns-then-byte-eq10-clause-halted g c =
    let line = c.args.self.now.partial_line in
    let short : length line.items ≤ line_limit = omega (arith, line.ok.0, c.args.self.now.short) in
    search (rules, MatchResult-weaker, newline_halted, c.answer_line.ensures.broken, c.if-byte-eq10.true, short)

pub returns-then-len-ge-LINE_LIMIT-clause-halted : goal.returns-then-len-ge-LINE_LIMIT-clause-halted
returns-then-len-ge-LINE_LIMIT-clause-halted g c =
    let other : eqb c.args.byte 10 ≡ false = search (rules, tests) in
    let line = c.args.self.now.partial_line in
    let long : length line.items ≡ line_limit =
    omega (arith, line.ok.0, c.len.ensures, c.if-len-ge-LINE_LIMIT.true, c.args.self.now.short) in
    search (rules, too_long, other, long)

pub returns-in-Ok-clause-handled : goal.returns-in-Ok-clause-handled
returns-in-Ok-clause-handled g c =
    let other : eqb c.args.byte 10 ≡ false = search (rules, tests) in
    rw c.in-Ok.ensures.items (search (rules, longer_handled, other))

pub returns-in-Err-clause-halted : goal.returns-in-Err-clause-halted
returns-in-Err-clause-halted g c =
    let other : eqb c.args.byte 10 ≡ false = search (rules, tests) in
    let room : length c.args.self.now.partial_line.items < line_limit =
    omega (arith, c.args.self.now.partial_line.ok.0, c.len.ensures, c.if-len-ge-LINE_LIMIT.false) in
    search (rules, no_memory, other, room)
