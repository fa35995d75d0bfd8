use Rattle.std.proofs.Common.{rules, tests, ◌<◌, ◌≤◌, length, arith}
use Rattle.std.proofs.lemmas.Result.{MatchResult-weaker}
use Rattle.office_lines.specs.Lines.{line_limit}
use Rattle.office_lines.proofs.handled.Sessions.{Finished-answered, Unfinished-broken}
use Rattle.office_lines.proofs.session.Session.answer_rest.Goals as goal

pub returns-clause-finished : goal.returns-clause-finished
returns-clause-finished g c =
    let some : 0 < length c.args.self.now.partial_line.items = search (rules, tests) in
    search (rules, MatchResult-weaker, Finished-answered, c.answer_line.ensures.answered, some)

pub returns-clause-unfinished : goal.returns-clause-unfinished
returns-clause-unfinished g c =
    let line = c.args.self.now.partial_line in
    let some : 0 < length line.items = search (rules, tests) in
    let short : length line.items ≤ line_limit = omega (arith, line.ok.0, c.args.self.now.short) in
    search (rules, MatchResult-weaker, Unfinished-broken, c.answer_line.ensures.broken, some, short)
