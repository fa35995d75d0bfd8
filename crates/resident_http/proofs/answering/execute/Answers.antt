use Rattle.std.proofs.Common.{ap, inl, sym}
use Rattle.resident_http.specs.DueResponses.{command_answer}
use Rattle.resident_http.proofs.answering.execute.Goals as goal

pub returns-in-Reply-clause-answers : goal.returns-in-Reply-clause-answers
returns-in-Reply-clause-answers g c =
    let success = ap (command_answer c.args.body) (sym c.in-Reply.is) in
    (c.args.body, c.in_ok-done.ensures, inl (c.handle.result, c.handle.ensures.handles, success))
