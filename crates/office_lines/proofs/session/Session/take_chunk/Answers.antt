use Rattle.std.proofs.Common.{rules, ◌≡◌, ◌+◌, ◌∷◌, ◌++◌, [], take, drop, get_or, arith, ap, sym, ◌∙◌}
use Rattle.std.proofs.lemmas.List.{take_more, take-append-drop}
use Rattle.std.proofs.lemmas.Result.{err_from_is_err_and}
use Rattle.office_lines.proofs.handled.Sessions.{Handled-append, Handled-Halted, Halted-more, OnlyWhereFailed-since}
use Rattle.office_lines.proofs.session.Session.take_chunk.Goals as goal

pub returns-in_err-take_byte-clause-halted : goal.returns-in_err-take_byte-clause-halted
returns-in_err-take_byte-clause-halted g c =
    let p = err_from_is_err_and c.from_residual.result c.from_residual.ensures.1 in
    let i = c.loop-byte.byte-index in
    let chunk = c.args.chunk.now in
    let all : (take i chunk ++ get_or chunk i 0 ∷ []) ++ drop (i + 1) chunk ≡ chunk =
    ap (λ l. l ++ drop (i + 1) chunk) (sym (take_more chunk i 0 (omega arith))) ∙ take-append-drop (i + 1) chunk in
    rw (p.1, p.2)
    (rw all at (Halted-more _ _ _ _ _ _ (drop (i + 1) chunk)
    (Handled-Halted _ _ _ _ _ _ (take i chunk) _ c.loop-byte.invariant.handled c.in_err-take_byte.ensures.halted)))

pub returns-in_err-take_byte-clause-failed : goal.returns-in_err-take_byte-clause-failed
returns-in_err-take_byte-clause-failed g c =
    let p = err_from_is_err_and c.from_residual.result c.from_residual.ensures.1 in
    rw (p.1, p.2)
    (search (rules, OnlyWhereFailed-since, c.loop-byte.invariant.handled.failed, c.in_err-take_byte.ensures.failed))

pub loop-byte-preserved : goal.loop-byte-preserved
loop-byte-preserved g c =
    let i = c.loop-byte.byte-index in
    let chunk = c.args.chunk.now in
    let more : take (i + 1) chunk ≡ take i chunk ++ get_or chunk i 0 ∷ [] = take_more chunk i 0 (omega arith) in
    record {
      handled =
          rw more (search (rules, Handled-append, c.loop-byte.invariant.handled, c.in_ok-take_byte.ensures.handled));
      bound = omega (arith, c.in_ok-take_byte.ensures.bound);
      stops = λ e. cc (
        c.take_byte.ensures.no_wasted_write (c.loop-byte.invariant.handled.failed ∙ e),
        c.loop-byte.invariant.stops e,
      );
      ready = c.take_byte.ensures.ready;
    }
