use Rattle.std.proofs.Common.{◌≡◌, [], take, rules, tests, arith, ◌∙◌, inr, ap, refl}
use Rattle.std.proofs.lemmas.Result.{err_from_is_err_and}
use Rattle.std.proofs.lemmas.Grind.{common_steps}
use Rattle.std.proofs.Math.Bool.{or-true, or-false}
use Rattle.room_types.specs.Watched.{counted}
use Rattle.room_types.proofs.watched_bytes.Streams.{counted_one, kept_by_write, or_known, nonempty_buffer}
use Rattle.office_lines.proofs.handled.Sessions.{InputHandled-nil, InputHandled-more, InputHandled-longer}
use Rattle.office_lines.proofs.handled.Sessions.{InputHandled-end, Stopped-halted, Stopped-failed, Stopped-cut}
use Rattle.office_lines.proofs.handled.Sessions.{OnlyWhereFailed-since, read_once}
use Rattle.office_lines.proofs.rehearse.handle_input.Goals as goal

pub returns-in_err-take_chunk-in-Ok-clause-stopped : goal.returns-in_err-take_chunk-in-Ok-clause-stopped
returns-in_err-take_chunk-in-Ok-clause-stopped g c =
    let p = err_from_is_err_and c.from_residual.result c.from_residual.ensures.1 in
    rw (p.1, p.2)
    (Stopped-halted _ _ _ _ _ _ _ _ _ _ c.reads.invariant.handled c.in-Ok.ensures.bytes.0
    c.in_err-take_chunk-in-Ok.ensures.halted
    (grind (arith, common_steps, c.in-Ok.ensures.bound))
    (read_once _ _ _ _ c.in-Ok.ensures.reads c.reads.invariant.count c.reads.invariant.each
    (omega (arith, c.reads-test.true)))
    (c.in-Ok.ensures.failed ∙ or-false _ ∙ c.reads.invariant.failed))

pub returns-in_err-take_chunk-in-Ok-clause-failed : goal.returns-in_err-take_chunk-in-Ok-clause-failed
returns-in_err-take_chunk-in-Ok-clause-failed g c =
    let p = err_from_is_err_and c.from_residual.result c.from_residual.ensures.1 in
    rw (p.1, p.2)
    (search (
      rules,
      OnlyWhereFailed-since,
      c.reads.invariant.handled.handled.failed,
      c.in_err-take_chunk-in-Ok.ensures.failed,
    ))

pub returns-in-Err-clause-stopped : goal.returns-in-Err-clause-stopped
returns-in-Err-clause-stopped g c = Stopped-failed _ _ _ _ _ _ c.reads.invariant.handled c.in-Err.ensures.bytes
    (read_once _ _ _ _ c.in-Err.ensures.reads c.reads.invariant.count c.reads.invariant.each
    (omega (arith, c.reads-test.true))) c.reads.invariant.begun (c.in-Err.ensures.failed ∙ or-true _)

pub returns-in-Ok-eq0-clause-handled : goal.returns-in-Ok-eq0-clause-handled
returns-in-Ok-eq0-clause-handled g c =
    let none : take c.in-Ok-eq0.field-0 c.read.new.buf ≡ [] =
    ap (λ n. take n c.read.new.buf) c.in-Ok-eq0.field-0-test in
    InputHandled-end _ _ _ _ _ _ _ c.reads.invariant.handled (rw none at c.in-Ok-eq0.ensures.bytes.0)
    (read_once _ _ _ _ c.in-Ok-eq0.ensures.reads c.reads.invariant.count c.reads.invariant.each
    (omega (arith, c.reads-test.true)))

pub returns-in-Err-clause-failed : goal.returns-in-Err-clause-failed
returns-in-Err-clause-failed g c = c.reads.invariant.handled.handled.failed

pub reads-preserved : goal.reads-preserved
reads-preserved g c = record {
  handled =
      search (
        rules,
        InputHandled-more,
        c.reads.invariant.handled,
        c.in-Ok.ensures.bytes.0,
        c.in_ok-take_chunk-in-Ok.ensures.handled,
      );
  each = InputHandled-longer _ _ _ _ _ _ _ _ c.reads.invariant.handled c.in-Ok.ensures.bytes.0
      c.in_ok-take_chunk-in-Ok.ensures.handled c.reads.counter
      c.reads.invariant.each (grind (arith, common_steps, c.in-Ok.ensures.bound));
  bound = grind (arith, common_steps, c.in_ok-take_chunk-in-Ok.ensures.bound, c.in-Ok.ensures.bound);
  failed = c.in-Ok.ensures.failed ∙ or-false _ ∙ c.reads.invariant.failed;
  ended = c.in-Ok.ensures.ended ∙ kept_by_write _ _ c.in-Ok.n (search (rules, tests)) ∙ c.reads.invariant.ended;
  begun = omega (arith, c.take_chunk.new.self.partial_line.ok.0, c.take_chunk.new.self.short);
  no_wasted_read =
      λ e d. c.in-Ok.ensures.wasted
      ∙ or_known _ _ (nonempty_buffer c.read.new.buf (grind (arith, common_steps, c.in-Ok.ensures.bound)))
      ∙ or_known _ _ (c.reads.invariant.ended ∙ d) ∙ or_known _ _ (c.reads.invariant.failed ∙ e)
      ∙ c.reads.invariant.no_wasted_read e d;
  no_wasted_write = λ e. c.in_ok-take_chunk-in-Ok.ensures.no_wasted_write (c.reads.invariant.handled.handled.failed ∙ e)
      ∙ c.reads.invariant.no_wasted_write e;
  count = c.in-Ok.ensures.reads ∙ ap (λ n. counted n 1) c.reads.invariant.count
      ∙ counted_one c.reads.counter (omega (arith, c.reads-test.true));
  ready = c.in_ok-take_chunk-in-Ok.ensures.ready;
}

pub returns-clause-stopped : goal.returns-clause-stopped
returns-clause-stopped g c =
    Stopped-cut _ _ _ _ _ c.reads.invariant.handled (omega (arith, c.reads.invariant.count, c.reads.invariant.each))
    c.reads.invariant.begun (inr (omega arith, omega (arith, c.reads.invariant.each)))

pub returns-clause-failed : goal.returns-clause-failed
returns-clause-failed g c = c.reads.invariant.handled.handled.failed

pub reads-init : goal.reads-init
reads-init g c = record {
  handled = search (rules, InputHandled-nil);
  each = omega arith;
  bound = omega (arith, c.requires.sent);
  count = c.requires.reads;
  failed = refl;
  ended = refl;
  begun = omega (arith, c.args.session.now.partial_line.ok.0, c.args.session.now.short);
  no_wasted_read = λ e d. refl;
  no_wasted_write = λ e. refl;
  ready = c.requires.ready;
}
