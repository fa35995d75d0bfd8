use Rattle.std.proofs.Common.{◌≡◌, ◌≤◌, ◌<◌, ◌+◌, ◌-◌, true, zero, suc, length, take, drop, arith, refl, ap, ◌∙◌, rules}
use Rattle.std.proofs.Common.{tests}
use Rattle.std.proofs.KnownBytes.{Appends-trans, Keeps-refl, Keeps-trans}
use Rattle.std.proofs.Math.Seq.{take-add}
use Rattle.std.proofs.lemmas.List.{length-drop, length-take}
use Rattle.std.specs.Prelude.{◌||◌, nat_lt, false}
use Rattle.room_types.specs.Watched.{counted, is_empty_buffer, watched_inner, watched_pending}
use Rattle.room_types.specs.Streams.{count_after}
use Rattle.room_types.proofs.watched_bytes.Streams.{Puts-nil, Puts-none, count_after-counted, take_rest, kept_by_write}
use Rattle.room_types.proofs.watched_bytes.Streams.{or_known, nonempty_buffer}
use Rattle.room_types.proofs.watched.sending.send_by.Goals as goal

pub loop-sent-init : goal.loop-sent-init
loop-sent-init g c = record {
  within = omega arith;
  written = Puts-nil _;
  writes = (zero, (refl, refl));
  flushes = refl;
  pends = λ some. absurd (omega (arith, some));
  failed = refl;
  left = Keeps-refl _;
  reads = refl;
  ended = refl;
  stops = λ e. refl;
}

pub loop-sent-preserved : goal.loop-sent-preserved
loop-sent-preserved g c =
    let clauses = c.in-Ok.ensures in
    let i = c.loop-sent.invariant in
    let text = c.args.text.now in
    let sent = c.loop-sent.sent in
    let n = c.in-Ok.n in
    let rest : take (length text - sent) (drop sent text) ≡ drop sent text = take_rest sent text in
    let bound = rw rest at clauses.bound in
    let all : sent + n ≤ length text = omega (arith, bound, length-drop sent text) in
    let some : 0 < n = search (rules, tests) in
    let took : nat_lt 0 n ≡ true = search (rules, tests) in
    let room : is_empty_buffer (take (length text - sent) (drop sent text)) ≡ false =
    rw rest (nonempty_buffer (drop sent text) (omega (arith, length-drop sent text))) in
    let counts : length (take sent text) + n ≡ length (take (sent + n) text) =
    omega (arith, length-take sent text, length-take (sent + n) text) in
    record {
      within = all;
      written = record {
        written = rw take-add (Appends-trans _ _ _ _ _ i.written.written (rw rest at clauses.bytes));
        taken = clauses.taken ∙ ap (λ t. counted t n) i.written.taken
            ∙ count_after-counted _ (length (take sent text)) n some ∙ ap (count_after _) counts;
      };
      writes = (
        suc i.writes.0,
        (
          sent,
          watched_inner c.loop-sent.device,
          i.writes.1,
          record { count = n; called = rw rest at clauses.called; some = some; sum = refl },
        ),
      );
      flushes = clauses.flushes ∙ i.flushes;
      pends = λ any. clauses.pending ∙ ap (λ t. t || watched_pending c.loop-sent.device) took;
      failed = clauses.failed ∙ kept_by_write _ _ n some ∙ i.failed;
      left = Keeps-trans _ _ _ i.left clauses.kept;
      reads = clauses.reads ∙ i.reads;
      ended = clauses.ended ∙ i.ended;
      stops = λ e. clauses.wasted ∙ or_known _ _ room ∙ or_known _ _ (i.failed ∙ e) ∙ i.stops e;
    }

pub returns-in-Ok-eq0-clause-prefix : goal.returns-in-Ok-eq0-clause-prefix
returns-in-Ok-eq0-clause-prefix g c =
    Puts-none _ _ _ _ _ _ c.loop-sent.invariant.written (omega arith) c.in-Ok-eq0.ensures.bytes
    c.in-Ok-eq0.ensures.taken (search (rules, tests))
