use Rattle.std.proofs.Common.{◌≡◌, ◌<◌, ◌-◌, zero, suc, false, [], ap, length, take, drop, rules, tests, arith, ◌∙◌}
use Rattle.std.proofs.Common.{refl, true≢false}
use Rattle.std.proofs.KnownBytes.{Consumes-kept, Consumes-nil}
use Rattle.std.proofs.Math.Bool.{or-false}
use Rattle.std.proofs.lemmas.List.{length-take-le, length-take, length-drop}
use Rattle.room_types.specs.Watched.{is_empty_buffer, watched_inner}
use Rattle.room_types.proofs.watched_bytes.Streams.{kept_by_write, nonempty_buffer}
use Rattle.resident_requests.specs.Asks.{more, seen}
use Rattle.resident_http.specs.Connections.{connection_of}
use Rattle.resident_http.proofs.connections.Streams.{ServesConnection-responded, counted_last, counted_within}
use Rattle.resident_http.proofs.connections.Streams.{ended_after_none, Reads-FindsEnd, length-put_mid, not_more}
use Rattle.resident_http.proofs.connections.Streams.{not_wasted, take-put_mid, read_into, Reads-all, Reads-none}
use Rattle.resident_http.proofs.connections.Streams.{read_none, IsUntouched-more, IsUntouched-refl}
use Rattle.resident_http.proofs.connection.serve_connection.Goals as goal

pub returns-then-filled-eq0-clause-few : goal.returns-then-filled-eq0-clause-few
returns-then-filled-eq0-clause-few g c =
    let i = c.reads.invariant in
    let few = c.in-More.ensures.few refl in
    let size = i.size in
    let within = i.within in
    let count = length-take-le c.reads.filled c.reads.buffer (omega arith) in
    rw c.in-Ok-eq0.ensures.reads (counted_last _ _ i.reads (omega (arith, few, count)))

pub returns-then-filled-eq0-clause-serves_connection : goal.returns-then-filled-eq0-clause-serves_connection
returns-then-filled-eq0-clause-serves_connection g c =
    let i = c.reads.invariant in
    let h = c.in-Ok-eq0.ensures in
    let room : 0 < length c.read_some.new.buf = omega (arith, c.read_some.auto.buf) in
    let none : take c.reads.filled c.reads.buffer ≡ [] = ap (λ n. take n c.reads.buffer) c.if-filled-eq0.true in
    let same = Reads-none g.T.Stream _ _ _ i.called none in
    record {
      called = Reads-FindsEnd g.T.Stream _ c.read_some.new.buf c.in-Ok-eq0.field-0 (watched_inner c.args.stream.now)
          (watched_inner c.reads.stream) (watched_inner c.read_some.new.self) c.in-Ok-eq0.field-0-test room
          same h.called;
      read = read_none _ _ _ _ _ _ c.in-Ok-eq0.field-0-test (rw c.if-filled-eq0.true at i.read) h.bytes.0;
      each = rw h.reads (omega (arith, i.reads, c.if-filled-eq0.true));
      at_end = h.bytes.1 c.in-Ok-eq0.field-0-test room;
      ended = ended_after_none _ _ c.read_some.new.buf c.in-Ok-eq0.field-0 h.ended c.in-Ok-eq0.field-0-test room;
      untouched = IsUntouched-more _ _ _ i.untouched h.kept h.taken h.flushes h.pending;
      same = i.same;
    }

pub returns-in-Ok-eq0-clause-few : goal.returns-in-Ok-eq0-clause-few
returns-in-Ok-eq0-clause-few g c =
    let i = c.reads.invariant in
    let few = c.in-More.ensures.few refl in
    let size = i.size in
    let within = i.within in
    let count = length-take-le c.reads.filled c.reads.buffer (omega arith) in
    rw c.respond.ensures.reads (rw c.in-Ok-eq0.ensures.reads (counted_last _ _ i.reads (omega (arith, few, count))))

pub returns-in-Ok-eq0-clause-serves_connection : goal.returns-in-Ok-eq0-clause-serves_connection
returns-in-Ok-eq0-clause-serves_connection g c =
    let contents = g.T.Write.contents in
    let remaining = g.T.Read.remaining in
    let i = c.reads.invariant in
    let h = c.in-Ok-eq0.ensures in
    let few = c.in-More.ensures.few refl in
    let size = i.size in
    let within = i.within in
    let read_before = i.reads in
    let bytes = take c.reads.filled c.reads.buffer in
    let count : length bytes ≡ c.reads.filled = length-take-le c.reads.filled c.reads.buffer (omega arith) in
    let some : 0 < length bytes = omega (arith, count, c.if-filled-eq0.false) in
    let room : 0 < length c.read_some.new.buf = omega (arith, c.read_some.auto.buf, few, count) in
    let end = h.bytes.1 c.in-Ok-eq0.field-0-test room in
    let once = h.reads in
    let then_none = c.respond.ensures.reads in
    let returned =
    ended_after_none _ _ c.read_some.new.buf c.in-Ok-eq0.field-0 (c.respond.ensures.ended ∙ h.ended)
    c.in-Ok-eq0.field-0-test room in
    let found = Reads-FindsEnd g.T.Stream _ c.read_some.new.buf c.in-Ok-eq0.field-0 (watched_inner c.reads.stream)
    (watched_inner c.reads.stream) (watched_inner c.read_some.new.self) c.in-Ok-eq0.field-0-test room refl h.called in
    ServesConnection-responded g.T.Stream g.H.Handler.handles c.respond.result _ _
    (connection_of remaining contents c.args.stream.now) (connection_of remaining contents c.read_some.new.self)
    (connection_of remaining contents c.respond.new.stream)
    bytes more
    (watched_inner c.reads.stream, i.called, found)
    (read_none _ _ _ bytes _ _ c.in-Ok-eq0.field-0-test i.read h.bytes.0)
    c.respond.ensures.kept
    (IsUntouched-more _ _ _ i.untouched h.kept h.taken h.flushes h.pending)
    (omega (arith, within, count))
    (omega (arith, once, then_none, read_before, count))
    c.in-More.ensures.asks
    (λ e. absurd (true≢false e))
    (λ e. (some, returned, end))
    (rw i.same at c.respond.ensures.responds)

pub reads-init : goal.reads-init
reads-init g c = record {
  size = search rules;
  within = omega arith;
  called = (zero, (refl, refl));
  read = Consumes-nil _;
  untouched = IsUntouched-refl _;
  reads = omega (arith, c.requires.fresh.reads);
  failed = c.requires.fresh.failed;
  ended = refl;
  no_wasted = λ e d. refl;
  same = refl;
  ready = c.requires.ready;
}

pub reads-preserved : goal.reads-preserved
reads-preserved g c =
    let i = c.reads.invariant in
    let h = c.in-Ok.ensures in
    let size = i.size in
    let within = i.within in
    let fits = h.bound.0 in
    let filled = c.reads.filled in
    let kept : length c.read_some.new.buf ≡ 9216 - filled =
    omega (
      arith,
      c.read_some.auto.buf,
      length-take (9216 - filled) (drop filled c.reads.buffer),
      length-drop filled c.reads.buffer,
    ) in
    let some : c.in-Ok.n ≡ 0 → ⊥ = search (rules, tests) in
    let more_than_none : 0 < c.in-Ok.n = search (rules, tests) in
    let room : is_empty_buffer c.read_some.new.buf ≡ false =
    nonempty_buffer c.read_some.new.buf (omega (arith, more_than_none, fits)) in
    record {
      size = length-put_mid c.reads.buffer c.read_some.new.buf filled (9216 - filled) (omega arith) kept ∙ i.size;
      within = omega (arith, fits, kept);
      called = (
        suc i.called.0,
        (
          take filled c.reads.buffer,
          watched_inner c.reads.stream,
          i.called.1,
          record {
            buffer_before = _;
            buffer = c.read_some.new.buf;
            count = c.in-Ok.n;
            asks = c.in-More.ensures.asks;
            called = h.called;
            some = more_than_none;
            within = fits;
            joined = take-put_mid c.reads.buffer c.read_some.new.buf filled c.in-Ok.n _ (omega arith) fits;
          },
        ),
      );
      read = read_into _ _ _ c.reads.buffer c.read_some.new.buf filled c.in-Ok.n _ (omega arith) fits i.read h.bytes.0;
      untouched = IsUntouched-more _ _ _ i.untouched h.kept h.taken h.flushes h.pending;
      reads = rw h.reads (counted_within _ _ _ i.reads i.within some);
      failed = h.failed ∙ or-false _ ∙ i.failed;
      ended = h.ended ∙ kept_by_write _ _ c.in-Ok.n more_than_none ∙ i.ended;
      no_wasted = λ e d. not_wasted _ _ _ _ _ h.wasted i.failed (i.ended ∙ d) room ∙ i.no_wasted e d;
      same = i.same;
      ready = i.ready;
    }

pub returns-in-Err-clause-few : goal.returns-in-Err-clause-few
returns-in-Err-clause-few g c =
    let i = c.reads.invariant in
    let few = c.in-More.ensures.few refl in
    let size = i.size in
    let within = i.within in
    let count = length-take-le c.reads.filled c.reads.buffer (omega arith) in
    rw c.in-Err.ensures.reads (counted_last _ _ i.reads (omega (arith, few, count)))

pub returns-in_default : goal.returns-in_default
returns-in_default g c =
    let contents = g.T.Write.contents in
    let remaining = g.T.Read.remaining in
    let i = c.reads.invariant in
    let size = i.size in
    let within = i.within in
    let read_before = i.reads in
    let then_none = c.respond-in_default.ensures.reads in
    let bytes = take c.reads.filled c.reads.buffer in
    let count : length bytes ≡ c.reads.filled = length-take-le c.reads.filled c.reads.buffer (omega arith) in
    record {
      few = rw then_none (omega (arith, read_before, within));
      no_wasted = λ e d. c.respond-in_default.ensures.wasted ∙ i.no_wasted e d;
      serves_connection = ServesConnection-responded g.T.Stream g.H.Handler.handles c.respond-in_default.result _ _
          (connection_of remaining contents c.args.stream.now) (connection_of remaining contents c.reads.stream)
          (connection_of remaining contents c.respond-in_default.new.stream)
          bytes (seen c.read_ask.result)
          (Reads-all g.T.Stream _ _ _ _ (not_more c.read_ask.result c.in_default.not-More) i.called) i.read
          c.respond-in_default.ensures.kept i.untouched
          (omega (arith, within, count))
          (omega (arith, then_none, read_before, count))
          c.read_ask.ensures.asks
          (λ e. c.respond-in_default.ensures.ended ∙ i.ended)
          (λ e. absurd (not_more c.read_ask.result c.in_default.not-More e))
          (rw i.same at c.respond-in_default.ensures.responds);
      ready = c.respond-in_default.ensures.ready;
    }

pub returns-in-Err-clause-serves_connection : goal.returns-in-Err-clause-serves_connection
returns-in-Err-clause-serves_connection g c =
    let i = c.reads.invariant in
    let h = c.in-Err.ensures in
    let size = i.size in
    let within = i.within in
    let read_before = i.reads in
    let once = h.reads in
    let bytes = take c.reads.filled c.reads.buffer in
    let count : length bytes ≡ c.reads.filled = length-take-le c.reads.filled c.reads.buffer (omega arith) in
    let few = c.in-More.ensures.few refl in
    let room : 0 < length c.read_some.new.buf = omega (arith, c.read_some.auto.buf, few, count) in
    record {
      bytes = bytes;
      between = watched_inner c.reads.stream;
      called = i.called;
      fails = (_, c.read_some.new.buf, _, room, h.called);
      read = Consumes-kept _ _ _ bytes i.read h.bytes;
      limit = omega (arith, within, count);
      each = omega (arith, once, read_before, count);
      asks = c.in-More.ensures.asks;
      failed = search (rules, tests);
      untouched = IsUntouched-more _ _ _ i.untouched h.kept h.taken h.flushes h.pending;
      same = i.same;
    }
