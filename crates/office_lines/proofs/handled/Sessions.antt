-- The effects of handling chunks of the input one after another.
use Rattle.std.proofs.Common.{rules, tests, ◌≡◌, ℕ, ◌+◌, ◌<◌, ◌≤◌, Bool, true, false, eqb, max, List, [], ◌∷◌, ◌++◌}
use Rattle.std.proofs.Common.{length, refl, sym, ap, ◌∙◌, subst, arith, append_assoc, append-nil, length-append, Option}
use Rattle.std.proofs.Common.{inl, inr, ◌⊎◌}
use Rattle.std.specs.Prelude.{◌^◌}
use Rattle.std.specs.List.{list_all}
use Rattle.std.specs.Io.KnownBytes.{Consumes, Keeps}
use Rattle.std.proofs.KnownBytes.{Consumes-trans, Consumes-nil, Consumes-kept}
use Rattle.std.proofs.lemmas.List.{take_all}
use Rattle.std.proofs.lemmas.List.Folds.{list_all-append}
use Rattle.std.proofs.Math.Seq.{take-append-add}
use Rattle.std.proofs.lemmas.Bool.{and_from}
use Rattle.office_core.specs.declared.requests.Answer.{Answer}
use Rattle.office_core.specs.declared.requests.Request.{Request}
use Rattle.office_lines.specs.declared.ending.Ending.{Ending}
use Rattle.office_lines.specs.declared.ending.Ending.TheVariants.{Ended, ReadFault, WriteFault, NoMemory}
use Rattle.office_lines.specs.Lines.{is_short, line_limit, chunk_limit, read_limit, unended}
use Rattle.room_types.specs.Streams.{Input, Output}
use Rattle.room_types.specs.Watched.{counted}
use Rattle.office_lines.specs.render.Texts.{text_of}
use Rattle.office_lines.specs.Runs.{texts_of, greatest_status}
use Rattle.office_lines.specs.Inner.Sessions.{ended_from, partial_from, State, Handled, Suits, Halted, Answered, Broken}
use Rattle.office_lines.specs.Inner.Sessions.{Finished, Unfinished, InputHandled, Stopped, OnlyWhereFailed}
use Rattle.office_lines.proofs.handled.Lines.{ended_from-append, partial_from-append}
use Rattle.office_lines.proofs.rehearsals.Runs.{Run-append, greatest_status-append, texts_of-append, texts_of-init-le}
use Rattle.office_lines.proofs.rehearsals.Runs.{texts_of-init-append-le, texts_of-init-append, last_is_made-append}
use Rattle.room_types.proofs.watched_bytes.Streams.{Puts-nil, Puts-trans, Puts-kept}

-- there is at most one more read than bytes, if each earlier read returned at least one byte
pub read_once : (reads reads' counter bytes : ℕ) → reads' ≡ counted reads 1 → reads ≡ counter → counter ≤ bytes
    → counter < 2 ^ 32 → reads' ≤ bytes + 1
read_once reads reads' counter bytes e c each few = omega (arith, e, c, each, few)

-- if the unfinished line is short, so is the line that the end of the input ends
pub short_unended : (begun : List ℕ) → length begun ≤ line_limit → list_all is_short (unended begun) ≡ true
short_unended [] h = refl
short_unended (b ∷ bs) h = search (rules, tests)

-- a single line is short if its length is within the limit
one_short : (line : List ℕ) → length line ≤ line_limit → list_all is_short (line ∷ []) ≡ true
one_short line h = and_from _ _ (search (rules, tests)) refl

one_unended : (begun : List ℕ) → 0 < length begun → unended begun ≡ begun ∷ []
one_unended [] e = absurd (omega arith)
one_unended (b ∷ bs) e = refl

Suits-along : (e : Ending) (a a' l l' u : ℕ) (made made' : Bool) (n n' : ℕ) → a ≡ a' → (0 < u → l' ≡ l)
    → (0 < u → made' ≡ made) → n ≡ n' → Suits e a l u made n → Suits e a' l' u made' n'
Suits-along Ended a a' l l' u made made' n n' p r t q h = h
Suits-along ReadFault a a' l l' u made made' n n' p r t q h = (h.0, sym q ∙ h.1)
Suits-along (WriteFault m) a a' l l' u made made' n n' p r t q h = h ∙ p
Suits-along (NoMemory m) a a' l l' u made made' n n' p r t q h = (
  h.0 ∙ p,
  elim h.1 [
    | inl k ↦ inl (r k.1 ∙ k.0, k.1, t k.1 ∙ k.2)
    | inr k ↦ inr (k.0, omega (arith, k.1, q), omega (arith, k.2, q))
  ],
)

-- the failure flag may be compared with that of an earlier time, if it was the same then
pub OnlyWhereFailed-since : (e : Ending) (a b c : Bool) → b ≡ a → OnlyWhereFailed e b c → OnlyWhereFailed e a c
OnlyWhereFailed-since Ended a b c p q = q ∙ p
OnlyWhereFailed-since ReadFault a b c p q = q ∙ p
OnlyWhereFailed-since (WriteFault n) a b c p q = q
OnlyWhereFailed-since (NoMemory n) a b c p q = q ∙ p

module _ {H : Type 0} (handles : H → Request → Answer → H → Type 0) where
  -- handling no bytes
  pub Handled-nil : (s : State H) → Handled handles s s []
  Handled-nil s = record {
    answers = [];
    partial_line = refl;
    short = refl;
    run = refl;
    written = Puts-nil s.out;
    flushes = refl;
    failed = refl;
    sent = omega arith;
    status = omega arith;
  }

  -- handling bytes, then more bytes
  pub Handled-append : (s t u : State H) (xs ys : List ℕ) → Handled handles s t xs → Handled handles t u ys
      → Handled handles s u (xs ++ ys)
  Handled-append s t u xs ys p q =
      let more : ended_from t.partial_line ys ≡ ended_from (partial_from s.partial_line xs) ys =
      ap (λ b. ended_from b ys) p.partial_line in
      let ended : ended_from s.partial_line (xs ++ ys) ≡ ended_from s.partial_line xs ++ ended_from t.partial_line ys =
      ended_from-append s.partial_line xs ys ∙ ap (λ l. ended_from s.partial_line xs ++ l) (sym more) in
      let texts = texts_of-append p.answers q.answers in
      record {
        answers = p.answers ++ q.answers;
        partial_line = q.partial_line ∙ ap (λ b. partial_from b ys) p.partial_line
            ∙ sym (partial_from-append s.partial_line xs ys);
        short = ap (list_all is_short) ended
            ∙ list_all-append is_short (ended_from s.partial_line xs) (ended_from t.partial_line ys)
            ∙ and_from _ _ p.short q.short;
        run = rw ended (Run-append handles s.handler t.handler u.handler _ _ _ _ p.run q.run);
        written = rw texts (Puts-trans s.out t.out u.out _ _ p.written q.written);
        flushes = q.flushes ∙ p.flushes;
        failed = q.failed ∙ p.failed;
        sent = omega (arith, p.sent, q.sent, ap length texts, length-append (texts_of p.answers) (texts_of q.answers));
        status = q.status ∙ ap (λ n. max n (greatest_status q.answers)) p.status
            ∙ omega (arith, greatest_status-append p.answers q.answers);
      }

  -- bytes that follow a stop change nothing
  pub Halted-more : (s : State H) (e : Ending) (o : H) (out : Output) (xs ys : List ℕ) → Halted handles s e o out xs
      → Halted handles s e o out (xs ++ ys)
  Halted-more s e o out xs ys h = record {
    handled = h.handled;
    rest = h.rest ++ ys;
    answers = h.answers;
    sent = h.sent;
    unsent = h.unsent;
    cut = ap (λ l. l ++ ys) h.cut ∙ append_assoc h.handled h.rest ys;
    some = h.some;
    short = h.short;
    run = h.run;
    written = h.written;
    unflushed = h.unflushed;
    all = h.all;
    whole = h.whole;
    suits = h.suits;
  }

  -- a stop after bytes that were handled
  pub Handled-Halted : (s t : State H) (e : Ending) (o : H) (out : Output) (xs ys : List ℕ) → Handled handles s t xs
      → Halted handles t e o out ys → Halted handles s e o out (xs ++ ys)
  Handled-Halted s t e o out xs ys p q =
      let more : ended_from t.partial_line q.handled ≡ ended_from (partial_from s.partial_line xs) q.handled =
      ap (λ b. ended_from b q.handled) p.partial_line in
      let ended : ended_from s.partial_line (xs ++ q.handled)
      ≡ ended_from s.partial_line xs ++ ended_from t.partial_line q.handled =
      ended_from-append s.partial_line xs q.handled ∙ ap (λ l. ended_from s.partial_line xs ++ l) (sym more) in
      let begun : partial_from t.partial_line q.handled ≡ partial_from s.partial_line (xs ++ q.handled) =
      ap (λ b. partial_from b q.handled) p.partial_line ∙ sym (partial_from-append s.partial_line xs q.handled) in
      let texts = texts_of-append p.answers q.answers in
      let first = texts_of p.answers in
      record {
        handled = xs ++ q.handled;
        rest = q.rest;
        answers = p.answers ++ q.answers;
        sent = length first + q.sent;
        unsent = q.unsent;
        cut = ap (λ l. xs ++ l) q.cut ∙ sym (append_assoc xs q.handled q.rest);
        some = omega (arith, q.some, length-append xs q.handled);
        short = ap (list_all is_short) ended
            ∙ list_all-append is_short (ended_from s.partial_line xs) (ended_from t.partial_line q.handled)
            ∙ and_from _ _ p.short q.short;
        run = rw ended (Run-append handles s.handler t.handler o _ _ _ _ p.run q.run);
        written =
            rw (texts, take-append-add first (texts_of q.answers) q.sent)
            (Puts-trans s.out t.out out _ _ p.written q.written);
        unflushed = q.unflushed ∙ p.flushes;
        all = omega (arith, q.all, ap length texts, length-append first (texts_of q.answers));
        whole = omega (arith, texts_of-init-append-le p.answers q.answers, q.whole);
        suits = Suits-along e _ _ _ _ _ _ _ _ _ (omega (arith, p.sent))
            (λ some. omega (arith, texts_of-init-append p.answers q.answers (omega (arith, some, q.all))))
            (λ some. last_is_made-append p.answers q.answers (omega (arith, some, q.all))) (ap length begun) q.suits;
      }

  -- ---- one byte

  -- a line feed after a short line whose response was written
  pub newline_handled : (s t : State H) (b : ℕ) → b ≡ 10 → length s.partial_line ≤ line_limit → Answered handles s t
      → Handled handles s t (b ∷ [])
  newline_handled s t b e short h =
      let text : texts_of (h.response ∷ []) ≡ text_of h.response = append-nil (text_of h.response) in
      subst (λ (n : ℕ). Handled handles s t (n ∷ [])) (sym e) (record {
        answers = h.response ∷ [];
        partial_line = h.partial_line;
        short = one_short s.partial_line short;
        run = (t.handler, h.step, refl);
        written = rw text h.written;
        flushes = h.flushes;
        failed = h.failed;
        sent = h.sent ∙ ap (λ l. s.sent + length l) (sym text);
        status = h.status ∙ omega arith;
      })

  -- a line feed after a short line whose response was not written completely
  pub newline_halted : (s : State H) (o : H) (out : Output) (b : ℕ) (ending : Ending) → b ≡ 10
      → length s.partial_line ≤ line_limit → Broken handles s ending o out → Halted handles s ending o out (b ∷ [])
  newline_halted s o out b ending e short h =
      let text : texts_of (h.response ∷ []) ≡ text_of h.response = append-nil (text_of h.response) in
      subst (λ (n : ℕ). Halted handles s ending o out (n ∷ [])) (sym e) (record {
        handled = 10 ∷ [];
        rest = [];
        answers = h.response ∷ [];
        sent = h.sent;
        unsent = h.unsent;
        cut = refl;
        some = omega arith;
        short = one_short s.partial_line short;
        run = (o, h.step, refl);
        written = rw text h.written;
        unflushed = h.unflushed;
        all = h.all ∙ ap length (sym text);
        whole = omega arith;
        suits = Suits-along ending _ _ _ _ _ _ _ _ _ refl (λ some. omega arith) (λ some. refl) refl h.suits;
      })

  -- a byte that extends the unfinished line
  pub longer_handled : (o : H) (out : Output) (line : List ℕ) (sent status b : ℕ) → eqb b 10 ≡ false
      → Handled handles (record { handler = o; out = out; partial_line = line; sent = sent; status = status })
      (record { handler = o; out = out; partial_line = line ++ b ∷ []; sent = sent; status = status }) (b ∷ [])
  longer_handled o out line sent status b e = record {
    answers = [];
    partial_line = rw e refl;
    short = rw e refl;
    run = rw e refl;
    written = Puts-nil out;
    flushes = refl;
    failed = refl;
    sent = omega arith;
    status = omega arith;
  }

  -- a byte that makes the line too long
  pub too_long : (s : State H) (b : ℕ) → eqb b 10 ≡ false → length s.partial_line ≡ line_limit
      → Halted handles s ReadFault s.handler s.out (b ∷ [])
  too_long s b e long = record {
    handled = b ∷ [];
    rest = [];
    answers = [];
    sent = 0;
    unsent = 0;
    cut = refl;
    some = omega arith;
    short = rw e refl;
    run = rw e refl;
    written = Puts-nil s.out;
    unflushed = refl;
    all = refl;
    whole = omega arith;
    suits = (refl, rw e (omega (arith, long, length-append s.partial_line (b ∷ []))));
  }

  -- out of memory for a byte that would extend the unfinished line
  pub no_memory : (s : State H) (b : ℕ) → eqb b 10 ≡ false → length s.partial_line < line_limit
      → Halted handles s (NoMemory s.sent) s.handler s.out (b ∷ [])
  no_memory s b e short =
      let longer : length (s.partial_line ++ b ∷ []) ≡ length s.partial_line + 1 =
      length-append s.partial_line (b ∷ []) in
      record {
        handled = b ∷ [];
        rest = [];
        answers = [];
        sent = 0;
        unsent = 0;
        cut = refl;
        some = omega arith;
        short = rw e refl;
        run = rw e refl;
        written = Puts-nil s.out;
        unflushed = refl;
        all = refl;
        whole = omega arith;
        suits = (omega arith, inr (refl, rw e (omega (arith, longer)), rw e (omega (arith, longer, short))));
      }

  -- ---- the last line

  -- the response to the last line was written
  pub Finished-answered : (s t : State H) → 0 < length s.partial_line → Answered handles s t
      → Finished handles s t s.out.flushes
  Finished-answered s t some h =
      let text : texts_of (h.response ∷ []) ≡ text_of h.response = append-nil (text_of h.response) in
      record {
        answers = h.response ∷ [];
        run = rw (one_unended s.partial_line some) (t.handler, h.step, refl);
        partial_line = h.partial_line;
        written = rw text h.written;
        flushed = h.flushes;
        failed = h.failed;
        sent = h.sent ∙ ap (λ l. s.sent + length l) (sym text);
        status = h.status ∙ omega arith;
      }

  -- the response to the last line was not written completely
  pub Unfinished-broken : (s : State H) (o : H) (out : Output) (ending : Ending) → 0 < length s.partial_line
      → length s.partial_line ≤ line_limit → Broken handles s ending o out → Unfinished handles s ending o out
  Unfinished-broken s o out ending some short h =
      let text : texts_of (h.response ∷ []) ≡ text_of h.response = append-nil (text_of h.response) in
      record {
        answers = h.response ∷ [];
        sent = h.sent;
        unsent = h.unsent;
        short = short_unended s.partial_line short;
        run = rw (one_unended s.partial_line some) (o, h.step, refl);
        written = rw text h.written;
        flushed = inl h.unflushed;
        all = h.all ∙ ap length (sym text);
        whole = omega arith;
        suits = Suits-along ending _ _ _ _ _ _ _ _ _ refl (λ some. omega arith) (λ some. refl) refl h.suits;
      }

  -- the final flush failed
  pub Finished-unflushed : (s t : State H) (out : Output) → length s.partial_line ≤ line_limit
      → Finished handles s t s.out.flushes → Keeps t.out.contents out.contents → out.taken ≡ t.out.taken
      → out.flushes ≡ counted t.out.flushes 1
      → Unfinished handles s (WriteFault t.sent) t.handler out
  Finished-unflushed s t out short h k taken once = record {
    answers = h.answers;
    sent = length (texts_of h.answers);
    unsent = 0;
    short = short_unended s.partial_line short;
    run = h.run;
    written =
        rw (take_all (length (texts_of h.answers)) (texts_of h.answers) (omega arith))
        (Puts-kept _ _ _ _ h.written k taken);
    flushed = inr (refl, once ∙ ap (λ n. counted n 1) h.flushed);
    all = omega arith;
    whole = texts_of-init-le h.answers;
    suits = h.sent;
  }

  -- ---- reading

  -- nothing was read
  pub InputHandled-nil : (s : State H) (u : Option (List ℕ)) → InputHandled handles s s u u
  InputHandled-nil s u = record { bytes = []; read = Consumes-nil u; handled = Handled-nil s }

  -- one more chunk was read and handled
  pub InputHandled-more : (s t v : State H) (u u' u'' : Option (List ℕ)) (chunk : List ℕ)
      → InputHandled handles s t u u' → Consumes u' u'' chunk → Handled handles t v chunk
      → InputHandled handles s v u u''
  InputHandled-more s t v u u' u'' chunk h c k = record {
    bytes = h.bytes ++ chunk;
    read = Consumes-trans _ _ _ _ _ h.read c;
    handled = Handled-append s t v _ _ h.handled k;
  }

  -- if each read so far returned a byte and the next one does too, the bytes still outnumber the reads
  pub InputHandled-longer : (s t v : State H) (u u' u'' : Option (List ℕ)) (chunk : List ℕ)
      (h : InputHandled handles s t u u') (c : Consumes u' u'' chunk) (k : Handled handles t v chunk) (n : ℕ)
      → n ≤ length h.bytes → 0 < length chunk → n + 1 ≤ length (InputHandled-more s t v u u' u'' chunk h c k).bytes
  unfolding InputHandled-more
  InputHandled-longer s t v u u' u'' chunk h c k n each some =
      let longer : n + 1 ≤ length (h.bytes ++ chunk) = omega (arith, each, some, length-append h.bytes chunk) in longer

  -- a read returned no bytes
  pub InputHandled-end : (s t : State H) (u u' u'' : Option (List ℕ)) (reads : ℕ) (h : InputHandled handles s t u u')
      → Consumes u' u'' []
      → reads ≤ length h.bytes + 1 → (k : InputHandled handles s t u u'') × (reads ≤ length k.bytes + 1)
  InputHandled-end s t u u' u'' reads h c each = (
    record {
      bytes = h.bytes;
      read = subst (Consumes u u'') (append-nil h.bytes) (Consumes-trans _ _ _ _ _ h.read c);
      handled = h.handled;
    },
    each,
  )

  -- the rehearsal stopped within a chunk
  pub Stopped-halted : (s t : State H) (e : Ending) (o : H) (out : Output) (u : Option (List ℕ)) (i i' : Input)
      (chunk : List ℕ) (h : InputHandled handles s t i.remaining u) → Consumes u i'.remaining chunk
      → Halted handles t e o out chunk → length chunk ≤ chunk_limit → i'.reads ≤ length h.bytes + 1
      → i'.failed ≡ i.failed → Stopped handles s e o out i i'
  unfolding Handled-Halted
  Stopped-halted s t e o out u i i' chunk h c k within reads w =
      let near : length k.rest < chunk_limit =
      omega (arith, within, ap length k.cut, length-append k.handled k.rest, k.some) in
      record {
        bytes = h.bytes ++ chunk;
        read = Consumes-trans _ _ _ _ _ h.read c;
        reads = omega (arith, reads, length-append h.bytes chunk);
        why = inl (Handled-Halted s t e o out _ _ h.handled k, near, w);
      }

  -- a read failed
  pub Stopped-failed : (s t : State H) (i i' : Input) (u : Option (List ℕ)) (h : InputHandled handles s t i.remaining u)
      → Keeps u i'.remaining → i'.reads ≤ length h.bytes + 1 → length t.partial_line ≤ line_limit → i'.failed ≡ true
      → Stopped handles s ReadFault t.handler t.out i i'
  Stopped-failed s t i i' u h k reads begun failed = record {
    bytes = h.bytes;
    read = Consumes-kept _ _ _ _ h.read k;
    reads = reads;
    why = inr (
      refl,
      record { after = t; handled = h.handled; handler_is = refl; out_is = refl; begun = begun; cause = inl failed },
    );
  }

  -- no more bytes can be read
  pub Stopped-cut : (s t : State H) (i i' : Input) (h : InputHandled handles s t i.remaining i'.remaining)
      → i'.reads ≤ length h.bytes + 1 → length t.partial_line ≤ line_limit
      → (i'.failed ≡ true) ⊎ ((read_limit ≤ i'.reads) × (read_limit ≤ length h.bytes))
      → Stopped handles s ReadFault t.handler t.out i i'
  Stopped-cut s t i i' h reads begun cause = record {
    bytes = h.bytes;
    read = h.read;
    reads = reads;
    why = inr (
      refl,
      record { after = t; handled = h.handled; handler_is = refl; out_is = refl; begun = begun; cause = cause },
    );
  }
