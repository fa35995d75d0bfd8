-- From the input that was handled to the contract of a rehearsal.
use Rattle.std.proofs.Common.{◌≡◌, ℕ, ◌+◌, ◌<◌, ◌≤◌, false, max, List, [], ◌++◌, length, take, Option, refl, sym, ap}
use Rattle.std.proofs.Common.{◌∙◌, subst, arith, append-nil, length-append, inl, inr}
use Rattle.std.specs.List.{list_all}
use Rattle.std.specs.Io.KnownBytes.{Consumes, IsAtEnd}
use Rattle.std.proofs.lemmas.List.{take_all}
use Rattle.std.proofs.lemmas.List.Folds.{list_all-append}
use Rattle.std.proofs.Math.Seq.{take-append-add}
use Rattle.std.proofs.lemmas.Bool.{and_from}
use Rattle.room_types.specs.Watched.{counted}
use Rattle.office_core.specs.declared.requests.Answer.{Answer}
use Rattle.office_core.specs.declared.requests.Request.{Request}
use Rattle.office_lines.specs.declared.ending.Ending.{Ending}
use Rattle.office_lines.specs.declared.ending.Ending.TheVariants.{Ended, ReadFault, WriteFault, NoMemory}
use Rattle.office_lines.specs.Lines.{is_short, line_limit, chunk_limit, lines_of, last_part, unended}
use Rattle.room_types.specs.Streams.{Input, Output}
use Rattle.office_lines.specs.Runs.{texts_of, greatest_status}
use Rattle.office_lines.specs.Rehearsals.{WholeInput, PartOfInput, WholeLines, NeedsMemory, Rehearses}
use Rattle.office_lines.specs.Inner.Sessions.{ended_from, partial_from, State, Handled, Halted, Finished, Unfinished}
use Rattle.office_lines.specs.Inner.Sessions.{InputHandled, Stopped, Cut, OnlyWhereFailed}
use Rattle.office_lines.proofs.handled.Lines.{ended_lines-is, last_part-is}
use Rattle.office_lines.proofs.rehearsals.Runs.{Run-append, greatest_status-append, texts_of-append}
use Rattle.office_lines.proofs.rehearsals.Runs.{texts_of-init-append-le, texts_of-init-append, last_is_made-append}
use Rattle.office_lines.proofs.handled.Sessions.{short_unended}
use Rattle.room_types.proofs.watched_bytes.Streams.{Puts-trans}

abbrev pub kept : {H : Type 0} → H → Output → List ℕ → ℕ → ℕ → State H
kept handler out line sent status =
    record { handler = handler; out = out; partial_line = line; sent = sent; status = status }

-- the state before a rehearsal
abbrev pub start : {H : Type 0} → H → Output → State H
start handler out = kept handler out [] 0 0

-- a new session has that state
pub is_start : {H : Type 0} (handler : H) (out : Output) (line : List ℕ) (sent status : ℕ) → line ≡ []
    → sent ≡ 0 → status ≡ 0
    → kept handler out line sent status ≡ start handler out
is_start handler out line sent status e f g = rw (e, f, g) refl

lines_of-is : (bs : List ℕ) → lines_of bs ≡ ended_from [] bs ++ unended (partial_from [] bs)
lines_of-is bs = ap (λ l. l ++ unended (last_part bs)) (ended_lines-is bs) ∙ ap (λ p. ended_from [] bs ++ unended p)
    (last_part-is bs)

module _ {H : Type 0} (handles : H → Request → Answer → H → Type 0) where
  pub InputHandled-started : (o : H) (out : Output) (s t : State H) (u u' : Option (List ℕ)) (reads : ℕ)
      → s ≡ start o out
      → (h : InputHandled handles s t u u') × (reads ≤ length h.bytes + 1)
      → (h : InputHandled handles (start o out) t u u') × (reads ≤ length h.bytes + 1)
  InputHandled-started o out s t u u' reads e h =
      subst (λ (z : State H). (k : InputHandled handles z t u u') × (reads ≤ length k.bytes + 1)) e h

  pub Stopped-started : (o o' : H) (out out' : Output) (s : State H) (ending : Ending) (i i' : Input) → s ≡ start o out
      → Stopped handles s ending o' out' i i' → Stopped handles (start o out) ending o' out' i i'
  Stopped-started o o' out out' s ending i i' e h = subst (λ (z : State H). Stopped handles z ending o' out' i i') e h

  -- all lines are the ended ones and the unfinished one
  lines_of-handled : (o : H) (out : Output) (t : State H) (bs : List ℕ) → Handled handles (start o out) t bs
      → lines_of bs ≡ ended_from [] bs ++ unended t.partial_line
  lines_of-handled o out t bs h = lines_of-is bs ∙ ap (λ b. ended_from [] bs ++ unended b) (sym h.partial_line)

  pub WholeInput-finished : (o : H) (out : Output) (i i' : Input) (t v : State H)
      (h : InputHandled handles (start o out) t i.remaining i'.remaining) → IsAtEnd i'.remaining
      → i'.reads ≤ length h.bytes + 1 → length t.partial_line ≤ line_limit → Finished handles t v
      (counted t.out.flushes 1) → v.out.pending ≡ false
      → i'.failed ≡ false → out.failed ≡ false → WholeInput handles o v.handler i i' out v.out v.status
  WholeInput-finished o out i i' t v h end each short f pending reads writes =
      let lines = lines_of-handled o out t h.bytes h.handled in
      let answers = h.handled.answers in
      record {
        bytes = h.bytes;
        answers = answers ++ f.answers;
        read = h.read;
        reads = each;
        end = end;
        short = ap (list_all is_short) lines ∙ list_all-append is_short (ended_from [] h.bytes) (unended t.partial_line)
            ∙ and_from _ _ h.handled.short (short_unended t.partial_line short);
        run = rw lines (Run-append handles o t.handler v.handler _ _ _ _ h.handled.run f.run);
        written = rw (texts_of-append answers f.answers) (Puts-trans out t.out v.out _ _ h.handled.written f.written);
        flushed = f.flushed ∙ ap (λ n. counted n 1) h.handled.flushes;
        none_pending = pending;
        no_read_failed = reads;
        no_write_failed = f.failed ∙ h.handled.failed ∙ writes;
        greatest = f.status ∙ ap (λ n. max n (greatest_status f.answers)) h.handled.status
            ∙ omega (arith, greatest_status-append answers f.answers);
      }

  -- the last line was not finished
  part_unfinished : (o o' : H) (out out' : Output) (i i' : Input) (t : State H) (ending : Ending) (n : ℕ)
      (h : InputHandled handles (start o out) t i.remaining i'.remaining)
      → i'.reads ≤ length h.bytes + 1 → IsAtEnd i'.remaining → (f : Unfinished handles t ending o' out')
      → n ≡ t.sent + f.sent → PartOfInput handles o o' i i' out out' n
  part_unfinished o o' out out' i i' t ending n h each end f e =
      let lines = lines_of-handled o out t h.bytes h.handled in
      let answers = h.handled.answers in
      let texts = texts_of-append answers f.answers in
      let count : length (texts_of answers) + f.sent ≡ n = omega (arith, h.handled.sent, e) in
      record {
        handled = h.bytes;
        ahead = [];
        lines = lines_of h.bytes;
        answers = answers ++ f.answers;
        read = rw append-nil h.read;
        reads = rw append-nil each;
        near = omega arith;
        cut = inr (end, refl, refl);
        short = ap (list_all is_short) lines ∙ list_all-append is_short (ended_from [] h.bytes) (unended t.partial_line)
            ∙ and_from _ _ h.handled.short f.short;
        run = rw lines (Run-append handles o t.handler o' _ _ _ _ h.handled.run f.run);
        written = rw (texts, ← count, take-append-add (texts_of answers) (texts_of f.answers) f.sent)
            (Puts-trans out t.out out' _ _ h.handled.written f.written);
        whole = omega (arith, texts_of-init-append-le answers f.answers, f.whole, count);
        within = omega (arith, ap length texts, length-append (texts_of answers) (texts_of f.answers), f.all, count);
        flushed = elim f.flushed [
          | inl none ↦ inl (none ∙ h.handled.flushes)
          | inr one ↦ inr (
            end,
            refl,
            refl,
            omega (arith, ap length texts, length-append (texts_of answers) (texts_of f.answers), f.all, count, one.0),
            one.1 ∙ ap (λ n. counted n 1) h.handled.flushes,
          )
        ];
      }

  -- out of memory for the text of the last response
  NeedsMemory-unfinished : (o o' : H) (out out' : Output) (i i' : Input) (t : State H) (n m : ℕ)
      (h : InputHandled handles (start o out) t i.remaining i'.remaining)
      (each : i'.reads ≤ length h.bytes + 1) (end : IsAtEnd i'.remaining)
      (f : Unfinished handles t (NoMemory m) o' out') (e : n ≡ t.sent + f.sent)
      → let part = part_unfinished o o' out out' i i' t (NoMemory m) n h each end f e in
      NeedsMemory part.handled part.lines part.answers n
  unfolding part_unfinished
  NeedsMemory-unfinished o o' out out' i i' t n m h each end f e =
      let answers = h.handled.answers in
      let count : n ≡ length (texts_of answers) + f.sent = omega (arith, h.handled.sent, e) in
      let total = length-append (texts_of answers) (texts_of f.answers) in
      elim f.suits.1 [
        | inl k ↦ inl (
          omega (arith, count, f.whole, k.0, texts_of-init-append answers f.answers (omega (arith, k.1, f.all))),
          omega (arith, count, k.1, f.all, total, ap length (texts_of-append answers f.answers)),
          last_is_made-append answers f.answers (omega (arith, k.1, f.all)) ∙ k.2,
        )
        | inr k ↦ absurd (omega (arith, k.1))
      ]

  pub Rehearses-unfinished : (o o' : H) (out out' : Output) (i i' : Input) (t : State H) (ending : Ending)
      (h : InputHandled handles (start o out) t i.remaining i'.remaining) → i'.reads ≤ length h.bytes + 1
      → IsAtEnd i'.remaining → Unfinished handles t ending o' out' → OnlyWhereFailed ending t.out.failed out'.failed
      → i'.failed ≡ false → out.failed ≡ false → Rehearses handles ending 3 o o' i i' out out'
  Rehearses-unfinished o o' out out' i i' t Ended h each end f w r s = absurd f.suits
  Rehearses-unfinished o o' out out' i i' t ReadFault h each end f w r s = let long = f.suits.1 in
      absurd (omega (arith, long))
  Rehearses-unfinished o o' out out' i i' t (WriteFault n) h each end f w r s =
      (refl, r, w, part_unfinished o o' out out' i i' t (WriteFault n) n h each end f f.suits)
  Rehearses-unfinished o o' out out' i i' t (NoMemory n) h each end f w r s = (
    refl,
    r,
    w ∙ h.handled.failed ∙ s,
    part_unfinished o o' out out' i i' t (NoMemory n) n h each end f f.suits.0,
    NeedsMemory-unfinished o o' out out' i i' t n n h each end f f.suits.0,
  )

  part_halted : (o o' : H) (out out' : Output) (i i' : Input) (ending : Ending) (n : ℕ) (bytes : List ℕ)
      → Consumes i.remaining i'.remaining bytes
      → i'.reads ≤ length bytes + 1 → (f : Halted handles (start o out) ending o' out' bytes)
      → length f.rest < chunk_limit → n ≡ 0 + f.sent
      → PartOfInput handles o o' i i' out out' n
  part_halted o o' out out' i i' ending n bytes r each f near e = record {
    handled = f.handled;
    ahead = f.rest;
    lines = ended_from [] f.handled;
    answers = f.answers;
    read = subst (Consumes i.remaining i'.remaining) f.cut r;
    reads = subst (λ (bs : List ℕ). i'.reads ≤ length bs + 1) f.cut each;
    near = near;
    cut = inl (sym (ended_lines-is f.handled));
    short = f.short;
    run = f.run;
    written = let same : n ≡ f.sent = omega (arith, e) in rw same f.written;
    whole = omega (arith, f.whole, e);
    within = omega (arith, f.all, e);
    flushed = inl f.unflushed;
  }

  -- out of memory within a chunk
  NeedsMemory-halted : (o o' : H) (out out' : Output) (i i' : Input) (n m : ℕ) (bytes : List ℕ)
      (r : Consumes i.remaining i'.remaining bytes)
      (each : i'.reads ≤ length bytes + 1) (f : Halted handles (start o out) (NoMemory m) o' out' bytes)
      (near : length f.rest < chunk_limit) (e : n ≡ 0 + f.sent)
      → let part = part_halted o o' out out' i i' (NoMemory m) n bytes r each f near e in
      NeedsMemory part.handled part.lines part.answers n
  unfolding part_halted
  NeedsMemory-halted o o' out out' i i' n m bytes r each f near e =
      let begun : length (last_part f.handled) ≡ length (partial_from [] f.handled) =
      ap length (last_part-is f.handled) in
      elim f.suits.1 [
        | inl k ↦ inl (omega (arith, e, f.whole, k.0), omega (arith, e, k.1, f.all), k.2)
        | inr k ↦ inr (
          omega (arith, e, k.0, f.all),
          sym (ended_lines-is f.handled),
          omega (arith, begun, k.1),
          omega (arith, begun, k.2),
        )
      ]

  whole_halted : (o o' : H) (out out' : Output) (i i' : Input) (bytes : List ℕ)
      → Consumes i.remaining i'.remaining bytes → i'.reads ≤ length bytes + 1
      → (f : Halted handles (start o out) ReadFault o' out' bytes) → length f.rest < chunk_limit → i'.failed ≡ false
      → WholeLines handles o o' i i' out out'
  whole_halted o o' out out' i i' bytes r each f near w =
      let all : take f.sent (texts_of f.answers) ≡ texts_of f.answers =
      take_all f.sent (texts_of f.answers) (omega (arith, f.all, f.suits.0)) in
      record {
        handled = f.handled;
        unhandled = f.rest;
        answers = f.answers;
        read = subst (Consumes i.remaining i'.remaining) f.cut r;
        reads = subst (λ (bs : List ℕ). i'.reads ≤ length bs + 1) f.cut each;
        near = near;
        short = rw (ended_lines-is f.handled) f.short;
        run = rw (ended_lines-is f.handled) f.run;
        written = rw all at f.written;
        unflushed = f.unflushed;
        cause = inl (rw (last_part-is f.handled) f.suits.1, w);
      }

  whole_cut : (o o' : H) (out out' : Output) (i i' : Input) (bytes : List ℕ) → Consumes i.remaining i'.remaining bytes
      → i'.reads ≤ length bytes + 1
      → (f : Cut handles (start o out) o' out' bytes i') → WholeLines handles o o' i i' out out'
  whole_cut o o' out out' i i' bytes r each f = record {
    handled = bytes;
    unhandled = [];
    answers = f.handled.answers;
    read = subst (Consumes i.remaining i'.remaining) (sym (append-nil bytes)) r;
    reads = rw append-nil each;
    near = omega arith;
    short = rw (ended_lines-is bytes) f.handled.short;
    run = rw (ended_lines-is bytes, f.handler_is) f.handled.run;
    written = rw f.out_is f.handled.written;
    unflushed = ap (λ (o : Output). o.flushes) f.out_is ∙ f.handled.flushes;
    cause =
        let begun : length (last_part bytes) ≡ length f.after.partial_line =
        ap length (last_part-is bytes ∙ sym f.handled.partial_line) in
        inr (refl, omega (arith, begun, f.begun), f.cause);
  }

  pub Rehearses-stopped : (o o' : H) (out out' : Output) (i i' : Input) (ending : Ending)
      → Stopped handles (start o out) ending o' out' i i' → OnlyWhereFailed ending out.failed out'.failed
      → i.failed ≡ false → out.failed ≡ false → Rehearses handles ending 3 o o' i i' out out'
  Rehearses-stopped o o' out out' i i' Ended h w r s =
      elim h.why [ inl f ↦ absurd f.0.suits | inr f ↦ absurd (let e = f.0 in cc) ]
  Rehearses-stopped o o' out out' i i' ReadFault h w r s = (
    refl,
    w ∙ s,
    elim h.why [
      | inl f ↦ whole_halted o o' out out' i i' h.bytes h.read h.reads f.0 f.1
          (f.2 ∙ r)
      | inr f ↦ whole_cut o o' out out' i i' h.bytes h.read h.reads f.1
    ],
  )
  Rehearses-stopped o o' out out' i i' (WriteFault n) h w r s =
      elim h.why [
        | inl f ↦
            (refl, f.2 ∙ r, w, part_halted o o' out out' i i' (WriteFault n) n h.bytes h.read h.reads f.0 f.1 f.0.suits)
        | inr f ↦ absurd (let e = f.0 in cc)
      ]
  Rehearses-stopped o o' out out' i i' (NoMemory n) h w r s =
      elim h.why [
        | inl f ↦ (
          refl,
          f.2 ∙ r,
          w ∙ s,
          part_halted o o' out out' i i' (NoMemory n) n h.bytes h.read h.reads f.0 f.1 f.0.suits.0,
          NeedsMemory-halted o o' out out' i i' n n h.bytes h.read h.reads f.0 f.1 f.0.suits.0,
        )
        | inr f ↦ absurd (let e = f.0 in cc)
      ]
