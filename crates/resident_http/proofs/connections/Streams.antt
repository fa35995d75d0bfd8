-- What was read from a stream, and what was written to it.
use Rattle.std.proofs.Common.{◌≡◌, ℕ, zero, suc, ◌+◌, ◌<◌, ◌≤◌, Bool, true, false, List, [], ◌++◌, length, take, drop}
use Rattle.std.proofs.Common.{refl, sym, ap, ◌∙◌, subst, arith, append-nil, length-append, rules, tests, Option, None}
use Rattle.std.proofs.Common.{Some, Ok, inl, inr}
use Rattle.std.specs.Prelude.{◌||◌, ◌&&◌, ◌==◌, nat_lt, if◌then◌else◌, OnSome}
use Rattle.std.proofs.Math.Bool.{or-true}
use Rattle.std.specs.Io.KnownBytes.{Appends, Consumes, Keeps, IsAtEnd}
use Rattle.std.proofs.KnownBytes.{Consumes-trans, Consumes-kept, Keeps-refl, Keeps-trans}
use Rattle.std.proofs.lemmas.List.{length-drop, length-take-le, take-append-le}
use Rattle.std.proofs.Math.Seq.{take-append-add}
use borrow.Rule.Slice.PartMut.{put_mid, post_of}
use Rattle.room_types.specs.Streams.{Output, Puts, count_after}
use Rattle.room_types.specs.Watched.{counted}
use Rattle.room_types.specs.declared.stream.Stream.{Ghosts as Calls}
use Rattle.room_types.proofs.watched_bytes.Streams.{or_known}
use Rattle.office_core.specs.declared.requests.Answer.{Answer as DeskAnswer}
use Rattle.office_core.specs.declared.requests.Request.{Request}
use Rattle.resident_requests.specs.Asks.{Asked, Asks, ask, fault, is_more, more, seen}
use Rattle.resident_requests.specs.declared.ask.AskState.{AskState}
use Rattle.resident_requests.specs.declared.ask.AskState.TheVariants as state
use Rattle.resident_http.specs.Calls.{FindsEnd, Reads, ReadsAll}
use Rattle.resident_http.specs.Connections.{Connection, ServesConnection, Delivers, IsUntouched, Replies, Responds}
use Rattle.resident_http.specs.declared.served.Served.{Served}
use Rattle.resident_http.specs.declared.served.Served.TheVariants.{Answered, ReadFault, Silent, WriteFault}

-- ---- reading

-- the bytes read so far, and those read into the buffer after them
pub take-put_mid : (buf new : List ℕ) (len n k : ℕ) → len ≤ length buf → n ≤ length new
    → take (len + n) (put_mid len k buf new) ≡ take len buf ++ take n new
take-put_mid buf new len n k within fits =
    let count = length-take-le len buf within in
    ap (λ m. take (m + n) (take len buf ++ (new ++ post_of len k buf))) (sym count)
    ∙ take-append-add (take len buf) (new ++ post_of len k buf) n
    ∙ ap (λ t. take len buf ++ t) (take-append-le n new (post_of len k buf) fits)

-- a read into the buffer after the bytes read so far
pub read_into : (a b c : Option (List ℕ)) (buf new : List ℕ) (len n k : ℕ) → len ≤ length buf → n ≤ length new
    → Consumes a b (take len buf) → Consumes b c (take n new)
    → Consumes a c (take (len + n) (put_mid len k buf new))
read_into a b c buf new len n k within fits p q =
    rw (take-put_mid buf new len n k within fits) (Consumes-trans a b c _ _ p q)

length-parts : (xs ys zs : List ℕ) → length (xs ++ (ys ++ zs)) ≡ length xs + (length ys + length zs)
length-parts xs ys zs = omega (arith, length-append xs (ys ++ zs), length-append ys zs)

pub length-put_mid : (buf new : List ℕ) (len k : ℕ) → len + k ≡ length buf → length new ≡ k
    → length (put_mid len k buf new) ≡ length buf
length-put_mid buf new len k size e =
    length-parts (take len buf) new (drop k (drop len buf))
    ∙ omega (
      arith,
      e,
      size,
      length-take-le len buf (omega arith),
      length-drop k (drop len buf),
      length-drop len buf,
    )

-- a read that returned no bytes
pub read_none : (a b c : Option (List ℕ)) (bs new : List ℕ) (n : ℕ) → n ≡ 0 → Consumes a b bs
    → Consumes b c (take n new) → Consumes a c bs
read_none a b c bs new n e p q =
    let none : take n new ≡ [] = ap (λ k. take k new) e in
    subst (Consumes a c) (append-nil bs) (Consumes-trans a b c bs [] p (subst (Consumes b c) none q))

-- a stream with known remaining bytes is still at its end
still_at_end : (a b c : Option (List ℕ)) (bs : List ℕ) → Consumes a b bs → IsAtEnd b → Keeps b c → OnSome a (IsAtEnd c)
still_at_end None b c bs p e k = tt
still_at_end (Some x) None c bs p e k = absurd p
still_at_end (Some x) (Some y) None bs p e k = absurd k
still_at_end (Some x) (Some y) (Some z) bs p e k = k ∙ e

-- any state but `More` is seen as another value than `more`
pub not_more : (r : AskState) → (r ≡ state.More → ⊥) → seen r ≡ more → ⊥
not_more state.More h e = absurd (h refl)
not_more (state.Ask m t k b u) h e = cc
not_more (state.Fault s) h e = cc

-- one more read
pub counted_within : (r len n : ℕ) → r ≤ len → len ≤ 9216 → (n ≡ 0 → ⊥) → counted r 1 ≤ len + n
counted_within r len n h k some = omega arith

pub counted_last : (r len : ℕ) → r ≤ len → len < 9216 → counted r 1 ≤ 9216
counted_last r len h k = omega arith

-- a read into a nonempty buffer that returned no bytes has found the end
pub ended_after_none : (before after : Bool) (buf : List ℕ) (n : ℕ)
    → after ≡ (before || (nat_lt 0 (length buf) && n == 0)) → n ≡ 0 → 0 < length buf → after ≡ true
ended_after_none before after buf n returned none some =
    let room : nat_lt 0 (length buf) ≡ true = search (rules, tests) in
    let nothing : (n == 0) ≡ true = search (rules, tests) in
    returned ∙ ap (λ t. before || (t && n == 0)) room ∙ ap (λ t. before || (true && t)) nothing ∙ or-true before

-- a call with a nonempty buffer, after neither a failure nor the end, is not wasted
pub not_wasted : (after before failed ended full : Bool) → after ≡ (before || failed || ended || full) → failed ≡ false
    → ended ≡ false → full ≡ false → after ≡ before
not_wasted after before failed ended full returned f e r =
    returned ∙ or_known (before || failed || ended) full r ∙ or_known (before || failed) ended e
    ∙ or_known before failed f

module _ {T : Type 0} (calls : Calls T) where
  -- if the reads returned no bytes, the stream is unchanged
  pub Reads-none : (bytes : List ℕ) (old new : T) → Reads calls bytes old new → bytes ≡ [] → new ≡ old
  Reads-none bytes old new (zero, h) none = h.1
  Reads-none bytes old new (suc times, h) none =
      let read = h.3 in
      absurd (omega (
        arith,
        read.some,
        read.within,
        ap length (sym read.joined ∙ none),
        length-append h.0
            (take read.count read.buffer),
        length-take-le read.count read.buffer read.within,
      ))

  -- a read into a nonempty buffer that returned no bytes has found the end of the unchanged stream
  pub Reads-FindsEnd : (buffer_before buffer : List ℕ) (n : ℕ) (old between new : T) → n ≡ 0 → 0 < length buffer
      → between ≡ old
      → calls.reads between buffer_before buffer (Ok n) new → FindsEnd calls old new
  Reads-FindsEnd buffer_before buffer n old between new none room same called = (
    buffer_before,
    buffer,
    room,
    subst (λ k. calls.reads old buffer_before buffer (Ok k) new) none
        (subst (λ t. calls.reads t buffer_before buffer (Ok n) new) same called),
  )

  -- if the bytes need no more, the reads are all reads
  pub Reads-all : (bytes : List ℕ) (asked : Asked) (old new : T) → (asked ≡ more → ⊥) → Reads calls bytes old new
      → ReadsAll calls bytes asked old new
  Reads-all bytes more old new h reads = absurd (h refl)
  Reads-all bytes (ask method path key body used) old new h reads = reads
  Reads-all bytes (fault status) old new h reads = reads

-- ---- writing

pub IsUntouched-refl : (o : Output) → IsUntouched o o
IsUntouched-refl o = record { kept = Keeps-refl o.contents; taken = refl; flushes = refl; pending = refl }

pub IsUntouched-more : (a b c : Output) → IsUntouched a b → Keeps b.contents c.contents → c.taken ≡ b.taken
    → c.flushes ≡ b.flushes → c.pending ≡ b.pending → IsUntouched a c
IsUntouched-more a b c u kept taken flushes pending = record {
  kept = Keeps-trans a.contents b.contents c.contents u.kept kept;
  taken = taken ∙ u.taken;
  flushes = flushes ∙ u.flushes;
  pending = pending ∙ u.pending;
}

Appends-after : (a b c : Option (List ℕ)) (bs : List ℕ) → Keeps a b → Appends b c bs → Appends a c bs
Appends-after None b c bs p q = tt
Appends-after (Some x) None c bs p q = absurd p
Appends-after (Some x) (Some y) None bs p q = absurd q
Appends-after (Some x) (Some y) (Some z) bs p q = q ∙ ap (λ l. l ++ bs) p

Puts-after : (a b c : Output) (bs : List ℕ) → IsUntouched a b → Puts b c bs → Puts a c bs
Puts-after a b c bs u p = record {
  written = Appends-after a.contents b.contents c.contents bs u.kept p.written;
  taken = p.taken ∙ ap (λ t. count_after t (length bs)) u.taken;
}

Delivers-after : (served : Served) (status : ℕ) (bs : List ℕ) (a b c : Output) → IsUntouched a b
    → Delivers served status bs b c → Delivers served status bs a c
Delivers-after (Answered returned) status bs a b c u d = (
  d.0,
  record {
    written = Puts-after a b c bs u d.1.written;
    flushed = d.1.flushed ∙ ap (λ n. counted n 1) u.flushes;
    clear = d.1.clear;
    well = d.1.well;
  },
)
Delivers-after (WriteFault sent) status bs a b c u d = (
  d.0,
  elim d.1 [
    | inl prefix ↦ inl (prefix.0, Puts-after a b c _ u prefix.1, prefix.2 ∙ u.flushes)
    | inr all ↦ inr (all.0, Puts-after a b c bs u all.1, all.2 ∙ ap (λ n. counted n 1) u.flushes, all.3)
  ],
)
Delivers-after Silent status bs a b c u d = absurd d
Delivers-after ReadFault status bs a b c u d = absurd d

module _ {T H : Type 0} (calls : Calls T) (handles : H → Request → DeskAnswer → H → Type 0) where
  Replies-responded : (served : Served) (old new : H) (before mid after : Connection T) (bytes : List ℕ) (asked : Asked)
      → ReadsAll calls bytes asked before.stream mid.stream → Consumes before.input.remaining mid.input.remaining bytes
      → Keeps mid.input.remaining after.input.remaining → IsUntouched before.output mid.output
      → length bytes ≤ 9216 → after.input.reads ≤ length bytes + (if is_more asked then 1 else 0) → Asks bytes asked
      → (is_more asked ≡ false → after.ended ≡ before.ended)
      → (asked ≡ more → (0 < length bytes) × (after.ended ≡ true) × IsAtEnd mid.input.remaining)
      → Responds calls handles asked old new served mid.output after.output mid.stream after.stream
      → Replies calls handles old new served before after
  Replies-responded served old new before mid after bytes asked called read kept untouched limit each asks unended ended
      responds = record {
        bytes = bytes;
        asked = asked;
        between = mid.stream;
        called = called;
        read = Consumes-kept _ _ _ bytes read kept;
        limit = limit;
        each = each;
        asks = asks;
        unended = unended;
        ended = λ e. let h = ended e in (
          h.0,
          h.1,
          still_at_end before.input.remaining mid.input.remaining after.input.remaining bytes
              read h.2 kept,
        );
        responds = record {
          answer = responds.answer;
          answers = responds.answers;
          delivers = Delivers-after served _ _ before.output mid.output after.output untouched responds.delivers;
          sends = responds.sends;
        };
      }

  -- the response to the bytes read makes the whole connection
  pub ServesConnection-responded : (served : Served) (old new : H) (before mid after : Connection T) (bytes : List ℕ)
      (asked : Asked)
      → ReadsAll calls bytes asked before.stream mid.stream → Consumes before.input.remaining mid.input.remaining bytes
      → Keeps mid.input.remaining after.input.remaining → IsUntouched before.output mid.output
      → length bytes ≤ 9216 → after.input.reads ≤ length bytes + (if is_more asked then 1 else 0) → Asks bytes asked
      → (is_more asked ≡ false → after.ended ≡ before.ended)
      → (asked ≡ more → (0 < length bytes) × (after.ended ≡ true) × IsAtEnd mid.input.remaining)
      → Responds calls handles asked old new served mid.output after.output mid.stream after.stream
      → ServesConnection calls handles served old new before after
  ServesConnection-responded (Answered status) old new before mid after bytes asked called read kept untouched limit
      each asks unended ended responds =
      Replies-responded (Answered status) old new before mid after bytes asked called read kept untouched limit each
      asks unended ended responds
  ServesConnection-responded (WriteFault sent) old new before mid after bytes asked called read kept untouched limit
      each asks unended ended responds =
      Replies-responded (WriteFault sent) old new before mid after bytes asked called read kept untouched limit each
      asks unended ended responds
  ServesConnection-responded Silent old new before mid after bytes asked called read kept untouched limit each asks
      unended ended responds = absurd responds.delivers
  ServesConnection-responded ReadFault old new before mid after bytes asked called read kept untouched limit each asks
      unended ended responds = absurd responds.delivers
