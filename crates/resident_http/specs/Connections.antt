-- What serving one connection does to the connection and the handler, for each way in which it can end.
use Rattle.std.specs.Prelude.{◌≡◌, ◌⊎◌, ℕ, ◌+◌, ◌<◌, ◌≤◌, Bool}
use Rattle.std.specs.Prelude.{true, false, if◌then◌else◌, List, [], length, take, Option, OnSome}
use Rattle.std.specs.Io.KnownBytes.{Consumes, IsAtEnd, Keeps}
use Rattle.room_types.specs.Streams.{Input, Output, Puts, input_of, output_of}
use Rattle.room_types.specs.Watched.{counted, watched_ended, watched_inner}
use Rattle.room_types.specs.declared.stream.Stream.{Ghosts as Calls}
use Rattle.room_types.specs.declared.watched.Watched.{Watched}
use Rattle.office_core.specs.declared.requests.Answer.{Answer as DeskAnswer}
use Rattle.office_core.specs.declared.requests.Request.{Request}
use Rattle.resident_requests.specs.Answers.{Answer, bytes_of}
use Rattle.resident_requests.specs.Asks.{Asked, Asks, is_more, more}
use Rattle.resident_http.specs.Calls.{FailsToRead, FindsEnd, Reads, ReadsAll, Sends}
use Rattle.resident_http.specs.Serving.{Answers}
use Rattle.resident_http.specs.declared.served.Served.{Served}
use Rattle.resident_http.specs.declared.served.Served.TheVariants.{Answered, ReadFault, Silent, WriteFault}

-- the greatest number of bytes that are read from a connection, and also the greatest number of reads
abbrev pub connection_limit : ℕ
connection_limit = 9216

-- A connection: the state of its stream, the input that it reads, the output that it writes, and whether a read has
-- found the end.
pub record Connection (T : Type 0) : Type 0 where
  pub stream : T
  pub input : Input
  pub output : Output
  pub ended : Bool

abbrev pub connection_of : {T : Type 0} → (T → Option (List ℕ)) → (T → Option (List ℕ)) → Watched T → Connection T
connection_of remaining contents w = record {
  stream = watched_inner w;
  input = input_of remaining w;
  output = output_of contents w;
  ended = watched_ended w;
}

-- Nothing was written or flushed.
pub record IsUntouched (before after : Output) : Type 0 where
  pub kept : Keeps before.contents after.contents
  pub taken : after.taken ≡ before.taken
  pub flushes : after.flushes ≡ before.flushes
  pub pending : after.pending ≡ before.pending

-- All bytes were written, one flush followed, and nothing failed.
pub record IsDelivered (bytes : List ℕ) (before after : Output) : Type 0 where
  pub written : Puts before after bytes
  pub flushed : after.flushes ≡ counted before.flushes 1
  pub clear : after.pending ≡ false
  pub well : after.failed ≡ false

-- The stream failed in one of two ways. Either a write failed: exactly the first `sent` bytes were written, which are
-- not all, and nothing was flushed. Or all bytes were written, and the one flush after them failed. Then the bytes,
-- if there are any, are still pending.
abbrev pub IsCut : ℕ → List ℕ → Output → Output → Type 0
IsCut sent bytes before after =
    (after.failed ≡ true)
    × (((sent < length bytes) × Puts before after (take sent bytes) × (after.flushes ≡ before.flushes))
    ⊎ ((sent ≡ length bytes) × Puts before after bytes × (after.flushes ≡ counted before.flushes 1)
    × (0 < sent → after.pending ≡ true)))

-- `Answered` means that all bytes were written, one flush followed, nothing failed, and the returned status is
-- `status`. `WriteFault` means that the stream failed, as `IsCut` describes. The other endings are impossible here.
abbrev pub Delivers : Served → ℕ → List ℕ → Output → Output → Type 0
Delivers (Answered returned) status bytes before after = (returned ≡ status) × IsDelivered bytes before after
Delivers (WriteFault sent) status bytes before after = IsCut sent bytes before after
Delivers Silent status bytes before after = ⊥
Delivers ReadFault status bytes before after = ⊥

module _ {T H : Type 0} (calls : Calls T) (handles : H → Request → DeskAnswer → H → Type 0) where
  -- A response to the parsed bytes was written and flushed. If the stream failed, only a prefix of the response was
  -- written, or the flush failed.
  pub record Responds (asked : Asked) (old new : H) (served : Served) (before after : Output) (first last : T) : Type 0 where
    pub answer : Answer
    pub answers : Answers handles asked old answer new
    pub delivers : Delivers served answer.status (bytes_of answer) before after
    pub sends : Sends calls served (bytes_of answer) first last

  -- `bytes` were read, with at most one read for each byte, and the response to them was written. If they are an
  -- incomplete request, there is at least one byte, and one further read found the end of the stream. Otherwise no
  -- read found the end. The reads led to the stream `between`, and the writes and the flush continued from there.
  pub record Replies (old new : H) (served : Served) (before after : Connection T) : Type 0 where
    pub bytes : List ℕ
    pub asked : Asked
    pub between : T
    pub called : ReadsAll calls bytes asked before.stream between
    pub read : Consumes before.input.remaining after.input.remaining bytes
    pub limit : length bytes ≤ connection_limit
    pub each : after.input.reads ≤ length bytes + (if is_more asked then 1 else 0)
    pub asks : Asks bytes asked
    pub unended : is_more asked ≡ false → after.ended ≡ before.ended
    pub ended : asked ≡ more → (0 < length bytes) × (after.ended ≡ true)
        × OnSome before.input.remaining (IsAtEnd after.input.remaining)
    pub responds : Responds asked old new served before.output after.output between after.stream

  -- One read found that the stream had ended before its first byte. Nothing was written, and the handler did not
  -- change.
  pub record IsSilent (old new : H) (before after : Connection T) : Type 0 where
    pub called : FindsEnd calls before.stream after.stream
    pub read : Consumes before.input.remaining after.input.remaining []
    pub each : after.input.reads ≤ 1
    pub at_end : IsAtEnd after.input.remaining
    pub ended : after.ended ≡ true
    pub untouched : IsUntouched before.output after.output
    pub same : new ≡ old

  -- The bytes read were an incomplete request, and the next read failed. Nothing was written, and the handler did not
  -- change.
  pub record CannotRead (old new : H) (before after : Connection T) : Type 0 where
    pub bytes : List ℕ
    pub between : T
    pub called : Reads calls bytes before.stream between
    pub fails : FailsToRead calls between after.stream
    pub read : Consumes before.input.remaining after.input.remaining bytes
    pub limit : length bytes ≤ connection_limit
    pub each : after.input.reads ≤ length bytes + 1
    pub asks : Asks bytes more
    pub failed : after.input.failed ≡ true
    pub untouched : IsUntouched before.output after.output
    pub same : new ≡ old

  -- what serving one connection did, for each way in which it ended
  abbrev pub ServesConnection : Served → H → H → Connection T → Connection T → Type 0
  ServesConnection (Answered status) old new before after = Replies old new (Answered status) before after
  ServesConnection Silent old new before after = IsSilent old new before after
  ServesConnection ReadFault old new before after = CannotRead old new before after
  ServesConnection (WriteFault sent) old new before after = Replies old new (WriteFault sent) before after
