-- The calls that the server makes on the stream of a connection. The relations `reads`, `writes` and `flushes` of the
-- trait `Stream` each describe one call.
use Rattle.std.specs.Prelude.{◌≡◌, ◌⊎◌, ℕ, zero, suc, ◌+◌, ◌<◌, ◌≤◌, List, [], ◌++◌, length, take, Ok, Err}
use Rattle.std.specs.declared.io.Error.{Error}
use Rattle.room_types.specs.Sending.{FailsToWrite, Writes}
use Rattle.room_types.specs.declared.stream.Stream.{Ghosts as Calls}
use Rattle.resident_requests.specs.Asks.{Asked, Asks, more}
use Rattle.resident_http.specs.declared.served.Served.{Served}
use Rattle.resident_http.specs.declared.served.Served.TheVariants.{Answered, ReadFault, Silent, WriteFault}

module _ {T : Type 0} (calls : Calls T) where
  -- The bytes `before`, read so far, were an incomplete request. One more read returned at least one byte. `bytes`
  -- are `before` and then the bytes of this read.
  pub record ReadsOnce (before bytes : List ℕ) (old new : T) : Type 0 where
    pub buffer_before : List ℕ
    pub buffer : List ℕ
    pub count : ℕ
    pub asks : Asks before more
    pub called : calls.reads old buffer_before buffer (Ok count) new
    pub some : 0 < count
    pub within : count ≤ length buffer
    pub joined : bytes ≡ before ++ take count buffer

  -- This number of reads, one after another, returned these bytes in total.
  abbrev pub ReadsEach : ℕ → List ℕ → T → T → Type 0
  ReadsEach zero bytes old new = (bytes ≡ []) × (new ≡ old)
  ReadsEach (suc times) bytes old new =
      (before : List ℕ) × (between : T) × ReadsEach times before old between × ReadsOnce before bytes between new

  -- Some number of reads, one after another, returned these bytes in total.
  abbrev pub Reads : List ℕ → T → T → Type 0
  Reads bytes old new = (times : ℕ) × ReadsEach times bytes old new

  -- one read into a nonempty buffer returned 0: it found the end of the stream
  abbrev pub FindsEnd : T → T → Type 0
  FindsEnd old new =
      (buffer_before : List ℕ) × (buffer : List ℕ) × (0 < length buffer) × calls.reads old buffer_before buffer (Ok 0) new

  -- one read into a nonempty buffer failed
  abbrev pub FailsToRead : T → T → Type 0
  FailsToRead old new =
      (buffer_before : List ℕ) × (buffer : List ℕ) × (error : Error) × (0 < length buffer)
      × calls.reads old buffer_before buffer (Err error) new

  -- Reads, one after another, returned these bytes. If the bytes are an incomplete request, one further read found
  -- the end of the stream.
  abbrev pub ReadsAll : List ℕ → Asked → T → T → Type 0
  ReadsAll bytes more old new = (between : T) × Reads bytes old between × FindsEnd between new
  ReadsAll bytes asked old new = Reads bytes old new

  -- `Answered`: writes took the whole text, and one flush succeeded. `WriteFault`: a write failed, or the flush after
  -- the whole text failed. The other endings are impossible here.
  abbrev pub Sends : Served → List ℕ → T → T → Type 0
  Sends (Answered status) text old new = (between : T) × Writes calls.writes text (length text) old between × calls.flushes between (Ok tt) new
  Sends (WriteFault sent) text old new =
      FailsToWrite calls.writes text sent old new
      ⊎ ((between : T) × (error : Error) × (sent ≡ length text) × Writes calls.writes text sent old between × calls.flushes between (Err error) new)
  Sends Silent text old new = ⊥
  Sends ReadFault text old new = ⊥
