-- What a rehearsal does, by its ending. The parts about bytes, endings and devices hold for any handler; the relation
-- `handles` describes what the handler does.
use Rattle.std.specs.Prelude.{◌≡◌, ℕ, ◌+◌, ◌<◌, ◌≤◌, ◌⊎◌, true, false, List, [], ◌++◌, length, take}
use Rattle.std.specs.List.{list_all}
use Rattle.std.specs.Io.KnownBytes.{Consumes, IsAtEnd}
use Rattle.room_types.specs.Watched.{counted}
use Rattle.office_core.specs.declared.requests.Answer.{Answer}
use Rattle.office_core.specs.declared.requests.Request.{Request}
use Rattle.office_lines.specs.declared.render.response.Response.{Response}
use Rattle.office_lines.specs.declared.ending.Ending.{Ending}
use Rattle.office_lines.specs.declared.ending.Ending.TheVariants.{Ended, ReadFault, WriteFault, NoMemory}
use Rattle.office_lines.specs.Lines.{is_short, line_limit, chunk_limit, read_limit, init, lines_of, ended_lines, last_part}
use Rattle.room_types.specs.Streams.{Input, Output, Puts}
use Rattle.office_lines.specs.Runs.{Run, texts_of, last_is_made, greatest_status}

-- Which allocation failed. `handled` has the handled bytes, `lines` their lines, `answers` the responses, and `sent`
-- is the number of bytes written. There are two cases. In the first, the text of the last response is not constant
-- and not empty, its allocation failed, and no byte of it was written. In the second, all responses were written
-- completely, and the allocation for an unfinished line within the limit failed.
abbrev pub NeedsMemory : List ℕ → List (List ℕ) → List Response → ℕ → Type 0
NeedsMemory handled lines answers sent =
    ((sent ≡ length (texts_of (init answers))) × (sent < length (texts_of answers)) × (last_is_made answers ≡ true))
    ⊎ ((sent ≡ length (texts_of answers)) × (lines ≡ ended_lines handled) × (0 < length (last_part handled)) × (length (last_part handled) ≤ line_limit))

module _ {H : Type 0} (handles : H → Request → Answer → H → Type 0) where
  -- The whole input was handled: each line got its response in turn, all texts were written, and one flush followed,
  -- so no byte is pending. No read, write or flush failed. The number of reads is at most the number of bytes plus 1.
  pub record WholeInput (old new : H) (input input' : Input) (output output' : Output) (status : ℕ) : Type 0 where
    pub bytes : List ℕ
    pub answers : List Response
    pub read : Consumes input.remaining input'.remaining bytes
    pub reads : input'.reads ≤ length bytes + 1
    pub end : IsAtEnd input'.remaining
    pub short : list_all is_short (lines_of bytes) ≡ true
    pub run : Run handles old (lines_of bytes) answers new
    pub written : Puts output output' (texts_of answers)
    pub flushed : output'.flushes ≡ counted output.flushes 1
    pub none_pending : output'.pending ≡ false
    pub no_read_failed : input'.failed ≡ false
    pub no_write_failed : output'.failed ≡ false
    pub greatest : status ≡ greatest_status answers

  -- What was done when a write fault or a failed allocation ended a rehearsal. The bytes `handled` were read and
  -- handled. The bytes `ahead`, fewer than one chunk, were read but not handled. Each handled line got a response,
  -- and none of these lines is too long. The first `sent` bytes of the responses' texts were written; only the last
  -- text may be incomplete. A line ends at its line feed. If the input was read and handled to its end, the last line
  -- may end there instead. The number of reads is at most the number of bytes plus 1. One flush may have followed if
  -- all lines of the whole input were handled and all texts were written; otherwise nothing was flushed.
  pub record PartOfInput (old new : H) (input input' : Input) (output output' : Output) (sent : ℕ) : Type 0 where
    pub handled : List ℕ
    pub ahead : List ℕ
    pub lines : List (List ℕ)
    pub answers : List Response
    pub read : Consumes input.remaining input'.remaining (handled ++ ahead)
    pub reads : input'.reads ≤ length (handled ++ ahead) + 1
    pub near : length ahead < chunk_limit
    pub cut : (lines ≡ ended_lines handled) ⊎ (IsAtEnd input'.remaining × (ahead ≡ []) × (lines ≡ lines_of handled))
    pub short : list_all is_short lines ≡ true
    pub run : Run handles old lines answers new
    pub written : Puts output output' (take sent (texts_of answers))
    pub whole : length (texts_of (init answers)) ≤ sent
    pub within : sent ≤ length (texts_of answers)
    pub flushed :
        (output'.flushes ≡ output.flushes)
        ⊎ (IsAtEnd input'.remaining × (ahead ≡ []) × (lines ≡ lines_of handled) × (sent ≡ length (texts_of answers))
        × (output'.flushes ≡ counted output.flushes 1))

  -- Reading stopped at a fault. Each line that ended before the fault got a response, and all texts were written.
  -- None of these lines is too long. The fault has one of two causes. Either a byte made the unfinished line too
  -- long; then no read had failed, and fewer than one chunk of bytes was left unhandled. Or all bytes read were
  -- handled, and the unfinished line is within the limit. In this case a read failed, or the reads and the handled
  -- bytes both number `read_limit` or more. The number of reads is at most the number of bytes plus 1. Nothing was
  -- flushed.
  pub record WholeLines (old new : H) (input input' : Input) (output output' : Output) : Type 0 where
    pub handled : List ℕ
    pub unhandled : List ℕ
    pub answers : List Response
    pub read : Consumes input.remaining input'.remaining (handled ++ unhandled)
    pub reads : input'.reads ≤ length (handled ++ unhandled) + 1
    pub near : length unhandled < chunk_limit
    pub short : list_all is_short (ended_lines handled) ≡ true
    pub run : Run handles old (ended_lines handled) answers new
    pub written : Puts output output' (texts_of answers)
    pub unflushed : output'.flushes ≡ output.flushes
    pub cause :
        ((length (last_part handled) ≡ line_limit + 1) × (input'.failed ≡ false))
        ⊎ ((unhandled ≡ []) × (length (last_part handled) ≤ line_limit) × ((input'.failed ≡ true)
        ⊎ ((read_limit ≤ input'.reads) × (read_limit ≤ length handled))))

  -- What a rehearsal did, by its ending. The writer has failed exactly if the ending is `WriteFault`. A read has
  -- failed only if the ending is `ReadFault`. The ending is `NoMemory` only if an allocation failed as `NeedsMemory`
  -- describes.
  abbrev pub Rehearses : Ending → ℕ → H → H → Input → Input → Output → Output → Type 0
  Rehearses Ended status old new input input' output output' = WholeInput old new input input' output output' status
  Rehearses ReadFault status old new input input' output output' =
      (status ≡ 3) × (output'.failed ≡ false) × WholeLines old new input input' output output'
  Rehearses (WriteFault sent) status old new input input' output output' =
      (status ≡ 3) × (input'.failed ≡ false) × (output'.failed ≡ true) × PartOfInput old new input input' output output' sent
  Rehearses (NoMemory sent) status old new input input' output output' =
      (status ≡ 3) × (input'.failed ≡ false) × (output'.failed ≡ false)
      × (part : PartOfInput old new input input' output output' sent) × NeedsMemory part.handled part.lines part.answers sent
