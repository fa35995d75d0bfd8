-- What a rehearsal does with a part of its input. Inner contracts and invariants use these definitions.
use Rattle.std.specs.Prelude.{◌≡◌, ℕ, ◌+◌, ◌-◌, ◌<◌, ◌≤◌, ◌⊎◌, Bool, true, not, max, List, [], ◌∷◌, ◌++◌, length, take, Option, if◌then◌else◌}
use Rattle.std.specs.List.{list_all}
use Rattle.std.specs.Io.KnownBytes.{Consumes}
use Rattle.office_lines.specs.declared.render.response.Response.{Response}
use Rattle.office_lines.specs.declared.ending.Ending.{Ending}
use Rattle.office_lines.specs.declared.ending.Ending.TheVariants.{Ended, ReadFault, WriteFault, NoMemory}
use Rattle.office_lines.specs.declared.session.Session.{Session}
use Rattle.office_core.specs.declared.requests.Answer.{Answer}
use Rattle.office_core.specs.declared.requests.Request.{Request}
use Rattle.office_lines.specs.Lines.{is_short, is_line_end, line_limit, chunk_limit, read_limit, init, unended}
use Rattle.room_types.specs.Streams.{Input, Output, Puts}
use Rattle.room_types.specs.Watched.{counted}
use Rattle.office_lines.specs.render.Texts.{is_constant, text_of, exit_status}
use Rattle.office_lines.specs.Runs.{Run, Step, texts_of, last_is_made, greatest_status}

-- the lines that end within `bytes`; the first line begins with `partial_line`, the unfinished line before `bytes`
abbrev pub ended_from : List ℕ → List ℕ → List (List ℕ)
ended_from partial_line [] = []
ended_from partial_line (b ∷ bytes) = if is_line_end b then partial_line ∷ ended_from [] bytes else ended_from (partial_line ++ b ∷ []) bytes

-- the unfinished line after `bytes`, where `partial_line` is the unfinished line before `bytes`
abbrev pub partial_from : List ℕ → List ℕ → List ℕ
partial_from partial_line [] = partial_line
partial_from partial_line (b ∷ bytes) = if is_line_end b then partial_from [] bytes else partial_from (partial_line ++ b ∷ []) bytes

-- The state between two bytes: the handler, the output, the unfinished line, the number of bytes written, and the
-- greatest exit status so far.
pub record State (H : Type 0) : Type 0 where
  pub handler : H
  pub out : Output
  pub partial_line : List ℕ
  pub sent : ℕ
  pub status : ℕ

abbrev pub state : {H : Type 0} → H → Output → Session → State H
state handler out session = record {
  handler = handler;
  out = out;
  partial_line = session.partial_line.items;
  sent = session.sent;
  status = session.status;
}

-- Whether an ending fits what was written. `sent` bytes were written, and `of_last` of them belong to the last text.
-- `unsent` bytes of the texts were not written. `made` says whether the last text is allocated. `begun` is the length
-- of the unfinished line. A read fault needs complete texts and a line that is one byte too long. A write fault
-- reports `sent`. `NoMemory` also reports `sent`: the allocation failed for the last text, of which no byte was
-- written, or for the unfinished line after all texts were written.
abbrev pub Suits : Ending → ℕ → ℕ → ℕ → Bool → ℕ → Type 0
Suits Ended sent of_last unsent made begun = ⊥
Suits ReadFault sent of_last unsent made begun = (unsent ≡ 0) × (begun ≡ line_limit + 1)
Suits (WriteFault n) sent of_last unsent made begun = n ≡ sent
Suits (NoMemory n) sent of_last unsent made begun =
    (n ≡ sent) × (((of_last ≡ 0) × (0 < unsent) × (made ≡ true)) ⊎ ((unsent ≡ 0) × (0 < begun) × (begun ≤ line_limit)))

-- the number of written bytes that belong to the last text
abbrev pub of_last_text : ℕ → List Response → ℕ
of_last_text sent answers = sent - length (texts_of (init answers))

-- After a write fault the writer's failure flag is set. Any other ending leaves the flag unchanged.
abbrev pub OnlyWhereFailed : Ending → Bool → Bool → Type 0
OnlyWhereFailed Ended failed failed' = failed' ≡ failed
OnlyWhereFailed ReadFault failed failed' = failed' ≡ failed
OnlyWhereFailed (WriteFault n) failed failed' = failed' ≡ true
OnlyWhereFailed (NoMemory n) failed failed' = failed' ≡ failed

module _ {H : Type 0} (handles : H → Request → Answer → H → Type 0) where
  -- Each line that ends within `bytes` got a response, and the texts of the responses were written. Nothing was
  -- flushed, and the writer's failure flag did not change.
  pub record Handled (before after : State H) (bytes : List ℕ) : Type 0 where
    pub answers : List Response
    pub partial_line : after.partial_line ≡ partial_from before.partial_line bytes
    pub short : list_all is_short (ended_from before.partial_line bytes) ≡ true
    pub run : Run handles before.handler (ended_from before.partial_line bytes) answers after.handler
    pub written : Puts before.out after.out (texts_of answers)
    pub flushes : after.out.flushes ≡ before.out.flushes
    pub failed : after.out.failed ≡ before.out.failed
    pub sent : after.sent ≡ before.sent + length (texts_of answers)
    pub status : after.status ≡ max before.status (greatest_status answers)

  -- The rehearsal stopped within `bytes`, after it had taken at least one byte. Each line that ended in the bytes
  -- taken got a response. A prefix of the responses' texts was written; only the last text may be incomplete. Nothing
  -- was flushed.
  pub record Halted (before : State H) (ending : Ending) (handler : H) (out : Output) (bytes : List ℕ) : Type 0 where
    pub handled : List ℕ
    pub rest : List ℕ
    pub answers : List Response
    pub sent : ℕ
    pub unsent : ℕ
    pub cut : bytes ≡ handled ++ rest
    pub some : 0 < length handled
    pub short : list_all is_short (ended_from before.partial_line handled) ≡ true
    pub run : Run handles before.handler (ended_from before.partial_line handled) answers handler
    pub written : Puts before.out out (take sent (texts_of answers))
    pub unflushed : out.flushes ≡ before.out.flushes
    pub all : sent + unsent ≡ length (texts_of answers)
    pub whole : length (texts_of (init answers)) ≤ sent
    pub suits : Suits ending (before.sent + sent) (of_last_text sent answers) unsent (last_is_made answers) (length (partial_from before.partial_line handled))

  -- The unfinished line got a response, and the whole text of the response was written.
  pub record Answered (before after : State H) : Type 0 where
    pub response : Response
    pub step : Step handles before.handler before.partial_line response after.handler
    pub partial_line : after.partial_line ≡ []
    pub written : Puts before.out after.out (text_of response)
    pub flushes : after.out.flushes ≡ before.out.flushes
    pub failed : after.out.failed ≡ before.out.failed
    pub sent : after.sent ≡ before.sent + length (text_of response)
    pub status : after.status ≡ max before.status (exit_status response)

  -- The unfinished line got a response, and a prefix of the response's text was written. Nothing was flushed.
  pub record Broken (before : State H) (ending : Ending) (handler : H) (out : Output) : Type 0 where
    pub response : Response
    pub sent : ℕ
    pub unsent : ℕ
    pub step : Step handles before.handler before.partial_line response handler
    pub written : Puts before.out out (take sent (text_of response))
    pub unflushed : out.flushes ≡ before.out.flushes
    pub all : sent + unsent ≡ length (text_of response)
    pub suits : Suits ending (before.sent + sent) sent unsent (not (is_constant response)) 0

  -- The last line got a response unless the line is empty, and the whole text was written. The output has been
  -- flushed `flushes` times in all.
  pub record Finished (before after : State H) (flushes : ℕ) : Type 0 where
    pub answers : List Response
    pub run : Run handles before.handler (unended before.partial_line) answers after.handler
    pub partial_line : after.partial_line ≡ []
    pub written : Puts before.out after.out (texts_of answers)
    pub flushed : after.out.flushes ≡ flushes
    pub failed : after.out.failed ≡ before.out.failed
    pub sent : after.sent ≡ before.sent + length (texts_of answers)
    pub status : after.status ≡ max before.status (greatest_status answers)

  -- The last line got a response unless the line is empty, and a prefix of the text was written. One flush may have
  -- followed if the whole text was written; otherwise nothing was flushed.
  pub record Unfinished (before : State H) (ending : Ending) (handler : H) (out : Output) : Type 0 where
    pub answers : List Response
    pub sent : ℕ
    pub unsent : ℕ
    pub short : list_all is_short (unended before.partial_line) ≡ true
    pub run : Run handles before.handler (unended before.partial_line) answers handler
    pub written : Puts before.out out (take sent (texts_of answers))
    pub flushed : (out.flushes ≡ before.out.flushes) ⊎ ((unsent ≡ 0) × (out.flushes ≡ counted before.out.flushes 1))
    pub all : sent + unsent ≡ length (texts_of answers)
    pub whole : length (texts_of (init answers)) ≤ sent
    pub suits : Suits ending (before.sent + sent) (of_last_text sent answers) unsent (last_is_made answers) 0

  -- All bytes read were handled.
  pub record InputHandled (before after : State H) (unread unread' : Option (List ℕ)) : Type 0 where
    pub bytes : List ℕ
    pub read : Consumes unread unread' bytes
    pub handled : Handled before after bytes

  -- All bytes read were handled, and the unfinished line is within the limit. Then a read failed, or the reads and
  -- the bytes both number `read_limit` or more.
  pub record Cut (before : State H) (handler : H) (out : Output) (bytes : List ℕ) (input : Input) : Type 0 where
    pub after : State H
    pub handled : Handled before after bytes
    pub handler_is : handler ≡ after.handler
    pub out_is : out ≡ after.out
    pub begun : length after.partial_line ≤ line_limit
    pub cause : (input.failed ≡ true) ⊎ ((read_limit ≤ input.reads) × (read_limit ≤ length bytes))

  -- Why a rehearsal stopped. Either it stopped within the last chunk, and the input's failure flag did not change. Or
  -- it stopped as `Cut` describes, because a read failed or the limit on reads was reached. The number of reads is at
  -- most the number of bytes plus 1.
  pub record Stopped (before : State H) (ending : Ending) (handler : H) (out : Output) (input input' : Input) : Type 0 where
    pub bytes : List ℕ
    pub read : Consumes input.remaining input'.remaining bytes
    pub reads : input'.reads ≤ length bytes + 1
    pub why :
        ((halted : Halted before ending handler out bytes) × (length halted.rest < chunk_limit) × (input'.failed ≡ input.failed))
        ⊎ ((ending ≡ ReadFault) × Cut before handler out bytes input')
