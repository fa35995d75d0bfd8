-- Answers to queries.
use Rattle.std.specs.Prelude.{◌≡◌, Bool, true, false, not, Result, Ok, Err, MatchResult, ◌⊎◌}
use Rattle.office_state.specs.Empty.{is_empty}
use Rattle.office_core.specs.Refusal.Checks.{names_room}
use Rattle.office_core.specs.declared.refusal.Refusal.{Refusal}
use Rattle.office_core.specs.declared.refusal.Refusal.TheVariants.{OutOfMemory}
use Rattle.office_core.specs.declared.reply.Reply.{Reply}
use Rattle.office_core.specs.declared.reply.Reply.TheVariants as reply

-- Whether returning the answer needs memory. A refusal needs memory exactly if it names a room. The reply to `Round`
-- needs no memory, and neither does a reply to `Rooms`, `People`, `Order`, `Results` or `Moves` without rows. Every
-- other reply needs memory.
abbrev pub reply_allocates : Result Reply Refusal → Bool
reply_allocates (Ok (reply.Round number phase people withdrawn going)) = false
reply_allocates (Ok (reply.Rooms rows)) = not (is_empty rows)
reply_allocates (Ok (reply.People rows)) = not (is_empty rows)
reply_allocates (Ok (reply.Order rows)) = not (is_empty rows)
reply_allocates (Ok (reply.Results rows)) = not (is_empty rows)
reply_allocates (Ok (reply.Moves rows)) = not (is_empty rows)
reply_allocates (Ok _) = true
reply_allocates (Err refusal) = names_room refusal

-- the result is the expected answer, or `OutOfMemory` if returning the expected answer needs memory
abbrev pub IsAnswered : Result Reply Refusal → Result Reply Refusal → Type 0
IsAnswered returned result =
    MatchResult result (λ reply. returned ≡ Ok reply)
    (λ refusal. (returned ≡ Err refusal) ⊎ ((refusal ≡ OutOfMemory) × (reply_allocates returned ≡ true)))
