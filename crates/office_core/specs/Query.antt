-- The query table: the answer to each query.
use Rattle.std.specs.FinMap as map
use Rattle.std.specs.Prelude.{Err, Ok, Result, if◌then◌else◌}
pub mod Answer
pub mod Overview
pub mod Personal
use Rattle.office_state.specs.Office.Phases.{has_results, has_words}
use Rattle.office_state.specs.Office.{is_over, owner}
use Rattle.office_state.specs.Round.{result_by}
use Rattle.office_state.specs.declared.office.Office.{Office}
use Rattle.office_core.specs.Query.Overview.{move_rows, order_rows, person_rows, result_rows, room_rows}
use Rattle.office_core.specs.Query.Personal.{IsNoGain, result_unless, owner_answer, what_if_checks}
use Rattle.office_core.specs.Refusal.Checks.{first_refusal}
use Rattle.office_core.specs.declared.query.Query.{Query}
use Rattle.office_core.specs.declared.query.Query.TheVariants as query
use Rattle.office_core.specs.declared.refusal.Refusal.{Refusal}
use Rattle.office_core.specs.declared.refusal.Refusal.TheVariants.{BadPhase, NoSuchRound}
use Rattle.office_core.specs.declared.reply.Reply.{Reply}
use Rattle.office_core.specs.declared.reply.Reply.TheVariants as reply

-- The reply to a query, or its refusal. `Order` is refused unless lottery numbers are drawn, `Results` unless the
-- round has run, and `Moves` unless the round is over. `Round` returns the number of the latest round (0 before the
-- first), the phase, and three counts: all people, those who have withdrawn, and those who leave the college. `Me`
-- returns what the owner of the key may see, and is refused if nobody has the key. `WhatIf` returns the room that the
-- person would get with the other list, and is refused by the first check of `what_if_checks` that applies.
abbrev pub returned : Office → Query → Result Reply Refusal
returned office query.Rooms = Ok (reply.Rooms (room_rows office))
returned office query.People = Ok (reply.People (person_rows office))
returned office query.Round =
    Ok
    (reply.Round office.number office.phase (map.len office.people) (map.len office.withdrawn)
    (map.len office.going))
returned office query.Order = if has_words office.phase then Ok (reply.Order (order_rows office)) else Err
    (BadPhase office.phase)
returned office query.Results = if has_results office.phase then Ok (reply.Results (result_rows office)) else Err
    (BadPhase office.phase)
returned office (query.Moves number) =
    if is_over office number then Ok (reply.Moves (move_rows office number)) else Err NoSuchRound
returned office (query.Me key) = owner_answer office (owner office key)
returned office (query.WhatIf person choices) =
    result_unless (first_refusal (what_if_checks office person choices))
    (reply.WouldGet (result_by office person choices))

-- If the query is `WhatIf`, the person gains nothing by the other list. The reply to any other query meets this
-- condition.
abbrev pub GainsNothing : Office → Query → Reply → Type 0
GainsNothing office (query.WhatIf person choices) reply = IsNoGain office person reply
GainsNothing office _ reply = Unit {0}
