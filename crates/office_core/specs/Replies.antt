-- An invariant of replies.
use Rattle.std.specs.Prelude.{⊤}
use Rattle.room_types.specs.Ascending.{AscendsBy}
use Rattle.office_core.specs.declared.reply.Reply.{Reply}
use Rattle.office_core.specs.declared.reply.Reply.TheVariants as reply

-- rows of rooms ascend strictly by code, and rows of people and of results by identifier
abbrev pub RowsAscend : Reply → Type 0
RowsAscend reply.Done = ⊤
RowsAscend (reply.Shut displaced) = ⊤
RowsAscend (reply.Opened round) = ⊤
RowsAscend (reply.Chosen choices) = ⊤
RowsAscend reply.Withdrawn = ⊤
RowsAscend (reply.Closed participants) = ⊤
RowsAscend (reply.Drawn participants) = ⊤
RowsAscend (reply.Ran participants) = ⊤
RowsAscend (reply.Published participants) = ⊤
RowsAscend (reply.Settled moves) = ⊤
RowsAscend reply.Cancelled = ⊤
RowsAscend (reply.Added count) = ⊤
RowsAscend (reply.Rooms rows) = AscendsBy (λ row. row.room) rows
RowsAscend (reply.People rows) = AscendsBy (λ row. row.person) rows
RowsAscend (reply.Round number phase people withdrawn going) = ⊤
RowsAscend (reply.Order rows) = ⊤
RowsAscend (reply.Results rows) = AscendsBy (λ row. row.person) rows
RowsAscend (reply.Moves rows) = ⊤
RowsAscend (reply.Me standing) = ⊤
RowsAscend (reply.WouldGet room) = ⊤
RowsAscend reply.Going = ⊤
