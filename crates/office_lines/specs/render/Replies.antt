-- The lines that are printed for replies.
use Rattle.std.specs.Prelude.{ℕ, Bool, List, [], ◌∷◌, ◌++◌, ◌==◌, Option, None, Some, codes, if◌then◌else◌}
use Rattle.std.specs.Fmt.{decimal}
use Rattle.std.specs.List.{flat_map}
use Rattle.room_types.specs.Phases.{phase_text}
use Rattle.room_types.specs.Texts.{Text}
use Rattle.office_lists.specs.MoveDay.{move_day_table}
use Rattle.office_lists.specs.Tables.{or_none, people_table, results_table, rooms_table}
use Rattle.office_core.specs.declared.reply.Reply.{Reply}
use Rattle.office_core.specs.declared.reply.Reply.TheVariants as reply
use Rattle.office_core.specs.declared.reply.Standing.{Standing}
use Rattle.room_types.specs.OutputLines.{line_of}
use Rattle.office_lines.specs.render.OrderLines.{order_text}

-- the room codes, with a space before each code
abbrev pub spaced : List Text → Text
spaced rooms = flat_map (λ room. codes " " ++ room) rooms

-- ` displaced ` and the tenant who lost their home; empty if there was no tenant
abbrev pub displaced_text : Option Text → Text
displaced_text None = []
displaced_text (Some person) = codes " displaced " ++ person

abbrev pub yes_or_no : Bool → Text
yes_or_no answer = if answer then codes "yes" else codes "no"

-- the result: a room or `none` if the result is shown, otherwise `hidden`
abbrev pub result_text : Standing → Text
result_text standing = if standing.shown then or_none standing.result else codes "hidden"

-- ` going ` and the number of people who leave the college; empty if the number is 0
abbrev pub going_text : ℕ → Text
going_text going = if going == 0 then [] else codes " going " ++ decimal going

-- the eight lines that show a person their standing
abbrev pub standing_text : Standing → Text
standing_text standing =
    line_of (codes "person " ∷ standing.person ∷ [])
    ++ line_of (codes "name " ∷ standing.name ∷ [])
    ++ line_of (codes "home " ∷ or_none standing.home ∷ [])
    ++ line_of (codes "round " ∷ decimal standing.round ∷ codes " " ∷ phase_text standing.phase ∷ [])
    ++ line_of (codes "choices" ∷ spaced standing.choices ∷ [])
    ++ line_of (codes "withdrawn " ∷ yes_or_no standing.withdrawn ∷ [])
    ++ line_of (codes "going " ∷ yes_or_no standing.going ∷ [])
    ++ line_of (codes "result " ∷ result_text standing ∷ [])

-- the lines of a reply
abbrev pub reply_text : Reply → Text
reply_text reply.Done = line_of (codes "ok" ∷ [])
reply_text (reply.Shut displaced) = line_of (codes "shut" ∷ displaced_text displaced ∷ [])
reply_text (reply.Opened round) = line_of (codes "round " ∷ decimal round ∷ codes " open" ∷ [])
reply_text (reply.Chosen choices) = line_of (codes "chosen" ∷ spaced choices ∷ [])
reply_text reply.Withdrawn = line_of (codes "withdrawn" ∷ [])
reply_text (reply.Closed participants) = line_of (codes "closed " ∷ decimal participants ∷ [])
reply_text (reply.Drawn participants) = line_of (codes "drawn " ∷ decimal participants ∷ [])
reply_text (reply.Ran participants) = line_of (codes "ran " ∷ decimal participants ∷ [])
reply_text (reply.Published participants) = line_of (codes "published " ∷ decimal participants ∷ [])
reply_text (reply.Settled moves) = line_of (codes "settled " ∷ decimal moves ∷ [])
reply_text reply.Cancelled = line_of (codes "cancelled" ∷ [])
reply_text (reply.Added count) = line_of (codes "added " ∷ decimal count ∷ [])
reply_text (reply.Rooms rows) = rooms_table rows
reply_text (reply.People rows) = people_table rows
reply_text (reply.Round number phase people withdrawn going) =
    line_of (codes "round " ∷ decimal number ∷ codes " " ∷ phase_text phase ∷ codes " people " ∷ decimal people ∷ codes " withdrawn " ∷ decimal withdrawn
    ∷ going_text going ∷ [])
reply_text (reply.Order rows) = order_text rows
reply_text (reply.Results rows) = results_table rows
reply_text (reply.Moves rows) = move_day_table rows
reply_text (reply.Me standing) = standing_text standing
reply_text (reply.WouldGet room) = line_of (codes "would get " ∷ or_none room ∷ [])
reply_text reply.Going = line_of (codes "going" ∷ [])
