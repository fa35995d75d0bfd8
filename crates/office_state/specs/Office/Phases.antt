-- Tests on phases.
use Rattle.std.specs.Prelude.{Bool, true, false, ◌||◌}
use Rattle.room_types.specs.declared.phase.Phase.{Phase}
use Rattle.room_types.specs.declared.phase.Phase.TheVariants.{Idle, Opened, Closed, Drawn, Ran}
use Rattle.room_types.specs.declared.phase.Phase.TheVariants.{Published}

-- no round is under way
abbrev pub is_idle : Phase → Bool
is_idle Idle = true
is_idle _ = false

-- people may list rooms and withdraw, and the office may record who leaves the college
abbrev pub is_open : Phase → Bool
is_open Opened = true
is_open _ = false

-- the lists are final, and no words are drawn yet
abbrev pub is_closed : Phase → Bool
is_closed Closed = true
is_closed _ = false

-- the words are drawn, and the rooms are not traded yet
abbrev pub is_drawn : Phase → Bool
is_drawn Drawn = true
is_drawn _ = false

-- the rooms are traded, and the results are not published yet
abbrev pub has_run : Phase → Bool
has_run Ran = true
has_run _ = false

-- each participant may see their result
abbrev pub is_published : Phase → Bool
is_published Published = true
is_published _ = false

-- the office may add rooms and people, set grades, and shut or reopen rooms
abbrev pub is_preparing : Phase → Bool
is_preparing phase = is_idle phase || is_open phase

-- a round is under way and is not yet published
abbrev pub may_cancel : Phase → Bool
may_cancel Idle = false
may_cancel Opened = true
may_cancel Closed = true
may_cancel Drawn = true
may_cancel Ran = true
may_cancel Published = false

-- the words are drawn
abbrev pub has_words : Phase → Bool
has_words Idle = false
has_words Opened = false
has_words Closed = false
has_words Drawn = true
has_words Ran = true
has_words Published = true

-- the rooms are traded, so that there are results
abbrev pub has_results : Phase → Bool
has_results Ran = true
has_results Published = true
has_results _ = false
