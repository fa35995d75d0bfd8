-- How far each list is read, and how many entries were read. A list `c` of cursors has, for each person, the
-- place on their list at which they read on.
use Rattle.std.specs.Prelude.{◌≡◌, ℕ, suc, ◌+◌, ◌<◌, ◌≤◌, Bool, true, false, cond, nat_lt, Option, Some, List, [], ◌∷◌, length, slice_index_or}
use Rattle.trade_line.specs.Below.{sum_below}
use Rattle.trade_line.specs.Market.{Market, home, list_of}
use Rattle.trade_line.specs.Member.{among}
use Rattle.trade_line.specs.Rank.{rank}
use Rattle.trade_line.specs.Inner.State.{State, stage_at, given_to}

-- the cursor of p
abbrev pub cursor : List ℕ → ℕ → ℕ
cursor c p = slice_index_or c p 0

-- the cursor of p is at the place at which p ranks x
abbrev pub CursorAt : Market → List ℕ → ℕ → Option ℕ → Type 0
CursorAt m c p x = rank m p x ≡ cursor c p

-- the cursor of p is at the entry at which p lists x, before the end of the list
abbrev pub StaysAt : Market → List ℕ → ℕ → Option ℕ → Type 0
StaysAt m c p x = (cursor c p < length (list_of m p)) × CursorAt m c p x

-- take the people behind a: each of them who has asked has the cursor at the home of the person before them
abbrev pub StayBehind : Market → List Bool → List ℕ → ℕ → List ℕ → Type 0
StayBehind m asked c a [] = Unit {0}
StayBehind m asked c a (b ∷ r) =
    (slice_index_or asked b false ≡ true → StaysAt m c b (home m a)) × StayBehind m asked c b r

-- take the people in line behind the first: each of them who has asked has the cursor at the home of the person
-- before them
abbrev pub StayInLine : Market → List Bool → List ℕ → List ℕ → Type 0
StayInLine m asked c [] = Unit {0}
StayInLine m asked c (a ∷ r) = StayBehind m asked c a r

-- between two turns: the entries before each cursor are gone, the cursor of each person who waits for a room is at that
-- room, and the cursor of each person who was served is at what they got
pub record AreCursors (m : Market) (s : State) (c : List ℕ) : Type 0 where
  pub cursors_len : length c ≡ m.people
  pub within : (p : ℕ) → p < m.people → cursor c p ≤ length (list_of m p)
  pub gone : (p k : ℕ) → p < m.people → k < cursor c p
      → (stage_at s).rooms (slice_index_or (list_of m p) k 0) ≡ false
  pub waiting : StayInLine m s.asked c s.line
  pub served : (p : ℕ) → p < m.people → among s.line p ≡ false → CursorAt m c p (given_to s p)

-- the number of list entries before the cursors, for all people together
abbrev pub cursor_sum : Market → List ℕ → ℕ
cursor_sum m c = sum_below m.people (cursor c)

-- 1 for a person who left the line with the cursor at the end of the list, and else 0
abbrev pub spent : Market → List ℕ → List ℕ → ℕ → ℕ
spent m line c p = cond (among line p) 0 (cond (nat_lt (cursor c p) (length (list_of m p))) 0 1)

-- the number of people who left the line with the cursor at the end of the list
abbrev pub spent_sum : Market → List ℕ → List ℕ → ℕ
spent_sum m line c = sum_below m.people (spent m line c)

-- A turn leads from s to t, and in it a asks for the room. Nobody joins the line. Suppose that the cursors satisfy
-- `AreCursors` before the turn, and that the cursor of a is at the room. Then the cursors satisfy `AreCursors` after
-- the turn too, and the cursor of each person who leaves is before the end of their list.
pub record KeepsCursors (m : Market) (a : ℕ) (room : ℕ) (s t : State) : Type 0 where
  pub inside : (p : ℕ) → among t.line p ≡ true → among s.line p ≡ true
  pub cursors : (c : List ℕ) → AreCursors m s c → StaysAt m c a (Some room) → AreCursors m t c
  pub left :
      (c : List ℕ) → AreCursors m s c → StaysAt m c a (Some room)
      → (p : ℕ) → among s.line p ≡ true → among t.line p ≡ false → cursor c p < length (list_of m p)

-- A turn leads from s to t, moves the cursors from c to d, and reads `read` entries. These are the entries that a
-- cursor passes, and the entry at which the cursor stops. No entry is counted for the stop if the cursor stops at the
-- end of the list and its person leaves.
pub record TurnReads (m : Market) (s : State) (c : List ℕ) (t : State) (d : List ℕ) (read : ℕ) : Type 0 where
  pub cursors : AreCursors m t d
  pub reads : read + cursor_sum m c + spent_sum m t.line d
      ≡ suc (cursor_sum m d) + spent_sum m s.line c

-- the turns so far took this many asks and looks
pub record ReadSoFar (m : Market) (s : State) (c : List ℕ) (asks : ℕ) (looks : ℕ) : Type 0 where
  pub cursors : AreCursors m s c
  pub reads : looks + spent_sum m s.line c ≡ asks + cursor_sum m c
