-- Top trading cycles in simultaneous steps (Shapley and Scarf 1974, who credit David Gale; Abdulkadiroglu and Sönmez
-- 1999, with vacant rooms and newcomers).
use Rattle.std.specs.List.{range_with_len}
use Rattle.std.specs.Option.{unwrap_or}
use Rattle.std.specs.Prelude.{ℕ, suc, Bool, cond, Option, Some, None, List, ◌==◌, not, zero, ◌&&◌, nat_lt, find, map}
use Rattle.std.specs.Fn.{iterate}
use Rattle.trade_line.specs.Below.{some_below, or_else, first_below, count_below}
use Rattle.trade_line.specs.Market.{Market, floor, list_of, is_room, tenant_of}

-- which people and which rooms remain
pub record Stage : Type 0 where
  pub people : ℕ → Bool
  pub rooms : ℕ → Bool

-- the first stage, at which all people and rooms remain
unfoldable pub start : Market → Stage
start m = record { people = λ p. nat_lt p m.people; rooms = λ r. nat_lt r m.rooms }

-- the first remaining room on the list of p, or else the floor of p
unfoldable pub wish : Market → Stage → ℕ → Option ℕ
wish m s p = or_else (find s.rooms (list_of m p)) (floor m p)

-- the first remaining person in priority order, or 0 if nobody remains
unfoldable pub first : Market → Stage → ℕ
first m s = unwrap_or (first_below m.people s.people) 0

-- the tenant, if there is one and the tenant remains, or else the first remaining person
abbrev pub tenant_or_first : Market → Stage → Option ℕ → ℕ
tenant_or_first m s None = first m s
tenant_or_first m s (Some t) = cond (s.people t) t (first m s)

-- the person to whom a room points: its tenant if the tenant remains, or else the first remaining person
unfoldable pub points_to : Market → Stage → ℕ → ℕ
points_to m s r = tenant_or_first m s (tenant_of m r)

-- the person to whom a wish of p points; the wish for nothing points to p
abbrev pub target : Market → Stage → ℕ → Option ℕ → ℕ
target m s p None = p
target m s p (Some r) = points_to m s r

unfoldable pub successor : Market → Stage → ℕ → ℕ
successor m s p = target m s p (wish m s p)

-- how many people remain
abbrev pub remaining_count : Market → Stage → ℕ
remaining_count m s = count_below m.people s.people

-- p remains, and some number of steps, from 1 to `remaining_count`, leads from p back to p; each step goes from a
-- person to their successor
unfoldable pub is_on_cycle : Market → Stage → ℕ → Bool
is_on_cycle m s p = s.people p
    && some_below (remaining_count m s) (λ k. iterate (successor m s) (suc k) p == p)

-- whether somebody in the group wishes for r
unfoldable pub taken : Market → Stage → (ℕ → Bool) → ℕ → Bool
taken m s group r = some_below m.people (λ p. group p && is_room r (wish m s p))

-- the stage after the group leaves, with the rooms that its people wish for
unfoldable pub removed : Market → Stage → (ℕ → Bool) → Stage
removed m s group = record {
  people = λ p. s.people p && not (group p);
  rooms = λ r. s.rooms r && not (taken m s group r);
}

-- everybody on a cycle leaves
abbrev pub step : Market → Stage → Stage
step m s = removed m s (is_on_cycle m s)

-- what p gets in the next k steps from the stage, or `None` if p does not leave in these steps
unfoldable pub gets_within : Market → ℕ → Stage → ℕ → Option ℕ
gets_within m zero s p = None
gets_within m (suc k) s p = cond (is_on_cycle m s p) (wish m s p) (gets_within m k (step m s) p)

-- what p gets from the start, in as many steps as there are people
unfoldable pub gets : Market → ℕ → Option ℕ
gets m p = gets_within m m.people (start m) p

-- what each person gets, in priority order
unfoldable pub ttc : Market → List (Option ℕ)
ttc m = map (gets m) (range_with_len 0 m.people)
