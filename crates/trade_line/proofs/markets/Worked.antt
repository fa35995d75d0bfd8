-- Worked examples of the definitions: a newcomer asks first, and a tenant lists a vacant room.
use Rattle.std.proofs.Common.{◌≡◌, ℕ, ◌<◌, ◌≤◌, true, [], ◌∷◌, Option, Some, None, refl, sym, ap, ◌∙◌, subst, arith}
use Rattle.std.proofs.Common.{le_refl}
use Rattle.trade_line.specs.Market.{Market, home}
use Rattle.trade_line.specs.Rank.{rank}
use Rattle.trade_line.specs.Assignment.{IsAssignment}
use Rattle.trade_line.specs.Core.{IsInStrictCore}
use Rattle.trade_line.specs.TopTradingCycles.{ttc, gets, gets_within, start, wish, first, points_to, successor}
use Rattle.trade_line.specs.TopTradingCycles.{is_on_cycle, taken, removed}

-- a newcomer, the tenants of rooms 0 and 1, and the vacant room 2
newcomer_asks_first : Market
newcomer_asks_first =
    record {
      people = 3;
      rooms = 3;
      homes = None ∷ Some 0 ∷ Some 1 ∷ [];
      lists = (0 ∷ 2 ∷ []) ∷ (1 ∷ []) ∷ (0 ∷ []) ∷ [];
    }

newcomer_asks_first_gives : ttc newcomer_asks_first ≡ Some 2 ∷ Some 1 ∷ Some 0 ∷ []
unfolding newcomer_asks_first ttc gets gets_within start wish first points_to successor is_on_cycle taken removed
newcomer_asks_first_gives = refl

-- one tenant, of room 0, who lists the vacant room 1
vacant_room_listed : Market
vacant_room_listed = record { people = 1; rooms = 2; homes = Some 0 ∷ []; lists = (1 ∷ []) ∷ [] }

vacant_room_listed_gives : ttc vacant_room_listed ≡ Some 1 ∷ []
unfolding vacant_room_listed ttc gets gets_within start wish first points_to successor is_on_cycle taken removed
vacant_room_listed_gives = refl

-- staying is in the strict core too: if a room is vacant, the strict core may hold several assignments
stays : ℕ → Option ℕ
stays p = Some 0

stays_is_assignment : IsAssignment vacant_room_listed stays
unfolding vacant_room_listed stays
stays_is_assignment = record {
  known = λ p r l e. (let z : 0 ≡ r = cc in omega arith);
  differ = λ p q r lp lq ep eq. omega arith;
}

stays_in_strict_core : IsInStrictCore vacant_room_listed stays
unfolding vacant_room_listed stays
stays_in_strict_core group a apart better p gp =
    let q : (q : ℕ) × (group q ≡ true) × (a p ≡ home vacant_room_listed q) = apart.own p gp in
    let z : q.0 ≡ 0 = (let l : q.0 < 1 = apart.people q.0 q.1 in omega arith) in
    subst (λ v. rank vacant_room_listed p (Some 0) ≤ rank vacant_room_listed p v)
    (sym (q.2 ∙ ap (home vacant_room_listed) z)) (le_refl (rank vacant_room_listed p (Some 0)))
