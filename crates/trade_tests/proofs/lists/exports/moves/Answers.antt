use Rattle.std.proofs.Common.{◌≡◌, ℕ, List, refl, sym, subst}
use Rattle.std.specs.List.Sorted.{IsStrictlySortedBy}
use Rattle.std.specs.Ordering.{nat_cmp, ordering_then}
use Rattle.std.specs.declared.cmp.Ordering.TheVariants.{Less}
use Rattle.room_types.specs.Texts.{Text, text_cmp}
use Rattle.room_types.specs.declared.moves.Move.{Move}
use Rattle.office_lists.specs.Exports.{AscendByRound, by_round}
use Rattle.trade_tests.proofs.lists.exports.moves.Goals as goal

-- one move is below another if its round and person are
below : (a b : Move) (m n : ℕ) (p q : Text) → a.round ≡ m → a.person ≡ p → b.round ≡ n → b.person ≡ q
    → ordering_then (nat_cmp m n) (text_cmp p q) ≡ Less → by_round a b ≡ Less
below a b m n p q a_round a_person b_round b_person less = rw (a_round, a_person, b_round, b_person) less

pub returns : goal.returns
unfolding IsStrictlySortedBy
returns g c =
    let first = c.moved.ensures in
    let second = c.moved-2.ensures in
    let third = c.moved-3.ensures in
    let fourth = c.moved-4.ensures in
    subst (λ (rows : List Move). AscendByRound rows) (sym c.in_ok-rows.ensures.items) (
      (
        below c.moved.result c.moved-2.result _ _ _ _ first.round first.person second.round second.person refl,
        (
          below c.moved.result c.moved-3.result _ _ _ _ first.round first.person third.round third.person refl,
          (below c.moved.result c.moved-4.result _ _ _ _ first.round first.person fourth.round fourth.person refl, tt),
        ),
      ),
      (
        (
          below c.moved-2.result c.moved-3.result _ _ _ _ second.round second.person third.round third.person refl,
          (below c.moved-2.result c.moved-4.result _ _ _ _ second.round second.person fourth.round fourth.person refl, tt),
        ),
        ((below c.moved-3.result c.moved-4.result _ _ _ _ third.round third.person fourth.round fourth.person refl, tt), (tt, tt)),
      ),
    )
