-- Another list of one person: nobody gains by it, since everybody gets the same if a group does not lose.
use Rattle.std.proofs.Common.{◌≡◌, ap, inl, inr, arith}
use Rattle.std.proofs.lemmas.Bool.{cases_lt}
use Rattle.trade_line.specs.Market.{Market, IsMarket}
use Rattle.trade_line.specs.TopTradingCycles.{gets}
use Rattle.trade_line.specs.Rank.{rank}
use Rattle.trade_line.specs.OtherList.{with_list, IsStrategyproof}
use Rattle.trade_line.proofs.welfare.Groups.{one_is_a_group}

pub list_proof : (m : Market) → IsMarket m → IsStrategyproof m
list_proof m ok p l h ok2 =
    elim (cases_lt (rank m p (gets (with_list m p l) p)) (rank m p (gets m p))) [
      | inl lt ↦
          let same : gets (with_list m p l) p ≡ gets m p = one_is_a_group m ok p l ok2 (omega arith) p h in
          let z : rank m p (gets (with_list m p l) p) ≡ rank m p (gets m p) = ap (rank m p) same in
          absurd (omega arith)
      | inr ge ↦ ge
    ]
