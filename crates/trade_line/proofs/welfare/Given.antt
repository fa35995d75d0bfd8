-- The theorems for the list of what each person gets.
use Rattle.std.proofs.Common.{◌≡◌, ℕ, ◌<◌, ◌≤◌, None, get_or, sym, ◌∙◌, subst, zero-add}
use Rattle.std.proofs.lemmas.List.FromFn.{get_or-map-range_with_len}
use Rattle.trade_line.specs.Market.{Market, IsMarket}
use Rattle.trade_line.specs.TopTradingCycles.{gets, ttc}
use Rattle.trade_line.specs.Rank.{rank}
use Rattle.trade_line.specs.Assignment.{given_in, IsAssignment, IsIndividuallyRational, IsEfficient}
use Rattle.trade_line.specs.TradeApart.{HasNoBetterTradeApart}
use Rattle.trade_line.proofs.welfare.Welfare.{gets_rational, gets_assignment, gets_efficient, gets_apart}

module _ (m : Market) (ok : IsMarket m) where
  pub given_gets : (p : ℕ) → p < m.people → given_in (ttc m) p ≡ gets m p
  unfolding ttc
  given_gets p l = get_or-map-range_with_len (gets m) 0 m.people p p None l (zero-add p)

  pub given_rational : IsIndividuallyRational m (given_in (ttc m))
  given_rational p l = subst (λ z. rank m p z ≤ rank m p (get_or m.homes p None)) (sym (given_gets p l))
      (gets_rational m ok p l)

  pub given_assignment : IsAssignment m (given_in (ttc m))
  given_assignment = record {
    known = λ p r l e. (gets_assignment m ok).known p r l (sym (given_gets p l) ∙ e);
    differ = λ p q r lp lq ep eq. (gets_assignment m ok).differ p q r lp lq (sym (given_gets p lp) ∙ ep)
        (sym (given_gets q lq) ∙ eq);
  }

  pub given_efficient : IsEfficient m (given_in (ttc m))
  given_efficient a ia better p l =
      gets_efficient m ok a ia (λ q k. subst (λ z. rank m q (a q) ≤ rank m q z) (given_gets q k) (better q k)) p l
      ∙ sym (given_gets p l)

  pub given_apart : HasNoBetterTradeApart m (given_in (ttc m))
  given_apart group a tr better p gp =
      gets_apart m ok group a tr
      (λ q k. subst (λ z. rank m q (a q) ≤ rank m q z) (given_gets q (tr.people q k)) (better q k)) p gp
      ∙ sym (given_gets p (tr.people p gp))
