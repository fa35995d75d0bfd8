use Rattle.std.proofs.Common.{◌≡◌, ◌≤◌, None, get_or, sym, ◌∙◌, ap, subst}
use Rattle.trade_line.specs.Market.{IsMarket}
use Rattle.trade_line.specs.OtherList.{with_list}
use Rattle.trade_line.specs.Rank.{rank}
use Rattle.trade_line.specs.TopTradingCycles.{gets, ttc}
use Rattle.trade_line.proofs.welfare.Given.{given_gets}
use Rattle.trade_line.proofs.welfare.Manipulation.{list_proof}
use Rattle.trade_line.proofs.welfare.OtherLists.{with_list_market}
use Rattle.trade_line.proofs.what_if.run_with_list.Goals as goal

pub returns : goal.returns
returns c =
    let ok : IsMarket (with_list c.args.problem.now c.args.person c.args.list.items) =
    with_list_market c.args.problem.now c.in_ok-changed.ensures.market c.args.person c.args.list.items
    c.in_ok-changed.ensures.fits in
    let is : c.room_of.result ≡ gets (with_list c.args.problem.now c.args.person c.args.list.items) c.args.person =
    c.room_of.ensures
    ∙ ap (λ z. get_or z c.args.person None) (c.run-outcome.ensures.rooms ∙ ap ttc c.in_ok-changed.ensures.changed)
    ∙ given_gets (with_list c.args.problem.now c.args.person c.args.list.items) ok c.args.person
    c.in_ok-changed.ensures.fits.0.0 in record {
      room = is;
      no_gain =
          subst (λ z. rank c.args.problem.now c.args.person (gets c.args.problem.now c.args.person) ≤ rank
          c.args.problem.now c.args.person z) (sym is)
          (list_proof c.args.problem.now c.in_ok-changed.ensures.market c.args.person c.args.list.items
          c.in_ok-changed.ensures.fits.0.0 ok);
      accepted = c.in_ok-changed.ensures.fits;
      first_fault = tt;
    }
