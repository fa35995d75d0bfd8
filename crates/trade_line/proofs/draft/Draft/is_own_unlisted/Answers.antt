use Rattle.std.proofs.Common.{◌≡◌, ◌≢◌, ◌<◌, All, Some, None, length, sym, ◌∙◌, ap, subst, arith, inl, inr}
use Rattle.std.proofs.lemmas.Bool.{both_ways, cases_lt}
use Rattle.std.proofs.lemmas.List.{length-map}
use Rattle.trade_line.specs.Market.{home, list_of}
use Rattle.trade_line.specs.Inner.Draft.{drafted}
use Rattle.trade_line.proofs.markets.Drafts.{items_of, read_list}
use Rattle.trade_line.proofs.turns.States.{read_same}
use Rattle.trade_line.proofs.draft.Draft.is_own_unlisted.Goals as goal

pub returns-then-not-lacks : goal.returns-then-not-lacks
returns-then-not-lacks c =
    let list_is : list_of (drafted c.args.self.now) c.loop-person.person ≡ c.deref.result.now =
    read_list c.args.self.now.lists.items c.deref-list-items.result.now c.loop-person.person c.list-item.result
    c.deref.result.now c.deref-list-items.ensures.value c.loop-person-test.true c.list-item.is
    c.deref.ensures.value in
    let lp : c.loop-person.person < c.args.self.now.order_len =
    omega (
      arith,
      ap length c.deref-list-items.ensures.value,
      c.loop-person-test.true,
      c.requires.lists_len,
      length-map c.args.self.now.lists.items items_of,
    ) in
    let home_is : home (drafted c.args.self.now) c.loop-person.person ≡ c.index.result.now =
    read_same c.args.self.now.homes.items c.loop-person.person None c.index.result.now
    (omega (arith, lp, c.requires.homes_len)) ∙ sym c.index.ensures in (
      λ f. absurd (cc),
      λ own. absurd
          (both_ways c.lacks.result c.if-not-lacks.true
          (c.lacks.ensures.1 (λ r e. subst (All (λ x. x ≢ r)) list_is (own c.loop-person.person r lp (home_is ∙ e))))),
    )

pub loop-person-preserved : goal.loop-person-preserved
loop-person-preserved c =
    let list_is : list_of (drafted c.args.self.now) c.loop-person.person ≡ c.deref.result.now =
    read_list c.args.self.now.lists.items c.deref-list-items.result.now c.loop-person.person c.list-item.result
    c.deref.result.now c.deref-list-items.ensures.value c.loop-person-test.true c.list-item.is
    c.deref.ensures.value in
    let lp : c.loop-person.person < c.args.self.now.order_len =
    omega (
      arith,
      ap length c.deref-list-items.ensures.value,
      c.loop-person-test.true,
      c.requires.lists_len,
      length-map c.args.self.now.lists.items items_of,
    ) in
    let home_is : home (drafted c.args.self.now) c.loop-person.person ≡ c.index.result.now =
    read_same c.args.self.now.homes.items c.loop-person.person None c.index.result.now
    (omega (arith, lp, c.requires.homes_len)) ∙ sym c.index.ensures in
    λ p r h e.
    elim (cases_lt p c.loop-person.person) [
      | inl before ↦ c.loop-person.invariant p r before e
      | inr not_before ↦
          let at : c.loop-person.person ≡ p = omega arith in
          subst (λ z. All (λ x. x ≢ r) (list_of (drafted c.args.self.now) z)) at
          (subst (All (λ x. x ≢ r)) (sym list_is)
          (c.lacks.ensures.0 c.if-not-lacks.false r
          (sym home_is ∙ subst (λ z. home (drafted c.args.self.now) z ≡ Some r) (sym at) e)))
    ]
