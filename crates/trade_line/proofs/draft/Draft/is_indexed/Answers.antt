use Rattle.std.proofs.Common.{◌≡◌, ◌<◌, All, IfSome, length, sym, subst, arith}
use Rattle.std.proofs.lemmas.Bool.{both_ways}
use Rattle.trade_line.proofs.markets.Drafts.{indexed_from, indexed_homes, indexed_lists}
use Rattle.trade_line.proofs.draft.Draft.is_indexed.Goals as goal

pub returns-then-are_homes_known : goal.returns-then-are_homes_known
returns-then-are_homes_known c = (
  λ yes.
      let he : length c.args.self.now.homes.items ≡ c.args.self.now.order_len = omega arith in
      let le : length c.args.self.now.lists.items ≡ c.args.self.now.order_len = omega arith in
      indexed_from c.args.self.now.order_len c.args.self.now.room_count c.args.self.now.homes.items
      c.args.self.now.lists.items he le
      (subst (All (λ h. IfSome h (λ r. r < c.args.self.now.room_count))) c.deref.ensures.value
      (c.are_homes_known.ensures.0 c.if-are_homes_known.true))
      (subst (All (λ v. All (λ r. r < c.args.self.now.room_count) v.items)) c.deref-then-are_homes_known.ensures.value
      (c.are_lists_known.ensures.0 yes)),
  λ ok.
      c.are_lists_known.ensures.1
      (subst (All (λ v. All (λ r. r < c.args.self.now.room_count) v.items))
      (sym c.deref-then-are_homes_known.ensures.value)
      (indexed_lists c.args.self.now.order_len c.args.self.now.room_count c.args.self.now.homes.items
      c.args.self.now.lists.items ok)),
)

pub returns-else-are_homes_known : goal.returns-else-are_homes_known
returns-else-are_homes_known c = (
  λ yes. absurd (both_ways c.are_homes_known.result c.if-are_homes_known.false yes),
  λ ok.
      c.are_homes_known.ensures.1
      (subst (All (λ h. IfSome h (λ r. r < c.args.self.now.room_count))) (sym c.deref.ensures.value)
      (indexed_homes c.args.self.now.order_len c.args.self.now.room_count c.args.self.now.homes.items
      c.args.self.now.lists.items ok)),
)
