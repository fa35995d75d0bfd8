use Rattle.std.proofs.Common.{◌≡◌, ◌≢◌, ◌<◌, ◌+◌, ◌⊎◌, ℕ, get_or, AllPairs, All, length, sym, ap, subst, arith, le_refl}
use Rattle.std.proofs.lemmas.Bool.{both_ways}
use Rattle.std.proofs.lemmas.List.{length-map}
use Rattle.trade_line.specs.Market.{list_of}
use Rattle.trade_line.specs.Inner.Draft.{drafted}
use Rattle.trade_line.specs.Inner.Marks.{AreDistinct}
use Rattle.trade_line.proofs.markets.Drafts.{items_of, read_list, distinct_more, slice_written_back}
use Rattle.trade_line.proofs.draft.Draft.are_lists_strict.Goals as goal

pub is_distinct-requires-clause-known : goal.is_distinct-requires-clause-known
is_distinct-requires-clause-known c =
    let list_is : list_of (drafted c.args.self.now) c.loop-person.person ≡ c.deref.result.now =
    read_list c.args.self.now.lists.items c.deref-list-items.result.now c.loop-person.person c.list-item.result
    c.deref.result.now c.deref-list-items.ensures.value c.loop-person-test.true c.list-item.is
    c.deref.ensures.value in
    let known : All (λ r. r < c.args.self.now.room_count) c.deref.result.now =
    subst (All (λ r. r < c.args.self.now.room_count)) list_is
    (c.requires.lists_known c.loop-person.person
    (omega (
      arith,
      ap length c.deref-list-items.ensures.value,
      c.loop-person-test.true,
      c.requires.lists_len,
      length-map c.args.self.now.lists.items items_of,
    ))) in
    λ k d l. omega (arith, known k d l, ap length c.deref_mut.ensures.value, c.loop-person.invariant.same_len)

pub is_distinct-requires-clause-unmarked : goal.is_distinct-requires-clause-unmarked
is_distinct-requires-clause-unmarked c =
    let none : All (λ q. q ≢ c.loop-person.person) c.loop-person.last.items =
    c.loop-person.invariant.unmarked c.loop-person.person (le_refl c.loop-person.person)
    (omega (
      arith,
      ap length c.deref-list-items.ensures.value,
      c.loop-person-test.true,
      c.requires.lists_len,
      length-map c.args.self.now.lists.items items_of,
    )) in
    subst (All (λ q. q ≢ c.loop-person.person)) (sym c.deref_mut.ensures.value) none

pub returns-then-not-is_distinct : goal.returns-then-not-is_distinct
returns-then-not-is_distinct c =
    let list_is : list_of (drafted c.args.self.now) c.loop-person.person ≡ c.deref.result.now =
    read_list c.args.self.now.lists.items c.deref-list-items.result.now c.loop-person.person c.list-item.result
    c.deref.result.now c.deref-list-items.ensures.value c.loop-person-test.true c.list-item.is
    c.deref.ensures.value in (
      λ f. absurd (cc),
      λ differ. absurd
          (both_ways c.is_distinct.result c.if-not-is_distinct.true
          (c.is_distinct.ensures.distinct.1
          (subst (AllPairs ◌≢◌) list_is
          (differ c.loop-person.person
          (omega (
            arith,
            ap length c.deref-list-items.ensures.value,
            c.loop-person-test.true,
            c.requires.lists_len,
            length-map c.args.self.now.lists.items items_of,
          )))))),
    )

pub loop-person-preserved : goal.loop-person-preserved
loop-person-preserved c =
    let list_is : list_of (drafted c.args.self.now) c.loop-person.person ≡ c.deref.result.now =
    read_list c.args.self.now.lists.items c.deref-list-items.result.now c.loop-person.person c.list-item.result
    c.deref.result.now c.deref-list-items.ensures.value c.loop-person-test.true c.list-item.is
    c.deref.ensures.value in
    let same : length c.is_distinct.new.last ≡ length c.loop-person.last.items =
    omega (arith, c.is_distinct.auto.last, ap length c.deref_mut.ensures.value) in
    subst (λ z. AreDistinct (drafted c.args.self.now) z (c.loop-person.person + 1))
    (sym (slice_written_back c.loop-person.last.len c.is_distinct.new.last c.loop-person.last.items
    (omega (arith, c.loop-person.last.ok.0)) (omega (arith, c.loop-person.last.ok.0))))
    (distinct_more (drafted c.args.self.now) c.loop-person.last.items c.is_distinct.new.last c.loop-person.person
    c.loop-person.invariant
    (subst (AllPairs ◌≢◌) (sym list_is) (c.is_distinct.ensures.distinct.0 c.if-not-is_distinct.false)) same
    (subst (λ z. (r : ℕ) → r < length z → (get_or c.is_distinct.new.last r 0 ≡ get_or z r 0)
    ⊎ (get_or c.is_distinct.new.last r 0 ≡ c.loop-person.person)) c.deref_mut.ensures.value
    c.is_distinct.ensures.last))
