use Rattle.std.proofs.Common.{◌≡◌, None, refl, ◌∙◌, sym, ap}
use Rattle.std.specs.Ordering.{nat_cmp}
use Rattle.std.specs.Cmp.{nat_cmp_total}
use Rattle.std.specs.FinMap as map
use Rattle.std.proofs.lemmas.Result.{on_ok_weaker, on_err_weaker}
use Rattle.office_state.specs.Office.Moves.{with_move}
use Rattle.room_types.proofs.maps.Trees.{get-tree}
use Rattle.office_state.proofs.offices.Moves.{move-written, move-unwritten}
use Rattle.office_state.proofs.offices.Moves.{move-begun}
use Rattle.office_state.proofs.office.moves.Rounds+RoundMoves.add.Goals as goal

pub returns-in-Some-clause-ok : goal.returns-in-Some-clause-ok
returns-in-Some-clause-ok c =
    let moves = c.in-Some.moves.now.by_person in
    on_ok_weaker c.insert.result (λ m.
    move-written c.self.inside.tree
    (c.get_mut.follows.lender (record { by_person = c.insert.new.self })) c.args.moved.now.round
    c.in-Some.moves.now c.in-Some.ensures.value c.insert.new.self
    (c.get_mut.follows.holds (record { by_person = c.insert.new.self })).3 c.args.moved.now refl
    (m ∙ λ i. map.insert moves (c.in_ok-person.ensures i)
    (record {
      from = c.in_ok-copy_optional.ensures.copy i;
      to = c.in_ok-copy_optional-2.ensures.copy i;
      wave = c.args.moved.now.wave;
    }))
    ∙ ap (λ kept. with_move kept c.args.moved.now) c.self.view_is) c.insert.ensures.ok

pub returns-in-Some-clause-err : goal.returns-in-Some-clause-err
returns-in-Some-clause-err c =
    on_err_weaker c.insert.result (λ m.
    move-unwritten c.self.inside.tree
    (c.get_mut.follows.lender (record { by_person = c.insert.new.self })) c.args.moved.now.round
    c.in-Some.moves.now c.in-Some.ensures.value c.insert.new.self
    (c.get_mut.follows.holds (record { by_person = c.insert.new.self })).3 m
    ∙ c.self.view_is) c.insert.ensures.err

pub returns-in-None-clause-ok : goal.returns-in-None-clause-ok
returns-in-None-clause-ok c =
    on_ok_weaker c.begin.result (λ m.
    let none : map.get c.args.self.now c.args.moved.now.round ≡ None =
    ap (λ kept. map.get kept c.args.moved.now.round) (sym c.self.view_is)
    ∙ get-tree nat_cmp_total c.self.inside.tree c.args.moved.now.round
    ∙ sym c.in-None.ensures.value in
    m
    ∙ ap (λ tree. map.insert (map.from_entries {R = nat_cmp} tree.entries) c.args.moved.now.round
    (record {
      by_person = map.insert map.empty c.in_ok-person.person
          (record {
            from = c.in_ok-copy_optional.field-0;
            to = c.in_ok-copy_optional-2.field-0;
            wave = c.args.moved.now.wave;
          });
    })) c.get_mut.follows.holds-at-none
    ∙ (λ i. map.insert (c.self.view_is i) c.args.moved.now.round
    (record {
      by_person = map.insert map.empty (c.in_ok-person.ensures i)
          (record {
            from = c.in_ok-copy_optional.ensures.copy i;
            to = c.in_ok-copy_optional-2.ensures.copy i;
            wave = c.args.moved.now.wave;
          });
    }))
    ∙ move-begun c.args.self.now c.args.moved.now none) c.begin.ensures.ok
