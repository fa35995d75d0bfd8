use Rattle.std.proofs.Common.{◌≡◌, ◌∷◌, [], ◌+◌, ◌<◌, length, drop, ap, ◌∙◌, subst, arith, refl}
use Rattle.std.proofs.lemmas.List.{drop_all}
use Rattle.sqlite.specs.Held.{state}
use Rattle.office_schema.specs.cells.WellFormed.{IsWellFormed}
use Rattle.office_schema.specs.tables.Edits.{with_choice}
use Rattle.office_schema.specs.tables.Tables.{HasTables}
use Rattle.office_schema.proofs.statements.Steps.{inside_then, inside_none}
use Rattle.office_db.proofs.alike_tables.WellFormed.{choice_well_formed}
use Rattle.office_db.proofs.changes.choices.add_choices.Goals as goal
use Rattle.office_schema.proofs.statements.Refilled.{next_of}

pub loop-room-init : goal.loop-room-init
loop-room-init g c = record {
  counted = refl;
  same_reference = refl;
  made = λ tables clean well_formed was. (tables, was, well_formed, refl);
  mode = λ clean. refl;
  inside = inside_none (state g.S.Store c.args.tx.now.conn.now);
}

pub loop-room-preserved : goal.loop-room-preserved
loop-room-preserved g c =
    let xs = c.as_slice-rooms.result.now in
    let i = c.loop-room.room-index in
    let low : i < length xs = omega arith in
    let room = c.room-item.result in
    let person = c.args.person.now in
    let here : drop i xs ≡ room ∷ drop (i + 1) xs = next_of xs i room low c.room-item.is in
    record {
      counted = ap (λ n. n + 1) c.loop-room.invariant.counted;
      same_reference = c.in_ok-add_choice.ensures.same_reference ∙ c.loop-room.invariant.same_reference;
      made = λ tables clean well_formed was.
          let m = c.loop-room.invariant.made tables
          (omega (arith, c.add_choice.ensures.inside.survives.clean)) well_formed was in
          let shown = c.in_ok-add_choice.ensures.made.shown m.0 clean m.1 in (
            with_choice person i room m.0,
            rw c.loop-room.invariant.counted at shown,
            choice_well_formed m.0 m.2 person i room c.lemma_text.ensures
                c.lemma_text-in-loop-room.ensures,
            rw here at m.3,
          );
      mode = λ clean. c.in_ok-add_choice.ensures.made.mode clean
          ∙ c.loop-room.invariant.mode (omega (arith, c.add_choice.ensures.inside.survives.clean));
      inside = inside_then _ _ _ c.loop-room.invariant.inside c.add_choice.ensures.inside;
    }

pub returns : goal.returns
returns g c =
    let xs = c.as_slice-rooms.result.now in
    let i = c.loop-room.room-index in
    let done : drop i xs ≡ [] = drop_all i xs (omega arith) in
    record {
      same_reference = c.loop-room.invariant.same_reference;
      made = record {
        shown = λ tables clean well_formed was.
            let m = c.loop-room.invariant.made tables clean well_formed was in
            let end = rw c.as_slice-rooms.ensures.rooms at (rw done at m.3) in
            (subst (HasTables (state g.S.Store c.loop-room.tx.conn.now).now) end m.1, subst IsWellFormed end m.2);
        mode = c.loop-room.invariant.mode;
      };
      inside = c.loop-room.invariant.inside;
    }
