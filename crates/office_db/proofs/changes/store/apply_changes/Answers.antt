use Rattle.std.proofs.Common.{◌≡◌, ◌∷◌, [], ◌+◌, ◌<◌, length, drop, refl, ◌∙◌, subst, arith}
use Rattle.std.proofs.lemmas.List.{drop_all}
use Rattle.sqlite.specs.Held.{state}
use Rattle.office_state.specs.Change.{applied, AllFit}
use Rattle.office_schema.specs.cells.WellFormed.{IsWellFormed}
use Rattle.office_schema.specs.rows.Tables.{rows_of}
use Rattle.office_schema.specs.tables.Tables.{HoldsOffice}
use Rattle.office_schema.proofs.statements.Crashes.{was_open_then}
use Rattle.office_schema.proofs.statements.Steps.{inside_then, inside_none}
use Rattle.office_db.proofs.changes.store.apply_changes.Goals as goal
use Rattle.office_schema.proofs.statements.Refilled.{next_of}

pub loop-change-init : goal.loop-change-init
loop-change-init g c = record {
  same_reference = refl;
  made = λ office clean fits well_formed was. (office, fits, well_formed, was, refl);
  mode = λ clean. refl;
  was_open = λ some. absurd (omega (arith, some));
  inside = inside_none (state g.S.Store c.args.tx.now.conn.now);
}

pub loop-change-preserved : goal.loop-change-preserved
loop-change-preserved g c =
    let xs = c.args.changes.now in
    let i = c.loop-change.change-index in
    let low : i < length xs = omega arith in
    let change = c.change-item.result in
    let first = c.args.first.now in
    let here : drop i xs ≡ change ∷ drop (i + 1) xs = next_of xs i change low c.change-item.is in
    record {
      same_reference = c.in_ok-apply_change.ensures.runs.same_reference ∙ c.loop-change.invariant.same_reference;
      made = λ office clean fits well_formed was.
          let m = c.loop-change.invariant.made office
          (omega (arith, c.apply_change.ensures.runs.inside.survives.clean)) fits well_formed was in
          let fit : AllFit first m.0 (change ∷ drop (i + 1) xs) = subst (AllFit first m.0) here m.1 in
          let now = c.in_ok-apply_change.ensures.runs.made.shown m.0 clean fit.0 m.2 m.3 in
          (applied m.0 change, fit.1, now.1, now.0, rw here at m.4);
      mode = λ clean. c.in_ok-apply_change.ensures.runs.made.mode clean
          ∙ c.loop-change.invariant.mode (omega (arith, c.apply_change.ensures.runs.inside.survives.clean));
      was_open =
          λ some. was_open_then (state g.S.Store c.args.tx.now.conn.now) (state g.S.Store c.loop-change.tx.conn.now)
          (state g.S.Store c.apply_change.new.tx.conn.now)
          c.loop-change.invariant.inside
          (λ clean. omega (arith, clean, c.apply_change.ensures.runs.inside.survives.clean))
          c.in_ok-apply_change.ensures.was_open;
      inside = inside_then _ _ _ c.loop-change.invariant.inside c.apply_change.ensures.runs.inside;
    }

pub returns-clause-runs : goal.returns-clause-runs
returns-clause-runs g c =
    let xs = c.args.changes.now in
    let i = c.loop-change.change-index in
    let done : drop i xs ≡ [] = drop_all i xs (omega arith) in
    record {
      same_reference = c.loop-change.invariant.same_reference;
      made = record {
        shown = λ office clean fits well_formed was.
            let m = c.loop-change.invariant.made office clean fits well_formed was in
            let end = rw done at m.4 in (
              subst (HoldsOffice (state g.S.Store c.loop-change.tx.conn.now).now) end m.3,
              subst (λ o. IsWellFormed (rows_of o)) end m.2,
            );
        mode = c.loop-change.invariant.mode;
      };
      inside = c.loop-change.invariant.inside;
    }

pub returns-clause-was_open : goal.returns-clause-was_open
returns-clause-was_open g c some = c.loop-change.invariant.was_open (omega arith)
