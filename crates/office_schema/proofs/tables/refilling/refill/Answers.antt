use Rattle.std.proofs.Common.{◌≡◌, ◌∷◌, [], ◌+◌, ◌<◌, length, drop, refl, ◌∙◌, subst, arith}
use Rattle.std.proofs.lemmas.List.{drop_all}
use Rattle.sqlite.specs.Held.{state}
use Rattle.office_schema.specs.tables.Tables.{HasTables}
use Rattle.office_schema.proofs.statements.Refilled.{next_of}
use Rattle.office_schema.proofs.statements.Steps.{inside_then, inside_none}
use Rattle.office_schema.proofs.tables.refilling.refill.Goals as goal

pub loop-row-init : goal.loop-row-init
loop-row-init g c = record {
  same_reference = refl;
  made = λ tables clean was. (tables, was, refl);
  mode = λ clean. refl;
  inside = inside_none (state g.S.Store c.args.tx.now.conn.now);
}

pub loop-row-preserved : goal.loop-row-preserved
loop-row-preserved g c =
    let xs = c.args.rows.now in
    let i = c.loop-row.row-index in
    let row = c.row-item.result in
    let low : i < length xs = omega arith in
    let here : drop i xs ≡ row ∷ drop (i + 1) xs = next_of xs i row low c.row-item.is in
    record {
      same_reference = c.in_ok-add_again.ensures.same_reference ∙ c.loop-row.invariant.same_reference;
      made = λ tables clean was.
          let m = c.loop-row.invariant.made tables (omega (arith, c.add_again.ensures.inside.survives.clean)) was in
          let shown = c.in_ok-add_again.ensures.made.shown m.0 clean m.1 in
          (g.R.Refilled.with_row row m.0, shown, rw here at m.2);
      mode = λ clean. c.in_ok-add_again.ensures.made.mode clean
          ∙ c.loop-row.invariant.mode (omega (arith, c.add_again.ensures.inside.survives.clean));
      inside = inside_then _ _ _ c.loop-row.invariant.inside c.add_again.ensures.inside;
    }

pub returns : goal.returns
returns g c =
    let xs = c.args.rows.now in
    let i = c.loop-row.row-index in
    let done : drop i xs ≡ [] = drop_all i xs (omega arith) in
    record {
      same_reference = c.loop-row.invariant.same_reference;
      made = record {
        shown = λ tables clean was.
            let m = c.loop-row.invariant.made tables clean was in
            subst (HasTables (state g.S.Store c.loop-row.tx.conn.now).now) (rw done at m.2) m.1;
        mode = c.loop-row.invariant.mode;
      };
      inside = c.loop-row.invariant.inside;
    }
