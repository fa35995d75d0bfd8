use Rattle.std.proofs.Common.{◌≡◌, ◌<◌, ◌∷◌, length, take, [], sym, subst, arith}
use Rattle.std.specs.List.{All}
use Rattle.std.proofs.lemmas.List.Elements.{All-append, All-cons, All-nil}
use Rattle.std.proofs.lemmas.List.{map-append, take_more}
use Rattle.office_schema.proofs.tables.table_rows.records_in.Goals as goal

pub returns-in_default-clause-returned : goal.returns-in_default-clause-returned
returns-in_default-clause-returned g c all =
    let low : c.loop-row.row-index < length c.args.rows.now = omega arith in
    let row : g.R.TableRow.is_form c.row-item.result =
    subst g.R.TableRow.is_form (sym c.row-item.is) (all c.loop-row.row-index c.row-item.result low) in
    (rw c.in_default.is at c.in_ok-record.ensures.returned) row

pub loop-row-preserved : goal.loop-row-preserved
loop-row-preserved g c =
    let forms = g.R.TableRow.is_form in
    let rows = c.args.rows.now in
    let i = c.loop-row.row-index in
    let low : i < length rows = omega arith in
    let first : forms c.row-item.result = rw c.in-Some.is at c.in_ok-record.ensures.formed in
    let read : g.R.TableRow.front c.row-item.result ≡ g.R.TableRow.columns c.in-Some.record =
    rw c.in-Some.is at c.in_ok-record.ensures.returned in
    let more = take_more rows i c.row-item.result low in
    record {
      returned =
          cc (
            c.in_ok-push.ensures.items,
            map-append g.R.TableRow.columns c.loop-row.records.items
                (c.in-Some.record ∷ []),
            map-append g.R.TableRow.front (take i rows) (c.row-item.result ∷ []),
          );
      formed = subst (All forms) (sym more)
          (All-append forms _ _ c.loop-row.invariant.formed
          (All-cons forms _ [] (subst forms c.row-item.is first) (All-nil forms)));
    }
