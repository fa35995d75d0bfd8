use Rattle.std.proofs.Common.{◌≡◌, Decides, sym, subst}
use Rattle.std.proofs.lemmas.List.{take-map}
use Rattle.office_schema.specs.tables.Layouts.{order_of, table_count}
use Rattle.office_schema.specs.tables.Schema.{office_table}
use Rattle.office_db.proofs.loading.layout.has_tables.Goals as goal

pub returns : goal.returns
returns c =
    let layout = c.args.layout in
    subst (λ ts. Decides c.are_these_tables.result (c.args.tables.now ≡ ts))
    (sym (take-map (λ o. office_table o.0 o.1) (table_count layout) (order_of layout)))
    (rw (c.order.ensures.order, c.tables.ensures) at c.are_these_tables.ensures)
