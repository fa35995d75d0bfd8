use Rattle.std.proofs.Common.{◌≢◌}
use Rattle.std.proofs.lemmas.Result.{IfOk-weaker, on_ok_weaker}
use Rattle.sqlite.specs.Held.{state}
use Rattle.office_schema.specs.declared.tables.layouts.Layout.TheVariants.{Own}
use Rattle.office_schema.proofs.statements.Crashes.{old_or_weaker}
use Rattle.office_migration.specs.Renewed.{CommitsRenewed}
use Rattle.office_store.proofs.desk.adopting.ensure_own_layout.Goals as goal

pub returns-in_default : goal.returns-in_default
returns-in_default g c = record {
  outside = c.renew_office.ensures.outside;
  follows = c.renew_office.ensures.follows;
  is_open = on_ok_weaker c.renew_office.result (λ is_open intact. is_open) c.renew_office.ensures.is_open;
  own = λ own. absurd (c.in_default.not-Own own);
  lawful = λ lawful. c.renew_office.ensures.lawful;
  stored =
      IfOk-weaker c.renew_office.result _ _
      (λ office stored clean lawful well_formed kind holds. stored clean c.args.found.office lawful well_formed kind
      holds) c.renew_office.ensures.stored;
  undone = c.renew_office.ensures.undone;
  crash =
      let before = (state g.S.Store c.args.conn.now).now in
      old_or_weaker (CommitsRenewed c.args.found.layout before) (λ after. (c.args.found.layout ≢ Own)
      × CommitsRenewed c.args.found.layout before after)
      (state g.S.Store c.args.conn.now) (state g.S.Store c.renew_office.new.conn)
      (λ clean after holds. (c.in_default.not-Own, holds)) c.renew_office.ensures.crash;
}
