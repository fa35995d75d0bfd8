-- What a crash leaves of the office of a desk.
use Rattle.std.proofs.Common.{◌≡◌, Bool, true, false, List, [], ◌∷◌, IsTrue, inl, inr, refl, sym, ap, ◌∙◌, subst}
use Rattle.std.proofs.lemmas.Bool.{cases_Bool}
use Rattle.sqlite_trees.specs.Tree.{Trees}
use Rattle.sqlite_trees.specs.declared.store.Store.{Ghosts}
use Rattle.sqlite.specs.Effect.{Database}
use Rattle.sqlite.specs.Held.{state}
use Rattle.sqlite.specs.State.{HasCleanDisk}
use Rattle.office_state.specs.declared.office.Office.{Office}
use Rattle.office_schema.specs.rows.Tables.{rows_of}
use Rattle.office_schema.specs.tables.Tables.{AreHeld, HoldsOffice}
use Rattle.office_store.specs.Crashes.{LeavesAfterRequest, LeavesAfterRun, LeavesNothingOnceClosed, LeavesOffice}
use Rattle.office_store.specs.Crashes.{LeavesWhatIsShown}
use Rattle.office_store.specs.Desk.{DeskState, Represents}
use Rattle.office_store.specs.Handling.{HandlesAt}
use Rattle.office_core.specs.Requests.{IsRun, office_after}
use Rattle.office_core.specs.declared.requests.Answer.{Answer}
use Rattle.office_core.specs.declared.requests.Request.{Request}
use Rattle.office_store.proofs.desks.Requests.{represents_if_shown, shows_if_open}
use Rattle.office_store.proofs.desks.Runs.{run_follows, step_represented}

shut_if_not_open : (b : Bool) → (IsTrue b → ⊥) → b ≡ false
shut_if_not_open true none = absurd (none refl)
shut_if_not_open false none = refl

module _ {S : Type 0} (g : Ghosts S) where
  -- Nothing is committed over a closed connection.
  pub leaves_nothing_once_closed : LeavesNothingOnceClosed g
  leaves_nothing_once_closed old new request answer h shut clean db may = elim (h.crash clean db may) [
    | inl was ↦ was
    | inr it ↦ let is_open = it.2.was_open in absurd (cc (is_open, shut))
  ]

  run_closed : (old new : DeskState S) (requests : List Request) (answers : List Answer)
      → IsRun (HandlesAt g) old requests answers new
      → (state g old.conn).is_open ≡ false → HasCleanDisk (state g new.conn)
      → ((state g new.conn).is_open ≡ false)
      × ((db : Trees) → (state g new.conn).may_leave db → (state g old.conn).may_leave db)
  run_closed old new [] [] run shut clean = (
    subst (λ (desk : DeskState S). (state g desk.conn).is_open ≡ false) (sym run) shut,
    λ db may. subst
        (λ (desk : DeskState S). (state g desk.conn).may_leave db) run may,
  )
  run_closed old new (r ∷ rs) (a ∷ more) run shut clean =
      let early = (run_follows g run.0 new rs more run.2).clean clean in
      let still = shut_if_not_open (state g run.0.conn).is_open (λ o. let was = run.1.follows.was_open early o in
      cc (was, shut)) in
      let rest = run_closed run.0 new rs more run.2 still clean in
      (rest.0, λ db may. leaves_nothing_once_closed old run.0 r a run.1 shut early db (rest.1 db may))
  run_closed old new [] (a ∷ more) run shut clean = absurd run
  run_closed old new (r ∷ rs) [] run shut clean = absurd run

  -- `settled` is a law of each store: while it is open, a crash leaves the last commit and nothing else.
  module _ (settled : (store : S) (db : Trees) → IsTrue (g.view store).is_open → g.recovers store db
      → db ≡ (g.view store).committed) where
    pub leaves_what_is_shown : LeavesWhatIsShown g
    leaves_what_is_shown desk office committed shows db may =
        let now = ap (λ (d : Database). d.trees) (committed shows.is_open) in
        subst (λ (trees : Trees). AreHeld trees (rows_of office))
        (now ∙ sym (settled desk.conn.store db shows.is_open may)) shows.tables.rows

    pub leaves_after_request : LeavesAfterRequest g
    leaves_after_request old new request answer office h clean committed shows db may = elim (h.crash clean db may) [
      | inl was ↦ inl (leaves_what_is_shown old office committed shows db was)
      | inr it ↦
          let represents = represents_if_shown g old office shows in
          let same = it.2.represented office represents in
          let held = it.2.holds (subst (Represents g old) (sym same) represents) in
          let after = subst (λ (o : Office). HoldsOffice it.0 (office_after o request)) same held in
          inr (subst (λ (trees : Trees). AreHeld trees (rows_of (office_after office request))) (sym it.1) after.rows)
    ]

    pub leaves_after_run : LeavesAfterRun g
    leaves_after_run old new [] [] office run clean committed shows =
        inl (
          subst (λ (desk : DeskState S). IsTrue (state g desk.conn).is_open) (sym run) shows.is_open,
          office,
          refl,
          subst (λ (desk : DeskState S). LeavesOffice g desk office) (sym run)
              (leaves_what_is_shown old office committed shows),
        )
    leaves_after_run old new (r ∷ rs) (a ∷ more) office run clean committed shows =
        let early = (run_follows g run.0 new rs more run.2).clean clean in
        let step = step_represented g old run.0 r a run.1 early office (represents_if_shown g old office shows) in
        elim (cases_Bool (state g run.0.conn).is_open) [
          | inl is_open ↦ elim
              (leaves_after_run run.0 new rs more step.0 run.2 clean run.1.committed
              (shows_if_open g run.0 step.0 is_open step.2)) [
                | inl whole ↦ inl (whole.0, whole.1, (step.0, step.1, whole.2), whole.3)
                | inr cut ↦ inr (cut.0, cut.1, cut.2, inr (is_open, step.0, step.1, cut.3), cut.4)
              ]
          | inr shut ↦
              let rest = run_closed run.0 new rs more run.2 shut clean in
              inr (
                rest.0,
                office,
                r,
                inl (shows.is_open, shut, refl, refl),
                λ db may. leaves_after_request old run.0 r a office run.1 early committed shows db (rest.1 db may),
              )
        ]
    leaves_after_run old new [] (a ∷ more) office run clean committed shows = absurd run
    leaves_after_run old new (r ∷ rs) [] office run clean committed shows = absurd run
