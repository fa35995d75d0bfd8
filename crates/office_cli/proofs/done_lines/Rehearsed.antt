-- A rehearsal at a desk is one of the office that the desk represents.
use Rattle.std.proofs.Common.{ℕ, List, [], ◌∷◌, refl, sym, subst}
use Rattle.sqlite.specs.Held.{state}
use Rattle.sqlite.specs.State.{HasCleanDisk}
use Rattle.sqlite_trees.specs.declared.store.Store.{Ghosts}
use Rattle.office_cli.specs.AtDesk.{HandlesLines}
use Rattle.office_lines.proofs.handled.Steps.{answers_shown}
use Rattle.office_lines.proofs.rehearsals.Simulations.{rehearsal_of_runs, run_shown}
use Rattle.office_lines.specs.Rehearsals.{Rehearses}
use Rattle.office_lines.specs.Runs.{Run}
use Rattle.office_lines.specs.declared.ending.Ending.{Ending}
use Rattle.office_state.specs.declared.office.Office.{Office}
use Rattle.office_store.proofs.desks.Runs.{step_represented}
use Rattle.office_store.specs.Desk.{DeskState, Represents}
use Rattle.office_store.specs.Handling.{HandlesAt}
use Rattle.office_store.specs.LawfulSteps.{HandlesLawfully}
use Rattle.office_schema.proofs.statements.Steps.{follows-refl, follows_then}
use Rattle.office_schema.specs.tables.Steps.{Follows}
use Rattle.office_lines.specs.declared.render.response.Response.{Response}
use Rattle.office_lines.specs.parse.Parsing.{begins_request, parsed_line}
use Rattle.room_types.specs.Streams.{Input, Output}

module _ {S : Type 0} (g : Ghosts S) where
  -- the state of the database connection after a run of lines follows the one before
  run_follows : (old new : DeskState S) (lines : List (List ℕ)) (all : List Response)
      → Run (HandlesAt g) old lines all new → Follows (state g old.conn) (state g new.conn)
  run_follows old new lines all run =
      (run_shown {K = Unit {0}} (HandlesAt g) (λ _ _ _ _. Unit {0})
      (λ desk _. Follows (state g old.conn) (state g desk.conn))
      (λ before after request answer h k follows. (tt, tt, follows_then _ _ _ follows h.follows)) old new lines all run
      tt (follows-refl (state g old.conn))).2

  -- a run of lines at a desk is a run of the office that the desk represents
  run_represented : (old new : DeskState S) (lines : List (List ℕ)) (all : List Response)
      → Run (HandlesAt g) old lines all new → HasCleanDisk (state g new.conn)
      → (office : Office) → Represents g old office → (last : Office) × Run HandlesLawfully office lines all last
      × Represents g new last
  run_represented old new [] [] run clean office represents =
      (office, refl, subst (λ desk. Represents g desk office) (sym run) represents)
  run_represented old new (line ∷ lines) (response ∷ others) run clean office represents =
      let rest = run_follows run.0 new lines others run.2 in
      let one = answers_shown (HandlesAt g) HandlesLawfully (Represents g) old run.0
      (λ request answer h. step_represented g old run.0 request answer h (rest.clean clean)) (parsed_line line)
      (begins_request line) response run.1 office represents in
      let more = run_represented run.0 new lines others run.2 clean one.0 one.2 in
      (more.0, (one.0, one.1, more.1), more.2)
  run_represented old new [] (response ∷ others) run clean office represents = absurd run
  run_represented old new (line ∷ lines) [] run clean office represents = absurd run

  module _ (ending : Ending) (status : ℕ) (old new : DeskState S) (input input' : Input) (out out' : Output) where
    pub rehearsal_follows : Rehearses (HandlesAt g) ending status old new input input' out out'
        → Follows (state g old.conn) (state g new.conn)
    rehearsal_follows h =
        (rehearsal_of_runs {K = Unit {0}} (HandlesAt g) (λ _ _ _ _. Unit {0})
        (λ desk _. Follows (state g old.conn) (state g desk.conn)) old new
        (λ lines all run. run_shown {K = Unit {0}} (HandlesAt g) (λ _ _ _ _. Unit {0})
        (λ desk _. Follows (state g old.conn) (state g desk.conn))
        (λ before after request answer h k follows. (tt, tt, follows_then _ _ _ follows h.follows)) old new
        lines all run)
        ending status input input' out out' h tt (follows-refl (state g old.conn))).2

    pub rehearsal_represented : Rehearses (HandlesAt g) ending status old new input input' out out'
        → HasCleanDisk (state g new.conn)
        → (office : Office) → Represents g old office → (next : Office)
        × Rehearses HandlesLawfully ending status office next input input' out out' × Represents g new next
    rehearsal_represented h clean =
        rehearsal_of_runs (HandlesAt g) HandlesLawfully (Represents g) old new
        (λ lines all run. run_represented old new lines all run clean)
        ending status input input' out out' h

    -- the desk handled the lines of the input
    pub handles_lines : Rehearses (HandlesAt g) ending status old new input input' out out'
        → HandlesLines g old new status input input' out out'
    handles_lines h = record {
      ending = ending;
      follows = rehearsal_follows h;
      handled = h;
      done = rehearsal_represented h;
    }
