use Rattle.std.proofs.Common.{inr}
use Rattle.std.proofs.lemmas.Result.{on_err_weaker}
use Rattle.office_state.proofs.soundness.sound.Goals as goal

pub returns-clause-memory : goal.returns-clause-memory
returns-clause-memory c =
    on_err_weaker c.are_valid_results.result (λ present. inr (record {
      present = present;
      register = c.in_ok-is_valid_register.ensures.lawful.0 c.if-not-branch.false;
      lists = c.are_valid_lists.ensures.0 c.if-not-are_valid_lists.false;
      round = c.is_valid_round.ensures.0 c.if-not-is_valid_round.false;
      grades = c.are_valid_grades.ensures.0 c.if-not-are_valid_grades.false;
      leavers = c.are_valid_leavers.ensures.0 c.if-not-are_valid_leavers.false;
      words = c.are_valid_words.ensures.0 c.if-not-are_valid_words.false;
      moves = c.are_valid_moves.ensures.0 c.if-not-are_valid_moves.false;
      kept = c.are_valid_imports.ensures.0 c.if-not-are_valid_imports.false;
    })) c.are_valid_results.ensures.memory
