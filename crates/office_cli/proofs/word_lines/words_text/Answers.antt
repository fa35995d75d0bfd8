use Rattle.std.proofs.Common.{◌∙◌, ℕ, ◌<◌, zero, suc, List, length, subst, arith}
use Rattle.std.proofs.lemmas.Result.{on_err_weaker}
use Rattle.rand_core.specs.Stream.{Stream}
use Rattle.draw_order.specs.Words.{next_words}
use Rattle.office_cli.specs.WordLines.{stream_of_seed}
use Rattle.office_cli.proofs.word_lines.words_text.Goals as goal

-- if there are any words, their count is not zero
some_wanted : (count : ℕ) (stream : Stream) → 0 < length (next_words count stream) → 0 < count
some_wanted zero stream some = some
some_wanted (suc count) stream some = omega arith

pub returns-clause-memory : goal.returns-clause-memory
returns-clause-memory c =
    let are = c.as_slice.ensures.value ∙ c.in_ok-words.ensures.words in
    on_err_weaker c.lines_of.result
    (λ some. some_wanted c.args.count (stream_of_seed c.args.seed)
    (subst (λ (words : List ℕ). 0 < length words) are some)) c.lines_of.ensures.memory
