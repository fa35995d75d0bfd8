use Rattle.std.proofs.Common.{◌≡◌, ◌≤◌, length}
use Rattle.std.specs.Vec.{vec_capacity}
use Rattle.draw_order.specs.Words.{next_words, stream_after}
use Rattle.draw_order.proofs.words.words_from.Given as goal

-- one word is drawn for each place so far, and the vector has room for all of them
abbrev pub invariant-loop-place : goal.invariant-loop-place
invariant-loop-place g l =
    record {
      drawn : l.words.items ≡ next_words l._place (g.R.Rng.stream l.fn.generator);
      after : g.R.Rng.stream l.generator ≡ stream_after l._place (g.R.Rng.stream l.fn.generator);
      enough : l.count ≤ vec_capacity l.words;
      as_many : length l.words.items ≡ l._place;
    }
