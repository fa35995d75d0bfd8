use Rattle.std.proofs.Common.{◌≡◌, ℕ, ap, ◌∙◌, arith}
use Rattle.rand_core.specs.Stream.{Stream, next_u64}
use Rattle.draw_order.specs.Words.{stream_after}
use Rattle.draw_order.proofs.draws.Words.{next_words-more, stream_after-more}
use Rattle.draw_order.proofs.words.words_from.Goals as goal

pub loop-place-preserved : goal.loop-place-preserved
loop-place-preserved g c =
    let start = g.R.Rng.stream c.args.generator.now in
    let n = c.loop-place._place in
    let answer : (c.next_word.result, g.R.Rng.stream c.next_word.new.generator) ≡ next_u64 (stream_after n start) =
    c.next_word.ensures ∙ ap next_u64 c.loop-place.invariant.after in
    let word = ap (λ (p : ℕ × Stream). p.0) answer in
    let left = ap (λ (p : ℕ × Stream). p.1) answer in
    record {
      drawn = cc (c.in_ok-push.ensures.items, c.loop-place.invariant.drawn, word, next_words-more n start);
      after = cc (left, stream_after-more n start);
      enough = omega (arith, c.in_ok-push.ensures.capacity, c.loop-place.invariant.enough);
      as_many = omega (arith, c.in_ok-push.ensures.len);
    }
