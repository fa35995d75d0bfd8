-- Drawing one more word from a stream.
use Rattle.std.proofs.Common.{◌≡◌, ℕ, suc, zero, ◌+◌, ◌++◌, [], ◌∷◌, refl, ap, ◌∙◌, add-one}
use Rattle.rand_core.specs.Stream.{Stream, next_u64}
use Rattle.draw_order.specs.Words.{next_words, stream_after}

pub next_words-suc : (n : ℕ) (s : Stream) → next_words (suc n) s ≡ next_words n s
    ++ (next_u64 (stream_after n s)).0 ∷ []
next_words-suc zero s = refl
next_words-suc (suc n) s = ap (λ ws. (next_u64 s).0 ∷ ws) (next_words-suc n (next_u64 s).1)

pub stream_after-suc : (n : ℕ) (s : Stream) → stream_after (suc n) s ≡ (next_u64 (stream_after n s)).1
stream_after-suc zero s = refl
stream_after-suc (suc n) s = stream_after-suc n (next_u64 s).1

pub next_words-more : (n : ℕ) (s : Stream) → next_words (n + 1) s ≡ next_words n s
    ++ (next_u64 (stream_after n s)).0 ∷ []
next_words-more n s = ap (λ k. next_words k s) (add-one n) ∙ next_words-suc n s

pub stream_after-more : (n : ℕ) (s : Stream) → stream_after (n + 1) s ≡ (next_u64 (stream_after n s)).1
stream_after-more n s = ap (λ k. stream_after k s) (add-one n) ∙ stream_after-suc n s
