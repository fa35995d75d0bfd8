-- The words that a draw takes from a generator's stream, and the stream that the draw leaves.
use Rattle.std.specs.Prelude.{ℕ, zero, suc, List, [], ◌∷◌}
use Rattle.std.specs.Fn.{iterate}
use Rattle.rand_core.specs.Stream.{Stream, next_u64}

-- the results of the given number of calls of `next_u64`, in order
abbrev pub next_words : ℕ → Stream → List ℕ
next_words zero stream = []
next_words (suc count) stream = (next_u64 stream).0 ∷ next_words count (next_u64 stream).1

-- the stream after the given number of calls of `next_u64`
abbrev pub stream_after : ℕ → Stream → Stream
stream_after = iterate (λ stream. (next_u64 stream).1)
