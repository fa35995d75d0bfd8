-- Words that are parsed one after the other.
use Rattle.std.proofs.Common.{◌≡◌, ◌++◌, Bor, ℕ, List, Option, map, drop}
use Rattle.std.specs.Prelude.{option_map}
use Rattle.room_types.specs.Texts.{Text}
use Rattle.office_lines.specs.parse.Values.{all_of}

-- the texts of the words
abbrev pub texts : List (Bor Text) → List Text
texts = map (λ (word : Bor Text). word.now)

-- the values of all words are those that are parsed so far, followed by those of the words from `i` on
abbrev pub IsReadTo : {X : Type 0} → (Text → Option X) → List (Bor Text) → ℕ → List X → Type 0
IsReadTo meaning words i read =
    all_of meaning (texts words) ≡ option_map (λ (others : List _). read ++ others)
    (all_of meaning (texts (drop i words)))
