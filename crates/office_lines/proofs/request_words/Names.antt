-- Joined words.
use Rattle.std.proofs.Common.{◌≡◌, ◌++◌, Bor, List, [], ◌∷◌, map, refl, ap, codes}
use Rattle.std.specs.List.{join_by, flat_map}
use Rattle.room_types.specs.Texts.{Text}
use Rattle.office_lines.specs.parse.Values.{joined}

after : (separator : Text) (words : List (Bor Text)) → flat_map (λ (word : Text). separator ++ word)
    (map (λ (word : Bor Text). word.now) words) ≡ flat_map (λ (word : Bor Text). separator ++ word.now) words
after separator [] = refl
after separator (word ∷ words) = ap (λ (text : Text). (separator ++ word.now) ++ text) (after separator words)

-- joining the texts of words is joining the words by their texts
pub joined-texts : (words : List (Bor Text)) → joined (map (λ (word : Bor Text). word.now) words) ≡ join_by
    (λ (word : Bor Text). word.now) (codes " ") words
joined-texts [] = refl
joined-texts (word ∷ words) = ap (λ (text : Text). word.now ++ text) (after (codes " ") words)
