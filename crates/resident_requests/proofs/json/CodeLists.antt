-- Lemmas about the room codes of an array's items.
use Rattle.std.proofs.Common.{◌≡◌, ℕ, ◌+◌, ◌<◌, ◌≤◌, List, [], ◌∷◌, ◌++◌, length, drop, get_or, Option, Some, None}
use Rattle.std.proofs.Common.{refl, sym, ap, ◌∙◌, append_assoc, append-nil, option_map, option_and_then}
use Rattle.std.proofs.lemmas.List.{at_drop_more, drop_all}
use Rattle.serde_json.specs.declared.value.Value.{Value}
use Rattle.serde_json.specs.View.{view, items_view}
use Rattle.room_types.specs.Texts.{Text}
use Rattle.resident_requests.specs.Bodies.{code_in, code_before, codes_in}

-- these codes in front of others, if there are any
abbrev pub codes_before : List Text → Option (List Text) → Option (List Text)
codes_before codes others = option_map (λ rest. codes ++ rest) others

one_before : (codes : List Text) (code : Text) (others : Option (List Text)) → codes_before
    (codes ++ code ∷ []) others ≡ codes_before codes (code_before code others)
one_before codes code None = refl
one_before codes code (Some rest) = ap (λ l. Some l) (append_assoc codes (code ∷ []) rest)

-- the codes of the items from this one on
codes_from : (items : List Value) (i : ℕ) (item : Value) → i < length items → item ≡ get_or items i item
    → codes_in (items_view (drop i items)) ≡ option_and_then
    (λ code. code_before code (codes_in (items_view (drop (i + 1) items)))) (code_in (view item))
codes_from items i item lt is =
    at_drop_more (λ l. codes_in (items_view l)) items i item lt
    ∙ ap (λ y. option_and_then (λ code. code_before code (codes_in (items_view (drop (i + 1) items))))
    (code_in (view y))) (sym is)

-- one more code
pub code_list_step : (items : List Value) (i : ℕ) (item : Value) (codes : List Text) (code : Text)
    (all : Option (List Text)) → i < length items → item ≡ get_or items i item → code_in (view item) ≡ Some code
    → codes_before codes (codes_in (items_view (drop i items))) ≡ all → codes_before (codes ++ code ∷ [])
    (codes_in (items_view (drop (i + 1) items))) ≡ all
code_list_step items i item codes code all lt is returned h =
    let rest = codes_in (items_view (drop (i + 1) items)) in
    one_before codes code rest ∙ ap (λ o. codes_before codes (option_and_then (λ c. code_before c rest) o))
    (sym returned)
    ∙ ap (codes_before codes) (sym (codes_from items i item lt is)) ∙ h

-- an item that is not a room code
pub code_list_stopped : (items : List Value) (i : ℕ) (item : Value) (codes : List Text) (all : Option (List Text))
    → i < length items → item ≡ get_or items i item → code_in (view item) ≡ None
    → codes_before codes (codes_in (items_view (drop i items))) ≡ all → all ≡ None
code_list_stopped items i item codes all lt is returned h =
    let rest = codes_in (items_view (drop (i + 1) items)) in
    sym h ∙ ap (codes_before codes) (codes_from items i item lt is)
    ∙ ap (λ o. codes_before codes (option_and_then (λ c. code_before c rest) o)) returned

-- all items are read
pub code_list_finished : (items : List Value) (i : ℕ) (codes : List Text) (all : Option (List Text)) → length items ≤ i
    → codes_before codes (codes_in (items_view (drop i items))) ≡ all → all ≡ Some codes
code_list_finished items i codes all past h =
    sym h ∙ ap (λ l. codes_before codes (codes_in (items_view l))) (drop_all i items past)
    ∙ ap (λ l. Some l) (append-nil codes)
