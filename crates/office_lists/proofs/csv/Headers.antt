-- Comparing a record with a header, field by field.
use Rattle.std.proofs.Common.{◌≡◌, ◌∙◌, ◌<◌, ◌≤◌, ◌+◌, ◌&&◌, not, Bor, Bool, true, false, ℕ, zero, suc, List, [], ◌∷◌}
use Rattle.std.proofs.Common.{length, map, drop, get_or, Some, None, refl, sym, ap, ap₂, arith, add-one, drop-cons}
use Rattle.std.proofs.lemmas.Bool.{not-false, not-true}
use Rattle.std.specs.Str.{bytes_eq}
use Rattle.csv.specs.Records.{field_at}
use Rattle.room_types.specs.Texts.{Text}
use Rattle.office_lists.specs.Records.{Record, same_fields}

abbrev pub texts : List (Bor Text) → Record
texts = map (λ (w : Bor Text). w.now)

and_false : (b : Bool) → (b && false) ≡ false
and_false true = refl
and_false false = refl

pub same_length : (xs ys : Record) → ¬ (length xs ≡ length ys) → same_fields xs ys ≡ false
unfolding same_fields
same_length [] [] differ = absurd (differ refl)
same_length [] (y ∷ ys) differ = refl
same_length (x ∷ xs) [] differ = refl
same_length (x ∷ xs) (y ∷ ys) differ =
    ap (λ (b : Bool). bytes_eq y x && b) (same_length xs ys (λ e. differ (ap suc e))) ∙ and_false (bytes_eq y x)

field_dropped : (fs : Record) (i : ℕ) (f : Text) → field_at fs i ≡ Some f → drop i fs ≡ f ∷ drop (suc i) fs
unfolding field_at
field_dropped [] i f e = cc
field_dropped (x ∷ fs) zero f e = let q : x ≡ f = cc in ap (λ (t : Text). t ∷ fs) q
field_dropped (x ∷ fs) (suc i) f e = field_dropped fs i f e

-- the names and the fields before index i agree, so all depends on those from i on
abbrev pub SameFrom : List (Bor Text) → Record → ℕ → Type 0
SameFrom names fs i = same_fields (texts names) fs ≡ same_fields (texts (drop i names)) (drop i fs)

pub at_field : (names : List (Bor Text)) (fs : Record) (i : ℕ) (d : Bor Text) (f : Text) → i < length names
    → field_at fs i ≡ Some f
    → SameFrom names fs i → same_fields (texts names) fs ≡ bytes_eq f (get_or names i d).now && same_fields
    (texts (drop (i + 1) names)) (drop (i + 1) fs)
unfolding same_fields
at_field names fs i d f low is same =
    same ∙ ap₂ (λ (ns : List (Bor Text)) (gs : Record). same_fields (texts ns) gs) (drop-cons names i d low)
    (field_dropped fs i f is)
    ∙ ap (λ (k : ℕ). bytes_eq f (get_or names i d).now && same_fields (texts (drop k names)) (drop k fs))
    (sym (add-one i))

pub header_same_at_end : (names : List (Bor Text)) (fs : Record) → length fs ≡ length names
    → SameFrom names fs (length names) → same_fields (texts names) fs ≡ true
unfolding same_fields
header_same_at_end names fs same from =
    from ∙ ap₂ (λ (ns : List (Bor Text)) (gs : Record). same_fields (texts ns) gs) (none names)
    (ap (λ (k : ℕ). drop k fs) (sym same) ∙ none_of fs)
  where
    none : (ws : List (Bor Text)) → drop (length ws) ws ≡ []
    none [] = refl
    none (w ∷ rest) = none rest

    none_of : (ws : Record) → drop (length ws) ws ≡ []
    none_of [] = refl
    none_of (w ∷ rest) = none_of rest

pub same_at : (names : List (Bor Text)) (fs : Record) (i : ℕ) (d : Bor Text) (f n : Text) → i < length names
    → Some f ≡ field_at fs i
    → SameFrom names fs i → n ≡ (get_or names i d).now → not (bytes_eq f n) ≡ false → SameFrom names fs (i + 1)
same_at names fs i d f n low is same name e =
    let equal : bytes_eq f (get_or names i d).now ≡ true = ap (bytes_eq f) (sym name) ∙ not-false (bytes_eq f n) e in
    at_field names fs i d f low (sym is) same
    ∙ ap (λ (b : Bool). b && same_fields (texts (drop (i + 1) names)) (drop (i + 1) fs)) equal

pub differs_at : (names : List (Bor Text)) (fs : Record) (i : ℕ) (d : Bor Text) (f n : Text) → i < length names
    → Some f ≡ field_at fs i
    → SameFrom names fs i → n ≡ (get_or names i d).now → not (bytes_eq f n) ≡ true
    → false ≡ same_fields (texts names) fs
differs_at names fs i d f n low is same name e =
    let other : bytes_eq f (get_or names i d).now ≡ false = ap (bytes_eq f) (sym name) ∙ not-true (bytes_eq f n) e in
    sym (at_field names fs i d f low (sym is) same
    ∙ ap (λ (b : Bool). b && same_fields (texts (drop (i + 1) names)) (drop (i + 1) fs)) other)

-- an index without a field is past the end
pub field_missing : (fs : Record) (i : ℕ) → None ≡ field_at fs i → length fs ≤ i
unfolding field_at
field_missing [] i e = omega arith
field_missing (x ∷ fs) zero e = cc
field_missing (x ∷ fs) (suc i) e = let m = field_missing fs i e in omega arith

pub other_length : (names : List (Bor Text)) (fs : Record) → ¬ (length fs ≡ length names)
    → false ≡ same_fields (texts names) fs
other_length names fs differ = sym (same_length (texts names) fs (λ e. differ (sym e ∙ map_length names)))
  where
    map_length : (ws : List (Bor Text)) → length (texts ws) ≡ length ws
    map_length [] = refl
    map_length (w ∷ rest) = ap suc (map_length rest)
