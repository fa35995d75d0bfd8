-- How lines split at line feeds, and the unfinished line that remains.
use Rattle.std.proofs.Common.{◌≡◌, ℕ, Bool, true, false, cond, eqb, List, [], ◌∷◌, ◌++◌, refl, sym, ap, ◌∙◌}
use Rattle.std.proofs.Common.{append_assoc, append-nil}
use Rattle.std.specs.List.{onto_first}
use Rattle.office_lines.specs.Lines.{parts_of, init, last, ended_lines, last_part}
use Rattle.office_lines.specs.Inner.Sessions.{ended_from, partial_from}

-- the parts, with these bytes prepended to the first one
prefixed : List ℕ → List (List ℕ) → List (List ℕ)
prefixed p [] = p ∷ []
prefixed p (x ∷ xs) = (p ++ x) ∷ xs

prefixed-onto_first : (p : List ℕ) (b : ℕ) (parts : List (List ℕ)) → prefixed p (onto_first b parts) ≡ prefixed
    (p ++ b ∷ []) parts
unfolding prefixed
prefixed-onto_first p b [] = refl
prefixed-onto_first p b (x ∷ xs) = ap (λ l. l ∷ xs) (sym (append_assoc p (b ∷ []) x))

prefixed-nil-onto_first : (b : ℕ) (parts : List (List ℕ)) → prefixed [] (onto_first b parts) ≡ onto_first b parts
unfolding prefixed
prefixed-nil-onto_first b [] = refl
prefixed-nil-onto_first b (x ∷ xs) = refl

prefixed-nil-cond : (t : Bool) (b : ℕ) (parts : List (List ℕ))
    → prefixed [] (cond t ([] ∷ parts) (onto_first b parts)) ≡ cond t ([] ∷ parts) (onto_first b parts)
unfolding prefixed
prefixed-nil-cond true b parts = refl
prefixed-nil-cond false b parts = prefixed-nil-onto_first b parts

-- prepending nothing changes nothing
prefixed-nil : (bs : List ℕ) → prefixed [] (parts_of bs) ≡ parts_of bs
unfolding prefixed
prefixed-nil [] = refl
prefixed-nil (b ∷ bs) = prefixed-nil-cond (eqb b 10) b (parts_of bs)

split_step : (t : Bool) (p : List ℕ) (b : ℕ) (bs : List ℕ)
    → parts_of bs ≡ ended_from [] bs ++ partial_from [] bs ∷ []
    → prefixed (p ++ b ∷ []) (parts_of bs) ≡ ended_from (p ++ b ∷ []) bs ++ partial_from (p ++ b ∷ []) bs ∷ []
    → prefixed p (cond t ([] ∷ parts_of bs) (onto_first b (parts_of bs)))
    ≡ cond t (p ∷ ended_from [] bs) (ended_from (p ++ b ∷ []) bs) ++ cond t (partial_from [] bs)
    (partial_from (p ++ b ∷ []) bs) ∷ []
unfolding prefixed
split_step true p b bs here longer = ap (λ l. l ∷ parts_of bs) (append-nil p) ∙ ap (λ l. p ∷ l) here
split_step false p b bs here longer = prefixed-onto_first p b (parts_of bs) ∙ longer

prefixed_parts : (p bs : List ℕ) → prefixed p (parts_of bs) ≡ ended_from p bs ++ partial_from p bs ∷ []
unfolding prefixed
prefixed_parts p [] = ap (λ l. l ∷ []) (append-nil p)
prefixed_parts p (b ∷ bs) =
    split_step (eqb b 10) p b bs (sym (prefixed-nil bs) ∙ prefixed_parts [] bs) (prefixed_parts (p ++ b ∷ []) bs)

-- the parts are the ended lines, followed by the unfinished line
pub parts_of-is : (bs : List ℕ) → parts_of bs ≡ ended_from [] bs ++ partial_from [] bs ∷ []
parts_of-is bs = sym (prefixed-nil bs) ∙ prefixed_parts [] bs

init-push : (xs : List (List ℕ)) (y : List ℕ) → init (xs ++ y ∷ []) ≡ xs
init-push [] y = refl
init-push (x ∷ []) y = refl
init-push (x ∷ z ∷ xs) y = ap (λ l. x ∷ l) (init-push (z ∷ xs) y)

last-push : (xs : List (List ℕ)) (y : List ℕ) → last (xs ++ y ∷ []) ≡ y
last-push [] y = refl
last-push (x ∷ []) y = refl
last-push (x ∷ z ∷ xs) y = last-push (z ∷ xs) y

-- the ended lines are those that `ended_from` finds with no line begun
pub ended_lines-is : (bs : List ℕ) → ended_lines bs ≡ ended_from [] bs
ended_lines-is bs = ap init (parts_of-is bs) ∙ init-push (ended_from [] bs) (partial_from [] bs)

pub last_part-is : (bs : List ℕ) → last_part bs ≡ partial_from [] bs
last_part-is bs = ap last (parts_of-is bs) ∙ last-push (ended_from [] bs) (partial_from [] bs)

begun-cond : (t : Bool) (p : List ℕ) (b : ℕ) (xs ys : List ℕ)
    → partial_from [] (xs ++ ys) ≡ partial_from (partial_from [] xs) ys
    → partial_from (p ++ b ∷ []) (xs ++ ys) ≡ partial_from (partial_from (p ++ b ∷ []) xs) ys
    → cond t (partial_from [] (xs ++ ys)) (partial_from (p ++ b ∷ []) (xs ++ ys)) ≡ partial_from
    (cond t (partial_from [] xs) (partial_from (p ++ b ∷ []) xs)) ys
begun-cond true p b xs ys here longer = here
begun-cond false p b xs ys here longer = longer

pub partial_from-append : (p xs ys : List ℕ) → partial_from p (xs ++ ys) ≡ partial_from (partial_from p xs) ys
partial_from-append p [] ys = refl
partial_from-append p (b ∷ xs) ys =
    begun-cond (eqb b 10) p b xs ys (partial_from-append [] xs ys) (partial_from-append (p ++ b ∷ []) xs ys)

ended-cond : (t : Bool) (p : List ℕ) (b : ℕ) (xs ys : List ℕ)
    → ended_from [] (xs ++ ys) ≡ ended_from [] xs ++ ended_from (partial_from [] xs) ys
    → ended_from (p ++ b ∷ []) (xs ++ ys) ≡ ended_from (p ++ b ∷ []) xs ++ ended_from (partial_from (p ++ b ∷ []) xs) ys
    → cond t (p ∷ ended_from [] (xs ++ ys)) (ended_from (p ++ b ∷ []) (xs ++ ys))
    ≡ cond t (p ∷ ended_from [] xs) (ended_from (p ++ b ∷ []) xs)
    ++ ended_from (cond t (partial_from [] xs) (partial_from (p ++ b ∷ []) xs)) ys
ended-cond true p b xs ys here longer = ap (λ l. p ∷ l) here
ended-cond false p b xs ys here longer = longer

pub ended_from-append : (p xs ys : List ℕ) → ended_from p (xs ++ ys) ≡ ended_from p xs
    ++ ended_from (partial_from p xs) ys
ended_from-append p [] ys = refl
ended_from-append p (b ∷ xs) ys =
    ended-cond (eqb b 10) p b xs ys (ended_from-append [] xs ys) (ended_from-append (p ++ b ∷ []) xs ys)
