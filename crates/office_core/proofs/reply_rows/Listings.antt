-- Listings of empty tables and lists are empty, and those of others are not.
use Rattle.std.proofs.Common.{◌≡◌, ◌<◌, true, false, List, [], ◌∷◌, length, eqb, map, refl, ap, sym}
use Rattle.std.proofs.Common.{◌∙◌, arith}
use Rattle.std.proofs.lemmas.Bool.{eqb-true}
use Rattle.std.specs.FinMap as maps
use Rattle.std.specs.FinMap.{len-entries}
use Rattle.room_types.specs.Texts.{Text, TextMap}
use Rattle.office_state.specs.Empty.{is_empty}

none_of_none : {A B : Type 0} (f : A → B) (es : List A) → eqb (length es) 0 ≡ true → map f es ≡ []
none_of_none f [] e = refl
none_of_none f (x ∷ es) e = absurd (omega (arith, eqb-true (length (x ∷ es)) 0 e))

some_of_some : {A B : Type 0} (f : A → B) (es : List A) → eqb (length es) 0 ≡ false
    → is_empty (map f es) ≡ false
some_of_some f [] e = cc
some_of_some f (x ∷ es) e = refl

pub no_rows : {X B : Type 0} (f : Text × X → B) (m : TextMap X) → eqb (maps.len m) 0 ≡ true
    → map f (maps.entries m) ≡ []
no_rows f m e = none_of_none f (maps.entries m) (ap (λ n. eqb n 0) (sym (len-entries m)) ∙ e)

pub some_rows : {X B : Type 0} (f : Text × X → B) (m : TextMap X) → eqb (maps.len m) 0 ≡ false
    → is_empty (map f (maps.entries m)) ≡ false
some_rows f m e = some_of_some f (maps.entries m) (ap (λ n. eqb n 0) (sym (len-entries m)) ∙ e)

pub some_ordered : {A B : Type 0} (f : A → B) (es : List A) → 0 < length es
    → is_empty (map f es) ≡ false
some_ordered f [] some = absurd (omega (arith, some))
some_ordered f (x ∷ es) some = refl
