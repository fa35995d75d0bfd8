-- Lemmas on truth values, comparisons and options that several subjects need.
use Rattle.std.proofs.Common.{◌≡◌, true, Option, None, Some, refl}
use Rattle.std.specs.declared.cmp.Ordering.{Ordering}
use Rattle.std.specs.declared.cmp.Ordering.TheVariants.{Less, Equal, Greater}
use Rattle.std.specs.Ordering.{is_eq}
use Rattle.std.specs.Cmp.Lexicographic.{nat_list_eq_equiv}
use Rattle.std.specs.Option.{option_and_then}
use Rattle.room_types.specs.Texts.{Text, text_eq}

pub then_some : {X Y : Type 0} (f : X → Option Y) (o : Option X) (y : Y)
    → option_and_then f o ≡ Some y → (x : X) × (o ≡ Some x) × (f x ≡ Some y)
then_some f None y e = cc
then_some f (Some x) y e = (x, refl, e)

pub tied : (o : Ordering) → is_eq o ≡ true → o ≡ Equal
tied Less e = cc
tied Equal e = refl
tied Greater e = cc

pub text_eq-same : (a : Text) → text_eq a a ≡ true
text_eq-same a = nat_list_eq_equiv.refl a
