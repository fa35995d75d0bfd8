-- Values as the columns of a strict table store them.
use Rattle.std.proofs.Common.{◌≡◌, ℕ, ℤ, pos, Bool, true, false, ◌&&◌, Option, Some, None, List, refl, ap, ◌∙◌, cond}
use Rattle.std.specs.Str.{bytes_eq}
use Rattle.std.specs.Ordering.{is_eq}
use Rattle.std.proofs.lemmas.Map.Text.{is_eq-slice_cmp}
use Rattle.sqlite_value.specs.Order.{value_cmp}
use Rattle.sqlite_value.specs.declared.value.Value.{Value}
use Rattle.sqlite_value.specs.declared.value.Value.TheVariants.{Null, Int, Text}
use Rattle.sqlite_value.specs.declared.keys.Collation.TheVariants.{Binary}
use Rattle.sqlite_value.proofs.OrderLemmas.{value_cmp-Text}
use Rattle.sqlite_schema.specs.declared.schema.Kind.TheVariants as kind
use Rattle.sqlite_sql.specs.declared.ops.BinaryOp.TheVariants.{Compare}
use Rattle.sqlite_sql.specs.declared.ops.CompareOp.TheVariants.{Eq}
use Rattle.sqlite_sql.specs.Ops.{unary, binary, is_true, from_truth}
use Rattle.sqlite_rules.specs.Cast.{cast}
use Rattle.room_types.specs.declared.moves.Wave.{Wave}
use Rattle.room_types.specs.declared.moves.Wave.TheVariants.{Swap, Nth}
use Rattle.office_schema.specs.cells.Cells.{text_or_null, wave_value}

either : (b : Bool) (x : Value) → cond b x x ≡ x
either true x = refl
either false x = refl

pub cast-Int : (n : ℤ) → cast kind.Integer (Int n) ≡ Int n
unfolding unary
cast-Int n = either _ (Int n)

pub cast-Null : cast kind.Integer Null ≡ Null
unfolding unary
cast-Null = either _ Null

pub cast-text_or_null : (text : Option (List ℕ)) → cast kind.Text (text_or_null text) ≡ text_or_null text
cast-text_or_null None = refl
cast-text_or_null (Some text) = refl

pub cast-wave_value : (wave : Wave) → cast kind.Integer (wave_value wave) ≡ wave_value wave
cast-wave_value Swap = cast-Null
cast-wave_value (Nth n) = cast-Int (pos n)

-- the test that a column of texts equals a parameter
pub same_text : (a b : List ℕ) → (is_true (binary (Compare Eq Binary) (Text a) (Text b)) && true) ≡ bytes_eq a b
unfolding binary
same_text a b = tested (is_eq (value_cmp (Text a) (Text b))) ∙ ap is_eq (value_cmp-Text a b) ∙ is_eq-slice_cmp a b
  where
    tested : (t : Bool) → (is_true (from_truth (Some t)) && true) ≡ t
    tested true = refl
    tested false = refl
