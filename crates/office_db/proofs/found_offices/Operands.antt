-- Terms that apply an operator.
use Rattle.std.proofs.Common.{◌≡◌, ◌≢◌, ℕ, zero, suc, List, Bool, Decides, get_or, refl, sym, ap, ap₂, ◌∙◌}
use Rattle.std.proofs.lemmas.Bool.Decides.{Decides-like}
use Rattle.sqlite_sql.specs.declared.ops.BinaryOp.{BinaryOp}
use Rattle.sqlite_sql.specs.Term.{Term, op2}
use Rattle.sqlite_value.specs.declared.value.Value.TheVariants.{Null}
use Rattle.sqlite_schema.specs.declared.code.Op.{Op}
use Rattle.sqlite_schema.specs.declared.code.Op.TheVariants.{Literal, Binary}
use Rattle.sqlite_schema.specs.Code.{op_term, term_to}

left : (of : BinaryOp) (a b x y : Term) → op2 of a b ≡ op2 of x y → a ≡ x
left of a b x y e = cc

right : (of : BinaryOp) (a b x y : Term) → op2 of a b ≡ op2 of x y → b ≡ y
right of a b x y e = cc

operator_of : (f g : BinaryOp) (a b x y : Term) → op2 f a b ≡ op2 g x y → f ≡ g
operator_of f g a b x y e = cc

module _ (of : BinaryOp) (t a b x y : Term) (is : t ≡ op2 of a b) where
  -- Where the first operands are equal, the second ones decide.
  pub second_decides : (r : Bool) → a ≡ x → Decides r (b ≡ y) → Decides r (t ≡ op2 of x y)
  second_decides r same d = Decides-like r (λ q. is ∙ ap₂ (op2 of) same q) (λ p. right of a b x y (sym is ∙ p)) d

  pub first_differs : (a ≡ x → ⊥) → t ≡ op2 of x y → ⊥
  first_differs differs p = differs (left of a b x y (sym is ∙ p))

-- A term with another operator.
pub other_operator : (ops : List Op) (depth at : ℕ) (found of : BinaryOp) (x y : ℕ) (op : Op) → depth ≢ 0
    → get_or ops at (Literal Null) ≡ op → op ≡ Binary found x y → found ≢ of → (a b : Term)
    → term_to ops depth at ≡ op2 of a b → ⊥
other_operator ops zero at found of x y op deep here is differs a b e = absurd (deep refl)
other_operator ops (suc depth) at found of x y op deep here is differs a b e =
    let same : op2 found (term_to ops depth x) (term_to ops depth y) ≡ op2 of a b =
    ap (op_term (term_to ops depth)) (sym (here ∙ is)) ∙ e in
    differs (operator_of found of _ _ a b same)
