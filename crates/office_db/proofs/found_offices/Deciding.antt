-- Tests that decide a fact, one after another and along two lists.
use Rattle.std.proofs.Common.{◌≡◌, ◌≢◌, ◌<◌, ℕ, zero, suc, Bool, true, false, not, ◌&&◌, ◌==◌, List, [], ◌∷◌, drop}
use Rattle.std.proofs.Common.{get_or, length, map, Decides, refl, sym, ap, ap₂, inl, inr, true≢false, arith}
use Rattle.std.proofs.lemmas.Bool.Decides.{Decides-and, Decides-eqb, Decides-like, eqb_tells}
use Rattle.office_db.specs.loading.Inner.Lists.{pass_all}

-- ---- lists

pub heads : {A : Type 0} (x y : A) (xs ys : List A) → x ∷ xs ≡ y ∷ ys → x ≡ y
heads x y xs ys e = ap (λ l. get_or l 0 x) e

pub tails : {A : Type 0} (x y : A) (xs ys : List A) → x ∷ xs ≡ y ∷ ys → xs ≡ ys
tails x y xs ys e = ap (λ l. drop 1 l) e

-- A test that fails decides what cannot be.
pub never : {P : Type 0} → (P → ⊥) → Decides false P
never not_so = (λ e. absurd (true≢false (sym e)), λ p. absurd (not_so p))

no_items : {A : Type 0} (xs : List A) → length xs ≡ 0 → xs ≡ []
no_items [] e = refl
no_items (x ∷ xs) e = absurd (omega (arith, e))

pub empty-Decides : {A : Type 0} (xs : List A) → Decides (length xs == 0) (xs ≡ [])
empty-Decides xs = Decides-like (length xs == 0) (no_items xs) (λ p. ap length p) (Decides-eqb (length xs) 0)

module _ {X Y : Type 0} (test : Y → X → Bool) (f : Y → X)
    (each : (own : Y) (x : X) → Decides (test own x) (x ≡ f own)) where
  pub pass_all-Decides : (owns : List Y) (xs : List X) → Decides (pass_all test owns xs) (xs ≡ map f owns)
  pass_all-Decides [] [] = (λ _. refl, λ _. refl)
  pass_all-Decides [] (x ∷ xs) = never (λ p. omega (arith, ap length p))
  pass_all-Decides (own ∷ owns) [] = never (λ p. omega (arith, ap length p))
  pass_all-Decides (own ∷ owns) (x ∷ xs) =
      Decides-like (test own x && pass_all test owns xs) (λ h. ap₂ (λ y ys. y ∷ ys) h.0 h.1)
      (λ p. (heads x (f own) xs (map f owns) p, tails x (f own) xs (map f owns) p))
      (Decides-and (test own x) (pass_all test owns xs) (each own x) (pass_all-Decides owns xs))

pub same_map : {A : Type 0} (xs : List A) → map (λ x. x) xs ≡ xs
same_map [] = refl
same_map (x ∷ xs) = ap (λ ys. x ∷ ys) (same_map xs)

-- Within a list the default does not matter.
pub same_default : {A : Type 0} (xs : List A) (k : ℕ) (d e : A) → k < length xs → get_or xs k d ≡ get_or xs k e
same_default [] k d e low = absurd (omega (arith, low))
same_default (x ∷ xs) zero d e low = refl
same_default (x ∷ xs) (suc k) d e low = same_default xs k d e (omega (arith, low))

-- ---- truth values and numbers

pub bool-Decides : (b : Bool) → Decides b (b ≡ true)
bool-Decides b = (λ e. e, λ e. e)

pub not-Decides : (b : Bool) → Decides (not b) (b ≡ false)
not-Decides true = never (λ e. true≢false e)
not-Decides false = (λ _. refl, λ _. refl)

pub no_digits : (n : ℕ) → n ≢ 0 → (n == 0) ≡ false
no_digits n some = elim (eqb_tells n 0) [
  | inl e ↦ absurd (some e.1)
  | inr e ↦ e.0
]

-- ---- tests one after another

module _ {P : Type 0} where
  -- The last test decides where those before it pass.
  pub last_decides : (a b r : Bool) → a ≡ true → b ≡ true → Decides (a && b && r) P → Decides r P
  last_decides true true r e f d = d
  last_decides true false r e f d = absurd (true≢false (sym f))
  last_decides false b r e f d = absurd (true≢false (sym e))
