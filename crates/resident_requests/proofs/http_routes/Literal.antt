-- A router without parameters finds the route whose pattern equals the path.
use Rattle.std.proofs.Common.{◌≡◌, ℕ, ◌-◌, ◌<◌, ◌≤◌, ◌==◌, zero, suc, Bool, true, false, cond, ◌&&◌, List, [], ◌∷◌}
use Rattle.std.proofs.Common.{length, Option, Some, None, refl, ap, ◌∙◌, arith, lit≤}
use Rattle.std.proofs.lemmas.Bool.Decides.{nat_tests}
use Rattle.matchit.specs.Rows.{RowsOf, param_token, catch_all_token}
use Rattle.matchit.specs.Order.{lookup}
use Rattle.matchit.specs.Seek.{seek, step, own, or_else, param_step, has_slash, same_text}

-- each token is a byte
abbrev pub IsLiteral : List ℕ → Type 0
IsLiteral [] = Unit {0}
IsLiteral (x ∷ t) = (x < 256) × IsLiteral t

module _ {K : Type 0} where
  abbrev pub AreLiteral : RowsOf K → Type 0
  AreLiteral [] = Unit {0}
  AreLiteral ((t, key) ∷ rest) = IsLiteral t × AreLiteral rest

  -- no row continues with a token that is not a byte
  step_none : (token : ℕ) (rows : RowsOf K) → 256 ≤ token → AreLiteral rows → step token rows ≡ []
  step_none token [] h l = refl
  step_none token (([], key) ∷ rest) h l = step_none token rest h l.1
  step_none token ((x ∷ t, key) ∷ rest) h l =
      let lt = l.0.0 in
      let differs : (x == token) ≡ false = grind (arith, nat_tests) in
      rw differs (step_none token rest h l.1)

  kept : (same : Bool) (t : List ℕ) (key : K) (rows : RowsOf K) → IsLiteral t → AreLiteral rows
      → AreLiteral (cond same ((t, key) ∷ rows) rows)
  kept true t key rows a b = (a, b)
  kept false t key rows a b = b

  step_literal : (b : ℕ) (rows : RowsOf K) → AreLiteral rows → AreLiteral (step b rows)
  step_literal b [] l = tt
  step_literal b (([], key) ∷ rest) l = step_literal b rest l.1
  step_literal b ((x ∷ t, key) ∷ rest) l = kept (x == b) t key (step b rest) l.0.1 (step_literal b rest l.1)

  no_rows : (t : Bool) (n : ℕ) → (cond {A = ℕ × RowsOf K} t (0, []) (n, [])).1 ≡ []
  no_rows true n = refl
  no_rows false n = refl

  -- without rows there is no parameter
  param_none : (path : List ℕ) → (param_step {K = K} [] path).1 ≡ []
  unfolding param_step
  param_none path = no_rows (has_slash path) (length path)

  seek_none : (n : ℕ) (path : List ℕ) → seek {K = K} n [] path ≡ None
  unfolding seek
  seek_none n [] = refl
  seek_none (suc n) (b ∷ path) = seek_none n path
  seek_none zero (b ∷ path) =
      let p = param_step {K = K} [] (b ∷ path) in
      let e : seek (p.0 - 1) p.1 path ≡ None = ap (λ rows. seek (p.0 - 1) rows path) (param_none (b ∷ path))
      ∙ seek_none (p.0 - 1) path in
      rw (seek_none 0 path, e) refl

  or_none : (found : Option K) → or_else found None ≡ found
  or_none None = refl
  or_none (Some key) = refl

  own_row : (rows : RowsOf K) → own rows ≡ lookup [] rows
  own_row [] = refl
  own_row (([], key) ∷ rest) = refl
  own_row ((x ∷ t, key) ∷ rest) = own_row rest

  lookup_cond : (same : Bool) (path t : List ℕ) (key : K) (rows : RowsOf K) (found : Option K)
      → lookup path rows ≡ found
      → lookup path (cond same ((t, key) ∷ rows) rows) ≡ cond (same && same_text t path) (Some key) found
  lookup_cond true path t key rows found e = ap (cond (same_text t path) (Some key)) e
  lookup_cond false path t key rows found e = e

  lookup_step : (b : ℕ) (path : List ℕ) (rows : RowsOf K) → lookup path (step b rows) ≡ lookup (b ∷ path) rows
  lookup_step b path [] = refl
  lookup_step b path (([], key) ∷ rest) = lookup_step b path rest
  lookup_step b path ((x ∷ t, key) ∷ rest) =
      lookup_cond (x == b) path t key (step b rest) (lookup (b ∷ path) rest) (lookup_step b path rest)

  -- seeking among literal rows is looking up
  pub seek_literal : (path : List ℕ) (rows : RowsOf K) → AreLiteral rows → seek 0 rows path ≡ lookup path rows
  unfolding seek
  seek_literal [] rows l = own_row rows
  seek_literal (b ∷ path) rows l =
      let p = param_step (step param_token rows) (b ∷ path) in
      let none : p.1 ≡ [] = ap (λ rs. (param_step rs (b ∷ path)).1) (step_none param_token rows (lit≤ tt) l)
      ∙ param_none (b ∷ path) in
      let by_param : seek (p.0 - 1) p.1 path ≡ None = ap (λ rs. seek (p.0 - 1) rs path) none
      ∙ seek_none (p.0 - 1) path in
      let by_rest : own (step catch_all_token rows) ≡ None = ap own (step_none catch_all_token rows (lit≤ tt) l) in
      let by_byte : seek 0 (step b rows) path ≡ lookup (b ∷ path) rows =
      seek_literal path (step b rows) (step_literal b rows l) ∙ lookup_step b path rows in
      rw (by_param, by_rest, by_byte) (or_none (lookup (b ∷ path) rows))
