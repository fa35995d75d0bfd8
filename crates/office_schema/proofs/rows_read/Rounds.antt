-- The only row of the round.
use Rattle.std.proofs.Common.{◌≡◌, ◌≢◌, ℕ, List, [], ◌∷◌, length, Option, Some, None, refl, sym, ap, ◌∙◌, arith}
use Rattle.std.proofs.Common.{IsPermutation}
use Rattle.std.specs.Prelude.{unwrap_or, slice_index_or}
use Rattle.std.proofs.lemmas.List.Sorted.{IsPermutation-refl, length_permutation}
use Rattle.office_schema.specs.rows.Rows.{IsOfVersion, only_row}
use Rattle.office_schema.specs.rows.Reads.{Reads}
use Rattle.office_schema.specs.declared.rows.records.RoundRecord.{RoundRecord}
use Rattle.room_types.proofs.maps.Entries.{permuted_all}

-- The row determines the round.
pub one_round : (m n : RoundRecord) → IsPermutation (only_row m) (only_row n) → m ≡ n
one_round m n same = sym (permuted_all (λ x. x ≡ m) (m ∷ []) (n ∷ []) same (refl, tt)).0

module _ (version : ℕ) where
  pub one_row : (rows : List RoundRecord) (d : RoundRecord) → length rows ≡ 1
      → (slice_index_or rows 0 d).version ≡ version
      → Reads (IsOfVersion version) only_row rows (Some (slice_index_or rows 0 d))
  one_row [] d e own = absurd (omega (arith, e))
  one_row (r ∷ []) d e own = record {
    returned = (own, IsPermutation-refl (r ∷ []));
    only = λ m sound same. ap (λ x. Some x) (sym (one_round m r same));
  }
  one_row (r ∷ s ∷ rows) d e own = absurd (omega (arith, e))

  pub row_of_other : (rows : List RoundRecord) (d : RoundRecord) → length rows ≡ 1
      → (slice_index_or rows 0 d).version ≢ version
      → Reads (IsOfVersion version) only_row rows None
  row_of_other [] d e other = absurd (omega (arith, e))
  row_of_other (r ∷ []) d e other = record {
    returned = tt;
    only = λ m own same. absurd (other (ap (λ (x : RoundRecord). x.version) (sym (one_round m r same)) ∙ own));
  }
  row_of_other (r ∷ s ∷ rows) d e other = absurd (omega (arith, e))

  pub other_rows : (rows : List RoundRecord) → length rows ≢ 1 → Reads (IsOfVersion version) only_row rows None
  other_rows rows other = record {
    returned = tt;
    only = λ m sound same. absurd (other (length_permutation (m ∷ []) rows same));
  }

pub found_is : {M : Type 0} (found : Option M) (m n : M) → found ≡ Some m → found ≡ Some n → m ≡ n
found_is found m n e f = ap (λ o. unwrap_or o m) (sym e ∙ f)
