-- Filling a map inverts the listing of its entries.
use Rattle.std.proofs.Common.{◌≡◌, true, false, List, [], ◌∷◌, ◌++◌, map, Option, Some, None, cond, refl, sym, ap, ◌∙◌}
use Rattle.std.proofs.Common.{subst, append-nil, IsPermutation}
use Rattle.std.specs.Prelude.{reverse}
use Rattle.std.specs.Option.{is_some}
use Rattle.std.specs.Ordering.{eq_by_cmp}
use Rattle.std.specs.Cmp.{eq_by_cmp_equiv}
use Rattle.std.specs.Cmp.Lexicographic.{nat_list_cmp_total}
use Rattle.std.specs.List.{AllByRecursion, IsDistinct}
use Rattle.std.specs.FinMap as maps
use Rattle.std.specs.FinMap.{get-empty}
use Rattle.std.proofs.lemmas.List.Sorted.{IsPermutation-refl, IsPermutation-sym, IsPermutation-trans}
use Rattle.std.proofs.lemmas.List.Sorted.{IsPermutation-middle, IsPermutation-append_left, IsPermutation-reverse}
use Rattle.std.proofs.lemmas.Map.Keys.{IsDistinct-head, IsDistinct-tail}
use Rattle.std.proofs.lemmas.Option.{same_Some}
use Rattle.room_types.specs.Texts.{Text, TextMap, text_cmp}
use Rattle.room_types.proofs.maps.TextMaps.{exact_texts, get-put_other}
use Rattle.room_types.proofs.maps.Trees.{entries-empty}
use Rattle.room_types.proofs.maps.Entries.{each_always, insert-new, permuted_keys, one_map}
use Rattle.room_types.proofs.options.Options.{none_if_not_some}
use Rattle.office_schema.specs.rows.Inner.Filled.{filled}
use Rattle.office_schema.specs.rows.Reads.{Reads, IsAny}

module _ {X : Type 0} where
  pub filled-has : (es : List (Text × X)) (m final : TextMap X) → filled m es ≡ Some final
      → IsPermutation (maps.entries m ++ es) (maps.entries final)
  filled-has [] m final e =
      subst (λ l. IsPermutation (maps.entries m ++ []) (maps.entries l)) (same_Some m final e)
      (subst (λ l. IsPermutation l (maps.entries m)) (sym (append-nil (maps.entries m)))
      (IsPermutation-refl (maps.entries m)))
  filled-has (f ∷ es) m final e =
      elim (maps.contains_key m f.0) as
      (λ b. maps.contains_key m f.0 ≡ b → cond b None (filled (maps.insert m f.0 f.1) es) ≡ Some final
      → IsPermutation (maps.entries m ++ f ∷ es) (maps.entries final)) [
        | true ↦ λ t h. absurd (cc)
        | false ↦ λ t h.
            IsPermutation-trans _ _ _ (IsPermutation-middle (maps.entries m) f es)
            (IsPermutation-trans _ _ _
            (IsPermutation-append_left es _ _
            (insert-new nat_list_cmp_total exact_texts m f.0 f.1 (none_if_not_some (maps.get m f.0) t)))
            (filled-has es (maps.insert m f.0 f.1) final h))
      ] refl e

  abbrev AreNew : TextMap X → List (Text × X) → Type 0
  AreNew m es = AllByRecursion (λ e. maps.contains_key m e.0 ≡ false) es

  still_new : (m : TextMap X) (k : Text) (v : X) (es : List (Text × X))
      → AllByRecursion (λ q. eq_by_cmp text_cmp k q ≡ false) (map (λ e. e.0) es) → AreNew m es
      → AreNew (maps.insert m k v) es
  still_new m k v [] apart h = tt
  still_new m k v (e ∷ es) apart h = (
    ap is_some (get-put_other m k v e.0 ((eq_by_cmp_equiv nat_list_cmp_total).symm e.0 k ∙ apart.0))
        ∙ h.0,
    still_new m k v es apart.1 h.1,
  )

  -- If the keys are distinct and new, every entry is inserted.
  pub filled-all : (es : List (Text × X)) (m : TextMap X) → IsDistinct (eq_by_cmp text_cmp) (map (λ e. e.0) es)
      → AreNew m es → filled m es ≡ None → ⊥
  filled-all [] m d h n = cc
  filled-all (f ∷ es) m d h n =
      filled-all es (maps.insert m f.0 f.1) (IsDistinct-tail (eq_by_cmp text_cmp) f.0 (map (λ e. e.0) es) d)
      (still_new m f.0 f.1 es (IsDistinct-head (eq_by_cmp text_cmp) f.0 (map (λ e. e.0) es) d) h.1)
      (ap (λ b. cond b None (filled (maps.insert m f.0 f.1) es)) (sym h.0) ∙ n)

  all_new : (es : List (Text × X)) → AreNew maps.empty es
  all_new =
      each_always (λ (e : Text × X). maps.contains_key maps.empty e.0 ≡ false)
      (λ e. ap is_some (get-empty {X = X} text_cmp e.0))

  filled-rows : (rows es : List (Text × X)) → IsPermutation rows es → (found : Option (TextMap X))
      → filled maps.empty es ≡ found → Reads IsAny maps.entries rows found
  filled-rows rows es moved None e = record {
    returned = tt;
    only = λ m sound same. absurd
        (filled-all es maps.empty
        (permuted_keys nat_list_cmp_total exact_texts m es (IsPermutation-trans _ _ _ same moved)) (all_new es) e);
  }
  filled-rows rows es moved (Some final) e =
      let has : IsPermutation es (maps.entries final) =
      subst (λ l. IsPermutation (l ++ es) (maps.entries final)) (entries-empty nat_list_cmp_total)
      (filled-has es maps.empty final e) in
      let returned : IsPermutation (maps.entries final) rows =
      IsPermutation-sym _ _ (IsPermutation-trans _ _ _ moved has) in
      record {
        returned = (tt, returned);
        only = λ m sound same. ap (λ l. Some l)
            (one_map nat_list_cmp_total exact_texts final m
            (IsPermutation-trans _ _ _ returned (IsPermutation-sym _ _ same)));
      }

  pub filled-reads : (rows : List (Text × X)) → Reads IsAny maps.entries rows (filled maps.empty (reverse rows))
  filled-reads rows =
      filled-rows rows (reverse rows) (IsPermutation-reverse rows) (filled maps.empty (reverse rows)) refl
