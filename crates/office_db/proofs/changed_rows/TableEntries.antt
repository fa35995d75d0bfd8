-- The rows of tables that have one row for each entry of a map, and nothing else in it.
use Rattle.std.proofs.Common.{◌≡◌, Bool, true, false, ◌∷◌, map, map-id, Some, None}
use Rattle.std.proofs.Common.{refl, sym, ap, ◌∙◌, subst, IsPermutation}
use Rattle.std.specs.Ordering.{eq_by_cmp}
use Rattle.std.specs.FinMap as maps
use Rattle.std.proofs.lemmas.Map.Text.{is_eq-slice_cmp}
use Rattle.sqlite_keyed.specs.Lists.{update_where, delete_where}
use Rattle.room_types.specs.Texts.{Text, TextMap, text_cmp, text_eq}
use Rattle.room_types.proofs.options.Options.{none_if_not_some, some_of}
use Rattle.office_db.proofs.changed_rows.Entries.{row_gone, row_added, row_put}
use Rattle.office_db.proofs.changed_rows.Entries.{row_unknown, row_changed}

-- The test of a statement picks the rows of one key.
pub tells : (a b : Text) → text_eq a b ≡ eq_by_cmp text_cmp a b
tells a b = sym (is_eq-slice_cmp a b)

module _ {X : Type 0} (m : TextMap X) (k : Text) where
  abbrev pub is_its : Text × X → Bool
  is_its r = text_eq r.0 k

  pub entry_added : (v : X) → maps.contains_key m k ≡ false
      → IsPermutation (maps.entries (maps.insert m k v)) ((k, v) ∷ maps.entries m)
  entry_added v new =
      subst (λ l. IsPermutation l ((k, v) ∷ maps.entries m)) (map-id (maps.entries (maps.insert m k v)))
      (subst (λ l. IsPermutation (map (λ e. e) (maps.entries (maps.insert m k v))) ((k, v) ∷ l))
      (map-id (maps.entries m))
      (row_added (λ e. e) (λ r. r.0) (λ e. refl) k is_its (λ r. tells r.0 k) m v
      (none_if_not_some (maps.get m k) new)))

  -- the entry of a known key is changed in place, and an unknown key has none
  pub entry_changed_by : (f : Text × X → Text × X) (v kept : X) → maps.get m k ≡ Some kept
      → f (k, kept) ≡ (k, v)
      → maps.entries (maps.insert m k v) ≡ update_where is_its f (maps.entries m)
  entry_changed_by f v kept known to =
      sym (map-id (maps.entries (maps.insert m k v)))
      ∙ row_changed (λ e. e) (λ r. r.0) (λ e. refl) k is_its (λ r. tells r.0 k) f m v kept known to
      ∙ ap (update_where is_its f) (map-id (maps.entries m))

  pub entry_unknown : (f : Text × X → Text × X) → maps.get m k ≡ None
      → maps.entries m ≡ update_where is_its f (maps.entries m)
  entry_unknown f unknown =
      sym (map-id (maps.entries m))
      ∙ row_unknown (λ e. e) (λ r. r.0) (λ e. refl) k is_its (λ r. tells r.0 k) f m unknown
      ∙ ap (update_where is_its f) (map-id (maps.entries m))

  pub entry_changed : (v : X) → maps.contains_key m k ≡ true
      → maps.entries (maps.insert m k v) ≡ update_where is_its (λ r. (r.0, v)) (maps.entries m)
  entry_changed v known =
      let kept = some_of (maps.get m k) known in
      entry_changed_by (λ r. (r.0, v)) v kept.0 kept.1 refl

  pub entry_gone : maps.entries (maps.remove m k) ≡ delete_where is_its (maps.entries m)
  entry_gone =
      sym (map-id (maps.entries (maps.remove m k)))
      ∙ row_gone (λ e. e) (λ r. r.0) (λ e. refl) k is_its (λ r. tells r.0 k) m
      ∙ ap (delete_where is_its) (map-id (maps.entries m))

  pub entry_put : (v : X)
      → IsPermutation (maps.entries (maps.insert m k v)) ((k, v) ∷ delete_where is_its (maps.entries m))
  entry_put v =
      subst (λ l. IsPermutation l ((k, v) ∷ delete_where is_its (maps.entries m)))
      (map-id (maps.entries (maps.insert m k v)))
      (subst (λ l. IsPermutation (map (λ e. e) (maps.entries (maps.insert m k v))) ((k, v) ∷ delete_where is_its l))
      (map-id (maps.entries m))
      (row_put (λ e. e) (λ r. r.0) (λ e. refl) k is_its (λ r. tells r.0 k) m v))
