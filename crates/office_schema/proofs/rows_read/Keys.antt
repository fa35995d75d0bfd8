-- The keys of a set determine it.
use Rattle.std.proofs.Common.{◌≡◌, List, [], ◌∷◌, map, Option, Some, None, refl, ap, subst, IsPermutation}
use Rattle.std.specs.Prelude.{reverse}
use Rattle.std.specs.Cmp.Lexicographic.{nat_list_cmp_total}
use Rattle.std.specs.FinMap as maps
use Rattle.std.proofs.lemmas.List.Sorted.{IsPermutation-map}
use Rattle.room_types.specs.Texts.{Text, TextMap}
use Rattle.room_types.proofs.maps.TextMaps.{exact_texts}
use Rattle.room_types.proofs.maps.Entries.{one_map}
use Rattle.office_schema.specs.rows.Inner.Filled.{filled, key_entry}
use Rattle.office_schema.specs.rows.Reads.{Reads, IsAny}
use Rattle.office_schema.specs.rows.Rows.{key_rows}
use Rattle.office_schema.proofs.rows_read.Filling.{filled-reads}

-- The keys determine the entries.
entries_of_keys : (es : List (Text × Unit {0})) → map key_entry (map (λ e. e.0) es) ≡ es
entries_of_keys [] = refl
entries_of_keys (e ∷ es) = ap (λ l. e ∷ l) (entries_of_keys es)

keys_of_entries : (keys : List Text) → map (λ e. e.0) (map key_entry keys) ≡ keys
keys_of_entries [] = refl
keys_of_entries (k ∷ keys) = ap (λ l. k ∷ l) (keys_of_entries keys)

entries_moved : (m : TextMap (Unit {0})) (rows : List Text) → IsPermutation (key_rows m) rows
    → IsPermutation (maps.entries m) (map key_entry rows)
entries_moved m rows same =
    subst (λ l. IsPermutation l (map key_entry rows)) (entries_of_keys (maps.entries m))
    (IsPermutation-map key_entry _ _ same)

keys_moved : (m : TextMap (Unit {0})) (rows : List Text) → IsPermutation (maps.entries m) (map key_entry rows)
    → IsPermutation (key_rows m) rows
keys_moved m rows same =
    subst (IsPermutation (key_rows m)) (keys_of_entries rows) (IsPermutation-map (λ e. e.0) _ _ same)

keys_if_entries : (rows : List Text) (found : Option (TextMap (Unit {0}))) → Reads IsAny maps.entries
    (map key_entry rows) found → Reads IsAny key_rows rows found
keys_if_entries rows None reads = record {
  returned = tt;
  only = λ m any same. reads.only m tt (entries_moved m rows same);
}
keys_if_entries rows (Some set) reads = record {
  returned = (tt, keys_moved set rows reads.returned.1);
  only = λ m any same. reads.only m tt (entries_moved m rows same);
}

-- Filling a set inverts the listing of its keys.
pub keys_filled : (rows : List Text) → Reads IsAny key_rows rows (filled maps.empty (reverse (map key_entry rows)))
keys_filled rows = keys_if_entries rows _ (filled-reads (map key_entry rows))

-- Sets with the same keys are equal.
pub one_set : (m n : TextMap (Unit {0})) → IsPermutation (key_rows m) (key_rows n) → m ≡ n
one_set m n same =
    one_map nat_list_cmp_total exact_texts m n
    (subst (IsPermutation (maps.entries m)) (entries_of_keys (maps.entries n)) (entries_moved m (key_rows n) same))
