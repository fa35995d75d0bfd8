-- A map built from its entries, one by one in ascending order.
use Rattle.std.proofs.Common.{◌≡◌, true, false, cond, List, [], ◌∷◌, Some, None, refl, sym}
use Rattle.std.proofs.Common.{ap, ◌∙◌, T}
use Rattle.std.specs.declared.cmp.Ordering.{Ordering}
use Rattle.std.specs.declared.cmp.Ordering.TheVariants.{Less, Equal, Greater}
use Rattle.std.specs.Cmp.Lexicographic.{nat_list_cmp_total}
use Rattle.std.specs.Option.{option_or}
use Rattle.std.specs.Ordering.{eq_by_cmp, is_eq, is_lt}
use Rattle.std.specs.FinMap as maps
use Rattle.std.specs.FinMap.{entries_sorted, find, get-empty, get-entries, get-insert, is_sorted}
use Rattle.std.specs.FinMap.{same_map}
use Rattle.std.specs.FinMap.Entries.{below_all}
use Rattle.room_types.specs.Texts.{Text, TextMap, text_cmp}
use Rattle.room_types.proofs.maps.TextMaps.{exact_texts, first_holds, second_holds}
use Rattle.room_types.proofs.options.Options.{option_or-none}
use Rattle.office_state.specs.Puts.{with_all}
use Rattle.office_state.proofs.offices.Truths.{tied}

less_untied : (o : Ordering) → T (is_lt o) → is_eq o ≡ false
less_untied Less p = refl
less_untied Equal p = absurd p
less_untied Greater p = absurd p

none_below : {X : Type 0} (k q : Text) (es : List (Text × X)) → T (below_all text_cmp k es) → q ≡ k
    → find text_cmp q es ≡ None
none_below k q [] below same = refl
none_below k q (e ∷ es) below same =
    ap (λ b. cond b (Some e.1) (find text_cmp q es))
    (ap (λ t. eq_by_cmp text_cmp t e.0) same
    ∙ less_untied (text_cmp k e.0) (first_holds _ _ below))
    ∙ none_below k q es (second_holds _ _ below) same

get-with_all : {X : Type 0} (es : List (Text × X)) (m : TextMap X) (q : Text)
    → T (is_sorted text_cmp es) → maps.get (with_all m es) q
    ≡ option_or (find text_cmp q es) (maps.get m q)
get-with_all [] m q sorted = refl
get-with_all (e ∷ es) m q sorted =
    get-with_all es (maps.insert m e.0 e.1) q (second_holds _ _ sorted)
    ∙ ap (λ o. option_or (find text_cmp q es) o) (get-insert nat_list_cmp_total m e.0 e.1 q)
    ∙ elim (eq_by_cmp text_cmp q e.0) as
    (λ b. eq_by_cmp text_cmp q e.0 ≡ b
    → option_or (find text_cmp q es) (cond b (Some e.1) (maps.get m q))
    ≡ option_or (cond b (Some e.1) (find text_cmp q es)) (maps.get m q)) [
      | true ↦ λ t. ap (λ o. option_or o (Some e.1))
          (none_below e.0 q es (first_holds _ _ sorted)
          (exact_texts q e.0 (tied (text_cmp q e.0) t)))
      | false ↦ λ t. refl
    ] refl

-- the entries of a map, inserted one by one into the empty map, give the map
pub with_all-entries : {X : Type 0} (m : TextMap X) → with_all maps.empty (maps.entries m) ≡ m
with_all-entries m =
    same_map nat_list_cmp_total exact_texts (with_all maps.empty (maps.entries m)) m (λ q.
    get-with_all (maps.entries m) maps.empty q (entries_sorted m)
    ∙ ap (λ o. option_or (find text_cmp q (maps.entries m)) o) (get-empty text_cmp q)
    ∙ option_or-none (find text_cmp q (maps.entries m))
    ∙ sym (get-entries m q))
