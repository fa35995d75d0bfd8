-- Lists stored one after the other in one vector.
use Rattle.std.proofs.Common.{◌≡◌, ℕ, suc, ◌+◌, ◌-◌, ◌<◌, ◌≤◌, List, [], ◌∷◌, ◌++◌, length, map, take, drop, get_or}
use Rattle.std.proofs.Common.{refl, sym, ap, ap₂, ◌∙◌, subst, inl, inr, arith, length-append, pred, add-one}
use Rattle.std.specs.List.{range_with_len}
use Rattle.std.proofs.lemmas.Bool.{cases_lt}
use Rattle.std.proofs.lemmas.List.FromFn.{fill_by_all}
use Rattle.std.proofs.lemmas.List.{get_or-append_right, get_or_append_left, length-drop, take_all, drop_at}
use Rattle.std.proofs.lemmas.List.{take-append-le, drop-append-le}
use Rattle.std.proofs.Math.Seq.{take-suc}
use Rattle.trade_line.specs.Inner.Flat.{flat_list, flat_lists, AreFlat}

module _ (entries starts : List ℕ) (lists : List (List ℕ)) (flat : AreFlat entries starts lists) where
  pub flat_lists_are : flat_lists entries starts ≡ lists
  flat_lists_are =
      let n : pred (length starts) ≡ length lists = omega (arith, flat.starts_len) in
      ap (λ k. map (flat_list entries starts) (range_with_len 0 k)) n
      ∙ sym (fill_by_all (flat_list entries starts) lists (length lists) [] refl (λ k l. sym (flat.lists_are k l)))

-- one more list
pub flat_more : (entries starts : List ℕ) (lists : List (List ℕ)) (l : List ℕ) → AreFlat entries starts lists
    → AreFlat (entries ++ l) (starts ++ length (entries ++ l) ∷ []) (lists ++ l ∷ [])
flat_more entries starts lists l flat = record {
  starts_len = (let a : length (starts ++ e ∷ []) ≡ length starts + 1 = length-append starts (e ∷ []) in
      let b : length (lists ++ l ∷ []) ≡ length lists + 1 = length-append lists (l ∷ []) in
      omega (arith, flat.starts_len));
  ordered = λ p h. elim (cases_lt p (length lists)) [
    | inl b ↦ omega (arith, old p (omega arith), old (p + 1) (omega arith), flat.ordered p b)
    | inr b ↦ omega (arith, at_end p (last p h b), new p (last p h b), len)
  ];
  inside = λ p h. elim (cases_lt p (length lists)) [
    | inl b ↦ omega (arith, old (p + 1) (omega arith), flat.inside p b, len)
    | inr b ↦ omega (arith, new p (last p h b))
  ];
  lists_are = λ p h. elim (cases_lt p (length lists)) [
    | inl b ↦ ap₂ (λ j k. take (k - j) (drop j (entries ++ l))) (old p (omega arith)) (old (p + 1) (omega arith))
        ∙ kept p b ∙ flat.lists_are p b ∙ sym (get_or_append_left lists (l ∷ []) [] p b)
    | inr b ↦ ap₂ (λ j k. take (k - j) (drop j (entries ++ l))) (at_end p (last p h b)) (new p (last p h b)) ∙ added
        ∙ sym (ap (λ k. get_or (lists ++ l ∷ []) k []) (last p h b) ∙ get_or-append_right lists (l ∷ []) (length lists)
        (length lists) [] refl (omega arith)
        ∙ ap (λ k. get_or (l ∷ []) k []) (let z : length lists - length lists ≡ 0 = omega arith in z))
  ];
  end = (let b : length (lists ++ l ∷ []) ≡ length lists + 1 = length-append lists (l ∷ []) in
      ap (λ k. get_or (starts ++ e ∷ []) k 0) b ∙ new (length lists) refl);
}
  where
    e : ℕ
    e = length (entries ++ l)

    len : length (entries ++ l) ≡ length entries + length l
    len = length-append entries l

    last : (p : ℕ) → p < length (lists ++ l ∷ []) → length lists ≤ p → p ≡ length lists
    last p h b = let z : length (lists ++ l ∷ []) ≡ length lists + 1 = length-append lists (l ∷ []) in omega arith

    old : (p : ℕ) → p < suc (length lists) → get_or (starts ++ e ∷ []) p 0 ≡ get_or starts p 0
    old p h = get_or_append_left starts (e ∷ []) 0 p (omega (arith, flat.starts_len))

    at_end : (p : ℕ) → p ≡ length lists → get_or (starts ++ e ∷ []) p 0 ≡ length entries
    at_end p h = old p (omega arith) ∙ ap (λ k. get_or starts k 0) h ∙ flat.end

    new : (p : ℕ) → p ≡ length lists → get_or (starts ++ e ∷ []) (p + 1) 0 ≡ length (entries ++ l)
    new p h = get_or-append_right starts (e ∷ []) (p + 1) (p + 1) 0 (omega (arith, flat.starts_len)) (omega arith)
        ∙ ap (λ k. get_or (e ∷ []) k 0) (let z : (p + 1) - (p + 1) ≡ 0 = omega arith in z)

    kept : (p : ℕ) → p < length lists
        → take (get_or starts (p + 1) 0 - get_or starts p 0) (drop (get_or starts p 0) (entries ++ l)) ≡ flat_list
        entries starts p
    kept p b =
        let o : get_or starts p 0 ≤ get_or starts (p + 1) 0 = flat.ordered p b in
        let i : get_or starts (p + 1) 0 ≤ length entries = flat.inside p b in
        ap (take (get_or starts (p + 1) 0 - get_or starts p 0))
        (drop-append-le (get_or starts p 0) entries l (omega arith))
        ∙ take-append-le (get_or starts (p + 1) 0 - get_or starts p 0) (drop (get_or starts p 0) entries) l
        (omega (arith, length-drop (get_or starts p 0) entries))

    added : take (length (entries ++ l) - length entries) (drop (length entries) (entries ++ l)) ≡ l
    added = ap (take (length (entries ++ l) - length entries)) (drop_at entries l (length entries) refl)
        ∙ take_all (length (entries ++ l) - length entries) l (omega (arith, len))

-- a loop over the lists
pub flat_next : (entries starts : List ℕ) (lists : List (List ℕ)) (i : ℕ) (l entries' starts' : List ℕ) (n : ℕ)
    → i < length lists → get_or lists i [] ≡ l → AreFlat entries starts (take i lists)
    → entries' ≡ entries ++ l → n ≡ length entries' → starts' ≡ starts ++ n ∷ []
    → AreFlat entries' starts' (take (i + 1) lists)
flat_next entries starts lists i l entries' starts' n h e flat ee en es =
    let more : take (i + 1) lists ≡ take i lists ++ l ∷ [] = ap (λ k. take k lists) (add-one i) ∙ take-suc lists i [] h
    ∙ ap (λ z. take i lists ++ z ∷ []) e in
    let starts_are : starts' ≡ starts ++ length (entries ++ l) ∷ [] =
    es ∙ ap (λ k. starts ++ k ∷ []) (en ∙ ap length ee) in
    subst (λ z. AreFlat z starts' (take (i + 1) lists)) (sym ee)
    (subst (λ z. AreFlat (entries ++ l) z (take (i + 1) lists)) (sym starts_are)
    (subst (AreFlat (entries ++ l) (starts ++ length (entries ++ l) ∷ [])) (sym more)
    (flat_more entries starts (take i lists) l flat)))

pub flat_whole : (entries starts : List ℕ) (lists : List (List ℕ)) (n : ℕ) → length lists ≤ n
    → AreFlat entries starts (take n lists) → AreFlat entries starts lists
flat_whole entries starts lists n h flat = subst (AreFlat entries starts) (take_all n lists h) flat

pub flat_self : (entries starts : List ℕ) (lists : List (List ℕ)) → AreFlat entries starts lists
    → AreFlat entries starts (flat_lists entries starts)
flat_self entries starts lists flat =
    subst (AreFlat entries starts) (sym (flat_lists_are entries starts lists flat)) flat
