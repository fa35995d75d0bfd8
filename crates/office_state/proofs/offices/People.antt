-- What people have, as read from the map of people.
use Rattle.std.proofs.Common.{◌≡◌, Bool, true, false, List, [], ◌∷◌, Option, Some, None, cond, refl}
use Rattle.std.proofs.Common.{ap, ◌∙◌, sym, inl, inr, T}
use Rattle.std.specs.declared.cmp.Ordering.TheVariants.{Less}
use Rattle.std.specs.Ordering.{eq_by_cmp, is_eq, ordering_reverse}
use Rattle.std.specs.Cmp.{alike_right, tied_itself}
use Rattle.std.specs.Cmp.Lexicographic.{nat_list_cmp_total, same_text}
use Rattle.std.specs.Option.{option_and_then}
use Rattle.std.specs.FinMap as map
use Rattle.std.specs.FinMap.{get-entries, find, entries_sorted}
use Rattle.std.specs.FinMap.Entries.{below_all, is_sorted}
use Rattle.room_types.specs.Texts.{Text, TextMap, text_cmp}
use Rattle.room_types.proofs.maps.TextMaps.{text_cases, get-put_same, get-put_other, get-gone_same, less_from_test}
use Rattle.room_types.proofs.maps.TextMaps.{get-gone_other, first_holds, second_holds}
use Rattle.office_state.specs.Office.Invariants.{Unshared}
use Rattle.office_state.specs.Office.{is_text, had_by, first_person, holder, is_same_text}
use Rattle.office_state.specs.declared.office.person.Person.{Person}
use Rattle.office_state.proofs.offices.Truths.{text_eq-same, tied, then_some}

module _ (which : Person → Option Text) where
  pub had_by-put_same : (m : TextMap Person) (k : Text) (v : Person) (q : Text) → q ≡ k
      → had_by which (map.insert m k v) q ≡ which v
  had_by-put_same m k v q e = ap (λ p. had_by which (map.insert m k v) p) e
      ∙ ap (option_and_then which) (get-put_same m k v)

  pub had_by-put_other : (m : TextMap Person) (k : Text) (v : Person) (q : Text)
      → eq_by_cmp text_cmp q k ≡ false → had_by which (map.insert m k v) q ≡ had_by which m q
  had_by-put_other m k v q e = ap (option_and_then which) (get-put_other m k v q e)

  -- a removed person has nothing, and the others have what they had
  pub had_by-gone : (m : TextMap Person) (k q text : Text)
      → had_by which (map.remove m k) q ≡ Some text → had_by which m q ≡ Some text
  had_by-gone m k q text h =
      elim (text_cases q k) as (λ _. had_by which m q ≡ Some text) [
        | inl same ↦
            let nothing : had_by which (map.remove m k) q ≡ None =
            ap (λ p. had_by which (map.remove m k) p) same
            ∙ ap (option_and_then which) (get-gone_same m k) in
            absurd (cc)
        | inr other ↦ ap (option_and_then which) (sym (get-gone_other m k q other)) ∙ h
      ]

  pub Unshared-gone : (m : TextMap Person) (k : Text) → Unshared which m
      → Unshared which (map.remove m k)
  Unshared-gone m k unshared p q text hp hq =
      unshared p q text (had_by-gone m k p text hp) (had_by-gone m k q text hq)

  -- a person may be put if nobody else has the same
  pub Unshared-put : (m : TextMap Person) (k : Text) (v : Person) → Unshared which m
      → ((q text : Text) → which v ≡ Some text → had_by which m q ≡ Some text → q ≡ k)
      → Unshared which (map.insert m k v)
  Unshared-put m k v unshared alone p q text hp hq =
      elim (text_cases p k) as (λ _. p ≡ q) [
        | inl ep ↦ elim (text_cases q k) as (λ _. p ≡ q) [
          | inl eq ↦ ep ∙ sym eq
          | inr nq ↦ ep ∙ sym (alone q text (sym (had_by-put_same m k v p ep) ∙ hp)
              (sym (had_by-put_other m k v q nq) ∙ hq))
        ]
        | inr np ↦ elim (text_cases q k) as (λ _. p ≡ q) [
          | inl eq ↦ alone p text (sym (had_by-put_same m k v q eq) ∙ hq)
              (sym (had_by-put_other m k v p np) ∙ hp) ∙ sym eq
          | inr nq ↦ unshared p q text (sym (had_by-put_other m k v p np) ∙ hp)
              (sym (had_by-put_other m k v q nq) ∙ hq)
        ]
      ]

none_passes : (test : Person → Bool) (es : List (Text × Person)) (q : Text) (v : Person)
    → first_person test es ≡ None → find text_cmp q es ≡ Some v → test v ≡ false
none_passes test [] q v n h = cc
none_passes test (e ∷ es) q v n h =
    elim (test e.1) as (λ b. test e.1 ≡ b → cond b (Some e.0) (first_person test es) ≡ None
    → test v ≡ false) [
      | true ↦ λ t m. cc
      | false ↦ λ t m. elim (eq_by_cmp text_cmp q e.0) as
          (λ b. cond b (Some e.1) (find text_cmp q es) ≡ Some v → test v ≡ false) [
            | true ↦ λ i. cc
            | false ↦ λ i. none_passes test es q v m i
          ] h
    ] refl n

is_text-held : (o : Option Text) (text : Text) → o ≡ Some text → is_text o text ≡ true
is_text-held o text e = ap (λ p. is_text p text) e ∙ text_eq-same text

pub held-is_text : (o : Option Text) (text : Text) → is_text o text ≡ true → o ≡ Some text
held-is_text None text e = cc
held-is_text (Some other) text e = ap (λ t. Some t) (same_text other text (sym e))

pub same_optional : (a b : Option Text) → is_same_text a b ≡ true → a ≡ b
same_optional None None e = refl
same_optional None (Some text) e = cc
same_optional (Some text) other e = sym (held-is_text other text e)

-- if there is no holder, nobody has it
pub nobody_has : (which : Person → Option Text) (m : TextMap Person) (text : Text)
    → holder which m text ≡ None → (q : Text) → had_by which m q ≡ Some text → ⊥
nobody_has which m text none q h =
    let found = then_some which (map.get m q) text h in
    let passes : is_text (which found.0) text ≡ false =
    none_passes (λ p. is_text (which p) text) (map.entries m) q found.0 none
    (sym (get-entries m q) ∙ found.1) in
    let held : is_text (which found.0) text ≡ true = is_text-held (which found.0) text found.2 in
    cc

-- what is found is above a key that is below all
pub found_above : {X : Type 0} (x q : Text) (es : List (Text × X)) (v : X)
    → T (below_all text_cmp x es) → find text_cmp q es ≡ Some v → text_cmp x q ≡ Less
found_above x q [] v below h = cc
found_above x q (e ∷ es) v below h =
    elim (eq_by_cmp text_cmp q e.0) as
    (λ b. eq_by_cmp text_cmp q e.0 ≡ b → cond b (Some e.1) (find text_cmp q es) ≡ Some v
    → text_cmp x q ≡ Less) [
      | true ↦ λ t i. alike_right nat_list_cmp_total q e.0 x (tied _ t)
          ∙ less_from_test _ (first_holds _ _ below)
      | false ↦ λ t i. found_above x q es v (second_holds _ _ below) i
    ] refl h

first_passes : (test : Person → Bool) (es : List (Text × Person)) (q : Text)
    → T (is_sorted text_cmp es) → first_person test es ≡ Some q
    → (v : Person) × (find text_cmp q es ≡ Some v) × (test v ≡ true)
first_passes test [] q s h = cc
first_passes test (e ∷ es) q s h =
    elim (test e.1) as (λ b. test e.1 ≡ b → cond b (Some e.0) (first_person test es) ≡ Some q
    → (v : Person) × (cond (eq_by_cmp text_cmp q e.0) (Some e.1) (find text_cmp q es) ≡ Some v)
    × (test v ≡ true)) [
      | true ↦ λ t m.
          let same : e.0 ≡ q = cc in (
            e.1,
            ap (λ k. cond (eq_by_cmp text_cmp k e.0) (Some e.1) (find text_cmp k es)) (sym same)
                ∙ ap (λ o. cond (is_eq o) (Some e.1) (find text_cmp e.0 es))
                (tied_itself nat_list_cmp_total e.0),
            t,
          )
      | false ↦ λ t m.
          let rest = first_passes test es q (second_holds _ _ s) m in
          let above : text_cmp e.0 q ≡ Less =
          found_above e.0 q es rest.0 (first_holds _ _ s) rest.1 in (
            rest.0,
            ap (λ o. cond (is_eq o) (Some e.1) (find text_cmp q es))
                (nat_list_cmp_total.antisymm q e.0 ∙ ap ordering_reverse above) ∙ rest.1,
            rest.2,
          )
    ] refl h

-- the holder has it
pub holder_has : (which : Person → Option Text) (m : TextMap Person) (text q : Text)
    → holder which m text ≡ Some q → had_by which m q ≡ Some text
holder_has which m text q h =
    let found = first_passes (λ p. is_text (which p) text) (map.entries m) q (entries_sorted m) h in
    ap (option_and_then which) (get-entries m q ∙ found.1)
    ∙ held-is_text (which found.0) text found.2
