-- People who differ in what they have, checked entry by entry and key by key.
use Rattle.std.proofs.Common.{◌≡◌, Bool, true, false, List, [], ◌∷◌, Option, Some, None, cond, refl, ap, ◌∙◌, sym}
use Rattle.std.proofs.Common.{subst, inl, inr, T}
use Rattle.std.specs.Prelude.{unwrap_or}
use Rattle.std.specs.Bool.{Decides}
use Rattle.std.specs.Option.{option_and_then, is_some}
use Rattle.std.specs.Ordering.{eq_by_cmp, is_eq}
use Rattle.std.specs.Cmp.{tied_itself}
use Rattle.std.specs.Cmp.Lexicographic.{nat_list_cmp_total}
use Rattle.std.specs.List.{AllByRecursion}
use Rattle.std.specs.FinMap as map
use Rattle.std.specs.FinMap.{find, entries_sorted, get-entries, get-empty}
use Rattle.std.specs.FinMap.Entries.{below_all, is_sorted}
use Rattle.room_types.specs.Texts.{Text, TextMap, text_cmp}
use Rattle.room_types.proofs.maps.TextMaps.{exact_texts, contains_key-put, contains_key-put_same, text_cases}
use Rattle.room_types.proofs.maps.TextMaps.{unequal_texts, first_holds, second_holds, get-put_other, less_from_test}
use Rattle.office_state.specs.Office.Invariants.{Unshared}
use Rattle.office_state.specs.Inner.Soundness.{differ_from}
use Rattle.office_state.specs.declared.office.person.Person.{Person}
use Rattle.room_types.proofs.maps.Entries.{each_weaker, entries_found, each-find, key_after}
use Rattle.office_state.proofs.offices.People.{found_above}
use Rattle.office_state.proofs.offices.Truths.{then_some}

module _ (which : Person → Option Text) where
  -- none of these has this
  abbrev pub Without : Text → List (Text × Person) → Type 0
  Without text es = AllByRecursion (λ e. which e.1 ≡ Some text → ⊥) es

  -- none of these has what was seen
  abbrev pub Unseen : TextMap (Unit {0}) → List (Text × Person) → Type 0
  Unseen seen es = AllByRecursion (λ e. (text : Text) → which e.1 ≡ Some text → map.contains_key seen text ≡ false) es

  -- none of these has what a later one has
  abbrev pub Differ : List (Text × Person) → Type 0
  Differ [] = Unit {0}
  Differ (e ∷ es) = ((text : Text) → which e.1 ≡ Some text → Without text es) × Differ es

  before : (seen : TextMap (Unit {0})) (text other : Text) → map.contains_key (map.insert seen text tt) other ≡ false
      → map.contains_key seen other ≡ false
  before seen text other new =
      elim (map.contains_key seen other) as (λ b. map.contains_key seen other ≡ b → b ≡ false) [
        | true ↦ λ old. let still = contains_key-put seen text tt other old in cc
        | false ↦ λ old. refl
      ] refl

  fresh : (seen : TextMap (Unit {0})) (text : Text) (e : Text × Person)
      → ((other : Text) → which e.1 ≡ Some other → map.contains_key (map.insert seen text tt) other ≡ false)
      → which e.1 ≡ Some text → ⊥
  fresh seen text e new has = let there = contains_key-put_same seen text tt in let absent = new text has in cc

  differ_from-sound : (seen : TextMap (Unit {0})) (es : List (Text × Person)) → differ_from which seen es ≡ true
      → Differ es × Unseen seen es
  differ_from-sound seen [] h = (tt, tt)
  differ_from-sound seen (e ∷ es) h =
      elim (which e.1) as
      (λ o. which e.1 ≡ o
      → elim o as
      (λ _. Bool) [
        | None ↦ differ_from which seen es
        | Some text ↦ cond (map.contains_key seen text) false
            (differ_from which (map.insert seen text tt) es)
      ] ≡ true → Differ (e ∷ es) × Unseen seen (e ∷ es)) [
        | None ↦ λ none m.
            let rest = differ_from-sound seen es m in
            ((λ text has. absurd (cc), rest.0), (λ text has. absurd (cc), rest.1))
        | Some text ↦ λ some m.
            elim (map.contains_key seen text) as
            (λ b. map.contains_key seen text ≡ b
            → cond b false (differ_from which (map.insert seen text tt) es) ≡ true → Differ (e ∷ es)
            × Unseen seen (e ∷ es)) [
              | true ↦ λ there n. absurd (cc)
              | false ↦ λ absent n.
                  let rest = differ_from-sound (map.insert seen text tt) es n in
                  let alone : (other : Text) → which e.1 ≡ Some other → text ≡ other =
                  λ other has. ap (λ (o : Option Text). unwrap_or o text) (sym some ∙ has) in (
                    (
                      λ other has. subst (λ t. Without t es) (alone other has)
                          (each_weaker
                          (λ f. (t : Text) → which f.1 ≡ Some t → map.contains_key (map.insert seen text tt) t ≡ false)
                          (λ f. which f.1 ≡ Some text → ⊥) (λ f. fresh seen text f) es rest.1),
                      rest.0,
                    ),
                    (
                      λ other has. ap (λ t. map.contains_key seen t) (sym (alone other has)) ∙ absent,
                      each_weaker
                          (λ f. (t : Text) → which f.1 ≡ Some t → map.contains_key (map.insert seen text tt) t ≡ false)
                          (λ f. (t : Text) → which f.1 ≡ Some t → map.contains_key seen t ≡ false)
                          (λ f new t has. before seen text t (new t has)) es rest.1,
                    ),
                  )
            ] refl m
      ] refl h

  still_unseen : (seen : TextMap (Unit {0})) (text : Text) (es : List (Text × Person)) → Without text es
      → Unseen seen es → Unseen (map.insert seen text tt) es
  still_unseen seen text [] w u = tt
  still_unseen seen text (e ∷ es) w u = (
    λ other has. elim (text_cases other text) as (λ _. map.contains_key (map.insert seen text tt) other ≡ false) [
      | inl same ↦ absurd (w.0 (has ∙ ap (λ t. Some t) same))
      | inr apart ↦ ap is_some (get-put_other seen text tt other apart) ∙ u.0 other has
    ],
    still_unseen seen text es w.1 u.1,
  )

  differ_from-complete : (seen : TextMap (Unit {0})) (es : List (Text × Person)) → Differ es → Unseen seen es
      → differ_from which seen es ≡ true
  differ_from-complete seen [] d u = refl
  differ_from-complete seen (e ∷ es) d u =
      elim (which e.1) as
      (λ o. which e.1 ≡ o
      → elim o as
      (λ _. Bool) [
        | None ↦ differ_from which seen es
        | Some text ↦ cond (map.contains_key seen text) false
            (differ_from which (map.insert seen text tt) es)
      ] ≡ true) [
        | None ↦ λ none. differ_from-complete seen es d.1 u.1
        | Some text ↦ λ some.
            ap (λ b. cond b false (differ_from which (map.insert seen text tt) es)) (u.0 text some)
            ∙ differ_from-complete (map.insert seen text tt) es d.1 (still_unseen seen text es (d.0 text some) u.1)
      ] refl

  -- two people who have the same are one
  one_of : (es : List (Text × Person)) → Differ es → (p q text : Text) (v w : Person) → find text_cmp p es ≡ Some v
      → find text_cmp q es ≡ Some w → which v ≡ Some text → which w ≡ Some text → p ≡ q
  one_of [] d p q text v w fp fq hp hq = absurd (cc)
  one_of (e ∷ es) d p q text v w fp fq hp hq =
      elim (text_cases p e.0) as (λ _. p ≡ q) [
        | inl ep ↦ elim (text_cases q e.0) as (λ _. p ≡ q) [
          | inl eq ↦ ep ∙ sym eq
          | inr nq ↦
              let here : e.1 ≡ v = found_here p v ep fp in
              absurd (each-find nat_list_cmp_total exact_texts (λ k x. which x ≡ Some text → ⊥) es q w
              (d.0 text (ap which here ∙ hp)) (found_there q w nq fq) hq)
        ]
        | inr np ↦ elim (text_cases q e.0) as (λ _. p ≡ q) [
          | inl eq ↦
              let here : e.1 ≡ w = found_here q w eq fq in
              absurd (each-find nat_list_cmp_total exact_texts (λ k x. which x ≡ Some text → ⊥) es p v
              (d.0 text (ap which here ∙ hq)) (found_there p v np fp) hp)
          | inr nq ↦ one_of es d.1 p q text v w (found_there p v np fp) (found_there q w nq fq) hp hq
        ]
      ]
    where
      found_there : (k : Text) (x : Person) → eq_by_cmp text_cmp k e.0 ≡ false → find text_cmp k (e ∷ es) ≡ Some x
          → find text_cmp k es ≡ Some x
      found_there k x apart f = ap (λ b. cond b (Some e.1) (find text_cmp k es)) (sym apart) ∙ f

      found_here : (k : Text) (x : Person) → k ≡ e.0 → find text_cmp k (e ∷ es) ≡ Some x → e.1 ≡ x
      found_here k x same f =
          let tied : eq_by_cmp text_cmp k e.0 ≡ true = ap (λ t. eq_by_cmp text_cmp t e.0) same
          ∙ ap is_eq (tied_itself nat_list_cmp_total e.0) in
          let this : Some e.1 ≡ Some x = ap (λ b. cond b (Some e.1) (find text_cmp k es)) (sym tied) ∙ f in
          cc

  pub Unshared-from_differ : (m : TextMap Person) → Differ (map.entries m) → Unshared which m
  Unshared-from_differ m d p q text hp hq =
      let v = then_some which (map.get m p) text hp in
      let w = then_some which (map.get m q) text hq in
      one_of (map.entries m) d p q text v.0 w.0 (sym (get-entries m p) ∙ v.1) (sym (get-entries m q) ∙ w.1) v.2 w.2

  abbrev Apart : List (Text × Person) → Type 0
  Apart es = (p q text : Text) (v w : Person) → find text_cmp p es ≡ Some v → find text_cmp q es ≡ Some w
      → which v ≡ Some text → which w ≡ Some text → p ≡ q

  later_found : (e : Text × Person) (es : List (Text × Person)) → T (below_all text_cmp e.0 es)
      → (k : Text) (x : Person) → find text_cmp k es ≡ Some x → find text_cmp k (e ∷ es) ≡ Some x
  later_found e es below k x f =
      ap (λ b. cond b (Some e.1) (find text_cmp k es))
      (key_after nat_list_cmp_total e.0 k (found_above e.0 k es x below f)) ∙ f

  without : (e : Text × Person) (es fs : List (Text × Person)) → T (below_all text_cmp e.0 es) → Apart (e ∷ es)
      → (text : Text) → which e.1 ≡ Some text
      → T (below_all text_cmp e.0 fs) → AllByRecursion (λ f. find text_cmp f.0 es ≡ Some f.1) fs → Without text fs
  without e es [] below apart text has under found = tt
  without e es (f ∷ fs) below apart text has under found = (
    λ other.
        let here : find text_cmp e.0 (e ∷ es) ≡ Some e.1 =
        ap (λ t. cond (is_eq t) (Some e.1) (find text_cmp e.0 es)) (tied_itself nat_list_cmp_total e.0) in
        let same : f.0 ≡ e.0 = apart f.0 e.0 text f.1 e.1 (later_found e es below f.0 f.1 found.0) here other has in
        unequal_texts f.0 e.0 same (key_after nat_list_cmp_total e.0 f.0 (less_from_test _ (first_holds _ _ under))),
    without e es fs below apart text has (second_holds _ _ under) found.1,
  )

  differ_if : (es : List (Text × Person)) → T (is_sorted text_cmp es) → Apart es → Differ es
  differ_if [] s apart = tt
  differ_if (e ∷ es) s apart =
      let below = first_holds _ _ s in (
        λ text has. without e es es below apart text has below
            (entries_found nat_list_cmp_total exact_texts es (second_holds _ _ s)),
        differ_if es (second_holds _ _ s)
            (λ p q text v w fp fq hp hq. apart p q text v w (later_found e es below p v fp)
            (later_found e es below q w fq) hp hq),
      )

  pub differ-from_Unshared : (m : TextMap Person) → Unshared which m → Differ (map.entries m)
  differ-from_Unshared m u =
      differ_if (map.entries m) (entries_sorted m) (λ p q text v w fp fq hp hq.
      u p q text (ap (option_and_then which) (get-entries m p ∙ fp) ∙ hp)
      (ap (option_and_then which) (get-entries m q ∙ fq) ∙ hq))

  nothing_seen : (es : List (Text × Person)) → Unseen map.empty es
  nothing_seen [] = tt
  nothing_seen (e ∷ es) = (λ text has. ap is_some (get-empty text_cmp text), nothing_seen es)

  pub differ-decides : (m : TextMap Person) → Decides (differ_from which map.empty (map.entries m)) (Unshared which m)
  differ-decides m = (
    λ h. Unshared-from_differ m (differ_from-sound map.empty (map.entries m) h).0,
    λ u. differ_from-complete map.empty (map.entries m) (differ-from_Unshared m u) (nothing_seen (map.entries m)),
  )
