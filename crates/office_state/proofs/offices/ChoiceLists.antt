-- Changes that keep the invariants on lists and withdrawals.
use Rattle.std.proofs.Common.{◌≡◌, Bool, true, false, List, [], ◌∷◌, Option, Some, None, refl, ap}
use Rattle.std.proofs.Common.{◌∙◌, sym, subst, inl, inr}
use Rattle.std.specs.Prelude.{unwrap_or}
use Rattle.std.specs.Option.{is_some}
use Rattle.std.specs.List.{All}
use Rattle.std.specs.Ordering.{eq_by_cmp}
use Rattle.std.specs.FinMap as map
use Rattle.room_types.specs.Choices.{IsChoices}
use Rattle.room_types.specs.Texts.{Text, TextMap, text_cmp}
use Rattle.room_types.proofs.maps.TextMaps.{text_cases, get-put_same, get-put_other, get-gone_same}
use Rattle.room_types.proofs.maps.TextMaps.{get-gone_other, contains_key-put}
use Rattle.office_state.specs.Change.{with_choice_list}
use Rattle.office_state.specs.Office.Invariants.{AreValidLists}
use Rattle.office_state.specs.declared.office.person.Person.{Person}

listed_other : (lists : TextMap (List Text)) (person : Text) (choices : List Text) (p : Text)
    → eq_by_cmp text_cmp p person ≡ false
    → map.get (with_choice_list lists person choices) p ≡ map.get lists p
listed_other lists person [] p other = get-gone_other lists person p other
listed_other lists person (code ∷ codes) p other = get-put_other lists person (code ∷ codes) p other

-- a person whose list was put has that list, and it is not empty
listed_same : (lists : TextMap (List Text)) (person : Text) (choices codes : List Text) (p : Text)
    → p ≡ person → map.get (with_choice_list lists person choices) p ≡ Some codes
    → (choices ≡ codes) × (codes ≡ [] → ⊥)
listed_same lists person [] codes p same e =
    let none : map.get (map.remove lists person) p ≡ None =
    ap (λ q. map.get (map.remove lists person) q) same ∙ get-gone_same lists person in
    absurd (cc)
listed_same lists person (code ∷ more) codes p same e =
    let these : code ∷ more ≡ codes =
    ap (λ (o : Option (List Text)). unwrap_or o (code ∷ more))
    (sym (get-put_same lists person (code ∷ more))
    ∙ ap (λ q. map.get (map.insert lists person (code ∷ more)) q) (sym same) ∙ e) in
    (these, λ none. let nil : code ∷ more ≡ [] = these ∙ none in cc)

module _ (rooms : TextMap Bool) (people : TextMap Person) (choices : TextMap (List Text))
    (withdrawn : TextMap (Unit {0})) (l : AreValidLists rooms people choices withdrawn) where
  -- a room is put
  pub room_known : (room : Text) (shut : Bool)
      → AreValidLists (map.insert rooms room shut) people choices withdrawn
  room_known room shut = record {
    choosers = l.choosers;
    listed = λ p codes e k d b. contains_key-put rooms room shut _ (l.listed p codes e k d b);
    none_empty = l.none_empty;
    chosen = l.chosen;
    withdrawers = l.withdrawers;
  }

  -- a person is put
  pub person_known : (person : Text) (v : Person)
      → AreValidLists rooms (map.insert people person v) choices withdrawn
  person_known person v = record {
    choosers = λ p h. contains_key-put people person v p (l.choosers p h);
    listed = l.listed;
    none_empty = l.none_empty;
    chosen = l.chosen;
    withdrawers = λ p h. contains_key-put people person v p (l.withdrawers p h);
  }

  -- a known person's list of known rooms
  pub list_put : (person : Text) (codes : List Text) → map.contains_key people person ≡ true
      → All (λ code. map.contains_key rooms code ≡ true) codes
      → IsChoices codes → AreValidLists rooms people (with_choice_list choices person codes) withdrawn
  list_put person codes known known_codes formed = record {
    choosers = λ p e. elim (text_cases p person) as (λ _. map.contains_key people p ≡ true) [
      | inl same ↦ ap (λ q. map.contains_key people q) same ∙ known
      | inr other ↦ l.choosers p (sym (ap is_some (listed_other choices person codes p other)) ∙ e)
    ];
    listed = λ p others e. elim (text_cases p person) as
        (λ _. All (λ code. map.contains_key rooms code ≡ true) others) [
          | inl same ↦ subst (λ c. All (λ code. map.contains_key rooms code ≡ true) c)
              (listed_same choices person codes others p same e).0 known_codes
          | inr other ↦ l.listed p others (sym (listed_other choices person codes p other) ∙ e)
        ];
    none_empty = λ p e. elim (text_cases p person) as (λ _. ⊥) [
      | inl same ↦ (listed_same choices person codes [] p same e).1 refl
      | inr other ↦ l.none_empty p (sym (listed_other choices person codes p other) ∙ e)
    ];
    chosen = λ p others e. elim (text_cases p person) as (λ _. IsChoices others) [
      | inl same ↦
          subst (λ c. IsChoices c) (listed_same choices person codes others p same e).0 formed
      | inr other ↦ l.chosen p others (sym (listed_other choices person codes p other) ∙ e)
    ];
    withdrawers = l.withdrawers;
  }

  -- a known person withdraws
  pub withdrawn_put : (person : Text) → map.contains_key people person ≡ true
      → AreValidLists rooms people choices (map.insert withdrawn person tt)
  withdrawn_put person known = record {
    choosers = l.choosers;
    listed = l.listed;
    none_empty = l.none_empty;
    chosen = l.chosen;
    withdrawers = λ p h. elim (text_cases p person) as (λ _. map.contains_key people p ≡ true) [
      | inl same ↦ ap (λ q. map.contains_key people q) same ∙ known
      | inr other ↦
          l.withdrawers p (sym (ap is_some (get-put_other withdrawn person tt p other)) ∙ h)
    ];
  }

  -- an unknown person has not withdrawn
  pub unknown_stays : (person : Text) → map.contains_key people person ≡ false
      → map.contains_key withdrawn person ≡ false
  unknown_stays person unknown =
      elim (map.contains_key withdrawn person) as
      (λ b. map.contains_key withdrawn person ≡ b → b ≡ false) [
        | true ↦ λ e. let known = l.withdrawers person e in cc
        | false ↦ λ e. refl
      ] refl
