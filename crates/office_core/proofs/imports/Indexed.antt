-- Tables of keys and homes.
use Rattle.std.proofs.Common.{◌≡◌, Bool, true, false, ◌||◌, Option, Some, None, cond, refl, ap, ◌∙◌}
use Rattle.std.proofs.Common.{sym, inl, inr}
use Rattle.std.proofs.lemmas.Bool.{or_right}
use Rattle.std.specs.Option.{is_some, option_and_then}
use Rattle.std.specs.Cmp.Lexicographic.{nat_list_cmp_total, nat_list_eq_equiv, texts_ties}
use Rattle.std.specs.Ordering.{eq_by_cmp}
use Rattle.std.specs.FinMap as map
use Rattle.std.specs.FinMap.{get-insert}
use Rattle.room_types.specs.Texts.{Text, TextMap, text_cmp, text_eq}
use Rattle.room_types.proofs.maps.TextMaps.{text_cases}
use Rattle.room_types.proofs.options.Options.{none_if_not_some}
use Rattle.office_state.specs.Office.{had_by, holder, is_text}
use Rattle.office_state.specs.declared.office.person.Person.{Person}
use Rattle.office_state.proofs.offices.People.{had_by-put_same, had_by-put_other, held-is_text}
use Rattle.office_state.proofs.offices.People.{holder_has, nobody_has}
use Rattle.office_state.proofs.offices.Truths.{text_eq-same}
use Rattle.office_core.specs.Inner.Tries.{HasKeys, HasHomes, IsIndexed, placed}

-- two tests that imply each other are equal
alike : (a b : Bool) → (a ≡ true → b ≡ true) → (b ≡ true → a ≡ true) → a ≡ b
alike true b to from = sym (to refl)
alike false true to from = from refl
alike false false to from = refl

either : (a b : Bool) → (a || b) ≡ true → a ≡ false → b ≡ true
either true b h n = cc
either false b h n = h

pub some_or : {X : Type 0} (b : Bool) (x : X) (o : Option X)
    → is_some (cond b (Some x) o) ≡ (b || is_some o)
some_or true x o = refl
some_or false x o = refl

module _ (which : Person → Option Text) where
  held_by : (m : TextMap Person) (text : Text) → is_some (holder which m text) ≡ true
      → (q : Text) × (had_by which m q ≡ Some text)
  held_by m text h =
      elim (holder which m text) as (λ o. holder which m text ≡ o → is_some o ≡ true
      → (q : Text) × (had_by which m q ≡ Some text)) [
        | None ↦ λ e h. cc
        | Some q ↦ λ e h. (q, holder_has which m text q e)
      ] refl h

  holder_of_had : (m : TextMap Person) (text q : Text) → had_by which m q ≡ Some text
      → is_some (holder which m text) ≡ true
  holder_of_had m text q h =
      elim (holder which m text) as (λ o. holder which m text ≡ o → is_some o ≡ true) [
        | None ↦ λ e. absurd (nobody_has which m text e q h)
        | Some q ↦ λ e. refl
      ] refl

  unknown_has_none : (m : TextMap Person) (k text : Text) → map.contains_key m k ≡ false
      → had_by which m k ≡ Some text → ⊥
  unknown_has_none m k text new h =
      let none : had_by which m k ≡ None =
      ap (option_and_then which) (none_if_not_some (map.get m k) new) in
      cc

  -- after a person is added, somebody holds a text exactly if that person does or somebody held it before
  pub holder_put : (m : TextMap Person) (k : Text) (v : Person) (text : Text)
      → map.contains_key m k ≡ false
      → is_some (holder which (map.insert m k v) text)
      ≡ (is_text (which v) text || is_some (holder which m text))
  holder_put m k v text new =
      alike (is_some (holder which (map.insert m k v) text))
      (is_text (which v) text || is_some (holder which m text)) to from
    where
      to : is_some (holder which (map.insert m k v) text) ≡ true
          → (is_text (which v) text || is_some (holder which m text)) ≡ true
      to h =
          let by = held_by (map.insert m k v) text h in
          elim (text_cases by.0 k) as
          (λ _. (is_text (which v) text || is_some (holder which m text)) ≡ true) [
            | inl same ↦
                let own : which v ≡ Some text =
                sym (had_by-put_same which m k v by.0 same) ∙ by.1 in
                ap (λ o. is_text o text || is_some (holder which m text)) own
                ∙ ap (λ b. b || is_some (holder which m text)) (text_eq-same text)
            | inr other ↦
                or_right (is_text (which v) text) (is_some (holder which m text))
                (holder_of_had m text by.0 (sym (had_by-put_other which m k v by.0 other) ∙ by.1))
          ]

      from : (is_text (which v) text || is_some (holder which m text)) ≡ true
          → is_some (holder which (map.insert m k v) text) ≡ true
      from h =
          elim (is_text (which v) text) as (λ b. is_text (which v) text ≡ b
          → is_some (holder which (map.insert m k v) text) ≡ true) [
            | true ↦ λ e. holder_of_had (map.insert m k v) text k
                (had_by-put_same which m k v k refl ∙ held-is_text (which v) text e)
            | false ↦ λ e.
                let by = held_by m text (either (is_text (which v) text) _ h e) in
                elim (text_cases by.0 k) as
                (λ _. is_some (holder which (map.insert m k v) text) ≡ true) [
                  | inl same ↦ absurd (unknown_has_none m k text new
                      (ap (λ q. had_by which m q) (sym same) ∙ by.1))
                  | inr other ↦ holder_of_had (map.insert m k v) text by.0
                      (had_by-put_other which m k v by.0 other ∙ by.1)
                ]
          ] refl

-- the texts that a table contains after an insertion
pub put_known : {X : Type 0} (m : TextMap X) (k : Text) (v : X) (q : Text)
    → map.contains_key (map.insert m k v) q ≡ (text_eq k q || map.contains_key m q)
put_known m k v q =
    ap is_some (get-insert nat_list_cmp_total m k v q)
    ∙ some_or (eq_by_cmp text_cmp q k) v (map.get m q)
    ∙ ap (λ b. b || map.contains_key m q) (sym (nat_list_eq_equiv.symm k q ∙ texts_ties q k))

known_or_later : (t c : Bool) (id : Text) (o : Option Text)
    → ((t || c) || is_some o) ≡ (c || is_some (cond t (Some id) o))
known_or_later true c id o = sym (or_right c true refl)
known_or_later false c id o = refl

-- inserting the next person's key does not change which keys are in the table or still to come
pub keys-put : {X : Type 0} (m : TextMap X) (k : Text) (v : X) (id q : Text) (o : Option Text)
    → (map.contains_key (map.insert m k v) q || is_some o)
    ≡ (map.contains_key m q || is_some (cond (text_eq k q) (Some id) o))
keys-put m k v id q o =
    ap (λ b. b || is_some o) (put_known m k v q)
    ∙ known_or_later (text_eq k q) (map.contains_key m q) id o

-- a table of keys is that of the people, also after a person is added
HasKeys-put : {X : Type 0} (m : TextMap Person) (keys : TextMap X) (k : Text) (v : Person) (x : X)
    → map.contains_key m k ≡ false → HasKeys m keys
    → HasKeys (map.insert m k v) (map.insert keys v.key x)
HasKeys-put m keys k v x new has key =
    put_known keys v.key x key
    ∙ ap (λ b. text_eq v.key key || b) (has key)
    ∙ sym (holder_put (λ p. Some p.key) m k v key new)

-- and so is a table of homes
HasHomes-put : (m : TextMap Person) (tenants : TextMap Text) (k : Text) (v : Person)
    (home : Option Text) → v.home ≡ home → map.contains_key m k ≡ false → HasHomes m tenants
    → HasHomes (map.insert m k v) (placed tenants home k)
HasHomes-put m tenants k v None lives new has room =
    has room
    ∙ ap (λ o. is_text o room || is_some (holder (λ p. p.home) m room)) (sym lives)
    ∙ sym (holder_put (λ p. p.home) m k v room new)
HasHomes-put m tenants k v (Some home) lives new has room =
    put_known tenants home k room
    ∙ ap (λ b. text_eq home room || b) (has room)
    ∙ ap (λ o. is_text o room || is_some (holder (λ p. p.home) m room)) (sym lives)
    ∙ sym (holder_put (λ p. p.home) m k v room new)

-- a register is indexed, also after a person is added
pub still_indexed : (people : TextMap Person) (keys : TextMap (Unit {0})) (tenants : TextMap Text)
    (k : Text) (v : Person)
    → map.contains_key people k ≡ false
    → IsIndexed (record { people = people; keys = keys; tenants = tenants })
    → IsIndexed (record {
      people = map.insert people k v;
      keys = map.insert keys v.key tt;
      tenants = placed tenants v.home k;
    })
still_indexed people keys tenants k v new is = record {
  keys = HasKeys-put people keys k v tt new is.keys;
  homes = HasHomes-put people tenants k v v.home refl new is.homes;
}
