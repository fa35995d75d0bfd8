-- Changes that keep the invariants on rooms and people.
use Rattle.std.proofs.Common.{◌≡◌, ℕ, ◌+◌, ◌-◌, ◌≤◌, Bool, true, false, Option, Some, cond, refl}
use Rattle.std.proofs.Common.{ap, ◌∙◌, sym, subst, inl, inr, arith}
use Rattle.std.specs.Prelude.{nat_le}
use Rattle.std.specs.Option.{is_some, option_and_then}
use Rattle.std.specs.Cmp.Lexicographic.{nat_list_cmp_total}
use Rattle.std.proofs.lemmas.Bool.{leb-false}
use Rattle.std.specs.FinMap as map
use Rattle.std.specs.FinMap.{len-remove}
use Rattle.room_types.specs.Texts.{Text, TextMap}
use Rattle.room_types.proofs.maps.TextMaps.{text_cases, get-put_either, get-put_other, len-put_known}
use Rattle.room_types.proofs.maps.TextMaps.{len-put_fresh}
use Rattle.office_state.specs.Office.Invariants.{IsValidRegister}
use Rattle.office_state.specs.Office.Limits.{room_limit, people_limit}
use Rattle.office_state.specs.Office.{had_by}
use Rattle.office_state.specs.declared.office.person.Person.{Person}
use Rattle.office_state.proofs.offices.People.{had_by-put_same, had_by-put_other, had_by-gone}
use Rattle.office_state.proofs.offices.People.{Unshared-put, Unshared-gone}

-- one more stays within the limit
pub len-put_within : {X : Type 0} (m : TextMap X) (k : Text) (v : X) (n : ℕ)
    → map.contains_key m k ≡ false → nat_le n (map.len m) ≡ false → map.len (map.insert m k v) ≤ n
len-put_within m k v n new h =
    let e : map.len (map.insert m k v) ≡ map.len m + 1 = len-put_fresh m k v new in
    omega (arith, leb-false n (map.len m) h)

module _ (rooms : TextMap Bool) (people : TextMap Person) (l : IsValidRegister rooms people) where
  -- a room that is not shut is put
  pub room_put : (room : Text) → map.len (map.insert rooms room false) ≤ room_limit
      → IsValidRegister (map.insert rooms room false) people
  room_put room few = record {
    keys = l.keys;
    homes = l.homes;
    homes_open = λ p r h. get-put_either rooms room false r false refl (l.homes_open p r h);
    few_rooms = few;
    few_people = l.few_people;
  }

  -- a known room that nobody lives in may be shut
  pub room_shut : (room : Text) → map.contains_key rooms room ≡ true
      → ((q : Text) → had_by (λ p. p.home) people q ≡ Some room → ⊥)
      → IsValidRegister (map.insert rooms room true) people
  room_shut room known empty = record {
    keys = l.keys;
    homes = l.homes;
    homes_open = λ p r h. elim (text_cases r room) as
        (λ _. map.get (map.insert rooms room true) r ≡ Some false) [
          | inl same ↦ absurd (empty p (h ∙ ap (λ x. Some x) same))
          | inr other ↦ get-put_other rooms room true r other ∙ l.homes_open p r h
        ];
    few_rooms = subst (λ n. n ≤ room_limit) (sym (len-put_known rooms room true known)) l.few_rooms;
    few_people = l.few_people;
  }

  -- a person is put whose key and home are nobody else's, and whose home is not shut
  pub person_put : (person : Text) (v : Person)
      → ((q : Text) → had_by (λ p. Some p.key) people q ≡ Some v.key → q ≡ person)
      → ((q room : Text) → v.home ≡ Some room → had_by (λ p. p.home) people q ≡ Some room
      → q ≡ person)
      → ((room : Text) → v.home ≡ Some room → map.get rooms room ≡ Some false)
      → map.len (map.insert people person v) ≤ people_limit
      → IsValidRegister rooms (map.insert people person v)
  person_put person v own_key own_home unshut few = record {
    keys = Unshared-put (λ p. Some p.key) people person v l.keys
        (λ q key e h. own_key q (h ∙ sym e));
    homes = Unshared-put (λ p. p.home) people person v l.homes own_home;
    homes_open = λ p room h. elim (text_cases p person) as (λ _. map.get rooms room ≡ Some false) [
      | inl same ↦ unshut room (sym (had_by-put_same (λ p. p.home) people person v p same) ∙ h)
      | inr other ↦
          l.homes_open p room (sym (had_by-put_other (λ p. p.home) people person v p other) ∙ h)
    ];
    few_rooms = l.few_rooms;
    few_people = few;
  }

  -- a known person moves to a home that nobody else has, and that is not shut
  pub person_moved : (person : Text) (kept : Person) (home : Option Text)
      → map.get people person ≡ Some kept
      → ((q room : Text) → home ≡ Some room → had_by (λ p. p.home) people q ≡ Some room
      → q ≡ person)
      → ((room : Text) → home ≡ Some room → map.get rooms room ≡ Some false)
      → IsValidRegister rooms (map.insert people person (record kept { home = home }))
  person_moved person kept home known own unshut =
      person_put person (record kept { home = home })
      (λ q e. l.keys q person kept.key e (ap (option_and_then (λ p. Some p.key)) known))
      own unshut
      (subst (λ n. n ≤ people_limit)
      (sym (len-put_known people person _ (ap is_some known))) l.few_people)

  -- a person is removed
  pub person_gone : (person : Text) → IsValidRegister rooms (map.remove people person)
  person_gone person =
      let fewer : map.len (map.remove people person) ≤ map.len people =
      elim (map.contains_key people person) as
      (λ b. map.len (map.remove people person) ≡ cond b (map.len people - 1) (map.len people)
      → map.len (map.remove people person) ≤ map.len people) [
        | true ↦ λ e. omega arith
        | false ↦ λ e. omega arith
      ] (len-remove nat_list_cmp_total people person) in
      let few = l.few_people in
      record {
        keys = Unshared-gone (λ p. Some p.key) people person l.keys;
        homes = Unshared-gone (λ p. p.home) people person l.homes;
        homes_open =
            λ p room h. l.homes_open p room (had_by-gone (λ p. p.home) people person p room h);
        few_rooms = l.few_rooms;
        few_people = omega arith;
      }
