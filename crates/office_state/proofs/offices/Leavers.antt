-- The invariants on those who leave the college, after the changes that touch them, people or withdrawals.
use Rattle.std.proofs.Common.{◌≡◌, true, false, refl, sym, ap, ◌∙◌, inl, inr}
use Rattle.std.specs.Option.{is_some}
use Rattle.std.specs.FinMap as map
use Rattle.room_types.specs.Texts.{Text, TextMap}
use Rattle.room_types.specs.declared.phase.Phase.{Phase}
use Rattle.room_types.proofs.maps.TextMaps.{text_cases, contains_key-put, get-put_other, get-gone_other}
use Rattle.office_state.specs.Office.Invariants.{AreValidLeavers}
use Rattle.office_state.specs.Office.Phases.{is_idle}
use Rattle.office_state.specs.declared.office.person.Person.{Person}

module _ (phase : Phase) (people : TextMap Person) (withdrawn going : TextMap (Unit {0}))
    (l : AreValidLeavers phase people withdrawn going) where
  -- a person is put
  pub leaver_person : (person : Text) (v : Person)
      → AreValidLeavers phase (map.insert people person v) withdrawn going
  leaver_person person v = record {
    leavers = λ p h. contains_key-put people person v p (l.leavers p h);
    apart = l.apart;
    idle_going = l.idle_going;
  }

  -- a person who does not leave is dropped
  pub leaver_dropped : (person : Text) → map.contains_key going person ≡ false
      → AreValidLeavers phase (map.remove people person) withdrawn going
  leaver_dropped person stays = record {
    leavers = λ p h. elim (text_cases p person) as
        (λ _. map.contains_key (map.remove people person) p ≡ true) [
          | inl same ↦
              let here : map.contains_key going person ≡ true =
              ap (λ q. map.contains_key going q) (sym same) ∙ h in
              cc
          | inr other ↦ ap is_some (get-gone_other people person p other) ∙ l.leavers p h
        ];
    apart = l.apart;
    idle_going = l.idle_going;
  }

  -- a person who does not leave withdraws
  pub leaver_withdrawn : (person : Text) → map.contains_key going person ≡ false
      → AreValidLeavers phase people (map.insert withdrawn person tt) going
  leaver_withdrawn person stays = record {
    leavers = l.leavers;
    apart = λ p h. elim (text_cases p person) as
        (λ _. map.contains_key (map.insert withdrawn person tt) p ≡ false) [
          | inl same ↦
              let here : map.contains_key going person ≡ true =
              ap (λ q. map.contains_key going q) (sym same) ∙ h in
              cc
          | inr other ↦ ap is_some (get-put_other withdrawn person tt p other) ∙ l.apart p h
        ];
    idle_going = l.idle_going;
  }

  -- a known person who has not withdrawn leaves, while a round is under way
  pub leaver_put : (person : Text) → is_idle phase ≡ false
      → map.contains_key people person ≡ true → map.contains_key withdrawn person ≡ false
      → AreValidLeavers phase people withdrawn (map.insert going person tt)
  leaver_put person busy known stays = record {
    leavers = λ p h. elim (text_cases p person) as (λ _. map.contains_key people p ≡ true) [
      | inl same ↦ ap (λ q. map.contains_key people q) same ∙ known
      | inr other ↦ l.leavers p (sym (ap is_some (get-put_other going person tt p other)) ∙ h)
    ];
    apart = λ p h. elim (text_cases p person) as (λ _. map.contains_key withdrawn p ≡ false) [
      | inl same ↦ ap (λ q. map.contains_key withdrawn q) same ∙ stays
      | inr other ↦ l.apart p (sym (ap is_some (get-put_other going person tt p other)) ∙ h)
    ];
    idle_going = λ idle. absurd (cc);
  }

  -- the next phase of a round that is under way
  pub leaver_phase : (next : Phase) → is_idle next ≡ false
      → AreValidLeavers next people withdrawn going
  leaver_phase next busy = record {
    leavers = l.leavers;
    apart = l.apart;
    idle_going = λ idle. absurd (cc);
  }

  -- an unknown person does not leave
  pub unknown_not_going : (person : Text) → map.contains_key people person ≡ false
      → map.contains_key going person ≡ false
  unknown_not_going person unknown =
      elim (map.contains_key going person) as
      (λ b. map.contains_key going person ≡ b → b ≡ false) [
        | true ↦ λ e. let known = l.leavers person e in cc
        | false ↦ λ e. refl
      ] refl
