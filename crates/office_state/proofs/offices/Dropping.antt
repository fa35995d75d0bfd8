-- A person who is dropped.
use Rattle.std.proofs.Common.{◌≡◌, Bool, true, false, cond, refl, ap, ◌∙◌, sym, inl, inr}
use Rattle.std.specs.Cmp.Lexicographic.{nat_list_cmp_total}
use Rattle.std.specs.FinMap as map
use Rattle.std.specs.FinMap.{same_map}
use Rattle.room_types.specs.Texts.{Text, TextMap}
use Rattle.room_types.proofs.maps.TextMaps.{text_cases, exact_texts, get-gone_same, get-gone_other}
use Rattle.room_types.proofs.options.Options.{none_if_not_some}
use Rattle.office_state.specs.Change.{applied, without_person}
use Rattle.office_state.specs.Office.{knows_person}
use Rattle.office_state.specs.declared.change.Change.TheVariants.{DropPerson}
use Rattle.office_state.specs.declared.office.Office.{Office}

-- removing what is not there changes nothing
gone_unknown : {X : Type 0} (m : TextMap X) (k : Text) → map.contains_key m k ≡ false
    → map.remove m k ≡ m
gone_unknown m k unknown = same_map nat_list_cmp_total exact_texts _ _ (λ q.
    elim (text_cases q k) as (λ _. map.get (map.remove m k) q ≡ map.get m q) [
      | inl same ↦ ap (λ p. map.get (map.remove m k) p) same ∙ get-gone_same m k
          ∙ sym (none_if_not_some (map.get m k) unknown) ∙ ap (λ p. map.get m p) (sym same)
      | inr other ↦ get-gone_other m k q other
    ])

ungraded : (graded known : Bool) → (graded ≡ true → known ≡ true) → known ≡ false → graded ≡ false
ungraded true known law unknown = sym (law refl) ∙ unknown
ungraded false known law unknown = refl

-- if only known people have a grade, a dropped person is gone, and so is their grade
pub person_dropped : (office : Office) (person : Text)
    → (map.contains_key office.grades person ≡ true → knows_person office person ≡ true)
    → applied office (DropPerson person) ≡ without_person office person
person_dropped office person graded =
    elim (knows_person office person) as
    (λ b. knows_person office person ≡ b
    → cond b (without_person office person) office ≡ without_person office person) [
      | true ↦ λ _. refl
      | false ↦ λ unknown.
          let nobody = sym (gone_unknown office.people person unknown) in
          let nothing = sym (gone_unknown office.grades person
          (ungraded (map.contains_key office.grades person) (knows_person office person) graded unknown)) in
          λ i. record office { people = nobody i; grades = nothing i }
    ] refl
