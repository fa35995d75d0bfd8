-- A person moves, or loses the home.
use Rattle.std.proofs.Common.{◌≡◌, false, Option, Some, None, refl, ap, ◌∙◌, sym, inl, inr}
use Rattle.std.specs.Option.{option_and_then}
use Rattle.std.specs.FinMap as map
use Rattle.room_types.specs.Texts.{Text}
use Rattle.room_types.proofs.maps.TextMaps.{text_cases, unequal_texts}
use Rattle.office_state.specs.Change.{with_home}
use Rattle.office_state.specs.Office.Invariants.{IsLawful, HomesDiffer}
use Rattle.office_state.specs.Office.{had_by, home_of}
use Rattle.office_state.specs.Office.Phases.{has_words}
use Rattle.office_state.specs.declared.office.Office.{Office}
use Rattle.office_state.specs.declared.office.person.Person.{Person}
use Rattle.office_state.proofs.offices.People.{had_by-put_same, had_by-put_other}
use Rattle.office_state.proofs.offices.Register.{person_moved}
use Rattle.office_state.proofs.round_phases.Untouched.{undrawn, words_undrawn, results_undrawn}
use Rattle.office_state.proofs.round_phases.Untouched.{moves_stay}
use Rattle.office_state.proofs.offices.Grades.{graded_person}
use Rattle.office_state.proofs.offices.ChoiceLists.{person_known}
use Rattle.office_state.proofs.offices.Leavers.{leaver_person}

-- the office after one person's move, by what is stored about the person
abbrev pub moved : Office → Text → Option Text → Option Person → Office
moved office person home known =
    elim known as (λ _. Office) [
      | None ↦ office
      | Some kept ↦ record office
          { people = map.insert office.people person (record kept { home = home }) }
    ]

-- a person's move leaves the rooms as they are
pub rooms_stay : (office : Office) (person : Text) (home : Option Text)
    → (with_home office person home).rooms ≡ office.rooms
rooms_stay office person home =
    elim (map.get office.people person) as
    (λ o. (moved office person home o).rooms ≡ office.rooms) [ None ↦ refl | Some kept ↦ refl ]

pub phase_stays : (office : Office) (person : Text) (home : Option Text)
    → (with_home office person home).phase ≡ office.phase
phase_stays office person home =
    elim (map.get office.people person) as
    (λ o. (moved office person home o).phase ≡ office.phase) [ None ↦ refl | Some kept ↦ refl ]

-- before the draw, a known person may move to a home that nobody else has, and that is not shut
pub moved-lawful : (office : Office) (person : Text) (home : Option Text) → IsLawful office
    → has_words office.phase ≡ false
    → ((q room : Text) → home ≡ Some room → home_of office q ≡ Some room → q ≡ person)
    → ((room : Text) → home ≡ Some room → map.get office.rooms room ≡ Some false)
    → IsLawful (with_home office person home)
moved-lawful office person home l before own unshut =
    elim (map.get office.people person) as
    (λ o. map.get office.people person ≡ o → IsLawful (moved office person home o)) [
      | None ↦ λ _. l
      | Some kept ↦ λ known.
          let u = undrawn office l before in
          let new : Office = moved office person home (Some kept) in
          record {
            kept = l.kept;
            register = person_moved office.rooms office.people l.register person kept home known own
                unshut;
            lists = person_known office.rooms office.people office.choices office.withdrawn l.lists
                person (record kept { home = home });
            round = l.round;
            grades = graded_person office.people office.grades l.grades person
                (record kept { home = home });
            leavers = leaver_person office.phase office.people office.withdrawn office.going
                l.leavers person (record kept { home = home });
            words = words_undrawn office.phase new.people office.withdrawn office.going
                office.words u.has_no_words u.no_words;
            results = results_undrawn new u.has_no_results u.no_results;
            moves = moves_stay office new refl (λ round h. h) l.moves;
          }
    ] refl

-- a person who left a room was the only one there
pub left_empty : (office : Office) (person room : Text) → HomesDiffer office
    → home_of office person ≡ Some room → (q : Text)
    → home_of (with_home office person None) q ≡ Some room → ⊥
left_empty office person room differs lives q e =
    elim (map.get office.people person) as
    (λ o. map.get office.people person ≡ o → home_of (moved office person None o) q ≡ Some room
    → ⊥) [
      | None ↦ λ unknown. λ _.
          let homeless : home_of office person ≡ None =
          ap (option_and_then (λ p. p.home)) unknown in
          cc
      | Some kept ↦ λ _. λ there. elim (text_cases q person) as (λ _. ⊥) [
        | inl same ↦
            let homeless : had_by (λ p. p.home)
            (map.insert office.people person (record kept { home = None })) q ≡ None =
            had_by-put_same (λ p. p.home) office.people person
            (record kept { home = None }) q same in
            cc
        | inr other ↦
            let same : q ≡ person =
            differs q person room (sym (had_by-put_other (λ p. p.home) office.people person
            (record kept { home = None }) q other) ∙ there) lives in
            unequal_texts q person same other
      ]
    ] refl e
