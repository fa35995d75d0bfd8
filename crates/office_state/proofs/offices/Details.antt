-- A person's name and key are replaced, or the imported lists. The round stays as it is.
use Rattle.std.proofs.Common.{◌≡◌, ℕ, ◌≤◌, true, ◌&&◌, ◌||◌, not, List, length, Option, Some, None}
use Rattle.std.proofs.Common.{refl, ap, ◌∙◌, sym, subst, inl, inr}
use Rattle.std.specs.Option.{is_some, option_map, option_and_then}
use Rattle.std.specs.FinMap as map
use Rattle.office_lists.specs.Records.{record_limit}
use Rattle.room_types.specs.Texts.{Text, TextMap}
use Rattle.room_types.proofs.maps.TextMaps.{text_cases, get-put_same, get-put_other, len-put_known}
use Rattle.office_state.specs.Change.{with_name_and_key, with_bytes}
use Rattle.office_state.specs.Office.Invariants.{IsLawful, AreValidImports}
use Rattle.office_state.specs.Office.Limits.{byte_limit, label_limit, people_limit}
use Rattle.office_state.specs.Office.{had_by}
use Rattle.office_state.specs.Round.Laws.{HaveSameEntries, recorded_home}
use Rattle.office_state.specs.declared.office.Office.{Office}
use Rattle.office_state.specs.declared.office.person.Person.{Person}
use Rattle.office_state.specs.declared.office.stored_import.StoredImport.{StoredImport}
use Rattle.office_state.proofs.offices.Register.{person_put}
use Rattle.office_state.proofs.round_outcomes.Entries.{same_entries_same_round}
use Rattle.office_state.proofs.round_phases.Untouched.{moves_stay}
use Rattle.office_state.proofs.offices.ChoiceLists.{person_known}
use Rattle.office_state.proofs.offices.Grades.{graded_person}
use Rattle.office_state.proofs.offices.Leavers.{leaver_person}

-- if a known key is put again, the same keys are known
contains_key-put_known : {X : Type 0} (m : TextMap X) (k : Text) (v : X) (q : Text)
    → map.contains_key m k ≡ true → map.contains_key (map.insert m k v) q ≡ map.contains_key m q
contains_key-put_known m k v q known =
    elim (text_cases q k) as
    (λ _. map.contains_key (map.insert m k v) q ≡ map.contains_key m q) [
      | inl same ↦
          ap (λ p. map.contains_key (map.insert m k v) p) same ∙ ap is_some (get-put_same m k v)
          ∙ sym known ∙ ap (λ p. map.contains_key m p) (sym same)
      | inr other ↦ ap is_some (get-put_other m k v q other)
    ]

-- the office after a person's name and key were replaced, by what is stored about the person
abbrev renamed_where : Office → Text → Text → Text → Option Person → Office
renamed_where office person name key known =
    elim known as (λ _. Office) [
      | None ↦ office
      | Some kept ↦ record office {
        people = map.insert office.people person (record kept { name = name; key = key });
      }
    ]

module _ (office : Office) (person name key : Text) (kept : Person)
    (known : map.get office.people person ≡ Some kept) where
  abbrev renamed : Person
  renamed = record kept { name = name; key = key }

  abbrev after : Office
  after = renamed_where office person name key (Some kept)

  homes_stay : (q : Text) → recorded_home office q ≡ recorded_home after q
  homes_stay q =
      elim (text_cases q person) as (λ _. recorded_home office q ≡ recorded_home after q) [
        | inl same ↦
            ap (recorded_home office) same ∙ ap (option_map (λ p. p.home)) known
            ∙ sym (ap (option_map (λ p. p.home)) (get-put_same office.people person renamed))
            ∙ ap (recorded_home after) (sym same)
        | inr other ↦ ap (option_map (λ p. p.home))
            (sym (get-put_other office.people person renamed q other))
      ]

  entries_stay : HaveSameEntries office after
  entries_stay = record {
    rooms = refl;
    homes = homes_stay;
    choices = refl;
    withdrawn = refl;
    words = refl;
    grades = refl;
    going = refl;
  }

  known-lawful : IsLawful office
      → ((q : Text) → had_by (λ p. Some p.key) office.people q ≡ Some key → q ≡ person)
      → IsLawful after
  known-lawful l own_key =
      let lives = ap (option_and_then (λ p. p.home)) known in
      record {
        register = person_put office.rooms office.people l.register person renamed own_key
            (λ q room e h. l.register.homes q person room h (lives ∙ e))
            (λ room e. l.register.homes_open person room (lives ∙ e))
            (subst (λ n. n ≤ people_limit)
            (sym (len-put_known office.people person renamed (ap is_some known)))
            l.register.few_people);
        lists = person_known office.rooms office.people office.choices office.withdrawn l.lists
            person renamed;
        round = l.round;
        grades = graded_person office.people office.grades l.grades person renamed;
        leavers = leaver_person office.phase office.people office.withdrawn office.going l.leavers
            person renamed;
        words = record {
          none = l.words.none;
          each = λ drawn q. l.words.each drawn q
              ∙ ap (λ b. b && not (map.contains_key office.withdrawn q
              || map.contains_key office.going q))
              (sym (contains_key-put_known office.people person renamed q (ap is_some known)));
        };
        results = record {
          none = l.results.none;
          given = λ traded. l.results.given traded
              ∙ (same_entries_same_round office after entries_stay).results;
        };
        moves = moves_stay office after refl (λ round over. over) l.moves;
        kept = l.kept;
      }

-- a person's name and key may be replaced if nobody else has the key
pub renamed-lawful : (office : Office) (person name key : Text) → IsLawful office
    → ((q : Text) → had_by (λ p. Some p.key) office.people q ≡ Some key → q ≡ person)
    → IsLawful (with_name_and_key office person name key)
renamed-lawful office person name key l own_key =
    elim (map.get office.people person) as
    (λ o. map.get office.people person ≡ o
    → IsLawful (renamed_where office person name key o)) [
      | None ↦ λ _. l
      | Some kept ↦ λ known. known-lawful office person name key kept known l own_key
    ] refl

-- the round and its results stay as they are, whatever name and key a person gets
pub renamed_stays : (office : Office) (person name key : Text)
    → HaveSameEntries office (with_name_and_key office person name key)
    × ((with_name_and_key office person name key).number ≡ office.number)
    × ((with_name_and_key office person name key).results ≡ office.results)
    × ((with_name_and_key office person name key).phase ≡ office.phase)
renamed_stays office person name key =
    elim (map.get office.people person) as
    (λ o. map.get office.people person ≡ o
    → HaveSameEntries office (renamed_where office person name key o)
    × ((renamed_where office person name key o).number ≡ office.number)
    × ((renamed_where office person name key o).results ≡ office.results)
    × ((renamed_where office person name key o).phase ≡ office.phase)) [
      | None ↦ λ _. (
        record {
          rooms = refl;
          homes = λ q. refl;
          choices = refl;
          withdrawn = refl;
          words = refl;
          grades = refl;
          going = refl;
        },
        refl,
        refl,
        refl,
      )
      | Some kept ↦ λ known. (entries_stay office person name key kept known, refl, refl, refl)
    ] refl

-- the bytes of an imported list are replaced by few bytes
bytes_put : (lists : TextMap StoredImport) → AreValidImports lists
    → (label : Text) (kept : StoredImport) (bytes : List ℕ) → map.get lists label ≡ Some kept
    → length bytes ≤ byte_limit
    → AreValidImports (map.insert lists label (record kept { bytes = bytes }))
bytes_put lists l label kept bytes known few =
    let new : StoredImport = record kept { bytes = bytes } in
    record {
      few = subst (λ n. n ≤ label_limit) (sym (len-put_known lists label new (ap is_some known)))
          l.few;
      short = λ other v e. elim (text_cases other label) as (λ _. length v.bytes ≤ byte_limit) [
        | inl same ↦
            let is_new : Some new ≡ Some v =
            sym (get-put_same lists label new)
            ∙ ap (λ q. map.get (map.insert lists label new) q) (sym same) ∙ e in
            let bytes_new : bytes ≡ v.bytes = cc in
            subst (λ bs. length bs ≤ byte_limit) bytes_new few
        | inr apart ↦ l.short other v (sym (get-put_other lists label new other apart) ∙ e)
      ];
      counted = λ other v e. elim (text_cases other label) as (λ _. v.count ≤ record_limit) [
        | inl same ↦
            let is_new : Some new ≡ Some v =
            sym (get-put_same lists label new)
            ∙ ap (λ q. map.get (map.insert lists label new) q) (sym same) ∙ e in
            let count_kept : kept.count ≡ v.count = cc in
            subst (λ n. n ≤ record_limit) count_kept (l.counted label kept known)
        | inr apart ↦ l.counted other v (sym (get-put_other lists label new other apart) ∙ e)
      ];
    }

-- the office after the bytes of a list were replaced, by what is stored under the label
abbrev relisted_where : Office → Text → List ℕ → Option StoredImport → Office
relisted_where office label bytes known =
    elim known as (λ _. Office) [
      | None ↦ office
      | Some kept ↦
          record office { lists = map.insert office.lists label (record kept { bytes = bytes }) }
    ]

-- the imported lists do not count in the round: any valid ones may take their place
pub relisted-lawful : (office : Office) (lists : TextMap StoredImport) → IsLawful office
    → AreValidImports lists → IsLawful (record office { lists = lists })
relisted-lawful office lists l kept =
    let new : Office = record office { lists = lists } in
    record {
      register = l.register;
      lists = l.lists;
      round = l.round;
      grades = l.grades;
      leavers = l.leavers;
      words = l.words;
      results = record {
        none = l.results.none;
        given = λ traded. l.results.given traded
            ∙ (same_entries_same_round office new (record {
              rooms = refl;
              homes = λ q. refl;
              choices = refl;
              withdrawn = refl;
              words = refl;
              grades = refl;
              going = refl;
            })).results;
      };
      moves = moves_stay office new refl (λ round over. over) l.moves;
      kept = kept;
    }

-- the bytes of an imported list may be replaced by few bytes
pub with_bytes-lawful : (office : Office) (label : Text) (bytes : List ℕ) → IsLawful office
    → length bytes ≤ byte_limit → IsLawful (with_bytes office label bytes)
with_bytes-lawful office label bytes l few =
    elim (map.get office.lists label) as
    (λ o. map.get office.lists label ≡ o → IsLawful (relisted_where office label bytes o)) [
      | None ↦ λ _. l
      | Some kept ↦ λ known.
          relisted-lawful office (map.insert office.lists label (record kept { bytes = bytes })) l
          (bytes_put office.lists l.kept label kept bytes known few)
    ] refl
