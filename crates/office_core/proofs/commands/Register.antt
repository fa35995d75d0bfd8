-- The commands that change the register preserve the invariants.
use Rattle.std.proofs.Common.{Bool, None, Option, Some, [], ap, false, refl, subst, sym, true, ℕ}
use Rattle.std.proofs.Common.{◌++◌, ◌∙◌, ◌∷◌, ◌≡◌, ◌≤◌}
use Rattle.std.proofs.lemmas.Bool.{not-false}
use Rattle.std.specs.Prelude.{List, nat_le, not, unwrap_or}
use Rattle.std.specs.Option.{is_some, option_and_then, option_map_or}
use Rattle.std.specs.FinMap.{get-empty}
use Rattle.std.specs.Cmp.Lexicographic.{same_text}
use Rattle.std.specs.FinMap as map
use Rattle.room_types.specs.Texts.{Text, text_cmp, text_eq}
use Rattle.room_types.proofs.maps.TextMaps.{len-put_known}
use Rattle.room_types.proofs.options.Options.{none_if_not_some}
use Rattle.office_state.specs.Change.{LeadsTo, applied, with_home, with_name_and_key}
use Rattle.office_state.specs.Office.Invariants.{AreValidLists, HomesDiffer, IsLawful, IsValidRegister}
use Rattle.office_state.specs.declared.office.Office.{Office}
use Rattle.office_state.specs.Office.Limits.{people_limit, room_limit}
use Rattle.office_state.specs.Office.{had_by, home_of, owner, tenant}
use Rattle.office_state.specs.Office.Phases.{has_words}
use Rattle.office_state.specs.declared.change.Change.TheVariants.{DropPerson, PutGrade, PutHome, PutNameAndKey}
use Rattle.office_state.specs.declared.change.Change.TheVariants.{PutPerson, PutRoom}
use Rattle.office_state.specs.declared.office.person.Person.{Person}
use Rattle.office_state.specs.declared.change.Change.{Change}
use Rattle.office_state.proofs.offices.Register.{len-put_within, person_gone, person_put, room_put, room_shut}
use Rattle.office_state.proofs.round_phases.Untouched.{idle_preparing, prepared}
use Rattle.office_state.proofs.offices.ChoiceLists.{person_known, room_known, unknown_stays}
use Rattle.office_state.proofs.offices.Homes.{left_empty, moved-lawful, phase_stays, rooms_stay}
use Rattle.office_state.proofs.offices.People.{holder_has, nobody_has}
use Rattle.office_state.proofs.offices.Grades.{grade_dropped, grade_put, graded_person}
use Rattle.office_state.proofs.offices.Leavers.{leaver_dropped, leaver_person}
use Rattle.office_state.proofs.offices.Dropping.{person_dropped}
use Rattle.office_state.proofs.offices.Empty.{no_lists}
use Rattle.office_state.proofs.offices.Details.{renamed-lawful}
use Rattle.office_core.specs.declared.refusal.Refusal.TheVariants.{LimitReached}
use Rattle.office_core.specs.Command.Register.{is_of_another, without_tenant}
use Rattle.office_core.specs.Command.Changes.{tenant_leaving}
use Rattle.office_core.specs.Command.{checks, next}
use Rattle.office_core.specs.declared.command.Command.TheVariants as command
use Rattle.office_core.proofs.refusals.Checks.{may_have_home, may_live, none_applies}
use Rattle.office_core.proofs.commands.CarriedOut.{IsCarriedOut, no_change, one_change}
use Rattle.office_core.proofs.commands.Frames.{prepared-lawful}

-- before the draw, a room may be added, shut or opened again if the register stays valid
room_put-lawful : (office : Office) (room : Text) (is_shut : Bool) → IsLawful office → has_words office.phase ≡ false
    → IsValidRegister (map.insert office.rooms room is_shut) office.people
    → IsLawful (record office { rooms = map.insert office.rooms room is_shut })
room_put-lawful office room is_shut l before register =
    prepared-lawful office (record office { rooms = map.insert office.rooms room is_shut }) l before refl (record {
      register = register;
      lists = room_known office.rooms office.people office.choices office.withdrawn l.lists room is_shut;
      round = l.round;
      grades = l.grades;
      leavers = l.leavers;
    })

pub add_room-leads : (office : Office) (room : Text) → IsCarriedOut office (command.AddRoom room)
add_room-leads office room l h =
    let (preparing, (new, (few, _))) = none_applies (checks office (command.AddRoom room)) h in
    one_change office (PutRoom room false) l refl
    (room_put-lawful office room false l (prepared office.phase (not-false _ preparing))
    (room_put office.rooms office.people l.register room (len-put_within office.rooms room false room_limit new few)))

-- shutting a known room that nobody lives in preserves the invariants
shut-lawful : (office : Office) (room : Text) → IsLawful office → has_words office.phase ≡ false
    → map.contains_key office.rooms room ≡ true
    → ((q : Text) → home_of office q ≡ Some room → ⊥)
    → IsLawful (record office { rooms = map.insert office.rooms room true })
shut-lawful office room l before known empty =
    room_put-lawful office room true l before (room_shut office.rooms office.people l.register room known empty)

abbrev after : Office → Text → Option Text → Office
after office room o = record (without_tenant office o) { rooms = map.insert office.rooms room true }

-- by cases of the tenant
shut-leads_by : (office : Office) (room : Text) (o : Option Text) → IsLawful office
    → has_words office.phase ≡ false → map.contains_key office.rooms room ≡ true
    → tenant office room ≡ o → LeadsTo office (after office room o)
    (tenant_leaving o ++ PutRoom room true ∷ [])
shut-leads_by office room None l before known free =
    one_change office (PutRoom room true) l refl
    (shut-lawful office room l before known
    (λ q e. nobody_has (λ p. p.home) office.people room free q e))
shut-leads_by office room (Some person) l before known taken =
    let left : Office = with_home office person None in
    let rooms : left.rooms ≡ office.rooms = rooms_stay office person None in
    let lives : home_of office person ≡ Some room =
    holder_has (λ p. p.home) office.people room person taken in
    let left_lawful : IsLawful left =
    moved-lawful office person None l before (λ q r e f. cc) (λ r e. cc) in
    let shut_lawful : IsLawful (record left { rooms = map.insert left.rooms room true }) =
    shut-lawful left room left_lawful (ap has_words (phase_stays office person None) ∙ before)
    (ap (λ m. map.contains_key m room) rooms ∙ known)
    (left_empty office person room l.register.homes lives) in
    let lawful : IsLawful (after office room (Some person)) =
    subst (λ m. IsLawful (record left { rooms = map.insert m room true })) rooms shut_lawful in
    record {
      leads = ap (λ m. record left { rooms = map.insert m room true }) rooms;
      apart = (l.register.homes, (left_lawful.register.homes, lawful.register.homes));
      fits = (tt, (ap (λ m. map.contains_key m room) rooms, tt));
      lawful = lawful;
    }

pub shut-leads : (office : Office) (room : Text) → IsCarriedOut office (command.Shut room)
shut-leads office room l h =
    let (preparing, (known, _)) = none_applies (checks office (command.Shut room)) h in
    shut-leads_by office room (tenant office room) l (prepared office.phase (not-false _ preparing))
    (not-false _ known) refl

pub reopen-leads : (office : Office) (room : Text) → IsCarriedOut office (command.Reopen room)
reopen-leads office room l h =
    let (preparing, (known, _)) = none_applies (checks office (command.Reopen room)) h in
    one_change office (PutRoom room false) l refl
    (room_put-lawful office room false l (prepared office.phase (not-false _ preparing))
    (room_put office.rooms office.people l.register room
    (subst (λ k. k ≤ room_limit) (sym (len-put_known office.rooms room false (not-false _ known)))
    l.register.few_rooms)))

pub add_person-leads : (office : Office) (person name key : Text) (home : Option Text)
    → IsCarriedOut office (command.AddPerson person name key home)
add_person-leads office person name key home l h =
    let (preparing, (new, (free, others))) = none_applies (checks office (command.AddPerson person name key home)) h in
    let (may, (few, _)) = may_have_home office home
    ((nat_le people_limit (map.len office.people), LimitReached) ∷ []) others in
    let v : Person = record { name = name; key = key; home = home } in
    one_change office (PutPerson person name key home) l
    (new, unknown_stays office.rooms office.people office.choices office.withdrawn l.lists person new)
    (prepared-lawful office (next office (command.AddPerson person name key home)) l
    (prepared office.phase (not-false _ preparing)) refl
    (record {
      grades = graded_person office.people office.grades l.grades person v;
      leavers = leaver_person office.phase office.people office.withdrawn office.going l.leavers
          person v;
      register = person_put office.rooms office.people l.register person v
          (λ q e. absurd (nobody_has (λ p. Some p.key) office.people key
          (none_if_not_some (owner office key) free) q e))
          (λ q room e f. absurd (nobody_has (λ p. p.home) office.people room (may room e).1 q f))
          (λ room e. (may room e).0)
          (len-put_within office.people person v people_limit new few);
      lists = person_known office.rooms office.people office.choices office.withdrawn l.lists person
          v;
      round = l.round;
    }))

pub set_home-leads : (office : Office) (person room : Text) → IsCarriedOut office (command.SetHome person room)
set_home-leads office person room l h =
    let (idle, (_, (_, home))) = none_applies (checks office (command.SetHome person room)) h in
    let (unshut, free) = may_live office room home in
    one_change office (PutHome person (Some room)) l tt
    (moved-lawful office person (Some room) l (prepared office.phase (idle_preparing office.phase (not-false _ idle)))
    (λ q r e f. absurd (nobody_has (λ p. p.home) office.people room free q (f ∙ sym e)))
    (λ r e. ap (λ (o : Option Text). map.get office.rooms (unwrap_or o room)) (sym e) ∙ unshut))

pub leave-leads : (office : Office) (person : Text) → IsCarriedOut office (command.Leave person)
leave-leads office person l h =
    let (idle, _) = none_applies (checks office (command.Leave person)) h in
    one_change office (PutHome person None) l tt
    (moved-lawful office person None l (prepared office.phase (idle_preparing office.phase (not-false _ idle)))
    (λ q r e f. cc) (λ r e. cc))

pub remove-leads : (office : Office) (person : Text) → IsCarriedOut office (command.Remove person)
remove-leads office person l h =
    let (in_phase, _) = none_applies (checks office (command.Remove person)) h in
    let idle = not-false _ in_phase in
    let new : Office = next office (command.Remove person) in
    let no_choices = l.round.idle_choices idle in
    let nobody = l.round.idle_withdrawn idle in
    let gone : applied office (DropPerson person) ≡ new =
    person_dropped office person (l.grades.graded person) in
    let stays : map.contains_key office.going person ≡ false =
    ap (λ going. map.contains_key going person) (l.leavers.idle_going idle)
    ∙ ap is_some (get-empty text_cmp person) in
    let lawful = prepared-lawful office new l (prepared office.phase (idle_preparing office.phase idle)) refl (record {
      grades = grade_dropped office.people office.grades l.grades person;
      leavers = leaver_dropped office.phase office.people office.withdrawn office.going l.leavers
          person stays;
      register = person_gone office.rooms office.people l.register person;
      lists = subst (λ choices. AreValidLists office.rooms new.people choices office.withdrawn)
          (sym no_choices)
          (subst (λ withdrawn. AreValidLists office.rooms new.people map.empty withdrawn) (sym nobody)
          (no_lists office.rooms new.people));
      round = l.round;
    }) in
    record {
      leads = gone;
      apart = (l.register.homes, subst HomesDiffer (sym gone) lawful.register.homes);
      fits = (
        (
          ap (λ withdrawn. map.contains_key withdrawn person) nobody
              ∙ ap is_some (get-empty text_cmp person),
          stays,
          l.grades.graded person,
        ),
        tt,
      );
      lawful = lawful;
    }

pub set_grade-leads : (office : Office) (person : Text) (grade : ℕ)
    → IsCarriedOut office (command.SetGrade person grade)
set_grade-leads office person grade l h =
    let (preparing, (known, _)) = none_applies (checks office (command.SetGrade person grade)) h in
    one_change office (PutGrade person grade) l (not-false _ known)
    (prepared-lawful office (next office (command.SetGrade person grade)) l
    (prepared office.phase (not-false _ preparing)) refl
    (record {
      register = l.register;
      lists = l.lists;
      round = l.round;
      grades = grade_put office.people office.grades l.grades person grade (not-false _ known);
      leavers = l.leavers;
    }))

-- the office and the changes that give the person a name and a key, both of what is stored about the person
abbrev pub office_renamed : Office → Text → (name key : Person → Text) → Option Person → Office
office_renamed office person name key known =
    elim known as (λ _. Office)
    [ None ↦ office | Some kept ↦ with_name_and_key office person (name kept) (key kept) ]

abbrev changes_renamed : Text → (name key : Person → Text) → Option Person → List Change
changes_renamed person name key known =
    elim known as (λ _. List Change)
    [ None ↦ [] | Some kept ↦ PutNameAndKey person (name kept) (key kept) ∷ [] ]

-- a person may get such a name and a key that nobody else has
renamed-leads : (office : Office) (person : Text) (name key : Person → Text) → IsLawful office
    → ((kept : Person) → map.get office.people person ≡ Some kept
    → (q : Text) → had_by (λ p. Some p.key) office.people q ≡ Some (key kept) → q ≡ person)
    → LeadsTo office (office_renamed office person name key (map.get office.people person))
    (changes_renamed person name key (map.get office.people person))
renamed-leads office person name key l own =
    elim (map.get office.people person) as
    (λ o. map.get office.people person ≡ o
    → LeadsTo office (office_renamed office person name key o) (changes_renamed person name key o)) [
      | None ↦ λ _. no_change office l
      | Some kept ↦ λ known. one_change office (PutNameAndKey person (name kept) (key kept)) l tt
          (renamed-lawful office person (name kept) (key kept) l (own kept known))
    ] refl

pub set_name-leads : (office : Office) (person name : Text) → IsCarriedOut office (command.SetName person name)
set_name-leads office person name l h =
    renamed-leads office person (λ _. name) (λ kept. kept.key) l
    (λ kept known q has. l.register.keys q person kept.key has (ap (option_and_then (λ p. Some p.key)) known))

-- a key that is nobody else's is the person's own, if anybody has it
own_key : (office : Office) (person key : Text) → IsLawful office
    → is_of_another office person key ≡ false
    → (q : Text) → had_by (λ p. Some p.key) office.people q ≡ Some key → q ≡ person
own_key office person key l free q has =
    elim (owner office key) as (λ o. owner office key ≡ o
    → option_map_or (λ other. not (text_eq other person)) o false ≡ false → q ≡ person) [
      | None ↦ λ none. λ _.
          absurd (nobody_has (λ p. Some p.key) office.people key none q has)
      | Some other ↦ λ found. λ same.
          l.register.keys q other key has
          (holder_has (λ p. Some p.key) office.people key other found)
          ∙ same_text other person (sym (not-false _ same))
    ] refl free

pub set_key-leads : (office : Office) (person key : Text) → IsCarriedOut office (command.SetKey person key)
set_key-leads office person key l h =
    let (_, (free, _)) = none_applies (checks office (command.SetKey person key)) h in
    renamed-leads office person (λ kept. kept.name) (λ _. key) l (λ kept known. own_key office person key l free)
