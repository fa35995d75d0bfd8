-- Who moves, and the people after the settlement.
use Rattle.std.proofs.Common.{◌≡◌, Bool, true, false, ◌&&◌, ◌||◌, List, [], ◌∷◌}
use Rattle.std.proofs.Common.{map as map_list, Option, Some, None, cond, refl, ap, ◌∙◌, sym, ◌⊎◌}
use Rattle.std.proofs.Common.{inl, inr}
use Rattle.std.specs.Option.{is_some, option_map, option_or, option_and_then}
use Rattle.std.specs.List.{All, AllByRecursion, filter, list_any}
use Rattle.std.specs.Ordering.{eq_by_cmp}
use Rattle.std.specs.Cmp.Lexicographic.{nat_list_cmp_total}
use Rattle.std.specs.FinMap as map
use Rattle.std.specs.FinMap.{find, get-insert, get-entries, get-from_entries, same_map}
use Rattle.std.proofs.lemmas.Bool.{not-false}
use Rattle.std.proofs.lemmas.List.Elements.{All-map, recursion_from_All}
use Rattle.std.proofs.lemmas.Map.Views.{any-filter_same}
use Rattle.room_types.specs.Texts.{Text, TextMap, text_cmp}
use Rattle.room_types.proofs.maps.TextMaps.{text_cases, tied_text, exact_texts, len-put_known}
use Rattle.room_types.proofs.options.Options.{none_if_not_some, option_or-none}
use Rattle.office_lists.specs.Waves.{Relocation}
use Rattle.office_state.specs.Office.{home_of, people_not_withdrawn, recorded_result, is_same_text}
use Rattle.office_state.specs.Round.Settlement.{is_settled, changes_home, relocations, settled_person}
use Rattle.office_state.specs.Round.Settlement.{settled_people}
use Rattle.office_state.specs.declared.office.Office.{Office}
use Rattle.office_state.specs.declared.office.person.Person.{Person}
use Rattle.office_state.proofs.round_problems.People.{not_withdrawn_hold}
use Rattle.office_state.proofs.offices.People.{same_optional}

-- the people after one person's move, by what is stored about the person
abbrev pub rehomed_by : TextMap Person → Text → Option Text → Option Person → TextMap Person
rehomed_by people person home None = people
rehomed_by people person home (Some kept) = map.insert people person (record kept { home = home })

abbrev pub rehomed : TextMap Person → Text → Option Text → TextMap Person
rehomed people person home = rehomed_by people person home (map.get people person)

abbrev pub at_home : Option Text → Person → Person
at_home home kept = record kept { home = home }

nowhere : (b : Bool) (f : Person → Person) (o : Option Person) → o ≡ None
    → o ≡ cond b (option_map f o) o
nowhere true f o e = e ∙ sym (ap (option_map f) e)
nowhere false f o e = refl

pub get-rehomed : (people : TextMap Person) (person : Text) (home : Option Text) (q : Text)
    → map.get (rehomed people person home) q
    ≡ cond (eq_by_cmp text_cmp q person) (option_map (at_home home) (map.get people q))
    (map.get people q)
get-rehomed people person home q =
    elim (map.get people person) as (λ o. map.get people person ≡ o
    → map.get (rehomed_by people person home o) q
    ≡ cond (eq_by_cmp text_cmp q person) (option_map (at_home home) (map.get people q))
    (map.get people q)) [
      | None ↦ λ unknown. elim (text_cases q person) as
          (λ _. map.get people q ≡ cond (eq_by_cmp text_cmp q person)
          (option_map (at_home home) (map.get people q)) (map.get people q)) [
            | inl same ↦ nowhere (eq_by_cmp text_cmp q person) (at_home home) (map.get people q)
                (ap (map.get people) same ∙ unknown)
            | inr other ↦ ap (λ b. cond b (option_map (at_home home) (map.get people q))
                (map.get people q)) (sym other)
          ]
      | Some kept ↦ λ known.
          get-insert nat_list_cmp_total people person (at_home home kept) q
          ∙ elim (text_cases q person) as
          (λ _. cond (eq_by_cmp text_cmp q person) (Some (at_home home kept)) (map.get people q)
          ≡ cond (eq_by_cmp text_cmp q person) (option_map (at_home home) (map.get people q))
          (map.get people q)) [
            | inl same ↦ ap (λ o. cond (eq_by_cmp text_cmp q person) (option_map (at_home home) o)
                (map.get people q)) (sym (ap (map.get people) same ∙ known))
            | inr other ↦ ap (λ b. cond b (Some (at_home home kept)) (map.get people q)) other
                ∙ ap (λ b. cond b (option_map (at_home home) (map.get people q)) (map.get people q))
                (sym other)
          ]
    ] refl

-- the people after these have left
abbrev pub left_people : TextMap Person → List Relocation → TextMap Person
left_people people [] = people
left_people people (relocation ∷ others) = left_people (rehomed people relocation.0 None) others

-- the people after each of these has come to the new room, in turn
abbrev pub arrived_people : TextMap Person → List Relocation → TextMap Person
arrived_people people [] = people
arrived_people people (relocation ∷ others) = arrived_people (rehomed people relocation.0 relocation.2) others

abbrev pub relocates : List Relocation → Text → Bool
relocates ms q = list_any (λ relocation. eq_by_cmp text_cmp q relocation.0) ms

-- where a person who moves goes to
abbrev pub relocation_to : List Relocation → Text → Option (Option Text)
relocation_to [] q = None
relocation_to (relocation ∷ others) q =
    option_or (relocation_to others q) (cond (eq_by_cmp text_cmp q relocation.0) (Some relocation.2) None)

is_some-relocation_to : (ms : List Relocation) (q : Text) → is_some (relocation_to ms q) ≡ relocates ms q
is_some-relocation_to [] q = refl
is_some-relocation_to (relocation ∷ others) q =
    by (relocation_to others q) (eq_by_cmp text_cmp q relocation.0)
    ∙ ap (λ b. eq_by_cmp text_cmp q relocation.0 || b) (is_some-relocation_to others q)
  where
    by : (o : Option (Option Text)) (b : Bool)
        → is_some (option_or o (cond b (Some relocation.2) None)) ≡ (b || is_some o)
    by None true = refl
    by None false = refl
    by (Some to) true = refl
    by (Some to) false = refl

left_twice : (a b : Bool) (o : Option Person)
    → cond a (option_map (at_home None) (cond b (option_map (at_home None) o) o))
    (cond b (option_map (at_home None) o) o) ≡ cond (b || a) (option_map (at_home None) o) o
left_twice true true None = refl
left_twice true true (Some kept) = refl
left_twice true false o = refl
left_twice false true o = refl
left_twice false false o = refl

get-left : (people : TextMap Person) (ms : List Relocation) (q : Text)
    → map.get (left_people people ms) q
    ≡ cond (relocates ms q) (option_map (at_home None) (map.get people q)) (map.get people q)
get-left people [] q = refl
get-left people (relocation ∷ others) q =
    get-left (rehomed people relocation.0 None) others q
    ∙ ap (λ o. cond (relocates others q) (option_map (at_home None) o) o)
    (get-rehomed people relocation.0 None q)
    ∙ left_twice (relocates others q) (eq_by_cmp text_cmp q relocation.0) (map.get people q)

abbrev arrive_at : Option (Option Text) → Option Person → Option Person
arrive_at None o = o
arrive_at (Some to) o = option_map (at_home to) o

arrived_after : (t : Option (Option Text)) (b : Bool) (to : Option Text) (o : Option Person)
    → arrive_at t (cond b (option_map (at_home to) o) o)
    ≡ arrive_at (option_or t (cond b (Some to) None)) o
arrived_after None true to o = refl
arrived_after None false to o = refl
arrived_after (Some there) true to None = refl
arrived_after (Some there) true to (Some kept) = refl
arrived_after (Some there) false to o = refl

get-arrived : (people : TextMap Person) (ms : List Relocation) (q : Text)
    → map.get (arrived_people people ms) q ≡ arrive_at (relocation_to ms q) (map.get people q)
get-arrived people [] q = refl
get-arrived people (relocation ∷ others) q =
    get-arrived (rehomed people relocation.0 relocation.2) others q
    ∙ ap (arrive_at (relocation_to others q)) (get-rehomed people relocation.0 relocation.2 q)
    ∙ arrived_after (relocation_to others q) (eq_by_cmp text_cmp q relocation.0) relocation.2 (map.get people q)

left_and_arrived : (t : Option (Option Text)) (b : Bool) (o : Option Person)
    → (b ≡ true → is_some t ≡ true)
    → arrive_at t (cond b (option_map (at_home None) o) o) ≡ arrive_at t o
left_and_arrived None true o comes = let never = comes refl in cc
left_and_arrived None false o comes = refl
left_and_arrived (Some to) true None comes = refl
left_and_arrived (Some to) true (Some kept) comes = refl
left_and_arrived (Some to) false o comes = refl

-- where each person who moves goes, by what is known of the person
pub relocation_to-by : (to : Text → Option Text) (ms : List Relocation) (q : Text)
    → AllByRecursion (λ (m : Relocation). m.2 ≡ to m.0) ms
    → relocation_to ms q ≡ cond (relocates ms q) (Some (to q)) None
relocation_to-by to [] q h = refl
relocation_to-by to (m ∷ ms) q h =
    ap (λ o. option_or o (cond (eq_by_cmp text_cmp q m.0) (Some m.2) None))
    (relocation_to-by to ms q h.1)
    ∙ elim (text_cases q m.0) as
    (λ _. option_or (cond (relocates ms q) (Some (to q)) None)
    (cond (eq_by_cmp text_cmp q m.0) (Some m.2) None)
    ≡ cond (eq_by_cmp text_cmp q m.0 || relocates ms q) (Some (to q)) None) [
      | inl same ↦
          ap (λ t. option_or (cond (relocates ms q) (Some (to q)) None)
          (cond (eq_by_cmp text_cmp q m.0) (Some t) None)) (h.0 ∙ ap to (sym same))
          ∙ together (relocates ms q) (eq_by_cmp text_cmp q m.0)
      | inr other ↦
          ap (λ b. option_or (cond (relocates ms q) (Some (to q)) None) (cond b (Some m.2) None))
          other
          ∙ option_or-none (cond (relocates ms q) (Some (to q)) None)
          ∙ ap (λ b. cond (b || relocates ms q) (Some (to q)) None) (sym other)
    ]
  where
    together : (a b : Bool)
        → option_or (cond a (Some (to q)) None) (cond b (Some (to q)) None)
        ≡ cond (b || a) (Some (to q)) None
    together true true = refl
    together true false = refl
    together false true = refl
    together false false = refl

-- what holds of each person who moves, by where the person lives and what the person gets
pub each_relocation : (office : Office) (P : Relocation → Type 0)
    → ((p : Text) → P (p, home_of office p, recorded_result office p)) → All P (relocations office)
each_relocation office P h =
    All-map P (λ p. (p, home_of office p, recorded_result office p))
    (filter (changes_home office) (people_not_withdrawn office)) (λ k d within. h _)

any_mapped : (test : Text → Bool) (f : Text → Relocation) → ((p : Text) → test (f p).0 ≡ test p)
    → (ps : List Text) → list_any (λ m. test m.0) (map_list f ps) ≡ list_any test ps
any_mapped test f same [] = refl
any_mapped test f same (p ∷ ps) = λ i. same p i || any_mapped test f same ps i

-- a person who moves has not withdrawn, and the home changes
relocates-relocations : (office : Office) (q : Text)
    → relocates (relocations office) q ≡ (changes_home office q && is_settled office q)
relocates-relocations office q =
    any_mapped (eq_by_cmp text_cmp q) (λ p. (p, home_of office p, recorded_result office p))
    (λ p. refl) (filter (changes_home office) (people_not_withdrawn office))
    ∙ any-filter_same (eq_by_cmp text_cmp q) (changes_home office) (changes_home office q)
    (λ p ties. sym (ap (changes_home office) (tied_text q p ties))) (people_not_withdrawn office)
    ∙ ap (λ b. changes_home office q && b) (not_withdrawn_hold office q)

relocation_to-relocations : (office : Office) (q : Text)
    → relocation_to (relocations office) q
    ≡ cond (changes_home office q && is_settled office q) (Some (recorded_result office q)) None
relocation_to-relocations office q =
    relocation_to-by (recorded_result office) (relocations office) q
    (recursion_from_All (λ (m : Relocation). m.2 ≡ recorded_result office m.0) (relocations office)
    (each_relocation office (λ m. m.2 ≡ recorded_result office m.0) (λ p. refl)))
    ∙ ap (λ b. cond b (Some (recorded_result office q)) None) (relocates-relocations office q)

find_changed : (change : Text → Person → Person) (es : List (Text × Person)) (q : Text)
    → find text_cmp q (map_list (λ e. (e.0, change e.0 e.1)) es)
    ≡ option_map (change q) (find text_cmp q es)
find_changed change [] q = refl
find_changed change (e ∷ es) q =
    elim (text_cases q e.0) as (λ _. cond (eq_by_cmp text_cmp q e.0) (Some (change e.0 e.1))
    (find text_cmp q (map_list (λ e. (e.0, change e.0 e.1)) es))
    ≡ option_map (change q) (cond (eq_by_cmp text_cmp q e.0) (Some e.1) (find text_cmp q es))) [
      | inl same ↦ elim (eq_by_cmp text_cmp q e.0) as
          (λ b. cond b (Some (change e.0 e.1))
          (find text_cmp q (map_list (λ e. (e.0, change e.0 e.1)) es))
          ≡ option_map (change q) (cond b (Some e.1) (find text_cmp q es))) [
            | true ↦ ap (λ k. Some (change k e.1)) (sym same)
            | false ↦ find_changed change es q
          ]
      | inr other ↦ ap (λ b. cond b (Some (change e.0 e.1))
          (find text_cmp q (map_list (λ e. (e.0, change e.0 e.1)) es))) other
          ∙ find_changed change es q
          ∙ ap (λ b. option_map (change q) (cond b (Some e.1) (find text_cmp q es))) (sym other)
    ]

-- a person after the settlement
abbrev pub settled : Office → Text → Person → Person
settled office q kept =
    cond (is_settled office q) (at_home (recorded_result office q) kept) kept

pub get-settled : (office : Office) (q : Text)
    → map.get (settled_people office) q ≡ option_map (settled office q) (map.get office.people q)
get-settled office q =
    get-from_entries nat_list_cmp_total
    (map_list (settled_person office) (map.entries office.people)) q
    ∙ find_changed (settled office) (map.entries office.people) q
    ∙ ap (option_map (settled office q)) (sym (get-entries office.people q))

same_none : (o : Option Person) → o ≡ option_map (λ v. v) o
same_none None = refl
same_none (Some v) = refl

stays_put : (to : Option Text) (o : Option Person)
    → is_same_text (option_and_then (λ p. p.home) o) to ≡ true → o ≡ option_map (at_home to) o
stays_put to None h = refl
stays_put to (Some kept) h = ap (λ home. Some (at_home home kept)) (same_optional kept.home to h)

-- leaving and arriving settle the people, in whatever order they arrive, and whichever of them left before
pub people_settled : (office : Office) (gone order : List Relocation)
    → ((q : Text) → relocates gone q ≡ true → relocates order q ≡ true)
    → ((q : Text) → relocation_to order q ≡ relocation_to (relocations office) q)
    → arrived_people (left_people office.people gone) order ≡ settled_people office
people_settled office gone order come same = same_map nat_list_cmp_total exact_texts _ _ (λ q.
    get-arrived (left_people office.people gone) order q
    ∙ ap (arrive_at (relocation_to order q)) (get-left office.people gone q)
    ∙ left_and_arrived (relocation_to order q) (relocates gone q) (map.get office.people q)
    (λ h. is_some-relocation_to order q ∙ come q h)
    ∙ ap (λ t. arrive_at t (map.get office.people q)) (same q ∙ relocation_to-relocations office q)
    ∙ elim (changes_home office q) as
    (λ out. changes_home office q ≡ out
    → arrive_at (cond (out && is_settled office q) (Some (recorded_result office q)) None)
    (map.get office.people q) ≡ option_map (settled office q) (map.get office.people q)) [
      | true ↦ λ _. elim (is_settled office q) as
          (λ part. arrive_at (cond part (Some (recorded_result office q)) None)
          (map.get office.people q)
          ≡ option_map (λ kept. cond part (at_home (recorded_result office q) kept) kept)
          (map.get office.people q))
          [ true ↦ refl | false ↦ same_none (map.get office.people q) ]
      | false ↦ λ stays. elim (is_settled office q) as
          (λ part. map.get office.people q
          ≡ option_map (λ kept. cond part (at_home (recorded_result office q) kept) kept)
          (map.get office.people q)) [
            | true ↦ stays_put (recorded_result office q) (map.get office.people q)
                (not-false _ stays)
            | false ↦ same_none (map.get office.people q)
          ]
    ] refl
    ∙ sym (get-settled office q))

-- also in the order of the identifiers, if nobody left before
arrived_settled : (office : Office)
    → arrived_people office.people (relocations office) ≡ settled_people office
arrived_settled office = people_settled office [] (relocations office) (λ q never. cc) (λ q. refl)

-- the home of a person after the settlement
pub home_settled : (office : Office) (q room : Text)
    → option_and_then (λ (p : Person). p.home) (map.get (settled_people office) q) ≡ Some room
    → ((is_settled office q ≡ true) × (recorded_result office q ≡ Some room))
    ⊎ ((is_settled office q ≡ false) × (home_of office q ≡ Some room))
home_settled office q room h =
    let at : option_and_then (λ (p : Person). p.home)
    (option_map (settled office q) (map.get office.people q)) ≡ Some room =
    ap (option_and_then (λ p. p.home)) (sym (get-settled office q)) ∙ h in
    elim (map.get office.people q) as
    (λ o. map.get office.people q ≡ o
    → option_and_then (λ (p : Person). p.home) (option_map (settled office q) o) ≡ Some room
    → ((is_settled office q ≡ true) × (recorded_result office q ≡ Some room))
    ⊎ ((is_settled office q ≡ false) × (home_of office q ≡ Some room))) [
      | None ↦ λ _ none. cc
      | Some kept ↦ λ known some. elim (is_settled office q) as
          (λ b. is_settled office q ≡ b
          → (cond b (at_home (recorded_result office q) kept) kept).home ≡ Some room
          → ((is_settled office q ≡ true) × (recorded_result office q ≡ Some room))
          ⊎ ((is_settled office q ≡ false) × (home_of office q ≡ Some room))) [
            | true ↦ λ part there. inl (part, there)
            | false ↦ λ apart there. inr (apart, ap (option_and_then (λ p. p.home)) known ∙ there)
          ] refl some
    ] refl at

-- the settlement changes no key
pub key_settled : (office : Office) (q : Text)
    → option_and_then (λ (p : Person). Some p.key) (map.get (settled_people office) q)
    ≡ option_and_then (λ p. Some p.key) (map.get office.people q)
key_settled office q =
    ap (option_and_then (λ p. Some p.key)) (get-settled office q)
    ∙ elim (map.get office.people q) as
    (λ o. option_and_then (λ (p : Person). Some p.key) (option_map (settled office q) o)
    ≡ option_and_then (λ p. Some p.key) o) [
      | None ↦ refl
      | Some kept ↦ elim (is_settled office q) as
          (λ b. Some (cond b (at_home (recorded_result office q) kept) kept).key ≡ Some kept.key)
          [ true ↦ refl | false ↦ refl ]
    ]

len-rehomed : (people : TextMap Person) (person : Text) (home : Option Text)
    → map.len (rehomed people person home) ≡ map.len people
len-rehomed people person home =
    elim (map.get people person) as
    (λ o. map.get people person ≡ o → map.len (rehomed_by people person home o) ≡ map.len people) [
      | None ↦ λ _. refl
      | Some kept ↦ λ known. len-put_known people person (at_home home kept) (ap is_some known)
    ] refl

len-arrived : (people : TextMap Person) (ms : List Relocation)
    → map.len (arrived_people people ms) ≡ map.len people
len-arrived people [] = refl
len-arrived people (relocation ∷ others) =
    len-arrived (rehomed people relocation.0 relocation.2) others ∙ len-rehomed people relocation.0 relocation.2

pub len-settled : (office : Office) → map.len (settled_people office) ≡ map.len office.people
len-settled office =
    ap map.len (sym (arrived_settled office))
    ∙ len-arrived office.people (relocations office)

-- a person who does not move lives after the settlement where they lived before
pub stays_settled : (office : Office) (q : Text) → relocates (relocations office) q ≡ false
    → map.get (settled_people office) q ≡ map.get office.people q
stays_settled office q stays =
    ap (λ people. map.get people q) (sym (arrived_settled office))
    ∙ get-arrived office.people (relocations office) q
    ∙ ap (λ t. arrive_at t (map.get office.people q))
    (none_if_not_some (relocation_to (relocations office) q) (is_some-relocation_to (relocations office) q ∙ stays))

-- a person who has a home after these have left is none of them, and had it before
pub left_home : (people : TextMap Person) (gone : List Relocation) (q room : Text)
    → option_and_then (λ (p : Person). p.home) (map.get (left_people people gone) q) ≡ Some room
    → (relocates gone q ≡ false)
    × (option_and_then (λ (p : Person). p.home) (map.get people q) ≡ Some room)
left_home people gone q room h =
    elim (relocates gone q) as (λ b. relocates gone q ≡ b
    → option_and_then (λ (p : Person). p.home)
    (cond b (option_map (at_home None) (map.get people q)) (map.get people q)) ≡ Some room
    → (relocates gone q ≡ false)
    × (option_and_then (λ (p : Person). p.home) (map.get people q) ≡ Some room)) [
      | true ↦ λ _ homeless. absurd (nowhere_home (map.get people q) room homeless)
      | false ↦ λ stays there. (stays, there)
    ] refl (ap (option_and_then (λ p. p.home)) (sym (get-left people gone q)) ∙ h)
  where
    nowhere_home : (o : Option Person) (room : Text)
        → option_and_then (λ (p : Person). p.home) (option_map (at_home None) o) ≡ Some room → ⊥
    nowhere_home None room h = cc
    nowhere_home (Some kept) room h = cc
