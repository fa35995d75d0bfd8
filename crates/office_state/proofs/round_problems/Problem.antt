-- The problem of a round is well formed if homes differ.
use Rattle.std.proofs.Common.{◌≡◌, ◌≢◌, ℕ, suc, ◌+◌, ◌<◌, Bool, true, false, cond, not, List, []}
use Rattle.std.proofs.Common.{◌∷◌, ◌++◌, length, take, get_or, Option, Some, None, map, refl, sym}
use Rattle.std.proofs.Common.{ap, ◌∙◌, subst, arith, ◌||◌}
use Rattle.std.specs.Option.{option_and_then, unwrap_or}
use Rattle.std.specs.List.{All, AllPairs, filter_map, cons_option, before_first, position_or_len}
use Rattle.std.specs.List.{list_any}
use Rattle.std.specs.FinMap as maps
use Rattle.std.proofs.lemmas.List.{get_or-map, length-map}
use Rattle.std.proofs.lemmas.List.Elements.{All-nil, All-cons, All-head, All-tail, All-take}
use Rattle.std.proofs.lemmas.List.Kept.{AllPairs-cons}
use Rattle.room_types.specs.Texts.{Text, text_eq}
use Rattle.room_types.specs.Repeats.{first_repeated}
use Rattle.trade_line.specs.Market.{Market, IsMarket, home, list_of}
use Rattle.trade_line.specs.OtherList.{IsListFor, IsFirstListFault}
use Rattle.trade_line.specs.Problem.{IsFirstFault}
use Rattle.trade_line.specs.declared.fault.TradeFault.{TradeFault}
use Rattle.trade_line.specs.declared.fault.TradeFault.TheVariants.{BadIndex, HomeShared}
use Rattle.trade_line.specs.declared.fault.TradeFault.TheVariants.{ListRepeats, OwnRoomListed}
use Rattle.trade_line.specs.declared.fault.TradeFault.TheVariants.{OutOfMemory}
use Rattle.office_state.specs.Office.Invariants.{HomesDiffer, IsLawful}
use Rattle.office_state.specs.Office.{is_text, home_of, choices_of}
use Rattle.office_state.specs.Round.{round_people, round_rooms, round_market, round_home, round_list}
use Rattle.office_state.specs.Round.{number_in, before_own}
use Rattle.office_state.specs.declared.office.Office.{Office}
use Rattle.office_state.proofs.round_problems.Names.{number_in-below, number_in-name, number_in-at}
use Rattle.office_state.proofs.round_problems.People.{people_differ}
use Rattle.office_state.proofs.offices.Truths.{text_eq-same, then_some}

-- ---- parts of lists

module _ {X : Type 0} (R : X → X → Type 0) where
  first_apart : (x : X) (xs : List X) → AllPairs R (x ∷ xs) → All (R x) xs
  first_apart x xs apart = λ k d within. apart 0 (suc k) d (omega arith) (omega arith)

  rest_apart : (x : X) (xs : List X) → AllPairs R (x ∷ xs) → AllPairs R xs
  rest_apart x xs apart = λ i j d before within. apart (suc i) (suc j) d (omega arith) (omega arith)

before_first-cons : {X : Type 0} (p : X → Bool) (x : X) (xs : List X)
    → before_first p (x ∷ xs) ≡ cond (p x) [] (x ∷ before_first p xs)
before_first-cons p x xs = by (p x)
  where
    by : (b : Bool) → take (cond (not b) (1 + position_or_len p xs) 0) (x ∷ xs)
        ≡ cond b [] (x ∷ before_first p xs)
    by true = refl
    by false = let e : 1 + position_or_len p xs ≡ suc (position_or_len p xs) =
        omega arith in ap (λ n. take n (x ∷ xs)) e

AllPairs-before_first : {X : Type 0} (R : X → X → Type 0) (p : X → Bool) (xs : List X)
    → AllPairs R xs → AllPairs R (before_first p xs)
AllPairs-before_first R p [] apart = apart
AllPairs-before_first R p (x ∷ xs) apart =
    subst (λ ys. AllPairs R ys) (sym (before_first-cons p x xs))
    (elim (p x) as (λ b. AllPairs R (cond b [] (x ∷ before_first p xs))) [
      | true ↦ λ i j d before within. absurd (omega arith)
      | false ↦ AllPairs-cons R x (before_first p xs)
          (All-take (R x) (position_or_len p xs) xs (first_apart R x xs apart))
          (AllPairs-before_first R p xs (rest_apart R x xs apart))
    ])

fails_before_first : {X : Type 0} (p : X → Bool) (xs : List X)
    → All (λ x. p x ≡ false) (before_first p xs)
fails_before_first p [] = All-nil (λ x. p x ≡ false)
fails_before_first p (x ∷ xs) =
    subst (λ ys. All (λ y. p y ≡ false) ys) (sym (before_first-cons p x xs))
    (elim (p x) as (λ b. p x ≡ b → All (λ y. p y ≡ false) (cond b [] (x ∷ before_first p xs))) [
      | true ↦ λ e. All-nil (λ y. p y ≡ false)
      | false ↦ λ e. All-cons (λ y. p y ≡ false) x (before_first p xs) e (fails_before_first p xs)
    ] refl)

-- what holds of the numbers of all codes with P
All-filter_map : {X Y : Type 0} (f : X → Option Y) (P : X → Type 0) (Q : Y → Type 0)
    → ((x : X) (y : Y) → P x → f x ≡ Some y → Q y) → (xs : List X) → All P xs
    → All Q (filter_map f xs)
All-filter_map f P Q step [] all = All-nil Q
All-filter_map f P Q step (x ∷ xs) all =
    let rest = All-filter_map f P Q step xs (All-tail P x xs all) in
    elim (f x) as (λ o. f x ≡ o → All Q (cons_option o (filter_map f xs))) [
      | None ↦ λ e. rest
      | Some y ↦ λ e. All-cons Q y (filter_map f xs) (step x y (All-head P x xs all) e) rest
    ] refl

-- ---- lists without repeats

seen_apart : (x y : Text) (seen : List Text)
    → list_any (λ other. text_eq other y) (seen ++ x ∷ []) ≡ false
    → (list_any (λ other. text_eq other y) seen ≡ false) × (x ≢ y)
seen_apart x y [] none = (
  refl,
  λ same. cc (sym none ∙ elim (text_eq x y) as
      (λ b. text_eq x y ≡ b → (b || false) ≡ true)
      [ true ↦ λ e. refl | false ↦ λ e. cc (ap (λ t. text_eq x t) (sym same) ∙ text_eq-same x) ]
      refl),
)
seen_apart x y (z ∷ seen) none =
    elim (text_eq z y) as (λ b. (b || list_any (λ other. text_eq other y) (seen ++ x ∷ [])) ≡ false
    → ((b || list_any (λ other. text_eq other y) seen) ≡ false) × (x ≢ y)) [
      | true ↦ λ e. cc
      | false ↦ λ e. seen_apart x y seen e
    ] none

unrepeated : (seen texts : List Text) → first_repeated seen texts ≡ None
    → AllPairs ◌≢◌ texts × All (λ text. list_any (λ other. text_eq other text) seen ≡ false) texts
unrepeated seen [] none = (
  λ i j d before within. absurd (omega arith),
  All-nil
      (λ text. list_any (λ other. text_eq other text) seen ≡ false),
)
unrepeated seen (text ∷ texts) none =
    elim (list_any (λ other. text_eq other text) seen) as
    (λ b. list_any (λ other. text_eq other text) seen ≡ b
    → cond b (Some text) (first_repeated (seen ++ text ∷ []) texts) ≡ None
    → AllPairs ◌≢◌ (text ∷ texts) × All (λ t. list_any (λ other. text_eq other t) seen ≡ false)
    (text ∷ texts)) [
      | true ↦ λ here e. cc
      | false ↦ λ here e.
          let later = unrepeated (seen ++ text ∷ []) texts e in
          let parts : All (λ t. (list_any (λ other. text_eq other t) seen ≡ false) × (text ≢ t))
          texts = λ k d within. seen_apart text (get_or texts k d) seen (later.1 k d within) in (
            AllPairs-cons ◌≢◌ text texts (λ k d within. (parts k d within).1) later.0,
            All-cons (λ t. list_any (λ other. text_eq other t) seen ≡ false) text texts here
                (λ k d within. (parts k d within).0),
          )
    ] refl none

-- recorded lists have no room twice
pub codes_differ : (codes : List Text) → first_repeated [] codes ≡ None → AllPairs ◌≢◌ codes
codes_differ codes none = (unrepeated [] codes none).0

-- ---- numbers of a list

module _ (names : List Text) where
  -- two names with one number are one
  same_number : (a b : Text) (n : ℕ) → number_in names a ≡ Some n → number_in names b ≡ Some n
      → a ≡ b
  same_number a b n ha hb = sym (number_in-name names a n [] ha) ∙ number_in-name names b n [] hb

  numbers_differ : (codes : List Text) → AllPairs ◌≢◌ codes
      → AllPairs ◌≢◌ (filter_map (number_in names) codes)
  numbers_differ [] apart = λ i j d before within. absurd (omega arith)
  numbers_differ (code ∷ codes) apart =
      let rest = numbers_differ codes (rest_apart ◌≢◌ code codes apart) in
      elim (number_in names code) as
      (λ o. number_in names code ≡ o
      → AllPairs ◌≢◌ (cons_option o (filter_map (number_in names) codes))) [
        | None ↦ λ e. rest
        | Some n ↦ λ e. AllPairs-cons ◌≢◌ n (filter_map (number_in names) codes)
            (All-filter_map (number_in names) (λ other. code ≢ other) (λ m. n ≢ m)
            (λ other m differs has same. differs
            (same_number code other m (e ∙ ap (λ k. Some k) same) has)) codes
            (first_apart ◌≢◌ code codes apart))
            rest
      ] refl

anything : (codes : List Text) → All (λ _. Unit {0}) codes
anything codes = λ k d within. tt

module _ (office : Office) (person : Text) (codes : List Text) where
  pub list_known : All (λ r. r < length (round_rooms office)) (round_list office person codes)
  list_known =
      All-filter_map (number_in (round_rooms office)) (λ _. Unit {0})
      (λ r. r < length (round_rooms office))
      (λ code r here has. number_in-below (round_rooms office) code r has)
      (before_own (home_of office person) codes)
      (anything (before_own (home_of office person) codes))

  pub list_differs : AllPairs ◌≢◌ codes → AllPairs ◌≢◌ (round_list office person codes)
  list_differs apart =
      numbers_differ (round_rooms office) (before_own (home_of office person) codes)
      (AllPairs-before_first ◌≢◌ (is_text (home_of office person)) codes apart)

  pub list_lacks : (r : ℕ) → round_home office person ≡ Some r
      → All (λ x. x ≢ r) (round_list office person codes)
  list_lacks r lives =
      let own = then_some (number_in (round_rooms office)) (home_of office person) r lives in
      All-filter_map (number_in (round_rooms office))
      (λ code. is_text (home_of office person) code ≡ false) (λ x. x ≢ r)
      (λ code x other has same.
      let is : own.0 ≡ code =
      same_number (round_rooms office) own.0 code r own.2 (has ∙ ap (λ k. Some k) same) in
      cc (sym other ∙ ap (λ o. is_text o code) own.1 ∙ ap (λ t. text_eq own.0 t) (sym is)
      ∙ text_eq-same own.0))
      (before_own (home_of office person) codes)
      (fails_before_first (is_text (home_of office person)) codes)

unrepeated_choices : (office : Office) → IsLawful office → (person : Text)
    → first_repeated [] (choices_of office person) ≡ None
unrepeated_choices office lawful person =
    elim (maps.get office.choices person) as
    (λ o. maps.get office.choices person ≡ o → first_repeated [] (unwrap_or o []) ≡ None) [
      | None ↦ λ e. refl
      | Some codes ↦ λ e. (lawful.lists.chosen person codes e).1
    ] refl

-- ---- the market

module _ (office : Office) where
  pub market_people : (round_market office).people ≡ length (round_people office)
  unfolding round_market
  market_people = refl

  pub market_rooms : (round_market office).rooms ≡ length (round_rooms office)
  unfolding round_market
  market_rooms = refl

  pub market_home : (p : ℕ) → p < length (round_people office)
      → home (round_market office) p ≡ round_home office (get_or (round_people office) p [])
  unfolding round_market
  market_home p within = get_or-map (round_home office) (round_people office) p [] None within

  pub market_list : (p : ℕ) → p < length (round_people office)
      → list_of (round_market office) p
      ≡ round_list office (get_or (round_people office) p [])
      (choices_of office (get_or (round_people office) p []))
  unfolding round_market
  market_list p within =
      get_or-map (λ person. round_list office person (choices_of office person))
      (round_people office) p [] [] within

  -- one number, one home, one person
  one_person : HomesDiffer office → (p q r : ℕ) → p < length (round_people office)
      → q < length (round_people office)
      → round_home office (get_or (round_people office) p []) ≡ Some r
      → round_home office (get_or (round_people office) q []) ≡ Some r → p ≡ q
  one_person differ p q r at_p at_q lives_p lives_q =
      let one = then_some (number_in (round_rooms office))
      (home_of office (get_or (round_people office) p [])) r lives_p in
      let two = then_some (number_in (round_rooms office))
      (home_of office (get_or (round_people office) q [])) r lives_q in
      let room : two.0 ≡ one.0 = same_number (round_rooms office) two.0 one.0 r two.2 one.2 in
      let same : get_or (round_people office) p [] ≡ get_or (round_people office) q [] =
      differ (get_or (round_people office) p []) (get_or (round_people office) q []) one.0 one.1
      (two.1 ∙ ap (λ t. Some t) room) in
      let first : number_in (round_people office) (get_or (round_people office) p []) ≡ Some p =
      number_in-at (round_people office) p [] (people_differ office) at_p in
      let second : number_in (round_people office) (get_or (round_people office) q []) ≡ Some q =
      number_in-at (round_people office) q [] (people_differ office) at_q in
      cc (sym first ∙ ap (number_in (round_people office)) same ∙ second)

  market_homes : length (round_market office).homes ≡ (round_market office).people
  unfolding round_market
  market_homes = length-map (round_people office) (round_home office)

  market_lists : length (round_market office).lists ≡ (round_market office).people
  unfolding round_market
  market_lists = length-map (round_people office)
      (λ person. round_list office person (choices_of office person))

  pub market-IsMarket : HomesDiffer office
      → All (λ p. first_repeated [] (choices_of office p) ≡ None) (round_people office)
      → IsMarket (round_market office)
  market-IsMarket differ lists =
      let at : (p : ℕ) → p < (round_market office).people → p < length (round_people office) =
      λ p h. subst (λ n. p < n) market_people h in
      record {
        indexed = record {
          homes_len = market_homes;
          lists_len = market_lists;
          homes_known = λ p r h lives.
              let own = then_some (number_in (round_rooms office)) _ r
              (sym (market_home p (at p h)) ∙ lives) in
              subst (λ n. r < n) (sym market_rooms)
              (number_in-below (round_rooms office) own.0 r own.2);
          lists_known = λ p h. subst (λ xs. All (λ r. r < (round_market office).rooms) xs)
              (sym (market_list p (at p h)))
              (subst (λ n. All (λ r. r < n) (round_list office (get_or (round_people office) p [])
              (choices_of office (get_or (round_people office) p [])))) (sym market_rooms)
              (list_known office (get_or (round_people office) p [])
              (choices_of office (get_or (round_people office) p []))));
        };
        homes_differ = λ p q r hp hq ep eq. one_person differ p q r (at p hp) (at q hq)
            (sym (market_home p (at p hp)) ∙ ep) (sym (market_home q (at q hq)) ∙ eq);
        lists_strict = λ p h. subst (λ xs. AllPairs ◌≢◌ xs) (sym (market_list p (at p h)))
            (list_differs office (get_or (round_people office) p [])
            (choices_of office (get_or (round_people office) p []))
            (codes_differ (choices_of office (get_or (round_people office) p []))
            (lists p [] (at p h))));
        own_unlisted =
            λ p r h lives. subst (λ xs. All (λ x. x ≢ r) xs) (sym (market_list p (at p h)))
            (list_lacks office (get_or (round_people office) p [])
            (choices_of office (get_or (round_people office) p [])) r
            (sym (market_home p (at p h)) ∙ lives));
      }

  -- in a lawful office
  pub lawful-IsMarket : IsLawful office → IsMarket (round_market office)
  lawful-IsMarket lawful =
      market-IsMarket lawful.register.homes
      (λ k d within. unrepeated_choices office lawful (get_or (round_people office) k d))

  -- a list without repeats may be handed in by a participant
  pub fits : (person : Text) (n : ℕ) (codes : List Text)
      → number_in (round_people office) person ≡ Some n → AllPairs ◌≢◌ codes
      → IsListFor (round_market office) n (round_list office person codes)
  fits person n codes has apart =
      let within : n < length (round_people office) =
      number_in-below (round_people office) person n has in
      let name : get_or (round_people office) n [] ≡ person =
      number_in-name (round_people office) person n [] has in (
        (
          subst (λ k. n < k) (sym market_people) within,
          subst
              (λ k. All (λ r. r < k) (round_list office person codes)) (sym market_rooms)
              (list_known office person codes),
        ),
        list_differs office person codes apart,
        λ r lives. list_lacks office person codes r
            (ap (round_home office) (sym name) ∙ sym (market_home n within) ∙ lives),
      )

-- the market that the code builds is that of the round
pub market-same : (office : Office) (people_count room_count : ℕ)
    (people people_1 people_2 rooms rooms_1 : List Text) (homes : List (Option ℕ))
    (lists : List (List ℕ)) (number : Text → Option ℕ)
    → people ≡ round_people office → people_1 ≡ round_people office → people_2 ≡ round_people office
    → rooms ≡ round_rooms office → rooms_1 ≡ round_rooms office
    → people_count ≡ length people → room_count ≡ length rooms
    → ((name : Text) → number name ≡ number_in rooms_1 name)
    → homes ≡ map (λ p. option_and_then number (home_of office p)) people_1
    → lists ≡ map (λ p. filter_map number (before_own (home_of office p) (choices_of office p)))
    people_2
    → record { people = people_count; rooms = room_count; homes = homes; lists = lists }
    ≡ round_market office
unfolding round_market
market-same office people_count room_count people people_1 people_2 rooms rooms_1 homes lists number
    is_people is_people_1 is_people_2 is_rooms is_rooms_1 many_people many_rooms returned is_homes
    is_lists =
    let same : number ≡ number_in (round_rooms office) =
    λ i name. (returned name ∙ ap (λ names. number_in names name) is_rooms_1) i in
    let as_people : people_count ≡ length (round_people office) =
    many_people ∙ ap length is_people in
    let as_rooms : room_count ≡ length (round_rooms office) = many_rooms ∙ ap length is_rooms in
    let as_homes : homes ≡ map (round_home office) (round_people office) =
    is_homes ∙ (λ i. map (λ p. option_and_then (same i) (home_of office p)) (is_people_1 i)) in
    let as_lists : lists ≡ map (λ p. round_list office p (choices_of office p))
    (round_people office) =
    is_lists ∙ (λ i. map (λ p. filter_map (same i)
    (before_own (home_of office p) (choices_of office p))) (is_people_2 i)) in
    λ i. record { people = as_people i; rooms = as_rooms i; homes = as_homes i; lists = as_lists i }

-- the list that the code builds is the one that counts in the round
pub list-same : (office : Office) (person : Text) (codes codes_1 : List Text) (home_1 : Option Text)
    (number : Text → Option ℕ)
    → ((room : Text) → number room ≡ number_in (round_rooms office) room)
    → home_1 ≡ home_of office person → codes_1 ≡ codes
    → filter_map number (before_own home_1 codes_1) ≡ round_list office person codes
list-same office person codes codes_1 home_1 number returned is_home is_codes =
    let same : number ≡ number_in (round_rooms office) = λ i room. returned room i in
    λ i. filter_map (same i) (before_own (is_home i) (is_codes i))

-- ---- faults

-- the only fault of a well-formed market is out of memory
pub sole_fault : (m : Market) → IsMarket m → (fault : TradeFault) → IsFirstFault m fault
    → fault ≡ OutOfMemory
sole_fault m ok BadIndex broken = absurd (broken ok.indexed)
sole_fault m ok HomeShared broken = absurd (broken.1 ok.homes_differ)
sole_fault m ok ListRepeats broken = absurd (broken.2 ok.lists_strict)
sole_fault m ok OwnRoomListed broken = absurd (broken.3 ok.own_unlisted)
sole_fault m ok OutOfMemory broken = refl

-- and so it is for a list that may be handed in
pub sole_list_fault : (m : Market) (p : ℕ) (l : List ℕ) → IsListFor m p l → (fault : TradeFault)
    → IsFirstListFault m p l fault → fault ≡ OutOfMemory
sole_list_fault m p l ok BadIndex broken = absurd (broken ok.0)
sole_list_fault m p l ok HomeShared broken = absurd broken
sole_list_fault m p l ok ListRepeats broken = absurd (broken.1 ok.1)
sole_list_fault m p l ok OwnRoomListed broken = absurd (broken.2 ok.2)
sole_list_fault m p l ok OutOfMemory broken = refl
