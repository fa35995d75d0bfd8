-- The round depends on the rooms, the people's homes, the lists, the grades, the withdrawals, the words and the leavers
-- alone.
use Rattle.std.proofs.Common.{◌≡◌, Bool, true, false, cond, not, ◌&&◌, ◌||◌, List, [], ◌∷◌, length}
use Rattle.std.proofs.Common.{Option, Some, None, map, refl, ap, ◌∙◌, sym, subst, T}
use Rattle.std.specs.Prelude.{filter_map, slice_get}
use Rattle.std.specs.Option.{option_map, option_and_then, unwrap_or}
use Rattle.std.specs.Ordering.{eq_by_cmp, is_lt}
use Rattle.std.specs.Cmp.Lexicographic.{nat_list_cmp_total}
use Rattle.std.specs.List.{filter, list_any, before_first}
use Rattle.std.specs.FinMap as maps
use Rattle.std.specs.FinMap.{entries_sorted, find, get-entries, is_sorted}
use Rattle.std.specs.FinMap.Entries.{below_all, same_entries}
use Rattle.room_types.specs.Texts.{Text, text_cmp}
use Rattle.room_types.proofs.maps.TextMaps.{exact_texts}
use Rattle.draw_order.specs.Draw.{drawn_order}
use Rattle.trade_line.specs.TopTradingCycles.{gets}
use Rattle.office_state.specs.Office.{home_of, has_withdrawn, is_text, participants}
use Rattle.office_state.specs.Round.{is_kept_back, number_in, tickets_of}
use Rattle.office_state.specs.Round.{round_people, round_rooms, round_market}
use Rattle.office_state.specs.Round.{result_of, round_results}
use Rattle.office_state.specs.Round.Laws.{recorded_home, HaveSameEntries, HaveSameRound}
use Rattle.office_state.specs.declared.office.Office.{Office}
use Rattle.office_state.specs.declared.office.person.Person.{Person}

-- the people's homes, by identifier
abbrev homes_in : List (Text × Person) → List (Text × Option Text)
homes_in [] = []
homes_in (e ∷ es) = (e.0, e.1.home) ∷ homes_in es

abbrev homes_of : Office → List (Text × Option Text)
homes_of office = homes_in (maps.entries office.people)

find_home : (es : List (Text × Person)) (q : Text)
    → find text_cmp q (homes_in es) ≡ option_map (λ p. p.home) (find text_cmp q es)
find_home [] q = refl
find_home (e ∷ es) q =
    elim (eq_by_cmp text_cmp q e.0) as
    (λ b. cond b (Some e.1.home) (find text_cmp q (homes_in es))
    ≡ option_map (λ p. p.home) (cond b (Some e.1) (find text_cmp q es)))
    [ true ↦ refl | false ↦ find_home es q ]

as_low : (x : Text) (es : List (Text × Person))
    → below_all text_cmp x (homes_in es) ≡ below_all text_cmp x es
as_low x [] = refl
as_low x (e ∷ es) = ap (λ b. is_lt (text_cmp x e.0) && b) (as_low x es)

as_sorted : (es : List (Text × Person)) → is_sorted text_cmp (homes_in es) ≡ is_sorted text_cmp es
as_sorted [] = refl
as_sorted (e ∷ es) = λ i. as_low e.0 es i && as_sorted es i

homes_sorted : (office : Office) → T (is_sorted text_cmp (homes_of office))
homes_sorted office =
    subst T (sym (as_sorted (maps.entries office.people))) (entries_sorted office.people)

homes_found : (office : Office) (q : Text)
    → find text_cmp q (homes_of office) ≡ recorded_home office q
homes_found office q =
    find_home (maps.entries office.people) q
    ∙ ap (option_map (λ p. p.home)) (sym (get-entries office.people q))

-- who is chosen by identifier alone can be read from the homes
filtered : (stays : Text → Bool) (es : List (Text × Person))
    → map (λ e. e.0) (filter (λ e. stays e.0) es)
    ≡ map (λ e. e.0) (filter (λ e. stays e.0) (homes_in es))
filtered stays [] = refl
filtered stays (e ∷ es) =
    elim (stays e.0) as
    (λ b. map (λ x. x.0) (cond b (e ∷ filter (λ x. stays x.0) es) (filter (λ x. stays x.0) es))
    ≡ map (λ x. x.0) (cond b ((e.0, e.1.home) ∷ filter (λ x. stays x.0) (homes_in es))
    (filter (λ x. stays x.0) (homes_in es))))
    [ true ↦ ap (λ (people : List Text). e.0 ∷ people) (filtered stays es) | false ↦ filtered stays es ]

lived_in : (test : Text → Bool) (room : Text) (es : List (Text × Person))
    → list_any (λ e. test e.0 && is_text e.1.home room) es
    ≡ list_any (λ e. test e.0 && is_text e.1 room) (homes_in es)
lived_in test room [] = refl
lived_in test room (e ∷ es) =
    ap (λ b. (test e.0 && is_text e.1.home room) || b) (lived_in test room es)

home_in : (kept : Option Person)
    → option_and_then (λ p. p.home) kept
    ≡ option_and_then (λ home. home) (option_map (λ p. p.home) kept)
home_in None = refl
home_in (Some kept) = refl

module _ (one other : Office) (same : HaveSameEntries one other) where
  homes_same : homes_of one ≡ homes_of other
  homes_same =
      same_entries text_cmp nat_list_cmp_total exact_texts (homes_of one) (homes_of other)
      (homes_sorted one) (homes_sorted other)
      (λ q. homes_found one q ∙ same.homes q ∙ sym (homes_found other q))

  home_same : (person : Text) → home_of one person ≡ home_of other person
  home_same person =
      home_in (maps.get one.people person)
      ∙ ap (option_and_then (λ home. home)) (same.homes person)
      ∙ sym (home_in (maps.get other.people person))

  participants_same : participants one ≡ participants other
  participants_same =
      filtered (λ p. not (maps.contains_key one.withdrawn p || maps.contains_key one.going p))
      (maps.entries one.people)
      ∙ (λ i. map (λ e. e.0) (filter (λ e. not (maps.contains_key (same.withdrawn i) e.0
      || maps.contains_key (same.going i) e.0)) (homes_same i)))
      ∙ sym (filtered (λ p. not (maps.contains_key other.withdrawn p
      || maps.contains_key other.going p)) (maps.entries other.people))

  kept_back_same : (room : Text) → is_kept_back one room ≡ is_kept_back other room
  kept_back_same room =
      lived_in (has_withdrawn one) room (maps.entries one.people)
      ∙ (λ i. list_any (λ e. maps.contains_key (same.withdrawn i) e.0 && is_text e.1 room)
      (homes_same i))
      ∙ sym (lived_in (has_withdrawn other) room (maps.entries other.people))

  tickets_same : tickets_of one ≡ tickets_of other
  tickets_same = λ i. map (λ person. (
    person,
    unwrap_or (maps.get (same.grades i) person) 0,
    unwrap_or (maps.get (same.words i) person) 0,
  )) (participants_same i)

  people_same : round_people one ≡ round_people other
  unfolding round_people
  people_same = ap drawn_order tickets_same

  rooms_same : round_rooms one ≡ round_rooms other
  unfolding round_rooms
  rooms_same = λ i. map (λ e. e.0)
      (filter (λ e. not e.1 && not (kept_back_same e.0 i)) (maps.entries (same.rooms i)))

  market_same : round_market one ≡ round_market other
  unfolding round_market
  market_same = λ i. record {
    people = length (people_same i);
    rooms = length (rooms_same i);
    homes =
        map (λ person. option_and_then (number_in (rooms_same i)) (home_same person i))
        (people_same i);
    lists =
        map (λ person. filter_map (number_in (rooms_same i))
        (before_first (is_text (home_same person i))
        (unwrap_or (maps.get (same.choices i) person) []))) (people_same i);
  }

  results_same : round_results one ≡ round_results other
  unfolding result_of round_results
  results_same = λ i. maps.from_entries (map (λ person. (
    person,
    record {
      room = option_and_then
          (λ number. option_and_then (slice_get (rooms_same i)) (gets (market_same i) number))
          (number_in (people_same i) person);
    },
  )) (participants_same i))

pub same_entries_same_round : (one other : Office) → HaveSameEntries one other → HaveSameRound one other
same_entries_same_round one other same = record {
  people = people_same one other same;
  rooms = rooms_same one other same;
  market = market_same one other same;
  results = results_same one other same;
}
