-- Recording moves inverts `rows_of_moves`.
use Rattle.std.proofs.Common.{◌≡◌, ℕ, Bool, true, false, List, [], ◌∷◌, ◌++◌, map, Option, Some, None, cond, refl, sym}
use Rattle.std.proofs.Common.{ap, ◌∙◌, subst, T, ◌&&◌, append-nil, IsPermutation}
use Rattle.std.specs.Prelude.{unwrap_or, reverse}
use Rattle.std.specs.Option.{is_some}
use Rattle.std.specs.declared.cmp.Ordering.TheVariants.{Less, Equal, Greater}
use Rattle.std.specs.Ordering.{eq_by_cmp, is_eq, nat_cmp}
use Rattle.std.specs.Cmp.{eq_by_cmp_equiv, nat_cmp_total, tied_itself}
use Rattle.std.specs.Cmp.Lexicographic.{nat_list_cmp_total}
use Rattle.std.specs.List.{AllByRecursion, IsDistinct, flat_map}
use Rattle.std.specs.FinMap as maps
use Rattle.std.specs.FinMap.{nat_cmp-IsAntisymmetric, find, put, entries_sorted, entries-insert, get-entries, get-empty}
use Rattle.std.specs.FinMap.{get-insert, same_map}
use Rattle.std.specs.FinMap.Entries.{below_all, by_order, is_sorted}
use Rattle.std.proofs.lemmas.List.Sorted.{IsPermutation-refl, IsPermutation-sym, IsPermutation-trans}
use Rattle.std.proofs.lemmas.List.Sorted.{IsPermutation-middle, IsPermutation-append_left, IsPermutation-append_right}
use Rattle.std.proofs.lemmas.List.Sorted.{IsPermutation-map, IsPermutation-reverse}
use Rattle.std.proofs.lemmas.Map.Keys.{IsDistinct-IsPermutation, IsDistinct-head, IsDistinct-tail}
use Rattle.std.proofs.lemmas.Option.{same_Some}
use Rattle.std.proofs.lemmas.Bool.{and_right}
use Rattle.sqlite_trees.specs.Tree.{IsAscending}
use Rattle.sqlite_trees.proofs.ListLemmas.{IsPermutation-flat_map}
use Rattle.sqlite_keyed.proofs.ListLemmas.{all_weaker, all-append, all-flat_map, ascending-append, all_map, all_unmap}
use Rattle.room_types.specs.Texts.{Text, TextMap, text_cmp}
use Rattle.room_types.proofs.maps.TextMaps.{exact_texts, get-put_same, get-put_other, less_from_test}
use Rattle.room_types.specs.declared.moves.Move.{Move}
use Rattle.room_types.proofs.maps.Trees.{entries-empty}
use Rattle.office_state.specs.Office.Moves.{RoundMap, moves_of, with_move}
use Rattle.office_state.specs.declared.office.moves.Moved.{Moved}
use Rattle.office_state.specs.declared.office.moves.RoundMoves.{RoundMoves}
use Rattle.office_state.proofs.offices.Moves.{kept_moves}
use Rattle.room_types.proofs.maps.Entries.{at_keys, at_entries, below_less, insert-new, permuted_all, none_below}
use Rattle.room_types.proofs.maps.Entries.{same_finds}
use Rattle.room_types.proofs.maps.TextMaps.{first_holds, second_holds}
use Rattle.room_types.proofs.options.Options.{none_if_not_some}
use Rattle.office_schema.specs.rows.Rows.{row_of_move, round_rows, rows_of_moves, AreStorableMoves}
use Rattle.office_schema.specs.rows.Inner.Recorded.{recorded_moves}
use Rattle.office_schema.specs.rows.Reads.{Reads}

abbrev Moves : Type 0
Moves = RoundMap RoundMoves

abbrev rest_of : Move → Moved
rest_of row = record { from = row.from; to = row.to; wave = row.wave }

abbrev with_row : TextMap Moved → Move → RoundMoves
with_row recorded row = record { by_person = maps.insert recorded row.person (rest_of row) }

-- A round that is recorded already gets one more row.
put-known : (k : ℕ) (v old : RoundMoves) (row : Move) (es : List (ℕ × RoundMoves)) → T (is_sorted nat_cmp es)
    → find nat_cmp k es ≡ Some old
    → IsPermutation (row ∷ round_rows (k, old)) (round_rows (k, v)) → IsPermutation (row ∷ flat_map round_rows es)
    (flat_map round_rows (put nat_cmp k v es))
put-known k v old row [] s f h = absurd (cc)
put-known k v old row (e ∷ es) s f h =
    elim (nat_cmp k e.0) as (λ c. nat_cmp k e.0 ≡ c → cond (is_eq c) (Some e.1) (find nat_cmp k es) ≡ Some old
    → IsPermutation (row ∷ (round_rows e ++ flat_map round_rows es))
    (flat_map round_rows (by_order c ((k, v) ∷ e ∷ es) ((e.0, v) ∷ es) (e ∷ put nat_cmp k v es)))) [
      | Less ↦ λ c m. let none = none_below nat_cmp k es (below_less nat_cmp_total k e.0 es c (first_holds _ _ s)) in
          absurd (cc)
      | Equal ↦ λ c m.
          let same : k ≡ e.0 = nat_cmp-IsAntisymmetric k e.0 c in
          let value : old ≡ e.1 = cc in
          let here : IsPermutation (row ∷ round_rows (e.0, e.1)) (round_rows (e.0, v)) =
          subst (λ q. IsPermutation (row ∷ round_rows (q, e.1)) (round_rows (q, v))) same
          (subst (λ w. IsPermutation (row ∷ round_rows (k, w)) (round_rows (k, v))) value h) in
          IsPermutation-append_left (flat_map round_rows es) _ _ here
      | Greater ↦ λ c m.
          IsPermutation-trans _ _ _
          (IsPermutation-sym _ _ (IsPermutation-middle (round_rows e) row (flat_map round_rows es)))
          (IsPermutation-append_right (round_rows e) _ _ (put-known k v old row es (second_holds _ _ s) m h))
    ] refl f

module _ (moves : Moves) (row : Move) (new : maps.contains_key (moves_of moves row.round) row.person ≡ false) where
  one_more : (recorded : TextMap Moved) → maps.get recorded row.person ≡ None → IsPermutation
      (row ∷ map (row_of_move row.round) (maps.entries recorded)) (round_rows (row.round, with_row recorded row))
  one_more recorded none =
      IsPermutation-map (row_of_move row.round) _ _
      (insert-new nat_list_cmp_total exact_texts recorded row.person (rest_of row) none)

  pub rows_more : IsPermutation (row ∷ rows_of_moves moves) (rows_of_moves (with_move moves row))
  rows_more =
      elim (maps.get moves row.round) as
      (λ o. maps.get moves row.round ≡ o → maps.contains_key (kept_moves o) row.person ≡ false
      → IsPermutation (row ∷ rows_of_moves moves)
      (rows_of_moves (maps.insert moves row.round (with_row (kept_moves o) row)))) [
        | None ↦ λ none fresh.
            let v : RoundMoves = with_row maps.empty row in
            let head : IsPermutation (row ∷ []) (round_rows (row.round, v)) =
            subst (λ es. IsPermutation (row ∷ map (row_of_move row.round) es) (round_rows (row.round, v)))
            (entries-empty {X = Moved} nat_list_cmp_total)
            (one_more maps.empty (none_if_not_some (maps.get (maps.empty {R = text_cmp}) row.person) fresh)) in
            IsPermutation-trans _ _ _ (IsPermutation-append_left (rows_of_moves moves) _ _ head)
            (IsPermutation-flat_map round_rows _ _
            (insert-new nat_cmp_total nat_cmp-IsAntisymmetric moves row.round v none))
        | Some recorded ↦ λ some fresh.
            let v : RoundMoves = with_row recorded.by_person row in
            subst (λ es. IsPermutation (row ∷ rows_of_moves moves) (flat_map round_rows es))
            (sym (entries-insert nat_cmp_total moves row.round v))
            (put-known row.round v recorded row (maps.entries moves) (entries_sorted moves)
            (sym (get-entries moves row.round) ∙ some)
            (one_more recorded.by_person (none_if_not_some (maps.get recorded.by_person row.person) fresh)))
      ] refl new

  pub recorded_more : AreStorableMoves moves → AreStorableMoves (with_move moves row)
  recorded_more before = record {
    none_empty = λ round recorded f none.
        let v : RoundMoves = with_row (moves_of moves row.round) row in
        elim (eq_by_cmp nat_cmp round row.round) as (λ b. cond b (Some v) (maps.get moves round) ≡ Some recorded → ⊥) [
          | true ↦ λ g.
              let is : v ≡ recorded = ap (λ (o : Option RoundMoves). unwrap_or o v) g in
              let there = get-put_same (moves_of moves row.round) row.person (rest_of row) in
              let nothing : maps.get (maps.insert (moves_of moves row.round) row.person (rest_of row))
              row.person ≡ None =
              ap (λ (k : RoundMoves). maps.get k.by_person row.person) is ∙ ap (λ m. maps.get m row.person) none
              ∙ get-empty text_cmp row.person in
              cc
          | false ↦ λ g. before.none_empty round recorded g none
        ] (sym (get-insert nat_cmp_total moves row.round v round) ∙ f);
  }

recorded_moves-has : (rows : List Move) (m final : Moves) → AreStorableMoves m → recorded_moves m rows ≡ Some final
    → AreStorableMoves final × IsPermutation (rows_of_moves m ++ rows) (rows_of_moves final)
recorded_moves-has [] m final sound e =
    let same = same_Some m final e in (
      subst (λ q. AreStorableMoves q) same sound,
      subst (λ q. IsPermutation (rows_of_moves m ++ []) (rows_of_moves q)) same
          (subst (λ l. IsPermutation l (rows_of_moves m)) (sym (append-nil (rows_of_moves m)))
          (IsPermutation-refl (rows_of_moves m))),
    )
recorded_moves-has (row ∷ rows) m final sound e =
    elim (maps.contains_key (moves_of m row.round) row.person) as
    (λ b. maps.contains_key (moves_of m row.round) row.person ≡ b
    → cond b None (recorded_moves (with_move m row) rows) ≡ Some final → AreStorableMoves final
    × IsPermutation (rows_of_moves m ++ row ∷ rows) (rows_of_moves final)) [
      | true ↦ λ t h. absurd (cc)
      | false ↦ λ t h.
          let rest = recorded_moves-has rows (with_move m row) final (recorded_more m row t sound) h in (
            rest.0,
            IsPermutation-trans _ _ _ (IsPermutation-middle (rows_of_moves m) row rows)
                (IsPermutation-trans _ _ _ (IsPermutation-append_left rows _ _ (rows_more m row t)) rest.1),
          )
    ] refl e

-- ---- nobody moves twice in a round

abbrev is_same_move : Move → Move → Bool
is_same_move a b = eq_by_cmp nat_cmp a.round b.round && eq_by_cmp text_cmp a.person b.person

turned : (a b : Move) → is_same_move a b ≡ is_same_move b a
turned a b =
    λ i. (eq_by_cmp_equiv nat_cmp_total).symm a.round b.round i && (eq_by_cmp_equiv nat_list_cmp_total).symm
    a.person b.person i

abbrev Apart : Move → Move → Type 0
Apart a b = is_same_move a b ≡ false

distinct_from : (rows : List Move) → IsAscending Apart rows → IsDistinct is_same_move rows
unfolding IsDistinct
distinct_from [] up = tt
distinct_from (r ∷ rows) up = (up.0, distinct_from rows up.1)

round_apart : (k : ℕ) (e : Text × Moved) (es : List (Text × Moved)) → T (below_all text_cmp e.0 es)
    → AllByRecursion (Apart (row_of_move k e)) (map (row_of_move k) es)
round_apart k e [] b = tt
round_apart k e (f ∷ es) b = (
  and_right (eq_by_cmp nat_cmp k k) (eq_by_cmp text_cmp e.0 f.0) (ap is_eq (less_from_test _ (first_holds _ _ b))),
  round_apart k e es (second_holds _ _ b),
)

round_up : (k : ℕ) (es : List (Text × Moved)) → T (is_sorted text_cmp es) → IsAscending Apart (map (row_of_move k) es)
round_up k [] s = tt
round_up k (e ∷ es) s = (round_apart k e es (first_holds _ _ s), round_up k es (second_holds _ _ s))

of_round : (k : ℕ) (es : List (Text × Moved)) → AllByRecursion (λ r. r.round ≡ k) (map (row_of_move k) es)
of_round k [] = tt
of_round k (e ∷ es) = (refl, of_round k es)

later_rounds : (k : ℕ) (es : List (ℕ × RoundMoves)) → T (below_all nat_cmp k es)
    → AllByRecursion (λ r. nat_cmp k r.round ≡ Less) (flat_map round_rows es)
later_rounds k [] b = tt
later_rounds k (e ∷ es) b =
    all-append (λ (r : Move). nat_cmp k r.round ≡ Less) (round_rows e) (flat_map round_rows es)
    (all_weaker (λ (r : Move). r.round ≡ e.0) (λ (r : Move). nat_cmp k r.round ≡ Less)
    (λ r same. ap (nat_cmp k) same ∙ less_from_test _ (first_holds _ _ b)) (round_rows e)
    (of_round e.0 (maps.entries e.1.by_person)))
    (later_rounds k es (second_holds _ _ b))

all_up : (es : List (ℕ × RoundMoves)) → T (is_sorted nat_cmp es) → IsAscending Apart (flat_map round_rows es)
all_up [] s = tt
all_up (e ∷ es) s =
    ascending-append Apart (round_rows e) (flat_map round_rows es)
    (round_up e.0 (maps.entries e.1.by_person) (entries_sorted e.1.by_person)) (all_up es (second_holds _ _ s))
    (all_weaker (λ (r : Move). r.round ≡ e.0) (λ r. AllByRecursion (Apart r) (flat_map round_rows es))
    (λ r same. all_weaker (λ (t : Move). nat_cmp e.0 t.round ≡ Less) (Apart r)
    (λ t h. ap (λ o. is_eq o && eq_by_cmp text_cmp r.person t.person) (ap (λ k. nat_cmp k t.round) same ∙ h))
    (flat_map round_rows es) (later_rounds e.0 es (first_holds _ _ s)))
    (round_rows e) (of_round e.0 (maps.entries e.1.by_person)))

moves_distinct : (m : Moves) (rows : List Move) → IsPermutation (rows_of_moves m) rows → IsDistinct is_same_move rows
moves_distinct m rows same =
    IsDistinct-IsPermutation is_same_move turned (rows_of_moves m) rows same
    (distinct_from (rows_of_moves m) (all_up (maps.entries m) (entries_sorted m)))

abbrev IsNew : Moves → Move → Type 0
IsNew m r = maps.contains_key (moves_of m r.round) r.person ≡ false

new_after : (m : Moves) (row r : Move) → Apart row r → IsNew m r → IsNew (with_move m row) r
new_after m row r apart h =
    let v : RoundMoves = with_row (moves_of m row.round) row in
    ap (λ o. maps.contains_key (kept_moves o) r.person) (get-insert nat_cmp_total m row.round v r.round)
    ∙ elim (nat_cmp r.round row.round) as
    (λ c. nat_cmp r.round row.round ≡ c
    → maps.contains_key (kept_moves (cond (is_eq c) (Some v) (maps.get m r.round))) r.person ≡ false) [
      | Less ↦ λ c. h
      | Equal ↦ λ c.
          let round : r.round ≡ row.round = nat_cmp-IsAntisymmetric r.round row.round c in
          let tied : eq_by_cmp nat_cmp row.round r.round ≡ true = ap (λ k. eq_by_cmp nat_cmp row.round k) round
          ∙ ap is_eq (tied_itself nat_cmp_total row.round) in
          let other : eq_by_cmp text_cmp row.person r.person ≡ false =
          ap (λ b. b && eq_by_cmp text_cmp row.person r.person) (sym tied) ∙ apart in
          ap is_some
          (get-put_other (moves_of m row.round) row.person (rest_of row) r.person
          ((eq_by_cmp_equiv nat_list_cmp_total).symm r.person row.person ∙ other))
          ∙ ap (λ k. maps.contains_key (moves_of m k) r.person) (sym round) ∙ h
      | Greater ↦ λ c. h
    ] refl

still_new : (m : Moves) (row : Move) (rows : List Move) → AllByRecursion (Apart row) rows
    → AllByRecursion (IsNew m) rows → AllByRecursion (IsNew (with_move m row)) rows
still_new m row [] apart h = tt
still_new m row (r ∷ rows) apart h = (new_after m row r apart.0 h.0, still_new m row rows apart.1 h.1)

recorded_moves-all : (rows : List Move) (m : Moves) → IsDistinct is_same_move rows → AllByRecursion (IsNew m) rows
    → recorded_moves m rows ≡ None → ⊥
recorded_moves-all [] m d h n = cc
recorded_moves-all (row ∷ rows) m d h n =
    recorded_moves-all rows (with_move m row) (IsDistinct-tail is_same_move row rows d)
    (still_new m row rows (IsDistinct-head is_same_move row rows d) h.1)
    (ap (λ b. cond b None (recorded_moves (with_move m row) rows)) (sym h.0) ∙ n)

all_new : (rows : List Move) → AllByRecursion (IsNew maps.empty) rows
all_new [] = tt
all_new (r ∷ rows) = (
  ap (λ o. maps.contains_key (kept_moves o) r.person) (get-empty {X = RoundMoves} nat_cmp r.round)
      ∙ ap is_some (get-empty {X = Moved} text_cmp r.person),
  all_new rows,
)

-- ---- rows determine the moves

abbrev IsIn : Moves → Move → Type 0
IsIn m r = maps.get (moves_of m r.round) r.person ≡ Some (rest_of r)

all_in : (m : Moves) → AllByRecursion (IsIn m) (rows_of_moves m)
all_in m =
    all-flat_map (IsIn m) round_rows (maps.entries m)
    (at_entries nat_cmp_total nat_cmp-IsAntisymmetric
    (λ round recorded. AllByRecursion (IsIn m) (round_rows (round, recorded))) m (λ round recorded f.
    all_map (IsIn m) (row_of_move round) (maps.entries recorded.by_person)
    (at_entries nat_list_cmp_total exact_texts (λ p moved. IsIn m (row_of_move round (p, moved))) recorded.by_person
    (λ p moved g. ap (λ o. maps.get (kept_moves o) p) f ∙ g))))

split_all : {A : Type 0} (P : A → Type 0) (xs ys : List A) → AllByRecursion P (xs ++ ys) → AllByRecursion P xs
    × AllByRecursion P ys
split_all P [] ys h = (tt, h)
split_all P (x ∷ xs) ys h = let rest = split_all P xs ys h.1 in ((h.0, rest.0), rest.1)

all_apart : {A B : Type 0} (P : B → Type 0) (f : A → List B) (xs : List A) → AllByRecursion P (flat_map f xs)
    → AllByRecursion (λ x. AllByRecursion P (f x)) xs
all_apart P f [] h = tt
all_apart P f (x ∷ xs) h = let parts = split_all P (f x) (flat_map f xs) h in (parts.0, all_apart P f xs parts.1)

-- What holds for each row holds for each move.
at_moves : (P : Move → Type 0) (m : Moves) → AllByRecursion P (rows_of_moves m) → (round : ℕ) (p : Text) (moved : Moved)
    → maps.get (moves_of m round) p ≡ Some moved → P (row_of_move round (p, moved))
at_moves P m h round p moved f =
    elim (maps.get m round) as (λ o. maps.get m round ≡ o → maps.get (kept_moves o) p ≡ Some moved
    → P (row_of_move round (p, moved))) [
      | None ↦ λ none g. let nothing = get-empty {X = Moved} text_cmp p in absurd (cc)
      | Some recorded ↦ λ some g.
          at_keys nat_list_cmp_total exact_texts (λ q v. P (row_of_move round (q, v))) recorded.by_person
          (all_unmap P (row_of_move round) (maps.entries recorded.by_person)
          (at_keys nat_cmp_total nat_cmp-IsAntisymmetric (λ r k. AllByRecursion P (round_rows (r, k))) m
          (all_apart P round_rows (maps.entries m) h) round recorded some)) p moved g
    ] refl f

pub one_moves : (m n : Moves) → AreStorableMoves m → AreStorableMoves n → IsPermutation (rows_of_moves m)
    (rows_of_moves n) → m ≡ n
one_moves m n sound_m sound_n same =
    let alike : (round : ℕ) → moves_of m round ≡ moves_of n round = λ round.
    same_finds nat_list_cmp_total exact_texts (moves_of m round) (moves_of n round)
    (at_moves (IsIn m) n (permuted_all (IsIn m) (rows_of_moves m) (rows_of_moves n) same (all_in m)) round)
    (at_moves (IsIn n) m
    (permuted_all (IsIn n) (rows_of_moves n) (rows_of_moves m) (IsPermutation-sym _ _ same) (all_in n)) round) in
    same_map nat_cmp_total nat_cmp-IsAntisymmetric m n (λ round.
    rounds (maps.get m round) (maps.get n round) (λ k f. sound_m.none_empty round k f)
    (λ k f. sound_n.none_empty round k f) (alike round))
  where
    rounds : (a b : Option RoundMoves) → ((k : RoundMoves) → a ≡ Some k → k.by_person ≡ maps.empty → ⊥)
        → ((k : RoundMoves) → b ≡ Some k → k.by_person ≡ maps.empty → ⊥) → kept_moves a ≡ kept_moves b → a ≡ b
    rounds None None f g e = refl
    rounds None (Some k) f g e = absurd (g k refl (sym e))
    rounds (Some k) None f g e = absurd (f k refl e)
    rounds (Some k) (Some l) f g e = λ i. Some (record { by_person = e i })

nothing_recorded : AreStorableMoves maps.empty
nothing_recorded = record {
  none_empty = λ round recorded f. let none = get-empty {X = RoundMoves} nat_cmp round in
      absurd (cc);
}

no_rows : rows_of_moves maps.empty ≡ []
no_rows = ap (flat_map round_rows) (entries-empty nat_cmp_total)

recorded_moves-rows : (rows moved : List Move) → IsPermutation rows moved → (found : Option Moves)
    → recorded_moves maps.empty moved ≡ found → Reads AreStorableMoves rows_of_moves rows found
recorded_moves-rows rows moved same None e = record {
  returned = tt;
  only = λ m sound has. absurd
      (recorded_moves-all moved maps.empty (moves_distinct m moved (IsPermutation-trans _ _ _ has same))
      (all_new moved) e);
}
recorded_moves-rows rows moved same (Some final) e =
    let has = recorded_moves-has moved maps.empty final nothing_recorded e in
    let returned : IsPermutation (rows_of_moves final) rows =
    IsPermutation-sym _ _
    (IsPermutation-trans _ _ _ same
    (subst (λ l. IsPermutation (l ++ moved) (rows_of_moves final)) no_rows has.1)) in
    record {
      returned = (has.0, returned);
      only = λ m sound these. ap (λ q. Some q)
          (one_moves final m has.0 sound (IsPermutation-trans _ _ _ returned (IsPermutation-sym _ _ these)));
    }

pub recorded_moves-reads : (rows : List Move) → Reads AreStorableMoves rows_of_moves rows
    (recorded_moves maps.empty (reverse rows))
recorded_moves-reads rows =
    recorded_moves-rows rows (reverse rows) (IsPermutation-reverse rows) (recorded_moves maps.empty (reverse rows)) refl
