-- The moves of all rounds, after one more move.
use Rattle.std.proofs.Common.{◌≡◌, ℕ, [], Option, Some, None, true, false, IsSome}
use Rattle.std.proofs.Common.{cond, refl, ap, ◌∙◌, sym, subst}
use Rattle.std.specs.Prelude.{unwrap_or}
use Rattle.std.specs.declared.cmp.Ordering.TheVariants.{Less, Equal, Greater}
use Rattle.std.specs.Ordering.{nat_cmp, is_eq}
use Rattle.std.specs.Cmp.{nat_cmp_total}
use Rattle.std.specs.BTreeMap as tree
use Rattle.std.specs.BTreeMap.{BTreeMap}
use Rattle.std.specs.Option.{option_map, is_some}
use Rattle.std.specs.Cmp.Lexicographic.{nat_list_cmp_total}
use Rattle.std.specs.FinMap as map
use Rattle.std.specs.FinMap.{from_entries, get-empty, get-insert, same_map, nat_cmp-IsAntisymmetric}
use Rattle.room_types.specs.Texts.{Text, TextMap, text_cmp}
use Rattle.room_types.specs.declared.moves.Move.{Move}
use Rattle.office_state.specs.Office.Moves.{RoundMap, moves_of, with_move}
use Rattle.office_state.specs.declared.office.moves.Moved.{Moved}
use Rattle.office_state.specs.declared.office.moves.RoundMoves.{RoundMoves}
use Rattle.room_types.proofs.maps.Trees.{entries-empty, get-tree, insert-tree}

-- the recorded moves of a round
abbrev pub kept_moves : Option RoundMoves → TextMap Moved
kept_moves kept = unwrap_or (option_map (λ (k : RoundMoves). k.by_person) kept) map.empty

pub no_moves : (moves : RoundMap RoundMoves) (round : ℕ) → map.get moves round ≡ None
    → map.entries (moves_of moves round) ≡ []
no_moves moves round none =
    ap (λ o. map.entries (kept_moves o)) none ∙ entries-empty nat_list_cmp_total

-- inserting the value that is there already changes nothing
put_again : {X : Type 0} (m : RoundMap X) (k : ℕ) (v : X) → map.get m k ≡ Some v
    → map.insert m k v ≡ m
put_again m k v there = same_map nat_cmp_total nat_cmp-IsAntisymmetric (map.insert m k v) m (λ q.
    get-insert nat_cmp_total m k v q
    ∙ elim (nat_cmp q k) as (λ o. nat_cmp q k ≡ o
    → cond (is_eq o) (Some v) (map.get m q) ≡ map.get m q) [
      | Less ↦ λ _. refl
      | Equal ↦ λ ties. sym (ap (λ p. map.get m p) (nat_cmp-IsAntisymmetric q k ties) ∙ there)
      | Greater ↦ λ _. refl
    ] refl)

module _ (m n : BTreeMap ℕ RoundMoves) (round : ℕ) (old : RoundMoves)
    (found : Some old ≡ tree.get_by (nat_cmp round) m) (new : TextMap Moved)
    (writes : IsSome (tree.get_by (nat_cmp round) m)
    → tree.UpdatesBy nat_cmp (nat_cmp round) m n (Some (record { by_person = new }))) where
  round_is_there : map.get (from_entries {R = nat_cmp} m.entries) round ≡ Some old
  round_is_there = get-tree nat_cmp_total m round ∙ sym found

  written : from_entries {R = nat_cmp} n.entries
      ≡ map.insert (from_entries m.entries) round (record { by_person = new })
  written = insert-tree nat_cmp_total nat_cmp-IsAntisymmetric m n round (record { by_person = new })
      (writes (subst (λ o. IsSome o) found refl)).0

  -- the moves of a known round, with one more
  pub move-written : (move : Move) → move.round ≡ round
      → new ≡ map.insert old.by_person move.person
      (record { from = move.from; to = move.to; wave = move.wave })
      → from_entries {R = nat_cmp} n.entries ≡ with_move (from_entries m.entries) move
  move-written move same more =
      written
      ∙ ap (λ moves. map.insert (from_entries m.entries) round (record { by_person = moves }))
      (more ∙ ap (λ kept. map.insert (kept_moves kept) move.person
      (record { from = move.from; to = move.to; wave = move.wave })) (sym round_is_there))
      ∙ ap (λ r. map.insert (from_entries m.entries) r
      (record {
        by_person = map.insert (moves_of (from_entries m.entries) r) move.person
            (record { from = move.from; to = move.to; wave = move.wave });
      })) (sym same)

  -- the same moves again
  pub move-unwritten : new ≡ old.by_person
      → from_entries {R = nat_cmp} n.entries ≡ from_entries m.entries
  move-unwritten same =
      written ∙ ap (λ moves. map.insert (from_entries m.entries) round
      (record { by_person = moves })) same ∙ put_again (from_entries m.entries) round old round_is_there

-- the first move of a round
pub move-begun : (moves : RoundMap RoundMoves) (move : Move) → map.get moves move.round ≡ None
    → map.insert moves move.round (record {
      by_person = map.insert map.empty move.person
          (record { from = move.from; to = move.to; wave = move.wave });
    }) ≡ with_move moves move
move-begun moves move none =
    ap (λ kept. map.insert moves move.round
    (record {
      by_person = map.insert (kept_moves kept) move.person
          (record { from = move.from; to = move.to; wave = move.wave });
    })) (sym none)

-- nobody has a move of a round that has none
pub no_moves_known : (moves : RoundMap RoundMoves) (round : ℕ) (p : Text)
    → (map.contains_key moves round ≡ true → ⊥) → map.contains_key (moves_of moves round) p ≡ false
no_moves_known moves round p none =
    elim (map.get moves round) as (λ o. map.get moves round ≡ o
    → is_some (map.get (kept_moves o) p) ≡ false) [
      | None ↦ λ _. ap is_some (get-empty text_cmp p)
      | Some kept ↦ λ known. absurd (none (ap is_some known))
    ] refl
