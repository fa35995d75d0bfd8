-- What the tests of an office of an earlier version show.
use Rattle.std.proofs.Common.{◌≡◌, ◌≢◌, ℕ, Bool, true, false, Some, None, IsSome, refl, ap, ◌∙◌}
use Rattle.std.specs.Bool.{Decides}
use Rattle.std.specs.Cmp.{nat_cmp_total}
use Rattle.std.specs.Cmp.Lexicographic.{nat_list_cmp_total}
use Rattle.std.specs.FinMap as map
use Rattle.std.specs.FinMap.{get-empty, nat_cmp-IsAntisymmetric}
use Rattle.std.specs.List.{list_all}
use Rattle.std.specs.Option.{is_some}
use Rattle.room_types.specs.Texts.{Text, TextMap, text_cmp}
use Rattle.room_types.specs.declared.kinds.ListKind.{ListKind}
use Rattle.room_types.specs.declared.kinds.ListKind.TheVariants.{Rooms, People, Choices, Grades}
use Rattle.room_types.proofs.maps.Entries.{all_keys, keys_all}
use Rattle.room_types.proofs.maps.TextMaps.{exact_texts}
use Rattle.office_state.specs.Office.Moves.{RoundMap, moves_of}
use Rattle.office_state.specs.declared.office.stored_import.StoredImport.{StoredImport}
use Rattle.office_state.specs.declared.office.moves.Moved.{Moved}
use Rattle.office_state.specs.declared.office.moves.RoundMoves.{RoundMoves}
use Rattle.office_state.proofs.offices.Moves.{kept_moves}
use Rattle.office_migration.specs.Versions.{do_all_arrive, is_not_grades}

abbrev is_other : ListKind → Bool
is_other kind = elim kind [ Rooms ↦ true | People ↦ true | Choices ↦ true | Grades ↦ false ]

other_kind : (kind : ListKind) → is_other kind ≡ true → kind ≢ Grades
other_kind Rooms e is = cc
other_kind People e is = cc
other_kind Choices e is = cc
other_kind Grades e is = cc

kind_other : (kind : ListKind) → kind ≢ Grades → is_other kind ≡ true
kind_other Rooms h = refl
kind_other People h = refl
kind_other Choices h = refl
kind_other Grades h = absurd (h refl)

-- No imported list is one of grades.
pub kinds-decide : (lists : TextMap StoredImport)
    → Decides (list_all (λ (e : Text × StoredImport). is_not_grades e.1) (map.entries lists))
    ((label : Text) (kept : StoredImport) → map.get lists label ≡ Some kept → kept.kind ≢ Grades)
kinds-decide lists = (
  λ e label kept f. other_kind kept.kind
      (all_keys nat_list_cmp_total exact_texts (λ k v. is_not_grades v) lists e label kept f),
  λ h. keys_all nat_list_cmp_total exact_texts (λ k v. is_not_grades v) lists
      (λ label kept f. kind_other kept.kind (h label kept f)),
)

nowhere : (p : Text) (moved : Moved) → map.get (map.empty {R = text_cmp}) p ≡ Some moved → ⊥
nowhere p moved e = let none = get-empty {X = Moved} text_cmp p in cc

-- Each move goes into a room.
pub arrived-decide : (moves : RoundMap RoundMoves)
    → Decides (list_all (λ (e : ℕ × RoundMoves). do_all_arrive e.1) (map.entries moves))
    ((round : ℕ) (p : Text) (moved : Moved) → map.get (moves_of moves round) p ≡ Some moved → IsSome moved.to)
arrived-decide moves = (
  λ e round p moved. elim (map.get moves round) as (λ o. map.get moves round ≡ o → map.get (kept_moves o) p ≡ Some moved
      → IsSome moved.to) [
        | None ↦ λ none f. absurd (nowhere p moved f)
        | Some kept ↦ λ some f.
            let all = all_keys nat_cmp_total nat_cmp-IsAntisymmetric (λ k v. do_all_arrive v) moves e round kept some in
            all_keys nat_list_cmp_total exact_texts (λ k v. is_some v.to) kept.by_person all p moved f
      ] refl,
  λ h. keys_all nat_cmp_total nat_cmp-IsAntisymmetric (λ k v. do_all_arrive v) moves (λ round kept f.
      keys_all nat_list_cmp_total exact_texts (λ k v. is_some v.to) kept.by_person
      (λ p moved m. h round p moved (ap (λ o. map.get (kept_moves o) p) f ∙ m))),
)
