-- What follows if no check refuses.
use Rattle.std.proofs.Common.{◌≡◌, Bool, true, false, not, List, [], ◌∷◌, ◌++◌, Option, Some, None}
use Rattle.std.proofs.Common.{cond, refl, ap, ◌∙◌, sym}
use Rattle.std.specs.Option.{is_some, unwrap_or}
use Rattle.std.specs.List.{flat_map, All}
use Rattle.std.proofs.lemmas.Bool.{not-false}
use Rattle.std.proofs.lemmas.List.Elements.{All-nil, All-cons}
use Rattle.std.specs.FinMap as map
use Rattle.room_types.specs.Texts.{Text}
use Rattle.room_types.proofs.options.Options.{none_if_not_some}
use Rattle.office_state.specs.Office.{knows_room, tenant}
use Rattle.office_state.specs.declared.office.Office.{Office}
use Rattle.office_core.specs.Refusal.Checks.{Check, first_refusal, room_checks, home_checks}
use Rattle.office_core.specs.Refusal.Checks.{home_checks_if_any}

-- no check of the list applies
abbrev pub NoneApplies : List Check → Type 0
NoneApplies [] = Unit {0}
NoneApplies (check ∷ others) = (check.0 ≡ false) × NoneApplies others

pub none_applies : (list : List Check) → first_refusal list ≡ None → NoneApplies list
none_applies [] h = tt
none_applies (check ∷ others) h =
    elim (check.0) as (λ b. cond b (Some check.1) (first_refusal others) ≡ None
    → (b ≡ false) × NoneApplies others) [
      | true ↦ λ e. cc
      | false ↦ λ e. (refl, none_applies others e)
    ] h

-- a room that passes its checks is recorded as not shut
open_room : (o : Option Bool) → not (is_some o) ≡ false → unwrap_or o false ≡ false → o ≡ Some false
open_room None known unshut = cc
open_room (Some shut) known unshut = ap (λ b. Some b) unshut

-- a room that passes the checks of a home is not shut and has no tenant
pub may_live : (office : Office) (room : Text) → NoneApplies (home_checks office room)
    → (map.get office.rooms room ≡ Some false) × (tenant office room ≡ None)
may_live office room n =
    let (known, (unshut, (free, _))) = n in
    (open_room (map.get office.rooms room) known unshut, none_if_not_some (tenant office room) free)

-- the same for an optional home, with other checks after its own
pub may_have_home : (office : Office) (home : Option Text) (others : List Check)
    → NoneApplies (home_checks_if_any office home ++ others)
    → ((room : Text) → home ≡ Some room
    → (map.get office.rooms room ≡ Some false) × (tenant office room ≡ None))
    × NoneApplies others
may_have_home office None others n = ((λ room e. cc), n)
may_have_home office (Some home) others n =
    let (known, (unshut, (free, rest))) = n in
    let may = may_live office home (known, (unshut, (free, tt))) in (
      (λ room e.
          let same : home ≡ room = cc in (
            ap (λ r. map.get office.rooms r) (sym same) ∙ may.0,
            ap (λ r. tenant office r) (sym same)
                ∙ may.1,
          )),
      rest,
    )

pub known_all : (office : Office) (codes : List Text)
    → NoneApplies (flat_map (room_checks office) codes)
    → All (λ code. knows_room office code ≡ true) codes
known_all office [] n = All-nil (λ c. knows_room office c ≡ true)
known_all office (code ∷ codes) n =
    let (known, (_, rest)) = n in
    All-cons (λ c. knows_room office c ≡ true) code codes (not-false (knows_room office code) known)
    (known_all office codes rest)
