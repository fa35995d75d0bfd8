-- Checks whose refusals name no record of a list.
use Rattle.std.proofs.Common.{◌≡◌, ◌⊎◌, ◌||◌, Bool, true, false, List, [], ◌∷◌, Some, None}
use Rattle.std.proofs.Common.{Err, cond, refl, ap, ◌∙◌, sym, inl, inr}
use Rattle.std.specs.List.{flat_map}
use Rattle.room_types.specs.Texts.{Text}
use Rattle.office_state.specs.declared.office.Office.{Office}
use Rattle.office_core.specs.Command.Decision.{IsRefusal, refusal_allocates}
use Rattle.office_core.specs.Query.Answer.{IsAnswered, reply_allocates}
use Rattle.office_core.specs.Query.Personal.{result_unless}
use Rattle.office_core.specs.Refusal.Checks.{Check, first_refusal, names_room, room_checks}
use Rattle.office_core.specs.Refusal.Checks.{names_record}
use Rattle.office_core.specs.declared.refusal.Refusal.{Refusal}
use Rattle.office_core.specs.declared.refusal.Refusal.TheVariants.{OutOfMemory}
use Rattle.office_core.specs.declared.reply.Reply.{Reply}

-- none of the refusals names a record
abbrev pub NameNoRecord : List Check → Type 0
NameNoRecord [] = Unit {0}
NameNoRecord (check ∷ others) = (names_record check.1 ≡ false) × NameNoRecord others

pub room_checks-name_no_record : (office : Office) (codes : List Text)
    → NameNoRecord (flat_map (room_checks office) codes)
room_checks-name_no_record office [] = tt
room_checks-name_no_record office (code ∷ codes) = (refl, (refl, room_checks-name_no_record office codes))

first_refusal-names_no_record : (list : List Check) (refusal : Refusal) → NameNoRecord list
    → first_refusal list ≡ Some refusal → names_record refusal ≡ false
first_refusal-names_no_record [] refusal all h = cc
first_refusal-names_no_record (check ∷ others) refusal all h =
    elim (check.0) as (λ b. cond b (Some check.1) (first_refusal others) ≡ Some refusal
    → names_record refusal ≡ false) [
      | true ↦ λ e. let same : check.1 ≡ refusal = cc in ap names_record (sym same) ∙ all.0
      | false ↦ λ e. first_refusal-names_no_record others refusal all.1 e
    ] h

one_of : (a b : Bool) → b ≡ false → (a || b) ≡ true → a ≡ true
one_of true b n h = refl
one_of false b n h = cc

-- if such checks refuse a query, its answer is the first refusal that applies, or `OutOfMemory` for the room that it
-- names
pub IsAnswered-refused : (list : List Check) (given : Reply) (refusal : Refusal) → NameNoRecord list
    → IsRefusal [] list refusal → IsAnswered (result_unless (first_refusal list) given) (Err refusal)
IsAnswered-refused list given refusal all (inl is) = inl (ap (λ o. result_unless o given) is)
IsAnswered-refused list given refusal all (inr memory) =
    elim (first_refusal list) as
    (λ o. first_refusal list ≡ o → refusal_allocates [] o ≡ true
    → (result_unless o given ≡ Err refusal)
    ⊎ ((refusal ≡ OutOfMemory) × (reply_allocates (result_unless o given) ≡ true))) [
      | None ↦ λ e. λ t. cc
      | Some first ↦ λ e. λ t.
          inr (
            memory.0,
            one_of (names_room first) (names_record first)
                (first_refusal-names_no_record list first all e) t,
          )
    ] refl memory.1
