-- The empty office is lawful.
use Rattle.std.proofs.Common.{◌≡◌, ◌≤◌, true, false, Option, Some, None, [], refl, ap, ◌∙◌, sym}
use Rattle.std.proofs.Common.{subst, arith}
use Rattle.std.specs.Prelude.{unwrap_or}
use Rattle.std.specs.Option.{option_and_then, option_map, is_some}
use Rattle.std.specs.Ordering.{nat_cmp}
use Rattle.std.specs.FinMap as map
use Rattle.std.specs.FinMap.{get-empty, len-empty}
use Rattle.room_types.specs.Texts.{Text, TextMap, text_cmp}
use Rattle.room_types.specs.declared.phase.Phase.{Phase}
use Rattle.room_types.specs.declared.phase.Phase.TheVariants.{Idle}
use Rattle.room_types.proofs.options.Options.{none_some}
use Rattle.office_state.specs.Office.Invariants.{IsLawful, AreValidGrades, AreValidLeavers, AreValidLists}
use Rattle.office_state.specs.Office.{empty_office, had_by}
use Rattle.office_state.specs.declared.office.moves.RoundMoves.{RoundMoves}
use Rattle.office_state.specs.declared.office.person.Person.{Person}

nothing_had : (which : Person → Option Text) (p : Text)
    → had_by which (map.empty {R = text_cmp}) p ≡ None
nothing_had which p = ap (option_and_then which) (get-empty text_cmp p)

pub none_known : {A : Type 0} (o : Option A) → o ≡ None → is_some o ≡ true → ⊥
none_known o n s = let none : is_some o ≡ false = ap is_some n in cc

-- no lists and withdrawals
pub no_lists : (rooms : TextMap _) (people : TextMap Person)
    → AreValidLists rooms people map.empty map.empty
no_lists rooms people = record {
  choosers = λ p h. absurd (none_known _ (get-empty text_cmp p) h);
  listed = λ p codes e. absurd (none_some _ codes (get-empty text_cmp p) e);
  none_empty = λ p e. none_some _ [] (get-empty text_cmp p) e;
  chosen = λ p codes e. absurd (none_some _ codes (get-empty text_cmp p) e);
  withdrawers = λ p h. absurd (none_known _ (get-empty text_cmp p) h);
}

-- no grades
pub no_grades : (people : TextMap Person) → AreValidGrades people map.empty
no_grades people = record {
  graded = λ p h. absurd (none_known _ (get-empty text_cmp p) h);
  none_zero = λ p e. none_some _ 0 (get-empty text_cmp p) e;
}

-- nobody leaves the college
pub no_leavers : (phase : Phase) (people : TextMap Person) (withdrawn : TextMap (Unit {0}))
    → AreValidLeavers phase people withdrawn map.empty
no_leavers phase people withdrawn = record {
  leavers = λ p h. absurd (none_known _ (get-empty text_cmp p) h);
  apart = λ p h. absurd (none_known _ (get-empty text_cmp p) h);
  idle_going = λ _. refl;
}

pub empty_lawful : IsLawful empty_office
empty_lawful = record {
  register = record {
    keys = λ p q key hp hq. absurd (none_some _ key (nothing_had (λ v. Some v.key) p) hp);
    homes = λ p q room hp hq. absurd (none_some _ room (nothing_had (λ v. v.home) p) hp);
    homes_open = λ p room h. absurd (none_some _ room (nothing_had (λ v. v.home) p) h);
    few_rooms = subst (λ n. n ≤ 2000) (sym (len-empty text_cmp _)) (omega arith);
    few_people = subst (λ n. n ≤ 2000) (sym (len-empty text_cmp _)) (omega arith);
  };
  lists = no_lists map.empty map.empty;
  round = record {
    few_rounds = omega arith;
    numbered = λ e. absurd (cc);
    idle_choices = λ _. refl;
    idle_withdrawn = λ _. refl;
  };
  kept = record {
    few = subst (λ n. n ≤ 200) (sym (len-empty text_cmp _)) (omega arith);
    short = λ label kept e. absurd (none_some _ kept (get-empty text_cmp label) e);
    counted = λ label kept e. absurd (none_some _ kept (get-empty text_cmp label) e);
  };
  grades = no_grades map.empty;
  leavers = no_leavers Idle map.empty map.empty;
  words = record { none = λ _. refl; each = λ e. absurd (cc) };
  results = record { none = λ _. refl; given = λ e. absurd (cc) };
  moves = record {
    over = λ round h. absurd (none_known _ (get-empty nat_cmp round) h);
    none_empty = λ round kept e. absurd (none_some _ kept (get-empty nat_cmp round) e);
    arrived = λ round p moved e. absurd
        (none_some _ moved (ap (λ (o : Option RoundMoves). map.get
        (unwrap_or (option_map (λ (kept : RoundMoves). kept.by_person) o) map.empty) p)
        (get-empty nat_cmp round) ∙ get-empty text_cmp p) e);
  };
}
