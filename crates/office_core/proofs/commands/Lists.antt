-- The commands about people's lists preserve the invariants. A repeated withdrawal or departure changes nothing.
use Rattle.std.proofs.Common.{Bool, List, None, Option, Some, [], ap, arith, cond, false, inl, inr, refl, sym, true}
use Rattle.std.proofs.Common.{◌∙◌, ◌∷◌, ◌≡◌}
use Rattle.std.proofs.lemmas.Bool.{not-false}
use Rattle.std.specs.Option.{is_some}
use Rattle.std.specs.Ordering.{eq_by_cmp}
use Rattle.std.specs.Cmp.Lexicographic.{nat_list_cmp_total}
use Rattle.std.specs.FinMap.{get-insert, same_map}
use Rattle.std.specs.FinMap as map
use Rattle.room_types.specs.Choices.{IsChoices}
use Rattle.room_types.specs.Texts.{Text, TextMap, text_cmp}
use Rattle.room_types.proofs.maps.TextMaps.{exact_texts, text_cases}
use Rattle.office_state.specs.Change.{LeadsTo}
use Rattle.office_state.specs.Office.Invariants.{IsLawful}
use Rattle.office_state.specs.declared.office.Office.{Office}
use Rattle.office_state.specs.Office.{has_withdrawn, is_going}
use Rattle.office_state.specs.declared.change.Change.TheVariants.{PutBytes, PutChoices, PutGoing, PutWithdrawn}
use Rattle.office_state.proofs.round_phases.Untouched.{open_busy, open_preparing, prepared}
use Rattle.office_state.proofs.offices.ChoiceLists.{list_put, withdrawn_put}
use Rattle.office_state.proofs.offices.Leavers.{leaver_put, leaver_withdrawn}
use Rattle.office_state.proofs.offices.Details.{with_bytes-lawful}
use Rattle.office_core.specs.Command.Lists.{blanked}
use Rattle.office_core.specs.Command.{checks, next}
use Rattle.office_core.specs.declared.command.Command.TheVariants as command
use Rattle.office_core.proofs.refusals.Checks.{known_all, none_applies}
use Rattle.office_core.proofs.commands.CarriedOut.{IsCarriedOut, one_change}
use Rattle.office_core.proofs.commands.Frames.{prepared-lawful}

pub set_choices-leads : (office : Office) (person : Text) (choices : List Text) → IsChoices choices
    → IsCarriedOut office (command.SetChoices person choices)
set_choices-leads office person choices formed l h =
    let (in_phase, (known, (_, (_, codes)))) = none_applies (checks office (command.SetChoices person choices)) h in
    let busy = open_busy office.phase (not-false _ in_phase) in
    one_change office (PutChoices person choices) l (not-false _ known)
    (prepared-lawful office (next office (command.SetChoices person choices)) l
    (prepared office.phase (open_preparing office.phase (not-false _ in_phase))) refl
    (record {
      grades = l.grades;
      leavers = l.leavers;
      register = l.register;
      lists = list_put office.rooms office.people office.choices office.withdrawn l.lists person
          choices (not-false _ known) (known_all office choices codes) formed;
      round = record {
        few_rounds = l.round.few_rounds;
        numbered = l.round.numbered;
        idle_choices = λ e. absurd (cc);
        idle_withdrawn = λ e. absurd (cc);
      };
    }))

the_unit : (o : Option (Unit {0})) → is_some o ≡ true → o ≡ Some tt
the_unit None h = cc
the_unit (Some u) h = refl

same_at : (m : TextMap (Unit {0})) (q k : Text) → eq_by_cmp text_cmp q k ≡ true
    → map.get m q ≡ map.get m k
same_at m q k ties = elim (text_cases q k) as (λ _. map.get m q ≡ map.get m k) [
  | inl same ↦ ap (λ p. map.get m p) same
  | inr other ↦ cc
]

-- inserting a key that a set contains does not change it
pub put_again : (m : TextMap (Unit {0})) (k : Text) → map.contains_key m k ≡ true
    → map.insert m k tt ≡ m
put_again m k known = same_map nat_list_cmp_total exact_texts (map.insert m k tt) m (λ q.
    get-insert nat_list_cmp_total m k tt q
    ∙ elim (eq_by_cmp text_cmp q k) as
    (λ b. eq_by_cmp text_cmp q k ≡ b → cond b (Some tt) (map.get m q) ≡ map.get m q) [
      | true ↦ λ ties. sym (the_unit (map.get m q) (ap is_some (same_at m q k ties) ∙ known))
      | false ↦ λ _. refl
    ] refl)

withdraw-leads_by : (office : Office) (person : Text) (b : Bool) → has_withdrawn office person ≡ b
    → IsLawful office → IsLawful (next office (command.Withdraw person)) → map.contains_key office.people person ≡ true
    → LeadsTo office (next office (command.Withdraw person)) (cond b [] (PutWithdrawn person ∷ []))
withdraw-leads_by office person true again l lawful known =
    record {
      leads = ap (λ m. record office { withdrawn = m })
          (sym (put_again office.withdrawn person again));
      apart =
          l.register.homes;
      fits = tt;
      lawful = lawful;
    }
withdraw-leads_by office person false first l lawful known = one_change office (PutWithdrawn person) l known lawful

pub withdraw-leads : (office : Office) (person : Text) → IsCarriedOut office (command.Withdraw person)
withdraw-leads office person l h =
    let (in_phase, (is_known, (stays, _))) = none_applies (checks office (command.Withdraw person)) h in
    let busy = open_busy office.phase (not-false _ in_phase) in
    let known = not-false _ is_known in
    let new : Office = next office (command.Withdraw person) in
    let lawful = prepared-lawful office new l (prepared office.phase
    (open_preparing office.phase (not-false _ in_phase))) refl (record {
      grades = l.grades;
      leavers = leaver_withdrawn office.phase office.people office.withdrawn office.going l.leavers
          person stays;
      register = l.register;
      lists = withdrawn_put office.rooms office.people office.choices office.withdrawn l.lists
          person known;
      round = record {
        few_rounds = l.round.few_rounds;
        numbered = l.round.numbered;
        idle_choices = λ e. absurd (cc);
        idle_withdrawn = λ e. absurd (cc);
      };
    }) in
    withdraw-leads_by office person (has_withdrawn office person) refl l lawful known

going-leads_by : (office : Office) (person : Text) (b : Bool) → is_going office person ≡ b
    → IsLawful office → IsLawful (next office (command.Going person)) → map.contains_key office.people person ≡ true
    → LeadsTo office (next office (command.Going person)) (cond b [] (PutGoing person ∷ []))
going-leads_by office person true again l lawful known =
    record {
      leads = ap (λ m. record office { going = m }) (sym (put_again office.going person again));
      apart = l.register.homes;
      fits = tt;
      lawful = lawful;
    }
going-leads_by office person false first l lawful known =
    one_change office (PutGoing person) l (known, first) lawful

pub going-leads : (office : Office) (person : Text) → IsCarriedOut office (command.Going person)
going-leads office person l h =
    let (in_phase, (is_known, (takes_part, _))) = none_applies (checks office (command.Going person)) h in
    let busy = open_busy office.phase (not-false _ in_phase) in
    let known = not-false _ is_known in
    let new : Office = next office (command.Going person) in
    let lawful = prepared-lawful office new l (prepared office.phase
    (open_preparing office.phase (not-false _ in_phase))) refl (record {
      register = l.register;
      lists = l.lists;
      round = l.round;
      grades = l.grades;
      leavers = leaver_put office.phase office.people office.withdrawn office.going l.leavers person
          busy known takes_part;
    }) in
    going-leads_by office person (is_going office person) refl l lawful known

pub blank-leads : (office : Office) (label : Text) → IsCarriedOut office (command.Blank label)
blank-leads office label l h =
    one_change office (PutBytes label blanked) l tt (with_bytes-lawful office label blanked l (omega arith))
