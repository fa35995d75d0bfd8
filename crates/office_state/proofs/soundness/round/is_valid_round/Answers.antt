use Rattle.std.proofs.Common.{sym, ap, ◌∙◌, arith}
use Rattle.std.specs.Prelude.{eqb}
use Rattle.std.specs.FinMap as map
use Rattle.std.specs.FinMap.{len-empty, empty_of_len}
use Rattle.std.proofs.lemmas.Bool.Decides.{Decides-at}
use Rattle.std.proofs.lemmas.Bool.{both_ways}
use Rattle.room_types.specs.Texts.{text_cmp}
use Rattle.office_state.proofs.sound_offices.InvariantTests.{never, as_well, empty-decides}
use Rattle.office_state.proofs.soundness.round.is_valid_round.Goals as goal

pub returns-then-len-ne0 : goal.returns-then-len-ne0
returns-then-len-ne0 c =
    never (λ r. c.if-len-ne0.true
    (c.len.ensures ∙ ap (λ m. map.len m) (r.idle_choices (sym c.is_idle.ensures ∙ c.if-not-is_idle.false))
    ∙ len-empty text_cmp _))

pub returns : goal.returns
returns c =
    let office = c.args.office.now in
    as_well _
    (λ none. record {
      few_rounds = omega (arith, c.if-office-gt-ROUND_LIMIT.false);
      numbered = λ busy. absurd (both_ways _ busy (sym c.is_idle.ensures ∙ c.if-not-is_idle.false));
      idle_choices = λ _. empty_of_len office.choices (sym c.len.ensures ∙ c.if-len-ne0.false);
      idle_withdrawn = λ _. none;
    })
    (λ r. r.idle_withdrawn (sym c.is_idle.ensures ∙ c.if-not-is_idle.false))
    (Decides-at (eqb c.len-2.result 0) _ (ap (λ n. eqb n 0) c.len-2.ensures) (empty-decides office.withdrawn))
