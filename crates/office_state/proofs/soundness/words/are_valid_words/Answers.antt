use Rattle.std.proofs.Common.{sym, ap, ◌∙◌}
use Rattle.std.specs.Prelude.{eqb}
use Rattle.std.proofs.lemmas.Bool.Decides.{Decides-at}
use Rattle.std.proofs.lemmas.Bool.{both_ways}
use Rattle.office_state.proofs.sound_offices.InvariantTests.{never, as_well, empty-decides, words-sound, words-first}
use Rattle.office_state.proofs.sound_offices.InvariantTests.{words-second}
use Rattle.office_state.proofs.soundness.words.are_valid_words.Goals as goal

pub returns-then-not-has_words : goal.returns-then-not-has_words
returns-then-not-has_words c =
    let undrawn = sym c.has_words.ensures ∙ c.if-not-has_words.true in
    as_well _
    (λ none. record { none = λ _. none; each = λ drawn. absurd (both_ways _ undrawn drawn) })
    (λ l. l.none undrawn)
    (Decides-at (eqb c.len.result 0) _ (ap (λ n. eqb n 0) c.len.ensures) (empty-decides c.args.office.now.words))

pub returns-then-not-only_participants_drew : goal.returns-then-not-only_participants_drew
returns-then-not-only_participants_drew c =
    let office = c.args.office.now in
    let drawn = sym c.has_words.ensures ∙ c.if-not-has_words.false in
    never (λ l. both_ways _ (sym c.only_participants_drew.ensures ∙ c.if-not-only_participants_drew.true)
    (words-first office.people office.withdrawn office.going office.words (l.each drawn)))

pub returns : goal.returns
returns c =
    let office = c.args.office.now in
    let drawn = sym c.has_words.ensures ∙ c.if-not-has_words.false in (
      λ e. record {
        none = λ undrawn. absurd (both_ways _ undrawn drawn);
        each = λ _. words-sound office.people office.withdrawn office.going office.words
            (sym c.only_participants_drew.ensures ∙ c.if-not-only_participants_drew.false)
            (sym c.all_participants_drew.ensures ∙ e);
      },
      λ l. c.all_participants_drew.ensures ∙ words-second office.people office.withdrawn office.going office.words
          (l.each drawn),
    )
