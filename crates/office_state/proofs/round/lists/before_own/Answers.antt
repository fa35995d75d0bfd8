use Rattle.std.proofs.Common.{◌≡◌, sym, ◌∙◌, rules}
use Rattle.std.specs.Prelude.{position}
use Rattle.std.specs.Option.{option_copied}
use Rattle.std.proofs.lemmas.Iterator.{YieldsList-from_slice}
use Rattle.std.proofs.lemmas.Iterator.Search.{position_from_yields_List}
use Rattle.office_state.specs.Office.{is_text}
use Rattle.office_state.proofs.round_problems.Names.{before_first-Some, before_first-None}
use Rattle.office_state.proofs.round.lists.before_own.Goals as goal

pub returns-in-Some : goal.returns-in-Some
returns-in-Some c =
    let own = is_text (option_copied c.args.home) in
    let at : c.position.result ≡ position own c.args.codes.now =
    position_from_yields_List own _ _ c.position.result c.position.ensures.ran
    (YieldsList-from_slice c.args.codes.now cc) (λ x b q k. search rules) in
    sym (before_first-Some own c.args.codes.now c.in-Some.place (sym at ∙ c.in-Some.is))

pub returns-in-None : goal.returns-in-None
returns-in-None c =
    let own = is_text (option_copied c.args.home) in
    let at : c.position.result ≡ position own c.args.codes.now =
    position_from_yields_List own _ _ c.position.result c.position.ensures.ran
    (YieldsList-from_slice c.args.codes.now cc) (λ x b q k. search rules) in
    sym (before_first-None own c.args.codes.now (sym at ∙ c.in-None.is))
