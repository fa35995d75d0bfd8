use Rattle.std.proofs.Common.{◌≡◌, ◌∙◌, ◌+◌, ◌++◌, ◌∷◌, [], ap, append_assoc, drop, sym}
use Rattle.std.proofs.lemmas.List.{drop_more}
use Rattle.office_core.specs.Command.Import.{changes_by, choices_command, first_denied}
use Rattle.office_core.proofs.imports.ListChecks.{choices_later, record_passed}
use Rattle.office_core.proofs.command.import.choices.each_choices_added.Goals as goal

pub loop-i-preserved : goal.loop-i-preserved
loop-i-preserved c =
    let office = c.args.office.now in
    let list = c.args.list.now in
    let i = c.loop-i.i in
    let entry = c.index-list-i.result in
    let rest = drop (i + 1) list in
    let so_far = c.loop-i.changes.items in
    let more : drop i list ≡ entry ∷ rest =
    drop_more list i entry c.loop-i-test.true ∙ ap (λ e. e ∷ rest) (sym c.index-list-i.is) in
    record {
      later = sym (ap (λ es. first_denied choices_command office (i + 1) es) more
          ∙ record_passed choices_command office (i + 1) entry rest c.in_default.ensures
          ∙ choices_later office (i + 1 + 1) entry rest) ∙ c.loop-i.invariant.later;
      changed = ap (λ changes. changes ++ changes_by choices_command rest) c.in_ok-push.ensures.items
          ∙ append_assoc so_far (c.in_ok-change.change ∷ []) (changes_by choices_command rest)
          ∙ ap (λ change. so_far ++ change ∷ changes_by choices_command rest) c.in_ok-change.ensures
          ∙ ap (λ es. so_far ++ changes_by choices_command es) (sym more)
          ∙ c.loop-i.invariant.changed;
    }
