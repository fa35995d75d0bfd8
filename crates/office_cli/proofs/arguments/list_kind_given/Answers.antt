use Rattle.std.proofs.Common.{◌∙◌, Option, ap}
use Rattle.std.specs.Prelude.{option_and_then}
use Rattle.room_types.specs.Texts.{Text}
use Rattle.office_cli.specs.Programs.{list_kind_named}
use Rattle.office_cli.proofs.program_words.Kinds.{kind_is}
use Rattle.office_cli.proofs.arguments.list_kind_given.Goals as goal

pub returns : goal.returns
returns c =
    kind_is c.in_ok-text.field-0.now c.named.result c.named.ensures
    ∙ ap (λ (name : Option Text). option_and_then list_kind_named name) c.in_ok-text.ensures
