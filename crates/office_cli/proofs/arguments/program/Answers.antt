use Rattle.std.proofs.Common.{◌≡◌, ◌∙◌, ◌<◌, ℕ, List, [], map, length, sym, ap, subst, Bor, Option}
use Rattle.clap.specs.Words.{App, HasKind, Kinds, fault_of, found_of, is_simple_and_free, rows_of, subcommand_of}
use Rattle.clap.specs.Simple.{is_simple}
use Rattle.office_cli.specs.Usage.{usage}
use Rattle.office_lines.specs.parse.Understanding.{UnderstandsAs}
use Rattle.office_cli.specs.Programs.{Line, line_of}
use Rattle.office_cli.proofs.program_words.Parsed.{entered_is, fault_returned, line_entered, some_words, usage_is_free}
use Rattle.office_cli.proofs.program_words.Parsed.{usage_is_simple}
use Rattle.office_cli.proofs.arguments.program.Goals as goal

pub returns-in-Some-clause-understands : goal.returns-in-Some-clause-understands
returns-in-Some-clause-understands c =
    let is = c.in_ok-command.ensures in
    let words = map (λ (w : Bor (List ℕ)). w.now) c.args.words.now in
    let some : 0 < length words = some_words c.args.words.now (sym c.is_empty.ensures ∙ c.if-is_empty.false) in
    let taken : fault_of usage words ≡ [] =
    sym (ap (λ (a : App). fault_of a words) is)
    ∙ c.in-Ok.ensures.kinds (ap is_simple_and_free is ∙ usage_is_free) in
    let met = (c.in-Ok.ensures.matches (ap is_simple is ∙ usage_is_simple)).1
    ∙ ap (λ (a : App). subcommand_of a words) is in
    let rows = rows_of (found_of c.in-Some.entries.now) in
    let entered = entered_is c.in-Ok.matches c.in-Some.name.now rows c.in-Some.ensures.name c.in-Some.ensures.rows in
    subst (λ (o : Option Line). UnderstandsAs line_of o c.entered_line.result)
    (sym (line_entered words c.in-Some.name.now rows some taken (sym met ∙ entered))) c.entered_line.ensures

pub returns-clause-understands : goal.returns-clause-understands
returns-clause-understands c =
    let is = c.in_ok-command.ensures in
    let words = map (λ (w : Bor (List ℕ)). w.now) c.args.words.now in
    let some : 0 < length words = some_words c.args.words.now (sym c.is_empty.ensures ∙ c.if-is_empty.false) in
    let kinds = c.in-Err.ensures.kinds (ap is_simple_and_free is ∙ usage_is_free) in
    let written = subst (λ (ks : Kinds). HasKind ks c.in-Err.error) (ap (λ (a : App). fault_of a words) is) kinds in
    fault_returned words c.in-Err.error c.fault_of.result some written c.fault_of.ensures.misread
