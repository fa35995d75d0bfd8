use Rattle.std.proofs.Common.{rules, ◌≡◌, ◌∙◌, ℕ, ◌<◌, ◌≤◌, ◌^◌, pos, Option, Some, ap, ap₂, arith, to_z-of_z, w64}
use Rattle.std.proofs.lemmas.Bool.Decides.{nat_tests}
use Rattle.std.specs.Int.{int_max, int_min}
use Rattle.std.specs.Range.{range_inclusive_end, range_inclusive_start}
use Rattle.clap.specs.Words.{Rule, rule_of, signed_between}
use Rattle.clap.specs.declared.builder.value_parser.ValueParser.{ValueParser}
use Rattle.clap.specs.declared.builder.value_parser.ValueParser.TheVariants as parser
use Rattle.office_cli.proofs.usage.number.Goals as goal

-- the parser's own lower bound does not narrow the given one
from_least : (least : ℕ) → int_max (pos 0) (pos least) ≡ pos least
from_least least = grind (arith, nat_tests)

up_to_most : (all most : ℕ) → most ≤ all → int_min (pos all) (pos most) ≡ pos most
up_to_most all most within = grind (arith, nat_tests)

between : (least most : ℕ) → least < 2 ^ 32 → signed_between (pos least) (pos most) ≡ parser.Signed
    (pos least) (pos most)
between least most fits = grind (arith, nat_tests)

pub returns-clause-rule : goal.returns-clause-rule
returns-clause-rule c =
    let least = c.args.least in
    let most = c.args.most in
    let numbers = c.new-numbers.result in
    let low : range_inclusive_start numbers ≡ pos least =
    c.new-numbers.ensures.start ∙ to_z-of_z {w = w64} (search rules) ∙ c.from.ensures in
    let high : range_inclusive_end numbers ≡ pos most = c.new-numbers.ensures.end ∙ to_z-of_z {w = w64} (search rules)
    ∙ c.from-2.ensures in
    let narrow = rw (c.value_parser.ensures, low, high) at c.range.ensures in
    let bounds = ap₂ signed_between (from_least least) (up_to_most 4294967295 most (omega arith))
    ∙ between least most (omega arith) in
    let parser : c.value_parser-2.result.value_parser ≡ Some (parser.Signed (pos least) (pos most)) =
    c.value_parser-2.ensures.given.1
    ∙ ap (λ (p : ValueParser). Some p) (c.value_parser-2.ensures.given.2 ∙ narrow ∙ bounds) in
    ap rule_of c.value_parser-2.ensures.others
    ∙ ap₂ (λ (rule : Rule) (p : Option ValueParser). record rule { parser = p }) c.option.ensures.rule parser
