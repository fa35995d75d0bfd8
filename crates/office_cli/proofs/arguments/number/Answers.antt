use Rattle.std.proofs.Common.{◌∙◌, sym, arith, Some, None}
use Rattle.std.specs.Str.Parse.{ParsesUnsigned, ExplainsUnsignedError, HasUnsignedDigitsIfOk}
use Rattle.clap.specs.Words.{found_of}
use Rattle.office_cli.proofs.program_words.Numbers.{kept_in, kept_above, kept_below, number_given}
use Rattle.office_cli.proofs.arguments.number.Goals as goal

pub returns-then-n-least-clause-given : goal.returns-then-n-least-clause-given
returns-then-n-least-clause-given c =
    let given =
    number_given (λ bs r. ParsesUnsigned 32 10 bs r × ExplainsUnsignedError 10 bs r × HasUnsignedDigitsIfOk bs r)
    (λ u x g. g.0) c.args.least c.args.most (omega arith) (found_of c.args.entries.now) c.args.id.now
    (Some c.in-Some.n) c.in-Some.ensures.none c.in-Some.ensures.value in
    sym (kept_below c.args.least c.args.most c.in-Some.n (omega arith)) ∙ given

pub returns-then-n-most-clause-given : goal.returns-then-n-most-clause-given
returns-then-n-most-clause-given c =
    let given =
    number_given (λ bs r. ParsesUnsigned 32 10 bs r × ExplainsUnsignedError 10 bs r × HasUnsignedDigitsIfOk bs r)
    (λ u x g. g.0) c.args.least c.args.most (omega arith) (found_of c.args.entries.now) c.args.id.now
    (Some c.in-Some.n) c.in-Some.ensures.none c.in-Some.ensures.value in
    sym (kept_above c.args.least c.args.most c.in-Some.n (omega arith)) ∙ given

pub returns-else-n-most-clause-given : goal.returns-else-n-most-clause-given
returns-else-n-most-clause-given c =
    let given =
    number_given (λ bs r. ParsesUnsigned 32 10 bs r × ExplainsUnsignedError 10 bs r × HasUnsignedDigitsIfOk bs r)
    (λ u x g. g.0) c.args.least c.args.most (omega arith) (found_of c.args.entries.now) c.args.id.now
    (Some c.in-Some.n) c.in-Some.ensures.none c.in-Some.ensures.value in
    sym (kept_in c.args.least c.args.most c.in-Some.n (omega arith) (omega arith)) ∙ given

pub returns-in-None-clause-given : goal.returns-in-None-clause-given
returns-in-None-clause-given c =
    number_given (λ bs r. ParsesUnsigned 32 10 bs r × ExplainsUnsignedError 10 bs r × HasUnsignedDigitsIfOk bs r)
    (λ u x g. g.0) c.args.least c.args.most (omega arith) (found_of c.args.entries.now) c.args.id.now None
    c.in-None.ensures.none c.in-None.ensures.value
