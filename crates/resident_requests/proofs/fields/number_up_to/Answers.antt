use Rattle.std.proofs.Common.{◌<◌, ◌+◌, ◌*◌, ◌∙◌, length, take, min, arith, ap}
use Rattle.resident_requests.specs.Fields.{number_of}
use Rattle.resident_requests.proofs.http_requests.Fields.{number_of-more, digit_at}
use Rattle.resident_requests.proofs.fields.number_up_to.Goals as goal

pub loop-b-preserved : goal.loop-b-preserved
loop-b-preserved c =
    let lt : c.loop-b.b-index < length c.args.text.now = omega arith in
    let digit = digit_at c.args.text.now c.loop-b.b-index c.requires lt in
    let more = number_of-more c.args.text.now c.loop-b.b-index c.from-most.result lt digit in
    let limit = c.from-most.result in
    c.min-number.ensures ∙ ap (λ n. min (n * 10 + c.from.result) limit) c.loop-b.invariant
    ∙ ap (λ d. min (min (number_of (take c.loop-b.b-index c.args.text.now)) limit * 10 + d) limit) c.from.ensures ∙ more
