use Rattle.std.proofs.Common.{inl, inr}
use Rattle.std.proofs.lemmas.Result.{err_from_is_err_and}
use Rattle.resident_requests.proofs.json.Bodies.{choices_of_items, refused_choices, some_bytes}
use Rattle.resident_requests.proofs.choices.choices_of_body.Goals as goal

pub returns-in_err-codes-clause-fault : goal.returns-in_err-codes-clause-fault
returns-in_err-codes-clause-fault c =
    let returned = c.in_ok-value.ensures.value in
    let p = err_from_is_err_and c.from_residual-in_err-codes.result c.from_residual-in_err-codes.ensures.1 in
    rw (p.1, p.2)
    (elim c.in_err-codes.ensures.fault [
      | inl memory ↦ inl (memory, some_bytes c.args.body.now _ returned)
      | inr bad ↦ inr
          (rw bad.0
          (choices_of_items c.args.body.now _ _ _ returned c.in-Some.ensures (rw c.as_slice.ensures.value at bad.1)))
    ])

pub returns-clause-fault : goal.returns-clause-fault
returns-clause-fault c =
    let returned = c.in_ok-value.ensures.value in
    let codes = rw c.as_slice.ensures.value at c.in_ok-codes.ensures.codes in
    refused_choices c.args.body.now c.in_ok-codes.codes.items c.read.result
    (choices_of_items c.args.body.now _ _ _ returned c.in-Some.ensures codes)
    (some_bytes c.args.body.now _ returned) c.read.ensures
