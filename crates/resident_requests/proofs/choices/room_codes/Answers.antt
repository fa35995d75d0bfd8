use Rattle.std.proofs.Common.{◌<◌, length, arith, inl, inr}
use Rattle.std.proofs.lemmas.Result.{err_from_is_err_and}
use Rattle.resident_requests.proofs.json.CodeLists.{code_list_step, code_list_stopped, code_list_finished}
use Rattle.resident_requests.proofs.choices.room_codes.Goals as goal

pub loop-item-preserved : goal.loop-item-preserved
loop-item-preserved c =
    let lt : c.loop-item.item-index < length c.args.items.now = omega arith in
    rw c.in_ok-push_code.ensures
    (code_list_step c.args.items.now c.loop-item.item-index c.item-item.result c.loop-item.codes.items
    c.in_ok-code.code _ lt c.item-item.is c.in_ok-code.ensures.code c.loop-item.invariant)

pub returns-in_err-code-clause-fault : goal.returns-in_err-code-clause-fault
returns-in_err-code-clause-fault c =
    let lt : c.loop-item.item-index < length c.args.items.now = omega arith in
    let p = err_from_is_err_and c.from_residual.result c.from_residual.ensures.1 in
    rw (p.1, p.2)
    (elim c.in_err-code.ensures.fault [
      | inl memory ↦ inl memory
      | inr bad ↦ inr (
        bad.0,
        code_list_stopped c.args.items.now c.loop-item.item-index c.item-item.result c.loop-item.codes.items _
            lt c.item-item.is bad.1 c.loop-item.invariant,
      )
    ])

pub returns-clause-codes : goal.returns-clause-codes
returns-clause-codes c = code_list_finished c.args.items.now c.loop-item.item-index c.loop-item.codes.items _
    (omega arith) c.loop-item.invariant
