use Rattle.std.proofs.Common.{◌≡◌, true, false, inr, refl}
use Rattle.resident_requests.proofs.json.Bodies.{json_of_text, json_of_other}
use Rattle.resident_requests.proofs.choices.json_value.Goals as goal

pub returns-in-Ok-clause-value : goal.returns-in-Ok-clause-value
returns-in-Ok-clause-value c = json_of_text c.args.bytes.now _ c.in-Ok.ensures.ok.0 c.in-Ok.ensures.ok.1

pub returns-in-Err-2-clause-fault : goal.returns-in-Err-2-clause-fault
returns-in-Err-2-clause-fault c =
    inr (
      refl,
      json_of_other c.args.bytes.now
          (c.in-Err.ensures.err (λ m. let no : false ≡ true = c.if-is_memory.ensures.1 m in cc)),
    )
