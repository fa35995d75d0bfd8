use Rattle.resident_http.proofs.answering.act.Goals as goal

pub returns-in-Ok-clause-answers : goal.returns-in-Ok-clause-answers
returns-in-Ok-clause-answers g c =
    rw c.in-Choices.is (rw c.in-Ok.ensures.value (rw c.as_slice-in-Ok.ensures.rooms at
    (rw c.in_ok-returned-in-Ok.ensures at (rw c.in_ok-person-in-Ok.ensures at c.execute-in-Ok.ensures.answers))))
