use Rattle.std.proofs.Common.{◌≡◌, ◌∙◌, [], ap, arith, inl, inr}
use Rattle.office_lists.specs.Entries.{codes_in}
use Rattle.office_lists.proofs.csv.Fields.{all_codes, no_code, texts}
use Rattle.office_lists.proofs.fields.codes.Goals as goal

pub returns-in-Err-clause-fault : goal.returns-in-Err-clause-fault
returns-in-Err-clause-fault c =
    let words = c.deref-word-items.result.now in
    let same : texts words ≡ codes_in c.args.text.now = ap texts c.deref-word-items.ensures.value
    ∙ c.in_ok-words.ensures in
    elim c.in-Err.ensures.fault [
      | inl memory ↦ inl memory.0
      | inr bad ↦ inr
          (rw same at (no_code words c.loop-word.word-index (record { ref_ptr = (0, 0); now = [] })
          c.loop-word.codes.items (omega arith) c.loop-word.invariant bad.1))
    ]

pub returns-clause-in_grammar : goal.returns-clause-in_grammar
returns-clause-in_grammar c =
    let words = c.deref-word-items.result.now in
    let same : texts words ≡ codes_in c.args.text.now = ap texts c.deref-word-items.ensures.value
    ∙ c.in_ok-words.ensures in
    rw same at (all_codes words c.loop-word.word-index c.loop-word.codes.items (omega arith) c.loop-word.invariant)
