use Rattle.office_lists.proofs.csv.Fields.{AreCodes}
use Rattle.office_lists.proofs.fields.codes.Given as goal

abbrev pub invariant-loop-word : goal.invariant-loop-word
invariant-loop-word l = AreCodes l.word-items l.word-index l.codes.items
