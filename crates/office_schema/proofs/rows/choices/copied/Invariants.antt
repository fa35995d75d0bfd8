use Rattle.std.proofs.Common.{◌≡◌, take}
use Rattle.office_schema.proofs.rows.choices.copied.Given as goal

abbrev pub invariant-loop-code : goal.invariant-loop-code
invariant-loop-code l = l.copies.items ≡ take l.code-index l.codes
