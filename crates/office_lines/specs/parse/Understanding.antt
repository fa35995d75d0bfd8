-- The results that parsing words may have.
use Rattle.std.specs.Prelude.{◌≡◌, ⊤, Bool, true, Option, Some, None, Result, Ok, Err}
use Rattle.office_lines.specs.declared.parse.word_fault.WordFault.{WordFault}
use Rattle.office_lines.specs.declared.parse.word_fault.WordFault.TheVariants.{NotUnderstood, OutOfMemory}

-- The results that a parser may return for words with this meaning. The parser returns a value whose view is the
-- meaning, or `NotUnderstood` if there is no meaning, or `OutOfMemory`. A contract may restrict the last case by
-- `OutOfMemoryOnlyIf`.
abbrev pub UnderstandsAs : {X Y : Type 0} → (X → Y) → Option Y → Result X WordFault → Type 0
UnderstandsAs view meaning (Ok x) = meaning ≡ Some (view x)
UnderstandsAs view meaning (Err NotUnderstood) = meaning ≡ None
UnderstandsAs view meaning (Err OutOfMemory) = ⊤

-- the results that a parser may return for words with this meaning, if the parser's value is the meaning itself
abbrev pub Understands : {X : Type 0} → Option X → Result X WordFault → Type 0
Understands meaning result = UnderstandsAs (λ x. x) meaning result

-- the result is `OutOfMemory` only if `takes` is true
abbrev pub OutOfMemoryOnlyIf : {X : Type 0} → Bool → Result X WordFault → Type 0
OutOfMemoryOnlyIf takes (Ok x) = ⊤
OutOfMemoryOnlyIf takes (Err NotUnderstood) = ⊤
OutOfMemoryOnlyIf takes (Err OutOfMemory) = takes ≡ true
