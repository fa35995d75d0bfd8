use Rattle.std.proofs.Common.{◌≡◌, ◌∙◌, sym, subst, arith, [], length, ℕ}
use Rattle.csv.specs.Records.{fields_of}
use Rattle.office_lists.proofs.csv.Headers.{SameFrom, differs_at, header_same_at_end, field_missing, other_length}
use Rattle.office_lists.proofs.csv.Headers.{same_at}
use Rattle.office_lists.proofs.fields.same_fields.Goals as goal

pub returns-then-len-names : goal.returns-then-len-names
returns-then-len-names c = other_length c.args.names.now (fields_of c.args.row.now) (λ e. absurd (omega arith))

pub returns-then-ne : goal.returns-then-ne
returns-then-ne c =
    differs_at c.args.names.now (fields_of c.args.row.now) c.loop-i.i (record { ref_ptr = (0, 0); now = [] })
    c.in-Some.field.now c.as_bytes.result.now
    (omega arith) c.in-Some.ensures.value c.loop-i.invariant c.as_bytes.ensures.value (sym c.ne.ensures ∙ c.if-ne.true)

pub returns-in-None : goal.returns-in-None
returns-in-None c =
    let m = field_missing (fields_of c.args.row.now) c.loop-i.i c.in-None.ensures.value in
    absurd (omega (arith, m))

pub loop-i-preserved : goal.loop-i-preserved
loop-i-preserved c =
    same_at c.args.names.now (fields_of c.args.row.now) c.loop-i.i (record { ref_ptr = (0, 0); now = [] })
    c.in-Some.field.now c.as_bytes.result.now
    (omega arith) c.in-Some.ensures.value c.loop-i.invariant c.as_bytes.ensures.value (sym c.ne.ensures ∙ c.if-ne.false)

pub returns : goal.returns
returns c =
    let all : c.loop-i.i ≡ length c.args.names.now = omega arith in
    sym (header_same_at_end c.args.names.now (fields_of c.args.row.now) (sym c.len.ensures ∙ c.if-len-names.false)
    (subst (λ (k : ℕ). SameFrom c.args.names.now (fields_of c.args.row.now) k) all c.loop-i.invariant))
