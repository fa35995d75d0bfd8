-- Which rounds are over, from one phase to the next.
use Rattle.std.proofs.Common.{◌≡◌, ◌≢◌, ℕ, ◌+◌, ◌≤◌, Bool, true, false, not, ◌&&◌, refl, ap, ◌∙◌}
use Rattle.std.proofs.Common.{sym, arith, eqb, inl, inr}
use Rattle.std.proofs.lemmas.Bool.{leb-true, le-leb, eq-eqb, and_parts}
use Rattle.std.proofs.lemmas.Bool.Decides.{eqb_tells}
use Rattle.std.specs.Prelude.{nat_le}
use Rattle.room_types.specs.declared.phase.Phase.{Phase}
use Rattle.room_types.specs.declared.phase.Phase.TheVariants.{Idle, Opened}
use Rattle.office_state.specs.Office.{is_over}
use Rattle.office_state.specs.Office.Phases.{is_idle}
use Rattle.office_state.specs.declared.office.Office.{Office}

-- which rounds are over, by whether one is under way
abbrev over_by : Bool → ℕ → ℕ → Bool
over_by idle number round =
    nat_le 1 round && nat_le round number && not (not idle && eqb round number)

-- as long as a round is under way, the same rounds are over
pub over-under_way : (office : Office) (phase : Phase) → is_idle office.phase ≡ false
    → is_idle phase ≡ false → (round : ℕ) → is_over office round ≡ true
    → is_over (record office { phase = phase }) round ≡ true
over-under_way office phase busy still round o =
    ap (λ b. over_by b office.number round) (still ∙ sym busy) ∙ o

idle_over : (b c d : Bool) → (b && not (not d && c)) ≡ true → (b && not (false && c)) ≡ true
idle_over true c d h = refl
idle_over false c d h = cc

-- between rounds, all are over
pub over-idle : (office : Office) (round : ℕ) → is_over office round ≡ true
    → is_over (record office { phase = Idle }) round ≡ true
over-idle office round o =
    idle_over (nat_le 1 round && nat_le round office.number) (eqb round office.number)
    (is_idle office.phase) o

all_three : (a b c : Bool) → a ≡ true → b ≡ true → c ≡ true → (a && b && c) ≡ true
all_three a b c p q r = ap (λ x. x && b && c) p ∙ ap (λ x. true && x && c) q ∙ r

begun : (round number : ℕ) → over_by true number round ≡ true
    → over_by false (number + 1) round ≡ true
begun round number h =
    let first = and_parts (nat_le 1 round && nat_le round number) true h in
    let parts = and_parts (nat_le 1 round) (nat_le round number) first.0 in
    let below : round ≤ number = leb-true round number parts.1 in
    let later : round ≢ number + 1 = omega (arith, below) in
    let other : eqb round (number + 1) ≡ false =
    elim (eqb_tells round (number + 1)) as (λ _. eqb round (number + 1) ≡ false) [
      | inl same ↦ absurd (later same.1)
      | inr differs ↦ differs.0
    ] in
    all_three (nat_le 1 round) (nat_le round (number + 1))
    (not (true && eqb round (number + 1))) parts.0
    (le-leb round (number + 1) (omega (arith, below))) (ap (λ b. not (true && b)) other)

-- the new round is not yet over
pub over-begun : (office : Office) → is_idle office.phase ≡ true → (round : ℕ)
    → is_over office round ≡ true → is_over
    (record office { number = office.number + 1; phase = Opened }) round ≡ true
over-begun office idle round o =
    let was : over_by true office.number round ≡ true =
    ap (λ b. over_by b office.number round) (sym idle) ∙ o in
    begun round office.number was

not_both : (b c : Bool) → b ≡ false → c ≡ true → (not b && c) ≡ true
not_both b c e f = (λ i. not (e i) && f i)

none_of : (a b : Bool) → b ≡ true → (a && not b) ≡ false
none_of true b e = ap not e
none_of false b e = refl

-- the round under way is not over
pub under_way-not_over : (office : Office) → is_idle office.phase ≡ false
    → is_over office office.number ≡ false
under_way-not_over office busy =
    none_of (nat_le 1 office.number && nat_le office.number office.number)
    (not (is_idle office.phase) && eqb office.number office.number)
    (not_both (is_idle office.phase) (eqb office.number office.number) busy
    (eq-eqb office.number office.number refl))
