-- States of a connection that follow one another, and calls inside a transaction, one after another.
use Rattle.std.proofs.Common.{ℕ, ◌≤◌, refl, ◌∙◌, inl, inr, arith}
use Rattle.sqlite_disk.specs.Disk.{MoreFaults}
use Rattle.sqlite.specs.State.{State}
use Rattle.sqlite.proofs.StateLemmas.{survives_then}
use Rattle.sqlite.proofs.InsideLemmas.{keeps_then}
use Rattle.office_schema.specs.tables.Steps.{Follows, IsIntact, StaysInside}

pub follows-refl : (a : State) → Follows a a
follows-refl a =
    record { clean = λ h. h; was_open = λ h o. o; counts = omega arith; limit = refl; closes = λ h o. inl o }

pub follows_then : (a b c : State) → Follows a b → Follows b c → Follows a c
follows_then a b c p q = record {
  clean = λ h. p.clean (q.clean h);
  was_open = λ h o. p.was_open (q.clean h) (q.was_open h o);
  counts = omega (arith, p.counts, q.counts);
  limit = q.limit ∙ p.limit;
  closes = λ h o. elim (p.closes (q.clean h) o) [
    | inl open_then ↦ elim (q.closes h open_then) [
      | inl open_now ↦ inl open_now
      | inr more ↦ inr (more_before a.faults b.faults c.faults p.counts more)
    ]
    | inr more ↦ inr (more_after a.faults b.faults c.faults q.counts more)
  ];
}
  where
    more_before : (x y z : ℕ) → x ≤ y → MoreFaults y z → MoreFaults x z
    more_before x y z low more = omega (arith, low, more)

    more_after : (x y z : ℕ) → y ≤ z → MoreFaults x y → MoreFaults x z
    more_after x y z low more = omega (arith, low, more)

-- If a state that follows another is intact, so is the other.
pub intact_before : (a b : State) → Follows a b → IsIntact b → IsIntact a
intact_before a b p h = (p.clean h.0, p.was_open h.0 h.1)

-- before the first call
pub inside_none : (a : State) → StaysInside a a
inside_none a = record {
  kept = λ clean. record { was_open = λ o. o; committed = λ o. refl };
  survives = record {
    clean = omega arith;
    shield = λ s. s;
    counts = omega arith;
    limit = refl;
    closes = λ clean o. inl o;
    crash = λ clean db h. inl h;
  };
}

pub inside_then : (a b c : State) → StaysInside a b → StaysInside b c → StaysInside a c
inside_then a b c p q = record {
  kept = λ clean. keeps_then a b c (p.kept (omega (arith, q.survives.clean))) (q.kept clean);
  survives = survives_then a b c _ _ (λ _. ⊥) (λ _ db none. none) (λ _ db none. none) p.survives q.survives;
}
