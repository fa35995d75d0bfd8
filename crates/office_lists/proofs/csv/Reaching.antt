-- The records that a reader has reached, as a function of the text.
use Rattle.std.proofs.Common.{◌≡◌, ◌∙◌, ◌<◌, ◌≤◌, ◌+◌, ◌++◌, ℕ, zero, suc, Bool, true, false, cond, List, [], ◌∷◌}
use Rattle.std.proofs.Common.{length, Option, Some, None, refl, sym, ap, subst, arith}
use Rattle.csv.specs.Machine.{Read, next_record, step, is_end, fields_after, field_after, ends_at_end}
use Rattle.csv.specs.Reading.{AreRecords, Reached, default_config, records, records_from, records_next}
use Rattle.csv.specs.declared.parser.Config.{Config}
use Rattle.csv.specs.declared.parser.State.{State}
use Rattle.csv.specs.declared.parser.State.TheVariants as st

either : (b : Bool) (a : Read) (o : Option Read) (p : Read) (n : ℕ) → cond b (Some a) o ≡ Some p → length a.2 ≤ n
    → (o ≡ Some p → length p.2 ≤ n) → length p.2 ≤ n
either true a o p n e here later =
    let q : a ≡ p = cc in
    subst (λ (r : Read). length r.2 ≤ n) q here
either false a o p n e here later = later e

-- reading a record leaves no more bytes than there were
at_most : (cfg : Config) (s : State) (fields : List (List ℕ)) (field xs : List ℕ) (p : Read)
    → next_record cfg s fields field xs ≡ Some p
    → length p.2 ≤ length xs
unfolding next_record
at_most cfg s fields field [] p e =
    either (ends_at_end s) (fields ++ (field ∷ []), st.StartRecord, []) None p 0 e (omega arith) (λ h. cc h)
at_most cfg s fields field (c ∷ rest) p e =
    let m : length p.2 ≤ length rest =
    either (is_end (step cfg s c).1) (fields_after (step cfg s c).1 fields field, (step cfg s c).0, rest)
    (next_record cfg (step cfg s c).0 (fields_after (step cfg s c).1 fields field)
    (field_after (step cfg s c).1 c field) rest)
    p (length rest) e (omega arith)
    (at_most cfg (step cfg s c).0 (fields_after (step cfg s c).1 fields field)
    (field_after (step cfg s c).1 c field) rest p) in
    omega arith

-- reading a record leaves fewer bytes, if there was a byte
fewer : (cfg : Config) (s : State) (fields : List (List ℕ)) (field : List ℕ) (c : ℕ) (rest : List ℕ) (p : Read)
    → next_record cfg s fields field (c ∷ rest) ≡ Some p → length p.2 ≤ length rest
unfolding next_record
fewer cfg s fields field c rest p e =
    either (is_end (step cfg s c).1) (fields_after (step cfg s c).1 fields field, (step cfg s c).0, rest)
    (next_record cfg (step cfg s c).0 (fields_after (step cfg s c).1 fields field)
    (field_after (step cfg s c).1 c field) rest)
    p (length rest) e (omega arith)
    (at_most cfg (step cfg s c).0 (fields_after (step cfg s c).1 fields field)
    (field_after (step cfg s c).1 c field) rest p)

-- after a record at the end of a text there is no further record
last : (cfg : Config) (s : State) (fields : List (List ℕ)) (field : List ℕ) (p : Read)
    → next_record cfg s fields field [] ≡ Some p
    → next_record cfg p.1 [] [] p.2 ≡ None
unfolding next_record
last cfg s fields field p e = go (ends_at_end s) e
  where
    go : (b : Bool) → cond b (Some (fields ++ (field ∷ []), st.StartRecord, [])) None ≡ Some p
        → next_record cfg p.1 [] [] p.2 ≡ None
    go true h =
        let q : (fields ++ (field ∷ []), st.StartRecord, []) ≡ p = cc in
        subst (λ (r : Read). next_record cfg r.1 [] [] r.2 ≡ None) q refl
    go false h = cc h

nothing_from : (cfg : Config) (n : ℕ) (s : State) (xs : List ℕ) → next_record cfg s [] [] xs ≡ None
    → records_from cfg n s xs ≡ []
unfolding records_from
nothing_from cfg zero s xs e = refl
nothing_from cfg (suc n) s xs e = ap (records_next (records_from cfg n)) e

nothing_reached : (cfg : Config) (s : State) (xs : List ℕ) (rows : List (List (List ℕ))) (s2 : State) (ys : List ℕ)
    → next_record cfg s [] [] xs ≡ None → Reached cfg s xs rows s2 ys → rows ≡ []
unfolding Reached
nothing_reached cfg s xs [] s2 ys e h = refl
nothing_reached cfg s xs (r ∷ rs) s2 ys e h =
    let bad : None ≡ Some h.0 = sym e ∙ h.1 in
    cc bad

-- the records reached on the way from a state to the end of a text are those of `records_from`
reached_from : (cfg : Config) (n : ℕ) (s : State) (xs : List ℕ) (rows : List (List (List ℕ))) (s2 : State) (ys : List ℕ)
    → length xs < n
    → Reached cfg s xs rows s2 ys → next_record cfg s2 [] [] ys ≡ None → records_from cfg n s xs ≡ rows
unfolding Reached records_from
reached_from cfg zero s xs rows s2 ys low h e = absurd (omega arith)
reached_from cfg (suc n) s xs [] s2 ys low h e =
    let over : next_record cfg s [] [] xs ≡ None = rw (h.0, h.1) e in
    ap (records_next (records_from cfg n)) over
reached_from cfg (suc n) s [] (r ∷ rs) s2 ys low h e =
    let over = last cfg s [] [] h.0 h.1 in
    ap (records_next (records_from cfg n)) h.1
    ∙ (ap (λ (t : List (List (List ℕ))). h.0.0 ∷ t)
    (nothing_from cfg n h.0.1 h.0.2 over ∙ sym (nothing_reached cfg h.0.1 h.0.2 rs s2 ys over h.3))
    ∙ ap (λ (t : List (List ℕ)). t ∷ rs) (sym h.2))
reached_from cfg (suc n) s (c ∷ xs) (r ∷ rs) s2 ys low h e =
    let less = fewer cfg s [] [] c xs h.0 h.1 in
    ap (records_next (records_from cfg n)) h.1
    ∙ (ap (λ (t : List (List (List ℕ))). h.0.0 ∷ t) (reached_from cfg n h.0.1 h.0.2 rs s2 ys (omega arith) h.3 e)
    ∙ ap (λ (t : List (List ℕ)). t ∷ rs) (sym h.2))

-- the records of a whole text are those of `records`
pub all_records : (xs : List ℕ) (rows : List (List (List ℕ))) → AreRecords default_config st.StartRecord xs rows
    → rows ≡ records default_config xs
all_records xs rows h =
    sym (reached_from default_config (length xs + 1) st.StartRecord xs rows h.0 h.1 (omega arith) h.2 h.3)

-- the records reached so far are a prefix of the records of the text
pub reached_rest : (cfg : Config) (n : ℕ) (s : State) (xs : List ℕ) (rows : List (List (List ℕ))) (s2 : State)
    (ys : List ℕ) → length xs < n
    → Reached cfg s xs rows s2 ys → (rest : List (List (List ℕ))) × (records_from cfg n s xs ≡ rows ++ rest)
unfolding Reached records_from
reached_rest cfg zero s xs rows s2 ys low h = absurd (omega arith)
reached_rest cfg (suc n) s xs [] s2 ys low h = (records_next (records_from cfg n) (next_record cfg s [] [] xs), refl)
reached_rest cfg (suc n) s [] (r ∷ rs) s2 ys low h =
    let over = last cfg s [] [] h.0 h.1 in
    let none = nothing_reached cfg h.0.1 h.0.2 rs s2 ys over h.3 in (
      [],
      ap (records_next (records_from cfg n)) h.1
          ∙ (ap (λ (t : List (List (List ℕ))). h.0.0 ∷ t) (nothing_from cfg n h.0.1 h.0.2 over)
          ∙ (ap (λ (t : List (List ℕ)). t ∷ []) (sym h.2) ∙ ap (λ (ts : List (List (List ℕ))). r ∷ (ts ++ []))
          (sym none))),
    )
reached_rest cfg (suc n) s (c ∷ xs) (r ∷ rs) s2 ys low h =
    let less = fewer cfg s [] [] c xs h.0 h.1 in
    let more = reached_rest cfg n h.0.1 h.0.2 rs s2 ys (omega arith) h.3 in (
      more.0,
      ap (records_next (records_from cfg n)) h.1
          ∙ (ap (λ (t : List (List (List ℕ))). h.0.0 ∷ t) more.1
          ∙ ap (λ (t : List (List ℕ)). t ∷ (rs ++ more.0)) (sym h.2)),
    )
