-- The rules of a market, checked by going through the vectors that a caller hands in.
use Rattle.std.proofs.Common.{◌≡◌, ◌≢◌, ℕ, ◌+◌, ◌<◌, ◌⊎◌, Bool, true, false, List, [], ◌∷◌, Option, Some, None, is_some}
use Rattle.std.proofs.Common.{Vec, Global, length, map, get_or, set, take, drop, ◌++◌, All, AllPairs, IfSome, refl, sym}
use Rattle.std.proofs.Common.{ap, ◌∙◌, subst, inl, inr, arith, add-one, ne_eqb, get_or-set_same, get_or-set_other}
use Rattle.std.proofs.Common.{length-set}
use Rattle.std.proofs.lemmas.Bool.{cases_eq, cases_lt, both_ways}
use Rattle.std.proofs.lemmas.List.{get_or-map, length-map, append-nil, drop_all, take_all}
use Rattle.trade_line.specs.Below.{first_below, or_else}
use Rattle.trade_line.specs.Market.{Market, IsIndexed, list_of, is_room}
use Rattle.trade_line.specs.Problem.{market_of}
use Rattle.trade_line.specs.Inner.Tenants.{AreHoused}
use Rattle.trade_line.specs.Inner.Marks.{AreDistinct}
use Rattle.trade_line.proofs.searches.Search.{first_finds, first_passes, is_room_from, is_room_gives}
use Rattle.trade_line.proofs.turns.States.{if_some, read_same}

abbrev pub items_of : Vec ℕ Global → List ℕ
items_of v = v.items

-- the list of p, as read from the vectors
pub list_at : (lists : List (Vec ℕ Global)) (p : ℕ) (v : Vec ℕ Global) → p < length lists
    → get_or (map (λ v. v.items) lists) p [] ≡ (get_or lists p v).items
list_at lists p v l = get_or-map (λ v. v.items) lists p v [] l

pub read_list : (lists xs : List (Vec ℕ Global)) (p : ℕ) (v : Vec ℕ Global) (d : List ℕ) → xs ≡ lists → p < length xs
    → v ≡ get_or xs p v → d ≡ v.items → get_or (map (λ v. v.items) lists) p [] ≡ d
read_list lists xs p v d e l is de =
    let at : p < length lists = subst (λ z. p < length z) e l in
    list_at lists p v at ∙ ap items_of (sym (is ∙ ap (λ z. get_or z p v) e)) ∙ sym de

-- a slice of a whole vector, written back into it
pub slice_written_back : (n : ℕ) (new old : List ℕ) → length new ≡ n → length old ≡ n
    → take n (new ++ drop (length new) old) ≡ new
slice_written_back n new old e f =
    ap (λ z. take n (new ++ z)) (drop_all (length new) old (omega arith)) ∙ ap (take n) (append-nil new)
    ∙ take_all n new (omega arith)

some_within : (o : Option ℕ) (P : ℕ → Type 0) (r : ℕ) → IfSome o P → o ≡ Some r → P r
some_within None P r h e = absurd (cc)
some_within (Some x) P r h e = let z : x ≡ r = cc in subst P z h

module _ (people rooms : ℕ) (homes : List (Option ℕ)) (lists : List (Vec ℕ Global)) where
  pub indexed_from : length homes ≡ people → length lists ≡ people → All (λ h. IfSome h (λ r. r < rooms)) homes
      → All (λ v. All (λ r. r < rooms) v.items) lists → IsIndexed (market_of people rooms homes lists)
  indexed_from he le hs ls = record {
    homes_len = he;
    lists_len = length-map lists (λ v. v.items) ∙ le;
    homes_known = λ p r l e. some_within (get_or homes p None) (λ r. r < rooms) r (hs p None (omega arith)) e;
    lists_known = λ p l. by_list lists refl p (omega arith);
  }
    where
      by_list : (vs : List (Vec ℕ Global)) → lists ≡ vs → (p : ℕ) → p < length vs
          → All (λ r. r < rooms) (get_or (map (λ v. v.items) lists) p [])
      by_list [] e p l = absurd (omega arith)
      by_list (v ∷ vs) e p l =
          let at : p < length lists = subst (λ z. p < length z) (sym e) l in
          subst (All (λ r. r < rooms)) (sym (list_at lists p v at)) (ls p v at)

  pub indexed_homes : IsIndexed (market_of people rooms homes lists) → All (λ h. IfSome h (λ r. r < rooms)) homes
  indexed_homes ok k d l =
      if_some (get_or homes k d) (λ r. r < rooms)
      (λ r e. ok.homes_known k r (let z : length homes ≡ people = ok.homes_len in omega arith)
      (read_same homes k None d l ∙ e))

  pub indexed_lists : IsIndexed (market_of people rooms homes lists) → All (λ v. All (λ r. r < rooms) v.items) lists
  indexed_lists ok k d l =
      let z : length (map (λ v. v.items) lists) ≡ people = ok.lists_len in
      let y : length (map (λ v. v.items) lists) ≡ length lists = length-map lists (λ v. v.items) in
      subst (All (λ r. r < rooms)) (list_at lists k d l) (ok.lists_known k (omega arith))

-- the table of tenants, filled one home after the other
module _ (homes : List (Option ℕ)) where
  abbrev lives : ℕ → ℕ → Bool
  lives r p = is_room r (get_or homes p None)

  none_twice : (x : Option ℕ) → or_else x None ≡ x
  none_twice None = refl
  none_twice (Some y) = refl

  more_differ : (n : ℕ)
      → ((p q r : ℕ) → p < n → q < n → get_or homes p None ≡ Some r → get_or homes q None ≡ Some r → p ≡ q)
      → ((p r : ℕ) → p < n → get_or homes p None ≡ Some r → get_or homes n None ≡ Some r → ⊥) → (p q r : ℕ) → p < n + 1
      → q < n + 1 → get_or homes p None ≡ Some r → get_or homes q None ≡ Some r → p ≡ q
  more_differ n d none p q r lp lq ep eq =
      elim (cases_lt p n) [
        | inl pn ↦ elim (cases_lt q n) [
          | inl qn ↦ d p q r pn qn ep eq
          | inr nq ↦ let at : q ≡ n = omega arith in
              absurd (none p r pn ep (subst (λ z. get_or homes z None ≡ Some r) at eq))
        ]
        | inr np ↦ elim (cases_lt q n) [
          | inl qn ↦ let at : p ≡ n = omega arith in
              absurd (none q r qn eq (subst (λ z. get_or homes z None ≡ Some r) at ep))
          | inr nq ↦ omega arith
        ]
      ]

  pub housed_none : (tenants : List (Option ℕ)) (n : ℕ) → AreHoused homes tenants n → get_or homes n None ≡ None
      → AreHoused homes tenants (n + 1)
  housed_none tenants n h e = record {
    housed = λ r l. h.housed r l ∙ sym (rw (add-one, e) (none_twice (first_below n (lives r))));
    differ = more_differ n h.differ (λ p r l ep en. absurd (let z : None ≡ Some r = sym e ∙ en in cc));
  }

  pub housed_some : (tenants : List (Option ℕ)) (n room : ℕ) → AreHoused homes tenants n
      → get_or homes n None ≡ Some room → room < length tenants → get_or tenants room None ≡ None
      → AreHoused homes (set tenants room (Some n)) (n + 1)
  housed_some tenants n room h e l free = record {
    housed = housed;
    differ = more_differ n h.differ (λ p r lp ep en.
        let z : Some room ≡ Some r = sym e ∙ en in
        let zz : r ≡ room = cc in
        let found : (y : ℕ) × (first_below n (lives room) ≡ Some y) =
        first_finds n (lives room) p lp (is_room_from room (get_or homes p None) (ep ∙ ap Some zz)) in
        let clash : None ≡ Some found.0 = sym free ∙ h.housed room l ∙ found.1 in
        absurd (cc));
  }
    where
      housed : (r : ℕ) → r < length (set tenants room (Some n))
          → get_or (set tenants room (Some n)) r None ≡ first_below (n + 1) (lives r)
      housed r rl =
          elim (cases_eq r room) [
            | inl q ↦
                let here : is_room r (get_or homes n None) ≡ true =
                is_room_from r (get_or homes n None) (e ∙ ap Some (sym q)) in
                let none : first_below n (lives r) ≡ None = ap (λ z. first_below n (lives z)) q
                ∙ sym (h.housed room l) ∙ free in
                ap (λ z. get_or (set tenants room (Some n)) z None) q ∙ get_or-set_same tenants room (Some n) None l
                ∙ sym (rw (add-one, none, here) refl)
            | inr d ↦
                let away : is_room r (get_or homes n None) ≡ false =
                ap (is_room r) e ∙ ne_eqb room r (λ x. d (sym x)) in
                get_or-set_other tenants room r (Some n) None d
                ∙ h.housed r (subst (λ z. r < z) (length-set tenants room (Some n)) rl)
                ∙ sym (rw (add-one, away) (none_twice (first_below n (lives r))))
          ]

  -- an earlier person already has that home
  pub housed_shared : (tenants : List (Option ℕ)) (n room : ℕ) → AreHoused homes tenants n
      → get_or homes n None ≡ Some room → room < length tenants → is_some (get_or tenants room None) ≡ true → (p : ℕ)
      × (p < n) × (get_or homes p None ≡ Some room)
  housed_shared tenants n room h e l some = by_found (get_or tenants room None) refl some
    where
      by_found : (o : Option ℕ) → get_or tenants room None ≡ o → is_some o ≡ true → (p : ℕ) × (p < n)
          × (get_or homes p None ≡ Some room)
      by_found None f s = absurd (both_ways false refl s)
      by_found (Some y) f s =
          let was : (lives room y ≡ true) × (y < n) = first_passes n (lives room) y (sym (h.housed room l) ∙ f) in
          (y, was.1, is_room_gives room (get_or homes y None) was.0)

module _ (m : Market) where
  pub distinct_more : (last new : List ℕ) (n : ℕ) → AreDistinct m last n → AllPairs ◌≢◌ (list_of m n)
      → length new ≡ length last
      → ((r : ℕ) → r < length last → (get_or new r 0 ≡ get_or last r 0) ⊎ (get_or new r 0 ≡ n))
      → AreDistinct m new (n + 1)
  distinct_more last new n a pairs same kept = record {
    same_len = same ∙ a.same_len;
    distinct = λ p l. elim (cases_lt p n) [
      | inl pn ↦ a.distinct p pn
      | inr np ↦ let at : n ≡ p = omega arith in subst (λ z. AllPairs ◌≢◌ (list_of m z)) at pairs
    ];
    unmarked = λ q nq ql k d l e.
        let z : get_or new k 0 ≡ q = read_same new k 0 d l ∙ e in
        elim (kept k (omega arith)) [
          | inl old ↦ a.unmarked q (omega arith) ql k 0 (omega arith) (sym old ∙ z)
          | inr now ↦ absurd (omega arith)
        ];
  }
