-- Other lists of a group: if none of it loses, everybody gets the same. A person who gets x gets it also by
-- asking for x alone; then the cycles of the own lists are cycles of those lists too.
use Rattle.std.proofs.Common.{◌≡◌, ◌≢◌, ℕ, ◌<◌, ◌≤◌, ◌⊎◌, Bool, true, false, cond, not, ◌&&◌, ◌==◌, List, [], ◌∷◌}
use Rattle.std.proofs.Common.{Option, Some, None, find, map, length, All, AllPairs, refl, sym, ap, ◌∙◌, subst, inl, inr}
use Rattle.std.proofs.Common.{arith, eqb-true, eq-eqb, zero-add, get_or-set_other, le_refl, slice_set}
use Rattle.std.specs.List.{range_with_len}
use Rattle.std.proofs.lemmas.Bool.{cases_Bool, and_from, both_ways, cond-true, cond-false, not_from_false}
use Rattle.std.proofs.lemmas.List.Elements.{All-nil, All-cons}
use Rattle.std.proofs.lemmas.List.FromFn.{get_or-map-range_with_len, length-map-range_with_len}
use Rattle.std.specs.Cmp.Derive.{one_truth}
use Rattle.trade_line.specs.Below.{or_else}
use Rattle.trade_line.specs.Cycles.{IsStageOf}
use Rattle.trade_line.specs.Market.{Market, IsMarket, home, list_of, is_room, tenant_of}
use Rattle.trade_line.specs.TopTradingCycles.{Stage, start, wish, first, tenant_or_first, points_to, target, successor}
use Rattle.trade_line.specs.TopTradingCycles.{taken, removed, gets}
use Rattle.trade_line.specs.Inner.Removal.{Reach, IsTrade, Leads}
use Rattle.trade_line.specs.Inner.Removal.Leads.{done, trade}
use Rattle.trade_line.specs.Rank.{rank}
use Rattle.trade_line.specs.OtherList.{with_lists, with_list}
use Rattle.trade_line.specs.Groups.{OthersKeep, NoneLoses, IsGroupStrategyproof, IsNonbossy}
use Rattle.trade_line.proofs.searches.Search.{clash, find_passes, is_room_gives, is_room_from}
use Rattle.trade_line.proofs.cycles.Exchange.{reach_same, taken_gives}
use Rattle.trade_line.proofs.cycles.Unique.{same_stage, taken_from, trade_removed}
use Rattle.trade_line.proofs.cycles.Steps.{removed_known, start_known, gets_leads}
use Rattle.trade_line.proofs.welfare.Ranks.{wish_is_best}
use Rattle.trade_line.proofs.welfare.Welfare.{HomesThere, homes_stay, there_from, start_homes, start_has_person}
use Rattle.trade_line.proofs.welfare.Welfare.{gets_assignment}

-- the list of a person with the home h who asks for x alone
abbrev pub aim : Option ℕ → Option ℕ → List ℕ
aim h None = []
aim h (Some x) = cond (is_room x h) [] (x ∷ [])

aim_all : (P : ℕ → Type 0) (h x : Option ℕ) → ((r : ℕ) → x ≡ Some r → is_room r h ≡ false → P r) → All P (aim h x)
aim_all P h None has = All-nil P
aim_all P h (Some x) has =
    elim (cases_Bool (is_room x h)) [
      | inl t ↦ rw t (All-nil P)
      | inr n ↦ rw n (All-cons P x [] (has x refl n) (All-nil P))
    ]

aim_short : (h x : Option ℕ) → length (aim h x) ≤ 1
aim_short h None = omega arith
aim_short h (Some x) = elim (cases_Bool (is_room x h)) [ inl t ↦ rw t (omega arith) | inr n ↦ rw n (omega arith) ]

module _ (m : Market) (lists : List (List ℕ)) where
  target_same : (s : Stage) (q : ℕ) (o : Option ℕ) → target (with_lists m lists) s q o ≡ target m s q o
  unfolding points_to first
  target_same s q None = refl
  target_same s q (Some r) = by_tenant (tenant_of m r)
    where
      by_tenant : (o : Option ℕ) → tenant_or_first (with_lists m lists) s o ≡ tenant_or_first m s o
      by_tenant None = refl
      by_tenant (Some t) = refl

  wish_kept : (s : Stage) (q : ℕ) → list_of (with_lists m lists) q ≡ list_of m q
      → wish (with_lists m lists) s q ≡ wish m s q
  unfolding wish
  wish_kept s q e = ap (λ xs. or_else (find s.rooms xs) (home m q)) e

  -- a person who asks for the wish alone has the same wish
  wish_aimed : (s : Stage) (q : ℕ) → list_of (with_lists m lists) q ≡ aim (home m q) (wish m s q)
      → wish (with_lists m lists) s q ≡ wish m s q
  unfolding wish
  wish_aimed s q e = ap (λ xs. or_else (find s.rooms xs) (home m q)) e ∙ by_found (find s.rooms (list_of m q)) refl
    where
      at_home : (h : Option ℕ) → or_else (find s.rooms (aim h h)) h ≡ h
      at_home None = refl
      at_home (Some r) = rw (is_room_from r (Some r) refl) refl

      by_found : (o : Option ℕ) → find s.rooms (list_of m q) ≡ o
          → or_else (find s.rooms (aim (home m q) (or_else o (home m q)))) (home m q) ≡ or_else o (home m q)
      by_found None f = at_home (home m q)
      by_found (Some y) f =
          elim (cases_Bool (is_room y (home m q))) [
            | inl t ↦ rw t (is_room_gives y (home m q) t)
            | inr n ↦ rw n (rw (find_passes s.rooms (list_of m q) y f) refl)
          ]

  -- a trade whose people keep their wishes is also a trade by the other lists
  module _ (s : Stage) (k : ℕ → Bool) (same : (q : ℕ) → k q ≡ true → wish (with_lists m lists) s q ≡ wish m s q) where
    successor_same : (q : ℕ) → k q ≡ true → successor (with_lists m lists) s q ≡ successor m s q
    unfolding successor
    successor_same q h = ap (target (with_lists m lists) s q) (same q h) ∙ target_same s q (wish m s q)

    trade_same : IsTrade m s k → IsTrade (with_lists m lists) s k
    trade_same tk = record {
      known = tk.known;
      remain = tk.remain;
      closed = λ q h. subst (λ z. k z ≡ true) (sym (successor_same q h)) (tk.closed q h);
      cycle = λ q h. subst (λ z. Reach (successor (with_lists m lists) s) z q) (sym (successor_same q h))
          (reach_same (successor m s) (successor (with_lists m lists) s) k tk.closed successor_same (tk.cycle q h)
          (tk.closed q h));
    }

    removed_same : removed (with_lists m lists) s k ≡ removed m s k
    unfolding removed
    removed_same =
        same_stage (removed (with_lists m lists) s k) (removed m s k) (λ q. refl)
        (λ r. ap (λ b. s.rooms r && not b) (one_truth (taken (with_lists m lists) s k r) (taken m s k r)
        (λ h. let g : (q : ℕ) × (q < m.people) × (k q ≡ true) × (wish (with_lists m lists) s q ≡ Some r) =
        taken_gives (with_lists m lists) s k r h in
        taken_from m s k r g.0 g.1 g.2 (sym (same g.0 g.2) ∙ g.3))
        (λ h. let g : (q : ℕ) × (q < m.people) × (k q ≡ true) × (wish m s q ≡ Some r) = taken_gives m s k r h in
        taken_from (with_lists m lists) s k r g.0 g.1 g.2 (same g.0 g.2 ∙ g.3))))

  -- everybody still gets the same if some ask only for what they get
  aim_leads : (f : ℕ → Option ℕ)
      → ((q : ℕ) → q < m.people → (list_of (with_lists m lists) q ≡ list_of m q)
      ⊎ (list_of (with_lists m lists) q ≡ aim (home m q) (f q))) → {s : Stage} → Leads m f s
      → Leads (with_lists m lists) f s
  aim_leads f each (done none) = done none
  aim_leads f each {s} (trade k tk fk d) =
      let same : (q : ℕ) → k q ≡ true → wish (with_lists m lists) s q ≡ wish m s q =
      λ q h. elim (each q (tk.known q h)) [
        | inl e ↦ wish_kept s q e
        | inr e ↦ wish_aimed s q (e ∙ ap (aim (home m q)) (fk q h))
      ] in
      trade k (trade_same s k same tk) (λ q h. fk q h ∙ sym (same q h))
      (subst (λ z. Leads (with_lists m lists) f z) (sym (removed_same s k same)) (aim_leads f each d))

-- if some ask for x alone, and rank it no lower than what they get with their own list, everybody gets x
module _ (m : Market) (ok : IsMarket m) (lists : List (List ℕ)) (ok2 : IsMarket (with_lists m lists))
    (f x : ℕ → Option ℕ) (each : (q : ℕ) → q < m.people → (list_of (with_lists m lists) q ≡ list_of m q)
    ⊎ ((list_of (with_lists m lists) q ≡ aim (home m q) (x q)) × (rank m q (x q) ≤ rank m q (f q)))) where
  same_from : {s : Stage} → Leads m f s → IsStageOf m s → HomesThere m ok s → Leads (with_lists m lists) x s → (p : ℕ)
      → s.people p ≡ true → x p ≡ f p
  unfolding removed
  same_from {s} (done none) known homes e p h = clash (s.people p) h (none p)
  same_from {s} (trade k tk fk d) known homes e p h =
      let same : (q : ℕ) → k q ≡ true → wish (with_lists m lists) s q ≡ wish m s q =
      λ q h. elim (each q (tk.known q h)) [
        | inl kept ↦ wish_kept m lists s q kept
        | inr b ↦
            let got : x q ≡ wish m s q =
            wish_is_best m ok s q (tk.known q h) (x q)
            (λ r er. there_from (with_lists m lists) ok2 x e known homes q r (tk.remain q h) er)
            (subst (λ z. rank m q (x q) ≤ rank m q z) (fk q h) b.1) in
            wish_aimed m lists s q (b.0 ∙ ap (aim (home m q)) got)
      ] in
      let r : ((p : ℕ) → k p ≡ true → x p ≡ wish (with_lists m lists) s p) × Leads (with_lists m lists) x
      (removed (with_lists m lists) s k) =
      trade_removed (with_lists m lists) x e k (trade_same m lists s k same tk) in
      elim (cases_Bool (k p)) [
        | inl y ↦ r.0 p y ∙ same p y ∙ sym (fk p y)
        | inr n ↦ same_from d (removed_known m s k known) (homes_stay m ok s k tk known homes)
            (subst (λ z. Leads (with_lists m lists) x z) (removed_same m lists s k same) r.1) p
            (and_from (s.people p) (not (k p)) h (not_from_false (k p) n))
      ]

module _ (m : Market) (ok : IsMarket m) (group : ℕ → Bool) (lists : List (List ℕ)) (ok2 : IsMarket (with_lists m lists))
    (keep : OthersKeep m group lists) (none : NoneLoses m group lists) where
  -- each member asks only for what they get with the other lists
  aimed : List (List ℕ)
  aimed = map (λ q. cond (group q) (aim (home m q) (gets (with_lists m lists) q)) (list_of m q))
      (range_with_len 0 m.people)

  aimed_at : (q : ℕ) → q < m.people → list_of (with_lists m aimed) q ≡ cond (group q)
      (aim (home m q) (gets (with_lists m lists) q)) (list_of m q)
  unfolding aimed
  aimed_at q l =
      get_or-map-range_with_len (λ q. cond (group q) (aim (home m q) (gets (with_lists m lists) q)) (list_of m q)) 0
      m.people q q [] l (zero-add q)

  in_group : (q : ℕ) → q < m.people → group q ≡ true → list_of (with_lists m aimed) q ≡ aim (home m q)
      (gets (with_lists m lists) q)
  in_group q l h = aimed_at q l ∙ cond-true (group q) (aim (home m q) (gets (with_lists m lists) q)) (list_of m q) h

  outside : (q : ℕ) → q < m.people → group q ≡ false → list_of (with_lists m aimed) q ≡ list_of m q
  outside q l h = aimed_at q l ∙ cond-false (group q) (aim (home m q) (gets (with_lists m lists) q)) (list_of m q) h

  -- what holds of the own lists and of the members' new ones holds of all lists
  all_lists : (P : ℕ → List ℕ → Type 0) → ((q : ℕ) → q < m.people → P q (aim (home m q) (gets (with_lists m lists) q)))
      → ((q : ℕ) → q < m.people → P q (list_of m q)) → (q : ℕ) → q < m.people → P q (list_of (with_lists m aimed) q)
  all_lists P new old q l =
      elim (cases_Bool (group q)) [
        | inl y ↦ subst (P q) (sym (in_group q l y)) (new q l)
        | inr n ↦ subst (P q) (sym (outside q l n)) (old q l)
      ]

  aimed_market : IsMarket (with_lists m aimed)
  unfolding aimed
  aimed_market = record {
    indexed = record {
      homes_len = ok.indexed.homes_len;
      lists_len =
          length-map-range_with_len
          (λ q. cond (group q) (aim (home m q) (gets (with_lists m lists) q)) (list_of m q)) 0 m.people;
      homes_known = ok.indexed.homes_known;
      lists_known =
          all_lists (λ q xs. All (λ r. r < m.rooms) xs)
          (λ q l. aim_all (λ r. r < m.rooms) (home m q) (gets (with_lists m lists) q)
          (λ r e n. (gets_assignment (with_lists m lists) ok2).known q r l e)) ok.indexed.lists_known;
    };
    homes_differ = ok.homes_differ;
    lists_strict =
        all_lists (λ q xs. AllPairs ◌≢◌ xs)
        (λ q l i j d ij le. absurd (omega (arith, ij, le, aim_short (home m q) (gets (with_lists m lists) q))))
        ok.lists_strict;
    own_unlisted = λ q r l e. all_lists (λ q xs. (r : ℕ) → home m q ≡ Some r → All (λ x. x ≢ r) xs)
        (λ q l r e. aim_all (λ x. x ≢ r) (home m q) (gets (with_lists m lists) q)
        (λ x ex n xr. both_ways (is_room x (home m q)) n (is_room_from x (home m q) (e ∙ ap Some (sym xr)))))
        (λ q l r e. ok.own_unlisted q r l e) q l r e;
  }

  start_same : (a : List (List ℕ)) → start (with_lists m a) ≡ start m
  unfolding start
  start_same a = refl

  new_leads : Leads (with_lists m aimed) (gets (with_lists m lists)) (start m)
  new_leads =
      subst (λ z. Leads (with_lists m aimed) (gets (with_lists m lists)) z) (start_same lists)
      (aim_leads (with_lists m lists) aimed (gets (with_lists m lists))
      (λ q l. elim
      (cases_Bool (group q)) [ inl y ↦ inr (in_group q l y) | inr n ↦ inl (outside q l n ∙ sym (keep q l n)) ])
      (gets_leads (with_lists m lists)))

  all_same : (p : ℕ) → p < m.people → gets (with_lists m lists) p ≡ gets m p
  all_same p l =
      same_from m ok aimed aimed_market (gets m) (gets (with_lists m lists))
      (λ q l. elim (cases_Bool (group q)) [ inl y ↦ inr (in_group q l y, none q l y) | inr n ↦ inl (outside q l n) ])
      (gets_leads m) (start_known m) (start_homes m ok) new_leads p (start_has_person m ok p l)

pub groups_gain_nothing : (m : Market) → IsMarket m → IsGroupStrategyproof m
groups_gain_nothing m ok group lists ok2 keep none p l = all_same m ok group lists ok2 keep none p l

-- one person as a group
pub one_is_a_group : (m : Market) → IsMarket m → (p : ℕ) (l : List ℕ) → IsMarket (with_list m p l)
    → rank m p (gets (with_list m p l) p) ≤ rank m p (gets m p) → (q : ℕ) → q < m.people
    → gets (with_list m p l) q ≡ gets m q
one_is_a_group m ok p l ok2 le =
    all_same m ok (λ z. z == p) (slice_set m.lists p l) ok2
    (λ z hz n. get_or-set_other m.lists p z l [] (λ zp. both_ways (z == p) n (eq-eqb z p zp)))
    (λ z hz y. subst (λ v. rank m v (gets (with_list m p l) v) ≤ rank m v (gets m v)) (sym (eqb-true z p y)) le)

pub trade_is_nonbossy : (m : Market) → IsMarket m → IsNonbossy m
trade_is_nonbossy m ok p l h ok2 e =
    one_is_a_group m ok p l ok2 (subst (λ v. rank m p v ≤ rank m p (gets m p)) (sym e) (le_refl (rank m p (gets m p))))
