-- The market with another list of one person.
use Rattle.std.proofs.Common.{◌≡◌, ◌≢◌, ℕ, ◌<◌, List, [], Some, All, AllPairs, length, sym, ◌∙◌, subst, inl, inr}
use Rattle.std.proofs.Common.{get_or-set_same, get_or-set_other, length-set, arith}
use Rattle.std.proofs.lemmas.Bool.{cases_eq}
use Rattle.trade_line.specs.Market.{Market, IsMarket, home, list_of}
use Rattle.trade_line.specs.OtherList.{with_list, IsListFor}

module _ (m : Market) (ok : IsMarket m) (p : ℕ) (l : List ℕ) (fits : IsListFor m p l) where
  own_place : p < length m.lists
  own_place = omega (arith, fits.0.0, ok.indexed.lists_len)

  -- what holds of the new list and of all old ones holds of all lists
  all_lists : (P : ℕ → List ℕ → Type 0) → P p l → ((q : ℕ) → q < m.people → P q (list_of m q)) → (q : ℕ) → q < m.people
      → P q (list_of (with_list m p l) q)
  all_lists P new old q h =
      elim (cases_eq q p) [
        | inl e ↦ subst (λ z. P z (list_of (with_list m p l) z)) (sym e)
            (subst (P p) (sym (get_or-set_same m.lists p l [] own_place)) new)
        | inr d ↦ subst (P q) (sym (get_or-set_other m.lists p q l [] d)) (old q h)
      ]

  pub with_list_market : IsMarket (with_list m p l)
  with_list_market = record {
    indexed = record {
      homes_len = ok.indexed.homes_len;
      lists_len = length-set m.lists p l ∙ ok.indexed.lists_len;
      homes_known = ok.indexed.homes_known;
      lists_known = all_lists (λ q xs. All (λ r. r < m.rooms) xs) fits.0.1 ok.indexed.lists_known;
    };
    homes_differ = ok.homes_differ;
    lists_strict = all_lists (λ q xs. AllPairs ◌≢◌ xs) fits.1 ok.lists_strict;
    own_unlisted = λ q r h e. all_lists (λ q xs. (r : ℕ) → home m q ≡ Some r → All (λ x. x ≢ r) xs) fits.2
        (λ q h r e. ok.own_unlisted q r h e) q h r e;
  }
