-- The invariants on words, results and moves, after a command that does not touch them.
use Rattle.std.proofs.Common.{◌≡◌, ℕ, true, false, refl, ap, ◌∙◌, sym}
use Rattle.std.specs.FinMap as map
use Rattle.room_types.specs.Texts.{TextMap}
use Rattle.room_types.specs.declared.phase.Phase.{Phase}
use Rattle.room_types.specs.declared.phase.Phase.TheVariants.{Idle, Opened, Closed, Drawn, Ran}
use Rattle.room_types.specs.declared.phase.Phase.TheVariants.{Published}
use Rattle.office_state.specs.Office.Invariants.{IsLawful, AreValidWords, AreValidResults, AreValidMoves}
use Rattle.office_state.specs.Office.Moves.{moves_of}
use Rattle.office_state.specs.Office.{is_over}
use Rattle.office_state.specs.Office.Phases.{is_idle, is_open, is_closed, is_drawn, has_run}
use Rattle.office_state.specs.Office.Phases.{is_published, is_preparing, has_words, has_results}
use Rattle.office_state.specs.declared.office.Office.{Office}
use Rattle.office_state.specs.declared.office.person.Person.{Person}

pub prepared : (p : Phase) → is_preparing p ≡ true → has_words p ≡ false
prepared Idle h = refl
prepared Opened h = refl
prepared Closed h = cc
prepared Drawn h = cc
prepared Ran h = cc
prepared Published h = cc

pub idle_preparing : (p : Phase) → is_idle p ≡ true → is_preparing p ≡ true
idle_preparing Idle h = refl
idle_preparing Opened h = cc
idle_preparing Closed h = cc
idle_preparing Drawn h = cc
idle_preparing Ran h = cc
idle_preparing Published h = cc

pub open_preparing : (p : Phase) → is_open p ≡ true → is_preparing p ≡ true
open_preparing Idle h = refl
open_preparing Opened h = refl
open_preparing Closed h = cc
open_preparing Drawn h = cc
open_preparing Ran h = cc
open_preparing Published h = cc

pub open_busy : (p : Phase) → is_open p ≡ true → is_idle p ≡ false
open_busy Idle h = cc
open_busy Opened h = refl
open_busy Closed h = refl
open_busy Drawn h = refl
open_busy Ran h = refl
open_busy Published h = refl

pub closed_undrawn : (p : Phase) → is_closed p ≡ true → has_words p ≡ false
closed_undrawn Idle h = refl
closed_undrawn Opened h = refl
closed_undrawn Closed h = refl
closed_undrawn Drawn h = cc
closed_undrawn Ran h = cc
closed_undrawn Published h = cc

pub closed_busy : (p : Phase) → is_closed p ≡ true → is_idle p ≡ false
closed_busy Idle h = cc
closed_busy Opened h = refl
closed_busy Closed h = refl
closed_busy Drawn h = refl
closed_busy Ran h = refl
closed_busy Published h = refl

pub drawn_worded : (p : Phase) → is_drawn p ≡ true → has_words p ≡ true
drawn_worded Idle h = cc
drawn_worded Opened h = cc
drawn_worded Closed h = cc
drawn_worded Drawn h = refl
drawn_worded Ran h = refl
drawn_worded Published h = refl

pub drawn_busy : (p : Phase) → is_drawn p ≡ true → is_idle p ≡ false
drawn_busy Idle h = cc
drawn_busy Opened h = refl
drawn_busy Closed h = refl
drawn_busy Drawn h = refl
drawn_busy Ran h = refl
drawn_busy Published h = refl

pub drawn_unran : (p : Phase) → is_drawn p ≡ true → has_results p ≡ false
drawn_unran Idle h = refl
drawn_unran Opened h = refl
drawn_unran Closed h = refl
drawn_unran Drawn h = refl
drawn_unran Ran h = cc
drawn_unran Published h = cc

pub ran_worded : (p : Phase) → has_run p ≡ true → has_words p ≡ true
ran_worded Idle h = cc
ran_worded Opened h = cc
ran_worded Closed h = cc
ran_worded Drawn h = refl
ran_worded Ran h = refl
ran_worded Published h = refl

pub ran_busy : (p : Phase) → has_run p ≡ true → is_idle p ≡ false
ran_busy Idle h = cc
ran_busy Opened h = refl
ran_busy Closed h = refl
ran_busy Drawn h = refl
ran_busy Ran h = refl
ran_busy Published h = refl

pub ran_given : (p : Phase) → has_run p ≡ true → has_results p ≡ true
ran_given Idle h = cc
ran_given Opened h = cc
ran_given Closed h = cc
ran_given Drawn h = cc
ran_given Ran h = refl
ran_given Published h = refl

pub published_busy : (p : Phase) → is_published p ≡ true → is_idle p ≡ false
published_busy Idle h = cc
published_busy Opened h = refl
published_busy Closed h = refl
published_busy Drawn h = refl
published_busy Ran h = refl
published_busy Published h = refl

pub published_given : (p : Phase) → is_published p ≡ true → has_results p ≡ true
published_given Idle h = cc
published_given Opened h = cc
published_given Closed h = cc
published_given Drawn h = cc
published_given Ran h = refl
published_given Published h = refl

undrawn_unran : (p : Phase) → has_words p ≡ false → has_results p ≡ false
undrawn_unran Idle h = refl
undrawn_unran Opened h = refl
undrawn_unran Closed h = refl
undrawn_unran Drawn h = cc
undrawn_unran Ran h = cc
undrawn_unran Published h = cc

-- no words and no results
pub record IsUndrawn (office : Office) : Type 0 where
  pub has_no_words : has_words office.phase ≡ false
  pub has_no_results : has_results office.phase ≡ false
  pub no_words : office.words ≡ map.empty
  pub no_results : office.results ≡ map.empty

pub undrawn : (office : Office) → IsLawful office → has_words office.phase ≡ false
    → IsUndrawn office
undrawn office l h = record {
  has_no_words = h;
  has_no_results = undrawn_unran office.phase h;
  no_words = l.words.none h;
  no_results = l.results.none (undrawn_unran office.phase h);
}

pub words_undrawn : (phase : Phase) (people : TextMap Person)
    (withdrawn going : TextMap (Unit {0})) (words : TextMap ℕ) → has_words phase ≡ false
    → words ≡ map.empty → AreValidWords phase people withdrawn going words
words_undrawn phase people withdrawn going words before none =
    record { none = λ _. none; each = λ h. absurd (cc) }

pub results_undrawn : (office : Office) → has_results office.phase ≡ false
    → office.results ≡ map.empty → AreValidResults office
results_undrawn office before none = record { none = λ _. none; given = λ h. absurd (cc) }

-- the moves stay, and no round that is over starts again
pub moves_stay : (old new : Office) → new.moves ≡ old.moves
    → ((round : ℕ) → is_over old round ≡ true → is_over new round ≡ true) → AreValidMoves old
    → AreValidMoves new
moves_stay old new same over m = record {
  over = λ round h. over round (m.over round
      (ap (λ moves. map.contains_key moves round) (sym same) ∙ h));
  none_empty =
      λ round kept e. m.none_empty round kept (ap (λ moves. map.get moves round) (sym same) ∙ e);
  arrived = λ round p moved e. m.arrived round p moved
      (ap (λ moves. map.get (moves_of moves round) p) (sym same) ∙ e);
}
