-- One request at a desk.
use Rattle.std.proofs.Common.{◌≡◌, true, false, List, Option, Some, None, IfSome, IsTrue}
use Rattle.std.proofs.Common.{MatchOption, inl, inr, refl, sym, ap, ◌∙◌, subst}
use Rattle.sqlite_trees.specs.declared.store.Store.{Ghosts}
use Rattle.sqlite.specs.Effect.{Database}
use Rattle.sqlite.specs.Held.{Held, state}
use Rattle.sqlite.specs.State.{HasCleanDisk}
use Rattle.office_state.specs.Change.{LeadsTo, AllFit, applied_all}
use Rattle.office_state.specs.Empty.{is_empty}
use Rattle.office_state.specs.Office.Invariants.{IsLawful}
use Rattle.office_state.specs.declared.change.Change.{Change}
use Rattle.office_state.specs.declared.office.Office.{Office}
use Rattle.office_core.specs.Command.{checks, next, reply_to}
use Rattle.office_core.specs.Command.Changes.{changes_of}
use Rattle.office_core.specs.Command.Decision.{IsDecision}
use Rattle.office_core.specs.declared.command.Command.{Command}
use Rattle.office_core.specs.declared.command.decision.Decision.{Decision}
use Rattle.office_schema.specs.cells.WellFormed.{IsWellFormed}
use Rattle.office_schema.specs.rows.Tables.{rows_of}
use Rattle.office_schema.specs.tables.Crashes.{LeavesNothingNew, LeavesOldOr, ShowsCommitted}
use Rattle.office_schema.specs.tables.Steps.{Follows, IsIntact}
use Rattle.office_schema.specs.tables.Tables.{HoldsOffice}
use Rattle.office_schema.proofs.statements.Crashes.{old_or_then, old_or_weaker}
use Rattle.office_schema.proofs.statements.Steps.{follows-refl, follows_then}
use Rattle.office_db.specs.changes.StoresChanges.{CommitsChanges, StoresChanges}
use Rattle.office_db.specs.loading.Reading.{KeepsDatabase, OnlyReads}
use Rattle.office_db.proofs.found_offices.Following.{keeps_then, reads-refl, reads_then}
use Rattle.office_store.proofs.desks.Certain.{false_is_not_true}
use Rattle.office_store.specs.Caching.{changes_allocate}
use Rattle.office_store.specs.Desk.{DeskState, Shows, Represents}
use Rattle.office_store.specs.Handling.{CommitsRequest, HandlesAt, IsAnsweredBy, UpdatesCache}
use Rattle.office_store.specs.Certain.{is_certain}
use Rattle.office_core.specs.Requests.{Handles, answer_to, office_after, office_unless}
use Rattle.office_store.specs.Storing.{IsStored, changes_nothing}
use Rattle.office_core.specs.declared.requests.Answer.{Answer}
use Rattle.office_core.specs.declared.requests.Answer.TheVariants.{Reply, Unavailable}
use Rattle.office_core.specs.declared.requests.Request.{Request}
use Rattle.office_core.specs.declared.requests.Request.TheVariants as request
use Rattle.office_store.proofs.desks.Caches.{accepted_answer, accepted_handles, applied_none, cached_after}
use Rattle.office_store.proofs.desks.Caches.{cached_office_through, changes_none, changes_something, goes_on_after}
use Rattle.office_store.proofs.desks.Caches.{keeps_after, lost_after, nothing_cached, some_length, stays_cached}
use Rattle.office_store.proofs.desks.Caches.{was_cached_after}

module _ {S : Type 0} (g : Ghosts S) where
  -- A desk represents the office that it shows. While the connection is open, it shows the office that it represents.
  pub represents_if_shown : (desk : DeskState S) (office : Office) → Shows g desk office → Represents g desk office
  represents_if_shown desk office shows = record {
    tables = λ is_open. shows.tables;
    well_formed = shows.well_formed;
    lawful = shows.lawful;
    cached = shows.cached;
  }

  pub shows_if_open : (desk : DeskState S) (office : Office) → IsTrue (state g desk.conn).is_open
      → Represents g desk office → Shows g desk office
  shows_if_open desk office is_open represents = record {
    is_open = is_open;
    tables = represents.tables is_open;
    well_formed = represents.well_formed;
    lawful = represents.lawful;
    cached = represents.cached;
  }

  -- The office that the desk represents is the cached one.
  cached_is : (desk : DeskState S) (cached office : Office) → desk.cached ≡ Some cached → Represents g desk office
      → cached ≡ office
  cached_is desk cached office is represents = subst (λ k. IfSome k (λ o. o ≡ office)) is represents.cached

  -- The tables are unchanged while the connection is open.
  pub held_still : (old new : Held S) (cached : Option Office) (office : Office) → HasCleanDisk (state g new)
      → Follows (state g old) (state g new)
      → (IsIntact (state g new) → (state g new).now ≡ (state g old).now)
      → Represents g (record { conn = old; cached = cached }) office → IsTrue (state g new).is_open
      → HoldsOffice (state g new).now office
  held_still old new cached office clean follows same represents is_open =
      let held = represents.tables (follows.was_open clean is_open) in
      subst (λ db. HoldsOffice db office) (sym (same (clean, is_open))) held

  -- So is the office that the desk represents.
  pub represents_still : (old new : Held S) (cached : Option Office) (office : Office) → HasCleanDisk (state g new)
      → Follows (state g old) (state g new)
      → (IsIntact (state g new) → (state g new).now ≡ (state g old).now)
      → Represents g (record { conn = old; cached = cached }) office
      → Represents g (record { conn = new; cached = cached }) office
  represents_still old new cached office clean follows same represents = record {
    tables = held_still old new cached office clean follows same represents;
    well_formed = represents.well_formed;
    lawful = represents.lawful;
    cached = represents.cached;
  }

  -- A crash leaves nothing new.
  commits_nothing : (old new : DeskState S) (request : Request) → LeavesNothingNew (state g old.conn) (state g new.conn)
      → LeavesOldOr (CommitsRequest g old request) (state g old.conn) (state g new.conn)
  commits_nothing old new request none clean db may = inl (none clean db may)

  -- Nothing is changed.
  pub unavailable_keeps_desk : (old new : DeskState S) (request : Request)
      → KeepsDatabase (state g old.conn) (state g new.conn)
      → IfSome old.cached (λ office. UpdatesCache office request Unavailable new.cached)
      → IfSome old.cached (λ office. changes_nothing office request ≡ true → new.conn ≡ old.conn)
      → (HasCleanDisk (state g new.conn) → (office : Office) → Represents g old office → Represents g new office)
      → ShowsCommitted (state g new.conn)
      → LeavesOldOr (CommitsRequest g old request) (state g old.conn) (state g new.conn)
      → HandlesAt g old request Unavailable new
  unavailable_keeps_desk old new request same keeps untouched still shows crash = record {
    follows = same.follows;
    committed = shows;
    returned = inr (refl, same);
    keeps = keeps;
    untouched = untouched;
    steps = λ clean office represents. (office, inr (refl, refl), still clean office represents);
    crash = crash;
  }

  -- the same, where no office was cached
  pub unavailable_uncached : (old new : DeskState S) (request : Request) → old.cached ≡ None
      → OnlyReads (state g old.conn) (state g new.conn)
      → (HasCleanDisk (state g new.conn) → (office : Office) → Represents g old office → Represents g new office)
      → ShowsCommitted (state g new.conn) → HandlesAt g old request Unavailable new
  unavailable_uncached old new request none reads still shows =
      unavailable_keeps_desk old new request reads.keeps (nothing_cached old.cached
      (λ office. UpdatesCache office request Unavailable new.cached) none)
      (nothing_cached old.cached (λ office. changes_nothing office request ≡ true → new.conn ≡ old.conn) none) still
      shows (commits_nothing old new request reads.crash)

  -- an answer of the cached office, if nothing is stored
  pub cached_office_answers : (desk : DeskState S) (cached : Office) (request : Request) (answer : Answer)
      → desk.cached ≡ Some cached → IsLawful cached → Handles cached request answer cached
      → (is_certain cached request ≡ true → answer ≡ answer_to cached request) → ¬ IsStored cached request answer
      → ShowsCommitted (state g desk.conn) → HandlesAt g desk request answer desk
  cached_office_answers desk cached request answer is lawful handled certain none shows =
      let keeps = stays_cached cached request answer handled certain in
      record {
        follows = follows-refl (state g desk.conn);
        committed = shows;
        returned = elim handled [
          | inl done ↦
              inl (
                cached,
                record {
                  lawful = lawful;
                  was_cached = subst (λ k. IfSome k (λ o. o ≡ cached)) (sym is) refl;
                  represented = λ clean represented represents. cached_is desk cached represented is represents;
                  answers = done.0;
                  keeps = subst (λ k. UpdatesCache cached request answer k) (sym is) keeps;
                  reads = λ unstored. reads-refl (state g desk.conn);
                  stored = λ stored clean. absurd (none stored);
                },
              )
          | inr want ↦ inr (want.0, (reads-refl (state g desk.conn)).keeps)
        ];
        keeps = subst (λ k. IfSome k (λ office. UpdatesCache office request answer k)) (sym is) keeps;
        untouched =
            subst (λ k. IfSome k (λ o. changes_nothing o request ≡ true → desk.conn ≡ desk.conn)) (sym is)
            (λ nothing. refl);
        steps =
            λ clean office represents. (
              office,
              subst (λ o. Handles o request answer o)
                  (cached_is desk cached office is represents) handled,
              represents,
            );
        crash = commits_nothing desk desk request (λ clean db may. may);
      }

  -- the office that answers, after a read that leaves the desk representing the same office
  answered_after : (old mid new : DeskState S) (request : Request) (answer : Answer) (office : Office)
      → OnlyReads (state g old.conn) (state g mid.conn) → IfSome old.cached (λ cached. mid.cached ≡ Some cached)
      → (HasCleanDisk (state g new.conn) → (represented : Office) → Represents g old represented
      → Represents g mid represented)
      → IsAnsweredBy g mid request answer new office → IsAnsweredBy g old request answer new office
  answered_after old mid new request answer office reads cached still by = record {
    lawful = by.lawful;
    was_cached = was_cached_after old.cached mid.cached office cached by.was_cached;
    represented = λ clean represented represents. by.represented clean represented (still clean represented represents);
    answers = by.answers;
    keeps = by.keeps;
    reads = λ unstored. reads_then _ _ _ reads (by.reads unstored);
    stored = by.stored;
  }

  -- what the request may commit, after such a read
  committed_after : (old mid : DeskState S) (request : Request) (after : Database)
      → IfSome old.cached (λ cached. mid.cached ≡ Some cached)
      → ((represented : Office) → Represents g old represented → Represents g mid represented)
      → (IsTrue (state g mid.conn).is_open → IsTrue (state g old.conn).is_open)
      → CommitsRequest g mid request after → CommitsRequest g old request after
  committed_after old mid request after cached still opened it = record {
    office = it.office;
    was_cached = was_cached_after old.cached mid.cached it.office cached it.was_cached;
    represented = λ represented represents. it.represented represented (still represented represents);
    changes = it.changes;
    was_open = opened it.was_open;
    holds = λ represents. it.holds (still it.office represents);
  }

  -- the same for a whole request
  pub handles_after : (old mid new : DeskState S) (request : Request) (answer : Answer)
      → OnlyReads (state g old.conn) (state g mid.conn) → IfSome old.cached (λ cached. mid.cached ≡ Some cached)
      → IfSome old.cached (λ cached. mid.conn ≡ old.conn)
      → (HasCleanDisk (state g mid.conn) → (office : Office) → Represents g old office → Represents g mid office)
      → HandlesAt g mid request answer new → HandlesAt g old request answer new
  handles_after old mid new request answer reads cached same still h =
      let still_represents : HasCleanDisk (state g new.conn) → (office : Office) → Represents g old office
      → Represents g mid office = λ clean. still (h.follows.clean clean) in
      record {
        follows = follows_then _ _ _ reads.keeps.follows h.follows;
        committed = h.committed;
        returned = elim h.returned [
          | inl some ↦
              inl (some.0, answered_after old mid new request answer some.0 reads cached still_represents some.1)
          | inr none ↦ inr (none.0, keeps_then _ _ _ reads.keeps none.1)
        ];
        keeps = keeps_after old.cached mid.cached request answer new.cached cached h.keeps;
        untouched =
            cached_office_through old.cached mid.cached (mid.conn ≡ old.conn)
            (λ office. changes_nothing office request ≡ true → new.conn ≡ mid.conn)
            (λ office. changes_nothing office request ≡ true → new.conn ≡ old.conn) cached same h.untouched
            (λ office first then nothing. then nothing ∙ first);
        steps = λ clean office represents. h.steps clean office (still_represents clean office represents);
        crash =
            old_or_then (CommitsRequest g old request) (state g old.conn) (state g mid.conn) (state g new.conn)
            h.follows.clean reads.crash
            (old_or_weaker (CommitsRequest g mid request) (CommitsRequest g old request)
            (state g mid.conn) (state g new.conn)
            (λ clean after it. committed_after old mid request after cached (still_represents clean)
            (reads.keeps.follows.was_open (h.follows.clean clean)) it) h.crash);
      }

  -- what a command commits whose changes are stored, or may be
  pub command_committed : (old new : Held S) (cached : Office) (command : Command) (decision : Decision)
      (changes : List Change)
      → IsDecision (checks cached command) (reply_to cached command) (changes_of cached command) decision
      → LeadsTo cached (next cached command) decision.changes.items
      → changes ≡ decision.changes.items → is_empty changes ≡ false
      → LeavesOldOr (CommitsChanges cached (state g old) changes) (state g old) (state g new)
      → LeavesOldOr (CommitsRequest g (record { conn = old; cached = Some cached }) (request.Office command))
      (state g old) (state g new)
  command_committed old new cached command decision changes d leads same some =
      let goes : applied_all cached changes ≡ next cached command = ap (applied_all cached) same ∙ leads.leads in
      let next_is : office_after cached (request.Office command) ≡ next cached command =
      ap (λ refusal. office_unless refusal cached (next cached command)) d.accepted in
      old_or_weaker (CommitsChanges cached (state g old) changes)
      (CommitsRequest g (record { conn = old; cached = Some cached }) (request.Office command))
      (state g old) (state g new)
      (λ clean after it. let is_open = it.was_open (some_length changes some) in record {
        office = cached;
        was_cached = refl;
        represented = λ represented represents. represents.cached;
        changes = changes_something cached command changes d.accepted (same ∙ d.changed) some;
        was_open = is_open;
        holds = λ represents. subst (HoldsOffice after) (goes ∙ sym next_is)
            (it.stored cached (subst (AllFit cached cached) (sym same) leads.fits) represents.well_formed
            (represents.tables is_open));
      })

  -- a command whose changes are stored: they are in the tables, and in the cached office, if any
  pub carried_out : (old new : Held S) (cached : Office) (command : Command) (decision : Decision)
      (changes : List Change) (taken after : Option Office)
      → IsDecision (checks cached command) (reply_to cached command) (changes_of cached command) decision
      → LeadsTo cached (next cached command) decision.changes.items
      → IsLawful cached → changes ≡ decision.changes.items → is_empty changes ≡ false
      → Follows (state g old) (state g new) → (HasCleanDisk (state g new) → IsTrue (state g new).is_open)
      → StoresChanges cached (state g old) (state g new) changes
      → taken ≡ Some cached → MatchOption taken (after ≡ None) (λ o. IfSome after (λ n. n ≡ applied_all o changes))
      → IfSome taken (λ o. after ≡ None → changes_allocate o changes ≡ true)
      → ShowsCommitted (state g new)
      → LeavesOldOr (CommitsChanges cached (state g old) changes) (state g old) (state g new)
      → HandlesAt g (record { conn = old; cached = Some cached }) (request.Office command) (Reply decision.reply)
      (record { conn = new; cached = after })
  carried_out old new cached command decision changes taken after d leads lawful same some follows is_open stored
      took done lost shows crash =
      let is : Reply decision.reply ≡ answer_to cached (request.Office command) =
      accepted_answer cached command decision.reply d.accepted d.replied in
      let goes : applied_all cached changes ≡ next cached command = ap (applied_all cached) same ∙ leads.leads in
      let changed = changes_something cached command changes d.accepted (same ∙ d.changed) some in
      let keeps : UpdatesCache cached (request.Office command) (Reply decision.reply) after = record {
        certain = λ certain. is;
        stays = λ unstored. absurd (unstored (tt, changed));
        goes_on =
            goes_on_after cached (next cached command) (request.Office command) (Reply decision.reply) after
            (accepted_handles cached command decision.reply d.accepted d.replied)
            (subst (λ n. IfSome after (λ o. o ≡ n)) goes (cached_after taken after cached changes took done));
        lost = lost_after taken after cached changes (changes_of cached command) took (same ∙ d.changed) lost;
      } in
      record {
        follows = follows;
        committed = shows;
        returned = inl (
          cached,
          record {
            lawful = lawful;
            was_cached = refl;
            represented = λ clean represented represents. represents.cached;
            answers = is;
            keeps = keeps;
            reads = λ unstored. absurd (unstored (tt, changed));
            stored = λ accepted clean. is_open clean;
          },
        );
        keeps = keeps;
        untouched = λ nothing. absurd (false_is_not_true (sym changed ∙ nothing));
        steps = λ clean office represents.
            let same_office : cached ≡ office = represents.cached in
            let fits : AllFit cached cached changes = subst (AllFit cached cached) (sym same) leads.fits in
            let well_formed = subst (λ o. IsWellFormed (rows_of o)) (sym same_office) represents.well_formed in
            let held = represents.tables (follows.was_open clean (is_open clean)) in
            let cached_held = subst (HoldsOffice (state g old).now) (sym same_office) held in
            let shown = stored.shown cached clean fits well_formed cached_held in (
              next cached command,
              subst (λ o. Handles o (request.Office command) (Reply decision.reply) (next cached command)) same_office
                  (accepted_handles cached command decision.reply d.accepted d.replied),
              record {
                tables = λ now_open. subst (HoldsOffice (state g new).now) goes shown.0;
                well_formed = subst (λ o. IsWellFormed (rows_of o)) goes shown.1;
                lawful = leads.lawful;
                cached =
                    subst (λ n. IfSome after (λ o. o ≡ n)) goes (cached_after taken after cached changes took done);
              },
            );
        crash = command_committed old new cached command decision changes d leads same some crash;
      }

  -- a command that changes nothing: it is answered, and no statement runs
  pub nothing_stored : (desk : DeskState S) (cached : Office) (command : Command) (decision : Decision)
      → desk.cached ≡ Some cached
      → IsDecision (checks cached command) (reply_to cached command) (changes_of cached command) decision
      → LeadsTo cached (next cached command) decision.changes.items
      → IsLawful cached → is_empty decision.changes.items ≡ true → ShowsCommitted (state g desk.conn)
      → HandlesAt g desk (request.Office command) (Reply decision.reply) desk
  nothing_stored desk cached command decision is d leads lawful none shows =
      let stays : next cached command ≡ cached = sym leads.leads ∙ applied_none cached decision.changes.items none in
      let nothing = changes_none cached command decision.changes.items d.accepted d.changed none in
      cached_office_answers desk cached (request.Office command) (Reply decision.reply) is lawful
      (subst (λ o. Handles cached (request.Office command) (Reply decision.reply) o) stays
      (accepted_handles cached command decision.reply d.accepted d.replied))
      (λ certain. accepted_answer cached command decision.reply d.accepted d.replied)
      (λ stored. false_is_not_true (sym stored.1 ∙ nothing)) shows
