-- Words that a desk handles are handled by the office that it represents, and a list that it imports is imported there.
use Rattle.std.proofs.Common.{◌≡◌, ℕ, true, List, length, take, Option, Result, inl, inr, refl, sym, subst, arith}
use Rattle.std.specs.declared.io.Error.{Error}
use Rattle.std.specs.Io.KnownBytes.{Keeps}
use Rattle.std.proofs.lemmas.List.{take_all}
use Rattle.sqlite.specs.Held.{state}
use Rattle.sqlite.specs.State.{HasCleanDisk}
use Rattle.sqlite_trees.specs.declared.store.Store.{Ghosts}
use Rattle.office_store.specs.exports.Ending.{PutsPrefix, StopsWithin, has_failed, sent_of}
use Rattle.office_store.specs.declared.exports.ending.ExportEnd.{ExportEnd}
use Rattle.office_store.specs.declared.exports.ending.ExportEnd.TheVariants.{Fault, Unavailable}
use Rattle.office_cli.specs.AtDesk.{EndsEarly, HandlesWords, ImportsDesk}
use Rattle.office_cli.specs.Importing.{ImportsFrom, import_request}
use Rattle.office_cli.specs.ListAccess.{ImportsOpened, ListAccess}
use Rattle.office_lines.proofs.handled.Steps.{words_shown}
use Rattle.room_types.specs.Printing.{Prints, PrintsUnavailable}
use Rattle.office_lines.specs.SingleLines.{DoesWords}
use Rattle.office_store.proofs.desks.Runs.{step_represented}
use Rattle.office_store.specs.Desk.{DeskState, Represents}
use Rattle.office_store.specs.Handling.{HandlesAt}
use Rattle.office_store.specs.LawfulSteps.{HandlesLawfully}
use Rattle.office_state.specs.declared.office.Office.{Office}
use Rattle.office_schema.proofs.statements.Steps.{follows-refl}
use Rattle.office_schema.specs.tables.Steps.{Follows}
use Rattle.room_types.proofs.watched_bytes.Streams.{Puts-kept}
use Rattle.room_types.specs.Streams.{Output, Puts}
use Rattle.room_types.specs.Texts.{Text}
use Rattle.room_types.specs.declared.kinds.ListKind.{ListKind}
use Rattle.room_types.specs.declared.watched.Watched.{Watched}

module _ {S : Type 0} (g : Ghosts S) where
  -- the state of the database connection after the words follows the one before
  words_follow : (old new : DeskState S) (words : List Text) (status : ℕ) (out out' : Output)
      → DoesWords (HandlesAt g) old words status new out out'
      → Follows (state g old.conn) (state g new.conn)
  words_follow old new words status out out' handled =
      (words_shown {K = Unit {0}} (HandlesAt g) (λ _ _ _ _. Unit {0})
      (λ desk _. Follows (state g old.conn) (state g desk.conn)) old new
      (λ request answer h k s. (tt, tt, h.follows)) words status out out' handled tt
      (follows-refl (state g old.conn))).2

  pub handles_words : (old new : DeskState S) (words : List Text) (status : ℕ) (out out' : Output)
      → DoesWords (HandlesAt g) old words status new out out'
      → HandlesWords g old new words status out out'
  handles_words old new words status out out' handled = record {
    follows = words_follow old new words status out out' handled;
    handled = handled;
    done = λ clean office represents.
        words_shown (HandlesAt g) HandlesLawfully (Represents g) old new
        (λ request answer h. step_represented g old new request answer h clean) words status out out' handled
        office represents;
  }

  -- the state of the database connection after an import follows the one before
  list_follows : {R : Type 0} (reads : R → List ℕ → List ℕ → Result ℕ Error → R → Type 0)
      (remaining : R → Option (List ℕ)) (old new : DeskState S) (kind : ListKind) (label : Text)
      (source source' : Watched R) (status : ℕ) (out out' : Output)
      → ImportsFrom (HandlesAt g) reads remaining old kind label source source' status new out out'
      → Follows (state g old.conn) (state g new.conn)
  list_follows reads remaining old new kind label source source' status out out' (inl h) = h.2.1.follows
  list_follows reads remaining old new kind label source source' status out out' (inr h) =
      subst (λ desk. Follows (state g old.conn) (state g desk.conn)) (sym h.0) (follows-refl (state g old.conn))

  list_represented : {R : Type 0} (reads : R → List ℕ → List ℕ → Result ℕ Error → R → Type 0)
      (remaining : R → Option (List ℕ)) (old new : DeskState S) (kind : ListKind) (label : Text)
      (source source' : Watched R) (status : ℕ) (out out' : Output)
      → ImportsFrom (HandlesAt g) reads remaining old kind label source source' status new out out'
      → HasCleanDisk (state g new.conn) → (office : Office) → Represents g old office
      → (next : Office) × ImportsFrom HandlesLawfully reads remaining office kind label source source' status next out
      out' × Represents g new next
  list_represented reads remaining old new kind label source source' status out out' (inl h) clean office represents =
      let step = step_represented g old new (import_request kind label h.0) h.2.0 h.2.1 clean office represents in
      (step.0, inl (h.0, h.1, (h.2.0, step.1, h.2.2)), step.2)
  list_represented reads remaining old new kind label source source' status out out' (inr h) clean office represents =
      (office, inr (refl, h.1, h.2), subst (λ desk. Represents g desk office) (sym h.0) represents)

  -- a list that was opened is imported at the desk
  pub opened_list : {L : Type 0} (list_access : ListAccess L) (lists : L) (old : DeskState S) (lists' : L)
      (new : DeskState S) (kind : ListKind) (label path : Text) (status : ℕ) (out out' : Output)
      → ImportsOpened (HandlesAt g) list_access lists old kind label path status lists' new out out'
      → ImportsDesk g list_access lists old lists' new kind label path status out out'
  opened_list list_access lists old lists' new kind label path status out out' h = record {
    follows =
        list_follows list_access.reads list_access.remaining old new kind label h.source h.source' status out
        out' h.imports;
    handled = inl h;
    done = λ clean office represents.
        let accepted =
        list_represented list_access.reads list_access.remaining old new kind label h.source h.source' status out
        out' h.imports clean office represents in (
          accepted.0,
          inl (record {
            source = h.source;
            source' = h.source';
            between = h.between;
            opened = h.opened;
            unused = h.unused;
            few = h.few;
            no_wasted_read = h.no_wasted_read;
            imports = accepted.1;
            closed = h.closed;
          }),
          accepted.2,
        );
  }

  -- no list was opened
  pub no_list : {L : Type 0} (list_access : ListAccess L) (lists lists' : L) (desk : DeskState S) (kind : ListKind)
      (label path : Text) (status : ℕ) (out out' : Output)
      → list_access.fails lists path lists' → PrintsUnavailable status out out'
      → ImportsDesk g list_access lists desk lists' desk kind label path status out out'
  no_list list_access lists lists' desk kind label path status out out' fails prints = record {
    follows = follows-refl (state g desk.conn);
    handled = inr (fails, refl, prints);
    done = λ clean office represents. (office, inr (fails, refl, prints), represents);
  }

-- the bytes were written, and then a flush failed
pub Prints-unflushed : (bytes : List ℕ) (out mid out' : Output) → Puts out mid bytes → Keeps mid.contents out'.contents
    → out'.taken ≡ mid.taken → out'.failed ≡ true → Prints bytes 0 3 out out'
Prints-unflushed bytes out mid out' puts keeps taken failed =
    let whole : take (length bytes) bytes ≡ bytes = take_all (length bytes) bytes (omega arith) in
    inr (refl, failed, length bytes, rw whole (Puts-kept _ _ _ _ puts keeps taken))

-- the export stopped early in this way
pub ends_early : (bytes : List ℕ) (end : ExportEnd) (out out' : Output) → PutsPrefix out out' (sent_of end) bytes
    → StopsWithin (length bytes) end
    → out'.failed ≡ has_failed out.failed end → EndsEarly bytes out out'
ends_early bytes (Fault sent) out out' prefix short failed =
    record { sent = sent; prefix = prefix; short = inr (failed, short) }
ends_early bytes (Unavailable sent) out out' prefix short failed =
    record { sent = sent; prefix = prefix; short = inl failed }
