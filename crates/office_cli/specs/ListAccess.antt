-- How a store of lists behaves, and how the program imports a list from it.
use Rattle.std.specs.Prelude.{◌≡◌, ℕ, ◌≤◌, ◌⊎◌, List, Option, Result}
use Rattle.std.specs.declared.io.Error.{Error}
use Rattle.office_cli.specs.Importing.{ImportsFrom, list_limit}
use Rattle.room_types.specs.Printing.{PrintsUnavailable}
use Rattle.office_core.specs.declared.requests.Answer.{Answer}
use Rattle.office_core.specs.declared.requests.Request.{Request}
use Rattle.room_types.specs.Streams.{Output}
use Rattle.room_types.specs.Texts.{Text}
use Rattle.resident_http.specs.server.Unused.{IsUnused}
use Rattle.room_types.specs.Watched.{StopsAtEnd, watched_reads}
use Rattle.room_types.specs.declared.kinds.ListKind.{ListKind}
use Rattle.room_types.specs.declared.watched.Watched.{Watched}

-- How a store of lists behaves. `opens` and `fails` describe how opening a path succeeds or fails, and `closes` how a
-- list is closed. Each of these is a relation between the states of the store before and after one call. `reads`
-- describes one read of a list, and `remaining` the bytes still to be read from it, where they are known.
pub record ListAccess (L : Type 0) : Type 1 where
  pub Reader : Type 0
  pub opens : L → Text → Watched Reader → L → Type 0
  pub fails : L → Text → L → Type 0
  pub closes : L → Watched Reader → L → Type 0
  pub reads : Reader → List ℕ → List ℕ → Result ℕ Error → Reader → Type 0
  pub remaining : Reader → Option (List ℕ)

-- the store that the ghost members of the trait `Lists` and of its readers define
abbrev pub list_access_of : {L R : Type 0} → (L → Text → Watched R → L → Type 0) → (L → Text → L → Type 0) → (L → Watched R → L → Type 0)
    → (R → List ℕ → List ℕ → Result ℕ Error → R → Type 0) → (R → Option (List ℕ)) → ListAccess L
list_access_of {R = R} opens fails closes reads remaining =
    record { Reader = R; opens = opens; fails = fails; closes = closes; reads = reads; remaining = remaining }

module _ {H L : Type 0} (handles : H → Request → Answer → H → Type 0) (list_access : ListAccess L) where
  -- The program opened the path once and imported the list, as `ImportsFrom` describes. It made at most `list_limit`
  -- reads, and no read after one that failed or found the end. It made no other call on the list until it closed the
  -- list in the state in which the last read left it.
  pub record ImportsOpened (lists : L) (old : H) (kind : ListKind) (label path : Text) (status : ℕ) (lists' : L) (new : H) (out out' : Output) : Type 0 where
    pub source : Watched list_access.Reader
    pub source' : Watched list_access.Reader
    pub between : L
    pub opened : list_access.opens lists path source between
    pub unused : IsUnused source
    pub few : watched_reads source' ≤ list_limit
    pub no_wasted_read : StopsAtEnd source source'
    pub imports : ImportsFrom handles list_access.reads list_access.remaining old kind label source source' status new out out'
    pub closed : list_access.closes between source' lists'

  -- Either the program opens the list at a path, imports it, and closes it. Or the path cannot be opened: the
  -- program prints `unavailable`, and the handler gets no command. The program opens and closes no other list.
  abbrev pub ImportsPath : L → H → ListKind → Text → Text → ℕ → L → H → Output → Output → Type 0
  ImportsPath lists old kind label path status lists' new out out' =
      ImportsOpened lists old kind label path status lists' new out out'
      ⊎ (list_access.fails lists path lists' × (new ≡ old) × PrintsUnavailable status out out')
