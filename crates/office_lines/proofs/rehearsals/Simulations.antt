-- If each request to a concrete handler simulates one to an abstract handler, so does a rehearsal.
use Rattle.std.proofs.Common.{ℕ, List, [], ◌∷◌, refl, sym, subst}
use Rattle.office_core.specs.declared.requests.Answer.{Answer}
use Rattle.office_core.specs.declared.requests.Request.{Request}
use Rattle.office_lines.specs.Lines.{ended_lines, lines_of}
use Rattle.office_lines.specs.Rehearsals.{PartOfInput, Rehearses, WholeInput, WholeLines}
use Rattle.office_lines.specs.Runs.{Run}
use Rattle.office_lines.specs.declared.ending.Ending.{Ending}
use Rattle.office_lines.specs.declared.ending.Ending.TheVariants.{Ended, ReadFault, WriteFault, NoMemory}
use Rattle.office_lines.specs.declared.render.response.Response.{Response}
use Rattle.office_lines.specs.parse.Parsing.{begins_request, parsed_line}
use Rattle.room_types.specs.Streams.{Input, Output}
use Rattle.office_lines.proofs.handled.Steps.{answers_shown}

module _ {H K : Type 0} (handles : H → Request → Answer → H → Type 0) (does : K → Request → Answer → K → Type 0) where
  whole_input : (old new : H) (k last : K) (i i' : Input) (o o' : Output) (status : ℕ)
      → (h : WholeInput handles old new i i' o o' status)
      → Run does k (lines_of h.bytes) h.answers last → WholeInput does k last i i' o o' status
  whole_input old new k last i i' o o' status h run = record {
    bytes = h.bytes;
    answers = h.answers;
    read = h.read;
    reads = h.reads;
    end = h.end;
    short = h.short;
    run = run;
    written = h.written;
    flushed = h.flushed;
    none_pending = h.none_pending;
    no_read_failed = h.no_read_failed;
    no_write_failed = h.no_write_failed;
    greatest = h.greatest;
  }

  abbrev part_of_input : (old new : H) (k last : K) (i i' : Input) (o o' : Output) (sent : ℕ)
      → (h : PartOfInput handles old new i i' o o' sent)
      → Run does k h.lines h.answers last → PartOfInput does k last i i' o o' sent
  part_of_input old new k last i i' o o' sent h run = record {
    handled = h.handled;
    ahead = h.ahead;
    lines = h.lines;
    answers = h.answers;
    read = h.read;
    reads = h.reads;
    near = h.near;
    cut = h.cut;
    short = h.short;
    run = run;
    written = h.written;
    whole = h.whole;
    within = h.within;
    flushed = h.flushed;
  }

  whole_lines : (old new : H) (k last : K) (i i' : Input) (o o' : Output) → (h : WholeLines handles old new i i' o o')
      → Run does k (ended_lines h.handled) h.answers last → WholeLines does k last i i' o o'
  whole_lines old new k last i i' o o' h run = record {
    handled = h.handled;
    unhandled = h.unhandled;
    answers = h.answers;
    read = h.read;
    reads = h.reads;
    near = h.near;
    short = h.short;
    run = run;
    written = h.written;
    unflushed = h.unflushed;
    cause = h.cause;
  }

  -- a rehearsal each of whose runs simulates a run of the abstract handler
  module _ (shows : H → K → Type 0) (old new : H) (runs : (lines : List (List ℕ)) (all : List Response)
      → Run handles old lines all new → (k : K) → shows old k
      → (last : K) × Run does k lines all last × shows new last) where
    pub rehearsal_of_runs : (ending : Ending) (status : ℕ) (i i' : Input) (o o' : Output)
        → Rehearses handles ending status old new i i' o o' → (k : K) → shows old k
        → (last : K) × Rehearses does ending status k last i i' o o' × shows new last
    rehearsal_of_runs Ended status i i' o o' h k s =
        let r = runs (lines_of h.bytes) h.answers h.run k s in
        (r.0, whole_input old new k r.0 i i' o o' status h r.1, r.2)
    rehearsal_of_runs ReadFault status i i' o o' h k s =
        let r = runs (ended_lines h.2.handled) h.2.answers h.2.run k s in
        (r.0, (h.0, h.1, whole_lines old new k r.0 i i' o o' h.2 r.1), r.2)
    rehearsal_of_runs (WriteFault sent) status i i' o o' h k s =
        let r = runs h.3.lines h.3.answers h.3.run k s in
        (r.0, (h.0, h.1, h.2, part_of_input old new k r.0 i i' o o' sent h.3 r.1), r.2)
    rehearsal_of_runs (NoMemory sent) status i i' o o' h k s =
        let r = runs h.3.lines h.3.answers h.3.run k s in
        (r.0, (h.0, h.1, h.2, part_of_input old new k r.0 i i' o o' sent h.3 r.1, h.4), r.2)

module _ {H K : Type 0} (handles : H → Request → Answer → H → Type 0) (does : K → Request → Answer → K → Type 0)
    (shows : H → K → Type 0)
    (step : (old new : H) (request : Request) (answer : Answer) → handles old request answer new → (k : K) → shows old k
    → (next : K) × does k request answer next × shows new next) where
  pub run_shown : (old new : H) (lines : List (List ℕ)) (all : List Response) → Run handles old lines all new → (k : K)
      → shows old k
      → (last : K) × Run does k lines all last × shows new last
  run_shown old new [] [] h k s = (k, refl, subst (λ z. shows z k) (sym h) s)
  run_shown old new (line ∷ lines) (response ∷ others) h k s =
      let n = answers_shown handles does shows old h.0 (step old h.0) (parsed_line line) (begins_request line)
      response h.1 k s in
      let r = run_shown h.0 new lines others h.2 n.0 n.2 in
      (r.0, (n.0, n.1, r.1), r.2)
  run_shown old new [] (response ∷ others) h k s = absurd h
  run_shown old new (line ∷ lines) [] h k s = absurd h

  pub rehearsal_shown : (ending : Ending) (status : ℕ) (old new : H) (i i' : Input) (o o' : Output)
      → Rehearses handles ending status old new i i' o o' → (k : K) → shows old k
      → (last : K) × Rehearses does ending status k last i i' o o' × shows new last
  rehearsal_shown ending status old new i i' o o' =
      rehearsal_of_runs handles does shows old new (run_shown old new) ending status i i' o o'
