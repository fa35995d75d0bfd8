-- What a request does to a cached office.
use Rattle.std.proofs.Common.{◌≡◌, ◌<◌, true, false, ◌==◌, List, [], ◌∷◌, length, Option, Some, None, IfSome}
use Rattle.std.proofs.Common.{MatchOption, inl, refl, sym, ap, ◌∙◌, subst, arith, ne_eqb}
use Rattle.office_state.specs.Change.{applied_all}
use Rattle.office_state.specs.Empty.{is_empty}
use Rattle.office_state.specs.declared.change.Change.{Change}
use Rattle.office_state.specs.declared.office.Office.{Office}
use Rattle.office_core.specs.Command.{accepts, next, reply_to}
use Rattle.office_core.specs.Command.Changes.{changes_of}
use Rattle.office_core.specs.declared.command.Command.{Command}
use Rattle.office_core.specs.declared.reply.Reply.{Reply as CoreReply}
use Rattle.office_store.proofs.desks.Certain.{false_is_not_true}
use Rattle.office_store.specs.Caching.{changes_allocate}
use Rattle.office_store.specs.Handling.{UpdatesCache}
use Rattle.office_store.specs.Certain.{is_certain}
use Rattle.office_core.specs.Requests.{Handles, answer_unless, answer_to, office_unless}
use Rattle.office_store.specs.Storing.{changes_nothing, stores_nothing}
use Rattle.office_core.specs.declared.requests.Answer.{Answer}
use Rattle.office_core.specs.declared.requests.Answer.TheVariants.{Reply}
use Rattle.office_core.specs.declared.requests.Request.{Request}
use Rattle.office_core.specs.declared.requests.Request.TheVariants as request

-- the office that is cached after changes in turn, if any
pub cached_after : (taken after : Option Office) (office : Office) (changes : List Change) → taken ≡ Some office
    → MatchOption taken (after ≡ None) (λ o. IfSome after (λ n. n ≡ applied_all o changes))
    → IfSome after (λ n. n ≡ applied_all office changes)
cached_after None after office changes e h = absurd (cc)
cached_after (Some o) None office changes e h = tt
cached_after (Some o) (Some n) office changes e h =
    let same : o ≡ office = ap (λ p. elim p as (λ _. Office) [ None ↦ o | Some x ↦ x ]) e in
    h ∙ ap (λ x. applied_all x changes) same

-- a command that no check refuses
pub accepted_answer : (office : Office) (command : Command) (reply : CoreReply)
    → accepts office command ≡ None → reply ≡ reply_to office command
    → Reply reply ≡ answer_to office (request.Office command)
accepted_answer office command reply accepted replied =
    ap (λ r. Reply r) replied ∙ ap (λ refusal. answer_unless refusal (reply_to office command)) (sym accepted)

pub accepted_handles : (office : Office) (command : Command) (reply : CoreReply)
    → accepts office command ≡ None → reply ≡ reply_to office command
    → Handles office (request.Office command) (Reply reply) (next office command)
accepted_handles office command reply accepted replied =
    inl (
      accepted_answer office command reply accepted replied,
      ap (λ refusal. office_unless refusal office (next office command)) (sym accepted),
    )

-- A command that no check refuses changes nothing if and only if it has no changes.
accepted_changes : (office : Office) (command : Command) (changes : List Change)
    → accepts office command ≡ None → changes ≡ changes_of office command
    → changes_nothing office (request.Office command) ≡ is_empty changes
accepted_changes office command changes accepted same =
    ap (λ refusal. stores_nothing refusal (changes_of office command)) accepted ∙ ap is_empty (sym same)

pub changes_something : (office : Office) (command : Command) (changes : List Change) → accepts office command ≡ None
    → changes ≡ changes_of office command → is_empty changes ≡ false
    → changes_nothing office (request.Office command) ≡ false
changes_something office command changes accepted same some =
    accepted_changes office command changes accepted same ∙ some

pub changes_none : (office : Office) (command : Command) (changes : List Change) → accepts office command ≡ None
    → changes ≡ changes_of office command → is_empty changes ≡ true
    → changes_nothing office (request.Office command) ≡ true
changes_none office command changes accepted same none = accepted_changes office command changes accepted same ∙ none

-- A list is empty if its length is 0.
pub no_length : (changes : List Change) → (length changes == 0) ≡ is_empty changes
no_length [] = refl
no_length (change ∷ changes) = ne_eqb (length (change ∷ changes)) 0 (λ e. omega (arith, e))

-- No changes leave the office unchanged.
pub applied_none : (office : Office) (changes : List Change) → is_empty changes ≡ true
    → applied_all office changes ≡ office
applied_none office [] none = refl
applied_none office (change ∷ changes) none = absurd (false_is_not_true none)

-- The office that is cached next is the one that was.
pub was_cached_after : (old mid : Option Office) (office : Office) → IfSome old (λ cached. mid ≡ Some cached)
    → IfSome mid (λ o. o ≡ office) → IfSome old (λ o. o ≡ office)
was_cached_after None mid office cached is = tt
was_cached_after (Some o) mid office cached is = subst (λ k. IfSome k (λ o. o ≡ office)) cached is

-- A cached office stays cached, and has answered what is certain.
pub stays_cached : (office : Office) (request : Request) (answer : Answer) → Handles office request answer office
    → (is_certain office request ≡ true → answer ≡ answer_to office request)
    → UpdatesCache office request answer (Some office)
stays_cached office request answer handled certain =
    record { certain = certain; stays = λ none. refl; goes_on = handled; lost = λ none. absurd (cc) }

-- If none is cached after the changes, applying them needs memory.
pub lost_after : (taken after : Option Office) (office : Office) (changes all : List Change)
    → taken ≡ Some office → changes ≡ all
    → IfSome taken (λ o. after ≡ None → changes_allocate o changes ≡ true) → after ≡ None
    → changes_allocate office all ≡ true
lost_after taken after office changes all e same h none =
    subst (λ l. changes_allocate office l ≡ true) same
    (subst (λ t. IfSome t (λ o. after ≡ None → changes_allocate o changes ≡ true)) e h none)

-- If none is cached now, none was before.
pub none_before : (old mid : Option Office) → IfSome old (λ cached. mid ≡ Some cached) → mid ≡ None → old ≡ None
none_before None mid cached none = refl
none_before (Some o) mid cached none = absurd (cc)

-- The office that is cached next, if any, has handled the command.
pub goes_on_after : (office next : Office) (request : Request) (answer : Answer) (after : Option Office)
    → Handles office request answer next → IfSome after (λ n. n ≡ next)
    → IfSome after (λ n. Handles office request answer n)
goes_on_after office next request answer None handled is = tt
goes_on_after office next request answer (Some n) handled is =
    subst (λ o. Handles office request answer o) (sym is) handled

-- What holds for the office that is cached now holds for the one that was.
pub keeps_after : (old mid : Option Office) (request : Request) (answer : Answer) (next : Option Office)
    → IfSome old (λ cached. mid ≡ Some cached)
    → IfSome mid (λ office. UpdatesCache office request answer next)
    → IfSome old (λ office. UpdatesCache office request answer next)
keeps_after None mid request answer next cached keeps = tt
keeps_after (Some o) mid request answer next cached keeps =
    subst (λ k. IfSome k (λ office. UpdatesCache office request answer next)) cached keeps

-- What holds where an office is cached holds where the same one is cached next.
pub cached_office_through : (old mid : Option Office) (A : Type 0) (B C : Office → Type 0)
    → IfSome old (λ cached. mid ≡ Some cached) → IfSome old (λ cached. A) → IfSome mid B
    → ((office : Office) → A → B office → C office) → IfSome old C
cached_office_through None mid A B C cached a b both = tt
cached_office_through (Some o) mid A B C cached a b both = both o a (subst (λ k. IfSome k B) cached b)

-- If no office is cached, nothing has to be shown of it.
pub nothing_cached : (cached : Option Office) (A : Office → Type 0) → cached ≡ None → IfSome cached A
nothing_cached cached A none = subst (λ k. IfSome k A) (sym none) tt

-- A list that is not empty has a length above 0.
pub some_length : (changes : List Change) → is_empty changes ≡ false → 0 < length changes
some_length [] some = absurd (false_is_not_true (sym some))
some_length (change ∷ changes) some = omega arith
