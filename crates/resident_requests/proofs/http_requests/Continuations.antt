-- What holds of a connection's bytes when more bytes follow.
use Rattle.std.proofs.Common.{◌≡◌, ℕ, ◌+◌, ◌-◌, ◌≤◌, Bool, true, false, cond, ltb, List, [], ◌++◌, length, take, drop}
use Rattle.std.proofs.Common.{refl, sym, ap, ◌∙◌, subst, arith, append_assoc, length-append, Option, Result, Ok, Err}
use Rattle.std.proofs.Common.{inl, inr, map, codes}
use Rattle.std.proofs.lemmas.List.{take-append-le}
use Rattle.std.proofs.lemmas.Bool.Decides.{nat_tests}
use Rattle.httparse.specs.Grammar.{RequestHead, print_request, ReadsRequest, HasNoRequest, NeverHasRequest}
use Rattle.httparse.specs.Grammar.{MayBecomeRequest, EndsInTarget}
use Rattle.httparse.specs.Spans.{name_and_value, RequestOverflows}
use Rattle.httparse.proofs.GrammarLemmas.{request_unique, ReadsRequest-append}
use Rattle.resident_requests.specs.Fields.{NamedValue, values_of}
use Rattle.resident_requests.specs.Asks.{Asked, more, ask, fault, is_more, is_request, has_bad_host, is_present, key_of}
use Rattle.resident_requests.specs.Asks.{body_length, path_of, asked_of, asked_with, asked_by, window, head_limit}
use Rattle.resident_requests.specs.Asks.{field_limit, HasHead, Asks, BeginsTooManyFields}
use Rattle.resident_requests.proofs.http_requests.Windows.{window-few, window-rest, in_window}
use Rattle.resident_requests.proofs.http_requests.Targets.{target_began}

-- ---- with a complete head

ok_case : (t : Bool) (m p : List ℕ) (k : Option (List ℕ)) (n c : ℕ) (rest xs : List ℕ) → ltb (length rest) c ≡ t
    → is_more (cond t more (ask m p k (take c rest) (n + c))) ≡ false
    → cond (ltb (length (rest ++ xs)) c) more (ask m p k (take c (rest ++ xs)) (n + c)) ≡ cond t more
    (ask m p k (take c rest) (n + c))
ok_case true m p k n c rest xs e h = absurd (cc)
ok_case false m p k n c rest xs e h =
    let le : c ≤ length rest = grind (arith, nat_tests) in
    let test : ltb (length (rest ++ xs)) c ≡ false = grind (arith, nat_tests, length-append rest xs) in
    rw (test, take-append-le c rest xs le) refl

with_longer : (m p : List ℕ) (k : Option (List ℕ)) (n : ℕ) (rest xs : List ℕ) (r : Result ℕ ℕ)
    → is_more (asked_with m p k n rest r) ≡ false → asked_with m p k n (rest ++ xs) r ≡ asked_with m p k n rest r
with_longer m p k n rest xs (Err s) h = refl
with_longer m p k n rest xs (Ok c) h = ok_case (ltb (length rest) c) m p k n c rest xs refl h

chain : (a b c : Bool) (x y : Asked) → (is_more y ≡ false → x ≡ y)
    → is_more (cond a (fault 400) (cond b (fault 417) (cond c (fault 501) y))) ≡ false
    → cond a (fault 400) (cond b (fault 417) (cond c (fault 501) x)) ≡ cond a (fault 400)
    (cond b (fault 417) (cond c (fault 501) y))
chain true b c x y same h = refl
chain false true c x y same h = refl
chain false false true x y same h = refl
chain false false false x y same h = same h

asked_longer : (m t : List ℕ) (v : ℕ) (fields : List NamedValue) (n : ℕ) (rest xs : List ℕ)
    → is_more (asked_of m t v fields n rest) ≡ false → asked_of m t v fields n (rest ++ xs) ≡ asked_of m t v
    fields n rest
unfolding asked_of
asked_longer m t v fields n rest xs h =
    chain (has_bad_host v (values_of (codes "host") fields)) (is_present (values_of (codes "expect") fields))
    (is_present (values_of (codes "transfer-encoding") fields)) _ _
    (with_longer m (path_of t) (key_of (values_of (codes "room-key") fields)) n rest xs
    (body_length (values_of (codes "content-length") fields))) h

-- with a complete head, any result but `more` is the result for each continuation
after_head : (bytes next : List ℕ) (asked later : Asked) (h : RequestHead) (rest : List ℕ) → HasHead bytes h rest
    → asked ≡ asked_by h rest → is_more asked ≡ false → Asks (bytes ++ next) later → later ≡ asked
after_head bytes next asked later h rest hh e f (inl k) =
    let same =
    request_unique (bytes ++ next) k.0 h k.1 (rest ++ next) k.2.reads
    (ReadsRequest-append bytes h rest next hh.reads) in
    k.3 ∙ ap (λ g. asked_by g k.1) same.0 ∙ ap (asked_by h) same.1
    ∙ asked_longer h.method h.target h.minor (map name_and_value h.fields) (length (print_request h)) rest next
    (subst (λ z. is_more z ≡ false) e f) ∙ sym e
after_head bytes next asked later h rest hh e f (inr (inl k)) =
    absurd (k.1.none h (rest ++ next) (ReadsRequest-append bytes h rest next hh.reads))
after_head bytes next asked later h rest hh e f (inr (inr (g, inl over))) =
    let reads : ReadsRequest (window (bytes ++ next) ++ drop head_limit (bytes ++ next)) h (rest ++ next) =
    rw (window-rest (bytes ++ next)) (ReadsRequest-append bytes h rest next hh.reads) in
    let many = over (drop head_limit (bytes ++ next)) h (rest ++ next) reads in
    let few = hh.few_fields in
    absurd (omega (arith, many, few))
after_head bytes next asked later h rest hh e f (inr (inr (g, inr none))) =
    absurd (none.1 h _
    (in_window (bytes ++ next) (rest ++ next) h (ReadsRequest-append bytes h rest next hh.reads) hh.short))

-- ---- without a complete head

-- if the bytes reach the head's limit, a continuation has the same window
window_longer : (bytes next : List ℕ) → head_limit ≤ length bytes → window (bytes ++ next) ≡ window bytes
unfolding window
window_longer bytes next many = take-append-le head_limit bytes next many

-- a continuation is the window and what follows it
window_then : (bytes next : List ℕ) → window bytes ++ (drop head_limit bytes ++ next) ≡ bytes ++ next
window_then bytes next = sym (append_assoc (window bytes) (drop head_limit bytes) next)
    ∙ ap (λ l. l ++ next) (window-rest bytes)

never : (bytes : List ℕ) → RequestOverflows field_limit (window bytes) → ¬ (BeginsTooManyFields bytes)
    → NeverHasRequest (window bytes)
never bytes over other = λ next h rest r. other (record { too_many = over; some = (next, h, rest, r) })

-- If no bytes can complete a head, and the bytes do not end within the target, each continuation is refused with 400.
after_never : (bytes next : List ℕ) (later : Asked) → NeverHasRequest (window bytes) → ¬ (EndsInTarget bytes)
    → Asks (bytes ++ next) later → later ≡ fault 400
after_never bytes next later none apart (inl k) =
    let reads : ReadsRequest (window bytes ++ (drop head_limit bytes ++ next)) k.0 k.1 =
    rw (window_then bytes next) k.2.reads in
    absurd (none (drop head_limit bytes ++ next) k.0 k.1 reads)
after_never bytes next later none apart (inr (inl k)) = absurd (awaits k.1.can_come)
  where
    all : window bytes ≡ bytes
    all = let few = k.1.few in window-few bytes (omega (arith, few, length-append bytes next))

    awaits : MayBecomeRequest (bytes ++ next) → ⊥
    awaits (inl m) =
        let reads : ReadsRequest (window bytes ++ (next ++ m.0)) m.1 [] =
        rw all (rw (sym (append_assoc bytes next m.0)) m.2) in
        none (next ++ m.0) m.1 [] reads
    awaits (inr t) =
        elim (target_began bytes next t) [ inl here ↦ apart here | inr r ↦ none r.0 r.1 r.2 (rw all r.3) ]
after_never bytes next later none apart (inr (inr k)) = k.0

-- If the bytes reach the head's limit without a complete head, each continuation is refused with 400.
after_long : (bytes next : List ℕ) (later : Asked) → head_limit ≤ length bytes → HasNoRequest (window bytes)
    → Asks (bytes ++ next) later → later ≡ fault 400
after_long bytes next later many none (inl k) =
    let short : ReadsRequest (window (bytes ++ next)) k.0 (take (head_limit - length (print_request k.0)) k.1) =
    in_window (bytes ++ next) k.1 k.0 k.2.reads k.2.short in
    absurd (none k.0 (take (head_limit - length (print_request k.0)) k.1) (rw (window_longer bytes next many) at short))
after_long bytes next later many none (inr (inl k)) = let few = k.1.few in
    absurd (omega (arith, few, many, length-append bytes next))
after_long bytes next later many none (inr (inr k)) = k.0

-- after too many fields, no continuation is a request
after_over : (bytes next : List ℕ) (later : Asked) → RequestOverflows field_limit (window bytes)
    → Asks (bytes ++ next) later → is_request later ≡ false
after_over bytes next later over (inl k) =
    let reads : ReadsRequest (window bytes ++ (drop head_limit bytes ++ next)) k.0 k.1 =
    rw (window_then bytes next) k.2.reads in
    let many = over (drop head_limit bytes ++ next) k.0 k.1 reads in
    let few = k.2.few_fields in
    absurd (omega (arith, many, few))
after_over bytes next later over (inr (inl k)) = ap is_request k.0
after_over bytes next later over (inr (inr k)) = ap is_request k.0

-- ---- the theorems

not_more : (asked : Asked) → is_request asked ≡ true → is_more asked ≡ false
not_more more h = absurd (cc)
not_more (ask m p k b u) h = refl
not_more (fault s) h = refl

pub request_stays : (bytes next : List ℕ) (asked later : Asked) → Asks bytes asked → is_request asked ≡ true
    → Asks (bytes ++ next) later → later ≡ asked
request_stays bytes next asked later (inl k) r h =
    after_head bytes next asked later k.0 k.1 k.2 k.3 (not_more asked r) h
request_stays bytes next asked later (inr (inl k)) r h =
    absurd (let e : is_request asked ≡ false = ap is_request k.0 in cc)
request_stays bytes next asked later (inr (inr k)) r h =
    absurd (let e : is_request asked ≡ false = ap is_request k.0 in cc)

pub fault_stays : (bytes next : List ℕ) (status : ℕ) (later : Asked) → Asks bytes (fault status)
    → ¬ (BeginsTooManyFields bytes) → ¬ (EndsInTarget bytes) → Asks (bytes ++ next) later → later ≡ fault status
fault_stays bytes next status later (inl k) fields target h =
    after_head bytes next (fault status) later k.0 k.1 k.2 k.3 refl h
fault_stays bytes next status later (inr (inl k)) fields target h = absurd (cc)
fault_stays bytes next status later (inr (inr (e, inl over))) fields target h =
    after_never bytes next later (never bytes over fields) target h ∙ sym e
fault_stays bytes next status later (inr (inr (e, inr long))) fields target h =
    after_long bytes next later long.0 long.1 h ∙ sym e

pub no_request_after : (bytes next : List ℕ) (status : ℕ) (later : Asked) → Asks bytes (fault status)
    → Asks (bytes ++ next) later → is_request later ≡ false
no_request_after bytes next status later (inl k) h =
    ap is_request (after_head bytes next (fault status) later k.0 k.1 k.2 k.3 refl h)
no_request_after bytes next status later (inr (inl k)) h = absurd (cc)
no_request_after bytes next status later (inr (inr (e, inl over))) h = after_over bytes next later over h
no_request_after bytes next status later (inr (inr (e, inr long))) h =
    ap is_request (after_long bytes next later long.0 long.1 h)
