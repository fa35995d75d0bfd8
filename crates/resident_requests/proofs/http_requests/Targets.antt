-- Bytes that end within a request target, and their prefixes.
use Rattle.std.proofs.Common.{◌≡◌, ℕ, ◌+◌, ◌-◌, ◌<◌, ◌⊎◌, List, [], ◌∷◌, ◌++◌, length, take, drop, get_or, zero, suc}
use Rattle.std.proofs.Common.{refl, sym, ap, ◌∙◌, arith, append_assoc, append-nil, inl, inr, lit<, lit≤, IsTrue}
use Rattle.std.proofs.lemmas.Bool.{cases_lt}
use Rattle.std.proofs.Math.Seq.{take-append-add, take-append_seam}
use Rattle.std.proofs.lemmas.List.{take-append-le, take-append-drop}
use Rattle.std.proofs.lemmas.List.Elements.{All-take, All-nil, All-cons}
use Rattle.std.proofs.lemmas.Str.{IsUtf8-from_ascii}
use Rattle.httparse.specs.Grammar.{LineEnd, crlf, print_end, print_blank, print_version, print_section, IsField}
use Rattle.httparse.specs.Grammar.{RequestHead, print_request, IsToken, is_uri_byte, IsRequestHead, ReadsRequest}
use Rattle.httparse.specs.Grammar.{EndsInTarget}

-- a request for `/` with this method
plain : List LineEnd → List ℕ → RequestHead
plain blank method =
    record { blank = blank; method = method; target = 47 ∷ []; minor = 1; line_end = crlf; fields = []; last = crlf }

-- the bytes of that request after its method
after_method : List ℕ
after_method = (32 ∷ 47 ∷ []) ++ (32 ∷ print_version 1) ++ print_end crlf ++ print_section [] crlf

slash_is_ascii : (i : ℕ) → get_or (47 ∷ []) i 0 < 128
slash_is_ascii zero = lit< tt
slash_is_ascii (suc i) = lit< tt

plain-is : (blank : List LineEnd) (method : List ℕ) → IsToken method → IsRequestHead (plain blank method)
unfolding plain
plain-is blank method token = record {
  method = token;
  target = (omega arith, All-cons (λ b. IsTrue (is_uri_byte b)) 47 [] refl (All-nil (λ b. IsTrue (is_uri_byte b))));
  target_text = IsUtf8-from_ascii (47 ∷ []) slash_is_ascii;
  minor = lit≤ tt;
  fields = All-nil IsField;
}

plain-bytes : (blank : List LineEnd) (method : List ℕ)
    → print_request (plain blank method) ≡ (print_blank blank ++ method) ++ after_method
unfolding plain after_method print_request
plain-bytes blank method =
    regroup (print_blank blank ++ method) (32 ∷ 47 ∷ []) (32 ∷ print_version 1) (print_end crlf) (print_section [] crlf)
  where
    regroup : (a b c d e : List ℕ) → a ++ b ++ c ++ d ++ e ≡ a ++ (b ++ c ++ d ++ e)
    regroup a b c d e = simp append_assoc refl

-- a prefix of blank lines and a method can become a request
becomes_plain : (bytes x : List ℕ) (blank : List LineEnd) (method : List ℕ) → IsToken method → bytes
    ++ x ≡ print_blank blank ++ method
    → (more : List ℕ) × (head : RequestHead) × (rest : List ℕ) × ReadsRequest (bytes ++ more) head rest
becomes_plain bytes x blank method token e =
    let whole : bytes ++ (x ++ after_method) ≡ print_request (plain blank method) ++ [] =
    sym (append_assoc bytes x after_method) ∙ ap (λ l. l ++ after_method) e ∙ sym (plain-bytes blank method)
    ∙ sym (append-nil _) in
    (x ++ after_method, plain blank method, [], (plain-is blank method token, whole))

-- bytes that reach past the space after the method, before others that end within the target, end within the target too
prefix_in_target : (bytes next prefix target : List ℕ) → length prefix < length bytes → bytes ++ next ≡ prefix
    ++ 32 ∷ target
    → bytes ≡ prefix ++ 32 ∷ take (length bytes - length prefix - 1) target
prefix_in_target bytes next prefix target lt e =
    let k = length bytes - length prefix - 1 in
    let n : length bytes ≡ length prefix + suc k = omega arith in
    sym (take-append_seam bytes next) ∙ ap (take (length bytes)) e ∙ ap (λ m. take m (prefix ++ 32 ∷ target)) n
    ∙ take-append-add prefix (32 ∷ target) (suc k)

-- If a continuation ends within the target, the bytes do too, or can become a request.
pub target_began : (bytes next : List ℕ) → EndsInTarget (bytes ++ next)
    → EndsInTarget bytes
    ⊎ ((more : List ℕ) × (head : RequestHead) × (rest : List ℕ) × ReadsRequest (bytes ++ more) head rest)
target_began bytes next t =
    let blank = t.0 in
    let method = t.1 in
    let target = t.2 in
    let prefix = print_blank blank ++ method in
    elim (cases_lt (length prefix) (length bytes)) [
      | inl lt ↦ inl (
        blank,
        method,
        take (length bytes - length prefix - 1) target,
        t.3,
        All-take
            (λ b. IsTrue (is_uri_byte b)) (length bytes - length prefix - 1) target t.4,
        prefix_in_target bytes next prefix target lt t.5,
      )
      | inr le ↦ inr (becomes_plain bytes (drop (length bytes) prefix) blank method t.3
          (let same : bytes ≡ take (length bytes) prefix =
          sym (take-append_seam bytes next) ∙ ap (take (length bytes)) t.5 ∙ take-append-le (length bytes) prefix
          (32 ∷ target) le in
          ap (λ l. l ++ drop (length bytes) prefix) same ∙ take-append-drop (length bytes) prefix))
    ]
