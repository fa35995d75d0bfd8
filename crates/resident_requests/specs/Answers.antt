-- HTTP responses and their bytes (RFC 9110, section 15; RFC 9112, sections 4 and 5).
use Rattle.std.specs.Prelude.{◌≡◌, ℕ, Bool, true, ◌==◌, List, [], ◌∷◌, ◌++◌, length, codes, decimal, if◌then◌else◌}
use Rattle.std.specs.Prelude.{Option, None, Some, is_some}
use Rattle.std.specs.List.{concat, list_any}
use Rattle.resident_requests.specs.declared.method.Method.{Method}
use Rattle.resident_requests.specs.declared.method.Method.TheVariants as method

-- An HTTP response. `allow` is the method that the path takes, if the request has a different method.
pub record Answer : Type 0 where
  pub status : ℕ
  pub allow : Option Method
  pub body : List ℕ

abbrev pub method_text : Method → List ℕ
method_text method.Get = codes "GET"
method_text method.Put = codes "PUT"
method_text method.Post = codes "POST"

-- the status is one that a response of this server may have
abbrev pub is_response_status : ℕ → Bool
is_response_status status =
    list_any (λ known. known == status) (200 ∷ 400 ∷ 403 ∷ 404 ∷ 405 ∷ 409 ∷ 413 ∷ 417 ∷ 422 ∷ 501 ∷ 503 ∷ [])

-- The response is well-formed: `is_response_status` holds for its status, and `allow` is present exactly if the
-- status is 405.
pub record IsAnswer (answer : Answer) : Type 0 where
  pub answered : is_response_status answer.status ≡ true
  pub allow : is_some answer.allow ≡ (answer.status == 405)

-- the reason phrase of the status
abbrev pub reason : ℕ → List ℕ
reason status =
    if status == 200 then codes "OK"
    else if status == 400 then codes "Bad Request"
    else if status == 403 then codes "Forbidden"
    else if status == 404 then codes "Not Found"
    else if status == 405 then codes "Method Not Allowed"
    else if status == 409 then codes "Conflict"
    else if status == 413 then codes "Payload Too Large"
    else if status == 417 then codes "Expectation Failed"
    else if status == 422 then codes "Unprocessable Entity"
    else if status == 501 then codes "Not Implemented"
    else codes "Service Unavailable"

abbrev pub line_end : List ℕ
line_end = codes "\r\n"

-- the bytes of the field `Allow` for a method, or no bytes without a method
abbrev pub allow_line : Option Method → List ℕ
allow_line None = []
allow_line (Some method) = concat (codes "Allow: " ∷ method_text method ∷ line_end ∷ [])

-- the bytes of a response's head: the status line, the fields, and the empty line after them
abbrev pub head_text : ℕ → Option Method → ℕ → List ℕ
head_text status allow body_length =
    concat (
    codes "HTTP/1.1 " ∷ decimal status ∷ codes " " ∷ reason status ∷ line_end
    ∷ codes "Content-Type: application/json" ∷ line_end
    ∷ codes "Content-Length: " ∷ decimal body_length ∷ line_end
    ∷ allow_line allow
    ∷ codes "Connection: close" ∷ line_end
    ∷ line_end
    ∷ []
    )

-- the bytes of a response: the head, then the body
abbrev pub bytes_of : Answer → List ℕ
bytes_of answer = head_text answer.status answer.allow (length answer.body) ++ answer.body
