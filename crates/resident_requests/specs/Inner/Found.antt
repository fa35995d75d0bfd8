-- What the search for the fields of one name finds, for inner contracts.
use Rattle.std.specs.Prelude.{◌≡◌, ℕ, ◌≤◌, List, [], ◌∷◌, length}
use Rattle.httparse.specs.Spans.{span_bytes, IsWithin}
use Rattle.resident_requests.specs.declared.fields.Found.{Found}
use Rattle.resident_requests.specs.declared.fields.Found.TheVariants as found

-- The search result describes these values: `Nothing` if there are none, `One` with the span of the value if there is
-- exactly one, `Several` if there are at least two.
abbrev pub Finds : List ℕ → Found → List (List ℕ) → Type 0
Finds buf found.Nothing values = values ≡ []
Finds buf (found.One span) values = IsWithin (length buf) span × (values ≡ span_bytes buf span ∷ [])
Finds buf found.Several values = 2 ≤ length values
