-- How the input splits into lines.
use Rattle.std.specs.Prelude.{ℕ, Bool, List, [], ◌∷◌, ◌++◌, length, ◌==◌, nat_le}
use Rattle.std.specs.List.{slice_split}

-- the byte is a line feed
abbrev pub is_line_end : ℕ → Bool
is_line_end byte = byte == 10

-- the parts between line feeds; no line feed follows the last part
abbrev pub parts_of : List ℕ → List (List ℕ)
parts_of bytes = slice_split is_line_end bytes

-- the initial segment: all elements but the last
abbrev pub init : {A : Type 0} → List A → List A
init [] = []
init (part ∷ []) = []
init (part ∷ next ∷ more) = part ∷ init (next ∷ more)

-- the last part, or no bytes if there is no part
abbrev pub last : List (List ℕ) → List ℕ
last [] = []
last (part ∷ []) = part
last (part ∷ next ∷ more) = last (next ∷ more)

-- the lines that end at a line feed
abbrev pub ended_lines : List ℕ → List (List ℕ)
ended_lines bytes = init (parts_of bytes)

-- the bytes after the last line feed
abbrev pub last_part : List ℕ → List ℕ
last_part bytes = last (parts_of bytes)

-- the line that ends at the end of the input, without a line feed; no line if there are no bytes
abbrev pub unended : List ℕ → List (List ℕ)
unended [] = []
unended (byte ∷ bytes) = (byte ∷ bytes) ∷ []

-- all lines: each ends at a line feed, but the last line may end at the end of the input
abbrev pub lines_of : List ℕ → List (List ℕ)
lines_of bytes = ended_lines bytes ++ unended (last_part bytes)

-- the greatest length of a line that is handled, in bytes without the line feed
abbrev pub line_limit : ℕ
line_limit = 65536

-- the line has at most `line_limit` bytes
abbrev pub is_short : List ℕ → Bool
is_short line = nat_le (length line) line_limit

-- the greatest number of bytes that one read asks for
abbrev pub chunk_limit : ℕ
chunk_limit = 4096

-- the greatest number of times that a rehearsal reads from its input
abbrev pub read_limit : ℕ
read_limit = 1048576
