-- How words are parsed as the values of a request.
use Rattle.std.specs.Prelude.{ℕ, Bool, ◌&&◌, List, [], ◌∷◌, length, Option, Some, None, codes, if◌then◌else◌, option_and_then, is_none}
use Rattle.std.specs.Char.{is_ascii_digit}
use Rattle.std.specs.Int.{is_in_range}
use Rattle.std.specs.List.{join_by, list_all}
use Rattle.std.specs.Str.Parse.{digits_value}
use Rattle.room_types.specs.Choices.{choices_fault}
use Rattle.room_types.specs.Grammars.{is_room_code}
use Rattle.room_types.specs.Texts.{Text}

-- the word, if it is in the grammar
abbrev pub in_grammar : (Text → Bool) → Text → Option Text
in_grammar is_text word = if is_text word then Some word else None

-- the only word, if there is exactly one word and the word is in the grammar
abbrev pub only : (Text → Bool) → List Text → Option Text
only is_text (word ∷ []) = in_grammar is_text word
only is_text _ = None

-- the words, joined by one space
abbrev pub joined : List Text → Text
joined words = join_by (λ word. word) (codes " ") words

-- the value followed by the other values, if neither argument is `None`
abbrev pub before : {X : Type 0} → Option X → Option (List X) → Option (List X)
before (Some value) (Some others) = Some (value ∷ others)
before _ _ = None

-- the meanings of the words, if each has one
abbrev pub all_of : {X : Type 0} → (Text → Option X) → List Text → Option (List X)
all_of meaning [] = Some []
all_of meaning (word ∷ words) = before (meaning word) (all_of meaning words)

-- the words, if each is a room code
abbrev pub codes_of : List Text → Option (List Text)
codes_of words = all_of (in_grammar is_room_code) words

-- the codes, if they are a valid preference list: there are not too many, and no code occurs twice
abbrev pub as_choices : List Text → Option (List Text)
as_choices codes = if is_none (choices_fault codes) then Some codes else None

-- the preference list in the words, if each word is a room code and the list is valid
abbrev pub choices_in : List Text → Option (List Text)
choices_in words = option_and_then as_choices (codes_of words)

-- the word is 1 to 4 decimal digits
abbrev pub is_round_number : Text → Bool
is_round_number word = is_in_range 1 4 (length word) && list_all is_ascii_digit word

-- the number of a round, if the word is 1 to 4 decimal digits
abbrev pub round_number : Text → Option ℕ
round_number word = if is_round_number word then Some (digits_value 10 word) else None
