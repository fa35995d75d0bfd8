use Rattle.std.proofs.Common.{◌≡◌, ◌⊎◌, true}
use Rattle.room_types.specs.Words.{word_of}
use Rattle.office_lines.specs.parse.Requests.{first_in, is_drawn_word}
use Rattle.office_lines.proofs.request_words.Codes.{IsReadTo, texts}
use Rattle.office_lines.proofs.parse.values.drawn_words.Given as goal

-- the words so far are parsed, and the first of them, if any, is a lottery number
abbrev pub invariant-loop-word : goal.invariant-loop-word
invariant-loop-word l = record {
  read : IsReadTo word_of l.words l.word-index l.drawn.items;
  first : (l.word-index ≡ 0) ⊎ (first_in is_drawn_word (texts l.words) ≡ true);
}
