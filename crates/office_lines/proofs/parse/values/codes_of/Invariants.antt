use Rattle.room_types.specs.Grammars.{is_room_code}
use Rattle.office_lines.specs.parse.Values.{in_grammar}
use Rattle.office_lines.proofs.request_words.Codes.{IsReadTo}
use Rattle.office_lines.proofs.parse.values.codes_of.Given as goal

abbrev pub invariant-loop-word : goal.invariant-loop-word
invariant-loop-word l = IsReadTo (in_grammar is_room_code) l.words l.word-index l.codes.items
