use Rattle.std.proofs.Common.{◌≡◌, ◌++◌, drop}
use Rattle.std.specs.List.{flat_map}
use Rattle.std.specs.String.{string_bytes}
use Rattle.office_cli.specs.WordLines.{word_line}
use Rattle.office_cli.proofs.word_lines.lines_of.Given as goal

-- the lines so far, followed by those of the remaining words, are all lines
abbrev pub invariant-loop-word : goal.invariant-loop-word
invariant-loop-word l =
    string_bytes l.text ++ flat_map word_line (drop l.word-index l.words) ≡ flat_map word_line l.words
