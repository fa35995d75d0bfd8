-- The subcommands, and how the program's arguments determine one.
use Rattle.std.specs.Prelude.{ℕ, Bool, true, false, List, [], ◌∷◌, Option, Some, None, codes, if◌then◌else◌, map, option_and_then, option_map}
use Rattle.std.specs.Str.{bytes_eq}
use Rattle.std.specs.Str.Parse.{digits_value, without_leading_plus}
use Rattle.clap.specs.ValueTests.{is_unsigned_in}
use Rattle.clap.specs.Words.{Kinds, Row, all_of, fault_of, first_of, one_of, subcommand_of}
use Rattle.office_cli.specs.Actions.{Action}
use Rattle.office_cli.specs.Actions.Action.{does, does_lines, imports, exports, serves}
use Rattle.office_cli.specs.declared.usage.Program.{Program}
use Rattle.office_cli.specs.declared.usage.Program.TheVariants as program
use Rattle.office_cli.specs.Seeds.{parse_seed}
use Rattle.office_cli.specs.Usage.{usage}
use Rattle.office_lists.specs.declared.exports.ExportKind.{ExportKind}
use Rattle.office_lists.specs.declared.exports.ExportKind.TheVariants.{Rooms, People, Moves, Grades}
use Rattle.office_lines.specs.parse.Values.{in_grammar}
use Rattle.room_types.specs.Grammars.{is_label}
use Rattle.room_types.specs.Kinds.{kind_text}
use Rattle.room_types.specs.Texts.{Text}
use Rattle.room_types.specs.declared.kinds.ListKind.{ListKind}
use Rattle.room_types.specs.declared.kinds.ListKind.TheVariants as list

-- A subcommand with its arguments. Three name the path of a file: `makes` makes an office in the file, `migrates`
-- migrates the tables of its office, and `performs` performs an action at the desk of its office. `rehearses` lets
-- an empty office handle the lines of standard input. `prints` prints a number of words of the generator with a
-- seed.
pub data Line : Type 0 where
  makes : Text → Line
  migrates : Text → Line
  performs : Text → Action → Line
  rehearses : Line
  prints : List ℕ → ℕ → Line

-- converts a `Program` into a `Line`, which holds each borrowed text by value
abbrev pub line_of : Program → Line
line_of (program.New path) = makes path.now
line_of (program.Do path words) = performs path.now (does (map (λ word. word.now) words.items))
line_of (program.Lines path) = performs path.now does_lines
line_of program.Rehearse = rehearses
line_of (program.Words seed count) = prints seed count
line_of (program.Import path kind label list) = performs path.now (imports kind label list.now)
line_of (program.Export path kind) = performs path.now (exports kind)
line_of (program.Serve path port count) = performs path.now (serves port count)
line_of (program.Migrate path) = migrates path.now

-- The number that a decimal text denotes, if it is within the bounds. The text comes from a row of the parsed
-- arguments, as `clap` specifies rows. `clap` parses these numbers with a sign. For bounds that are not negative, the
-- row leaves out a minus sign, so `-0` is 0.
abbrev pub number_between : ℕ → ℕ → Text → Option ℕ
number_between low high text = if is_unsigned_in low high text then Some (digits_value 10 (without_leading_plus text)) else None

-- the number that the argument with this id denotes, if it is within the bounds
abbrev pub number_of : ℕ → ℕ → Text → List Row → Option ℕ
number_of low high id rows = option_and_then (number_between low high) (one_of id rows)

-- the subcommand `new --db FILE` with the arguments in these rows
abbrev pub new_program : List Row → Option Line
new_program rows = option_map makes (first_of (codes "db") rows)

-- the subcommand `do --db FILE WORD..` with the arguments in these rows
abbrev pub do_program : List Row → Option Line
do_program rows = option_and_then (λ path. option_map (λ words. performs path (does words)) (all_of (codes "word") rows)) (first_of (codes "db") rows)

-- the subcommand `lines --db FILE` with the arguments in these rows
abbrev pub lines_program : List Row → Option Line
lines_program rows = option_map (λ path. performs path does_lines) (first_of (codes "db") rows)

-- the subcommand `words --seed HEX --count N` with the arguments in these rows
abbrev pub words_program : List Row → Option Line
words_program rows = option_and_then (λ seed. option_map (prints seed) (number_of 0 2000 (codes "count") rows)) (option_and_then parse_seed (first_of (codes "seed") rows))

-- the kind of list with this name
abbrev pub list_kind_named : Text → Option ListKind
list_kind_named name =
    if bytes_eq name (kind_text list.Rooms) then Some list.Rooms
    else if bytes_eq name (kind_text list.People) then Some list.People
    else if bytes_eq name (kind_text list.Choices) then Some list.Choices
    else if bytes_eq name (kind_text list.Grades) then Some list.Grades
    else None

-- the kind of list that the arguments of an import give
abbrev pub list_kind_given : List Row → Option ListKind
list_kind_given rows = option_and_then list_kind_named (first_of (codes "kind") rows)

-- the label that the arguments of an import give
abbrev pub label_given : List Row → Option Text
label_given rows = option_and_then (in_grammar is_label) (first_of (codes "label") rows)

-- the subcommand `import --db FILE KIND LABEL PATH` with the arguments in these rows
abbrev pub import_program : List Row → Option Line
import_program rows =
    option_and_then (λ path. option_and_then (λ list. option_and_then (λ kind. option_map (λ label. performs path (imports kind label list)) (label_given rows))
    (list_kind_given rows)) (first_of (codes "path") rows)) (first_of (codes "db") rows)

-- the kind of export with this name
abbrev pub export_kind_named : Text → Option ExportKind
export_kind_named name =
    if bytes_eq name (codes "rooms") then Some Rooms
    else if bytes_eq name (codes "people") then Some People
    else if bytes_eq name (codes "moves") then Some Moves
    else if bytes_eq name (codes "grades") then Some Grades
    else None

-- the subcommand `export --db FILE KIND` with the arguments in these rows
abbrev pub export_program : List Row → Option Line
export_program rows =
    option_and_then (λ path. option_map (λ kind. performs path (exports kind)) (option_and_then export_kind_named (first_of (codes "kind") rows)))
    (first_of (codes "db") rows)

-- the subcommand `serve --db FILE --port N --count K` with the arguments in these rows
abbrev pub serve_program : List Row → Option Line
serve_program rows = option_and_then (λ path. option_and_then (λ port. option_map (λ count. performs path (serves port count)) (number_of 1 1000000 (codes "count") rows))
    (number_of 1 65535 (codes "port") rows)) (first_of (codes "db") rows)

-- the subcommand `migrate --db FILE` with the arguments in these rows
abbrev pub migrate_program : List Row → Option Line
migrate_program rows = option_map migrates (first_of (codes "db") rows)

-- the subcommand with this name and the arguments in these rows, or `None` if they give no subcommand
abbrev pub entered_line : Text × List Row → Option Line
entered_line (name, rows) = if bytes_eq name (codes "new") then new_program rows
    else if bytes_eq name (codes "do") then do_program rows
    else if bytes_eq name (codes "lines") then lines_program rows
    else if bytes_eq name (codes "rehearse") then Some rehearses
    else if bytes_eq name (codes "words") then words_program rows
    else if bytes_eq name (codes "import") then import_program rows
    else if bytes_eq name (codes "export") then export_program rows
    else if bytes_eq name (codes "serve") then serve_program rows
    else if bytes_eq name (codes "migrate") then migrate_program rows
    else None

abbrev pub has_none : Kinds → Bool
has_none [] = true
has_none (kind ∷ kinds) = false

-- `clap` finds no fault in the words
unfoldable pub is_accepted : List Text → Bool
is_accepted words = has_none (fault_of usage words)

-- the name of the subcommand and the rows of its arguments, as `clap` specifies them for the words
unfoldable pub entered : List Text → Option (Text × List Row)
entered words = subcommand_of usage words

-- the subcommand that the words give, or `None` if they give none; without words, it is `rehearse`
abbrev pub program_of : List Text → Option Line
program_of [] = Some rehearses
program_of (word ∷ rest) =
    if is_accepted (word ∷ rest) then option_and_then entered_line (entered (word ∷ rest)) else None
