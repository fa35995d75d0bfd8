-- What the program does with its arguments.
use Rattle.std.specs.Prelude.{◌≡◌, ℕ, ◌<◌, ◌⊎◌, List, [], ◌∷◌, Option, Some, None, length, codes}
use Rattle.office_state.specs.Office.{empty_office}
use Rattle.office_state.specs.declared.office.Office.{Office}
use Rattle.office_store.specs.LawfulSteps.{HandlesLawfully}
use Rattle.office_lines.specs.declared.ending.Ending.{Ending}
use Rattle.office_lines.specs.declared.parse.word_fault.WordFault.{WordFault}
use Rattle.office_lines.specs.declared.parse.word_fault.WordFault.TheVariants.{NotUnderstood, OutOfMemory}
use Rattle.office_file.specs.Access.{FileAccess}
use Rattle.office_cli.specs.InFile.{MakesInFile, MigratesInFile, PerformsInFile}
use Rattle.office_cli.specs.Programs.{Line, program_of}
use Rattle.office_cli.specs.Programs.Line.{makes, migrates, performs, rehearses, prints}
use Rattle.office_cli.specs.ListAccess.{ListAccess}
use Rattle.office_lines.specs.Rehearsals.{Rehearses}
use Rattle.resident_http.specs.server.Network.{Network}
use Rattle.room_types.specs.Streams.{Input, Output}
use Rattle.room_types.specs.Printing.{Prints, PrintsUnavailable}
use Rattle.room_types.specs.OutputLines.{line_of}
use Rattle.office_cli.specs.WordLines.{words_text}
use Rattle.room_types.specs.Texts.{Text}

-- The program reports arguments that are no subcommand on standard error, with status 2. It reports a failed
-- allocation on standard output, with status 3.
abbrev pub Refuses : WordFault → ℕ → Output → Output → Output → Output → Type 0
Refuses NotUnderstood status out out' error error' = Prints (line_of (codes "rooms: not understood" ∷ [])) 2 status error error' × (out' ≡ out)
Refuses OutOfMemory status out out' error error' = PrintsUnavailable status out out' × (error' ≡ error)

-- Either the program rehearses at a new desk in memory, which shows the empty office: the desk handles the lines of
-- standard input, and the program writes the responses to standard output. Or an allocation for the desk fails, and
-- the program reads no input.
abbrev pub RehearsesAnew : ℕ → Input → Input → Output → Output → Type 0
RehearsesAnew status input input' out out' =
    ((ending : Ending) × (office : Office) × Rehearses HandlesLawfully ending status empty_office office input input' out out')
    ⊎ (PrintsUnavailable status out out' × (input' ≡ input))

-- `access` describes how office files are opened and closed, `list_access` how lists are opened and closed, and
-- `network` how residents connect.
module _ {F S L P : Type 0} (access : FileAccess F S) (list_access : ListAccess L) (network : Network P) where
  -- The program carries out the subcommand. It refuses the arguments if they are no subcommand. It opens an office
  -- file only for a subcommand that names one, a list only for `import`, and a port only for `serve`.
  abbrev pub DoesLine : Option Line → F → L → P → ℕ → F → L → P → Input → Input → Output → Output → Output → Output → Type 0
  DoesLine (Some (makes path)) files lists ports status files' lists' ports' input input' out out' error error' =
      MakesInFile access files path status files' out out' × (error' ≡ error) × (input' ≡ input) × (lists' ≡ lists) × (ports' ≡ ports)
  DoesLine (Some (migrates path)) files lists ports status files' lists' ports' input input' out out' error error' =
      MigratesInFile access files path status files' out out' × (error' ≡ error) × (input' ≡ input) × (lists' ≡ lists) × (ports' ≡ ports)
  DoesLine (Some (performs path action)) files lists ports status files' lists' ports' input input' out out' error error' =
      PerformsInFile access list_access network files path action lists ports status files' lists' ports' input input' out out' × (error' ≡ error)
  DoesLine (Some rehearses) files lists ports status files' lists' ports' input input' out out' error error' =
      RehearsesAnew status input input' out out' × (error' ≡ error) × (files' ≡ files) × (lists' ≡ lists) × (ports' ≡ ports)
  DoesLine (Some (prints seed count)) files lists ports status files' lists' ports' input input' out out' error error' =
      Prints (words_text seed count) 0 status out out' × (error' ≡ error) × (input' ≡ input) × (files' ≡ files) × (lists' ≡ lists)
      × (ports' ≡ ports)
  DoesLine None files lists ports status files' lists' ports' input input' out out' error error' =
      Refuses NotUnderstood status out out' error error' × (input' ≡ input) × (files' ≡ files) × (lists' ≡ lists) × (ports' ≡ ports)

  -- Either the program carries out the subcommand that the arguments give. Or an allocation fails, for parsing the
  -- arguments or for the words of a draw, and the program reports the failure. Without arguments, there is no such
  -- failure.
  abbrev pub CarriesOut : List Text → F → L → P → ℕ → F → L → P → Input → Input → Output → Output → Output → Output → Type 0
  CarriesOut words files lists ports status files' lists' ports' input input' out out' error error' =
      DoesLine (program_of words) files lists ports status files' lists' ports' input input' out out' error error'
      ⊎ ((0 < length words) × Refuses OutOfMemory status out out' error error' × (input' ≡ input) × (files' ≡ files)
      × (lists' ≡ lists) × (ports' ≡ ports))
