-- From what `clap` guarantees about a parse to the subcommand of the arguments.
use Rattle.std.proofs.Common.{◌≡◌, ◌<◌, ◌==◌, Bor, map, List, [], ◌∷◌, length, inl, inr, Option, Some, None, Err, refl}
use Rattle.std.proofs.Common.{arith, true, false}
use Rattle.std.specs.Prelude.{option_map}
use Rattle.std.specs.Box.{box_value}
use Rattle.clap.specs.Words.{HasKind, IsAmong, Kinds, Row, Text, fault_of, found_of, kind_of, rows_of}
use Rattle.clap.specs.Words.{subcommand_name_of, subcommand_of, subcommand_rows_of}
use Rattle.clap.specs.declared.error.Error.{Error}
use Rattle.clap.specs.declared.error.kind.ErrorKind.TheVariants as kind
use Rattle.clap.specs.declared.parser.matches.ArgMatches.{ArgMatches}
use Rattle.clap.specs.declared.parser.matches.ArgMatches.TheViews.{out-ArgMatches, out-SubCommand}
use Rattle.clap.specs.Simple.{is_simple}
use Rattle.clap.specs.Words.{is_simple_and_free}
use Rattle.clap.proofs.OnLiterals.{clap_on_literals}
use Rattle.office_cli.specs.Usage.{usage}
use Rattle.office_cli.specs.Programs.{entered, entered_line, is_accepted, line_of, program_of}
use Rattle.office_lines.specs.parse.Understanding.{UnderstandsAs}
use Rattle.office_lines.specs.declared.parse.word_fault.WordFault.{WordFault}
use Rattle.office_lines.specs.declared.parse.word_fault.WordFault.TheVariants.{NotUnderstood, OutOfMemory}

-- `clap` specifies the matches and the faults of this usage
pub usage_is_simple : is_simple usage ≡ true
unfolding clap_on_literals
usage_is_simple = refl

pub usage_is_free : is_simple_and_free usage ≡ true
unfolding clap_on_literals
usage_is_free = refl

pair_of : {X A B : Type 0} (f : X → A) (g : X → B) (o : Option X) (a : A) (b : B) → Some a ≡ option_map f o
    → Some b ≡ option_map (λ (p : A × B). p.1) (option_map {U = A × B} (λ x. (f x, g x)) o)
    → option_map {U = A × B} (λ x. (f x, g x)) o ≡ Some (a, b)
pair_of f g None a b e h = cc
pair_of f g (Some x) a b e h =
    let p : a ≡ f x = cc in
    let q : b ≡ g x = cc in
    rw (p, q) refl

-- the subcommand that was entered, from its name and its rows
pub entered_is : (m : ArgMatches) (name : Text) (rows : List Row) → Some name ≡ subcommand_name_of m
    → Some rows ≡ option_map (λ (p : Text × List Row). p.1) (subcommand_rows_of m)
    → subcommand_rows_of m ≡ Some (name, rows)
entered_is m name rows e h =
    pair_of (λ b. (out-SubCommand (box_value b)).name.now)
    (λ b. rows_of (found_of (out-SubCommand (box_value b)).matches)) (out-ArgMatches m).subcommand name rows e h

-- arguments that `clap` accepts are the line of their subcommand
pub line_entered : (words : List Text) (name : Text) (rows : List Row) → 0 < length words → fault_of usage words ≡ []
    → subcommand_of usage words ≡ Some (name, rows) → program_of words ≡ entered_line (name, rows)
unfolding is_accepted entered
line_entered [] name rows some taken is = absurd (omega arith)
line_entered (word ∷ rest) name rows some taken is = rw (taken, is) refl

-- arguments that `clap` refuses are no line
pub line_refused : (words : List Text) (k : _) (ks : Kinds) → 0 < length words → fault_of usage words ≡ k ∷ ks
    → program_of words ≡ None
unfolding is_accepted
line_refused [] k ks some refused = absurd (omega arith)
line_refused (word ∷ rest) k ks some refused = rw refused refl

abbrev pub IsMemory : Error → Type 0
IsMemory e = kind_of e ≡ kind.OutOfMemory

-- the error of a parse: out of memory, or arguments that are no line
pub fault_returned : (words : List Text) (e : Error) (fault : WordFault) → 0 < length words
    → HasKind (fault_of usage words) e
    → (fault ≡ NotUnderstood → ¬ IsMemory e) → UnderstandsAs line_of (program_of words) (Err fault)
fault_returned words e OutOfMemory some kinds other = tt
fault_returned words e NotUnderstood some (inl memory) other = absurd (other refl memory)
fault_returned words e NotUnderstood some (inr among) other = go (fault_of usage words) refl among
  where
    go : (ks : Kinds) → fault_of usage words ≡ ks → IsAmong (kind_of e) ks → program_of words ≡ None
    go [] is h = absurd h
    go (k ∷ ks) is h = line_refused words k ks some is

pub some_words : (words : List (Bor Text)) → (length words == 0) ≡ false
    → 0 < length (map (λ (w : Bor Text). w.now) words)
some_words [] e = cc
some_words (word ∷ rest) e = omega arith
