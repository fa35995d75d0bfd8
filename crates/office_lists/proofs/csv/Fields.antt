-- Reading the fields of a record.
use Rattle.std.proofs.Common.{◌≡◌, ◌∙◌, ◌<◌, ◌≤◌, ◌++◌, ◌==◌, ◌&&◌, Bor, Bool, true, false, ℕ, suc, List, [], ◌∷◌}
use Rattle.std.proofs.Common.{length, map, drop, get_or, drop-cons, Some, refl, sym, ap, rules, tests}
use Rattle.std.proofs.lemmas.Bool.{and_parts, false_from_ne_true}
use Rattle.std.proofs.lemmas.List.{drop_all}
use Rattle.std.proofs.lemmas.Str.{IsUtf8-from_is_utf8, is_utf8-from_IsUtf8}
use Rattle.std.specs.List.{list_all, slice_split}
use Rattle.std.specs.Str.{is_utf8}
use Rattle.csv.specs.Records.{AllText}
use Rattle.room_types.specs.Grammars.{is_room_code}
use Rattle.room_types.specs.Texts.{Text}
use Rattle.office_lists.specs.Entries.{codes_in, is_space}
use Rattle.office_lists.specs.Records.{ListForm, Record, cause_of, field_cause}
use Rattle.office_lists.specs.declared.fault.Cause.TheVariants.{NotText}

abbrev pub texts : List (Bor Text) → List Text
texts = map (λ (word : Bor Text). word.now)

-- a text that is not empty, split at its spaces
pub between_spaces : (text : Text) → (length text == 0) ≡ false → slice_split is_space text ≡ codes_in text
between_spaces [] some = cc some
between_spaces (byte ∷ rest) some = refl

-- the words before word i are read as these codes, and all of them are room codes
pub record AreCodes (words : List (Bor Text)) (i : ℕ) (codes : List Text) : Type 0 where
  pub read : codes ++ texts (drop i words) ≡ texts words
  pub good : list_all is_room_code (texts (drop i words)) ≡ list_all is_room_code (texts words)

pub all_codes : (words : List (Bor Text)) (i : ℕ) (codes : List Text) → length words ≤ i → AreCodes words i codes
    → list_all is_room_code (texts words) ≡ true
all_codes words i codes all are =
    sym are.good ∙ ap (λ (ws : List (Bor Text)). list_all is_room_code (texts ws)) (drop_all i words all)

pub no_code : (words : List (Bor Text)) (i : ℕ) (d : Bor Text) (codes : List Text) → i < length words
    → AreCodes words i codes
    → is_room_code (get_or words i d).now ≡ false → list_all is_room_code (texts words) ≡ false
no_code words i d codes low are bad =
    sym are.good ∙ ap (λ (ws : List (Bor Text)). list_all is_room_code (texts ws)) (drop-cons words i d low)
    ∙ ap (λ (b : Bool). b && list_all is_room_code (texts (drop (suc i) words))) bad

-- fields that are text all pass `is_utf8`
pub all_utf8 : (fields : Record) → AllText fields → list_all is_utf8 fields ≡ true
unfolding AllText
all_utf8 [] text = refl
all_utf8 (f ∷ fs) text = rw (is_utf8-from_IsUtf8 f text.0, all_utf8 fs text.1) refl

pub all_text : (fields : Record) → list_all is_utf8 fields ≡ true → AllText fields
unfolding AllText
all_text [] all = tt
all_text (f ∷ fs) all =
    let parts = and_parts (is_utf8 f) _ all in (IsUtf8-from_is_utf8 f parts.0, all_text fs parts.1)

same_count : (m n : ℕ) → m ≡ n → (m == n) ≡ true
same_count m n e = search (rules, tests)

pub no_text : {X : Type 0} (form : ListForm X) (fields : Record) → length fields ≡ length form.header
    → ¬ (AllText fields) → cause_of form fields ≡ Some NotText
no_text form fields same bad =
    rw (
      same_count (length fields) (length form.header) same,
      false_from_ne_true (list_all is_utf8 fields)
          (λ e. bad (all_text fields e)),
    ) refl

pub cause_of_text : {X : Type 0} (form : ListForm X) (fields : Record) → length fields ≡ length form.header
    → AllText fields → cause_of form fields ≡ field_cause form fields
cause_of_text form fields same text =
    rw (same_count (length fields) (length form.header) same, all_utf8 fields text) refl
