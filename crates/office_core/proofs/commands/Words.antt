-- Recording lottery numbers, one person at a time.
use Rattle.std.proofs.Common.{◌≡◌, ℕ, ◌+◌, ◌<◌, Bool, true, false, ◌||◌, List, [], ◌∷◌, ◌++◌}
use Rattle.std.proofs.Common.{length, drop, get_or, refl, ap, sym, ◌∙◌, inl, inr, arith}
use Rattle.std.proofs.lemmas.Bool.{or_right}
use Rattle.std.proofs.lemmas.List.{drop_more}
use Rattle.std.specs.List.{AllByRecursion, IsDistinct, list_any}
use Rattle.std.specs.Option.{is_some}
use Rattle.std.specs.Cmp.{tied_itself}
use Rattle.std.specs.Ordering.{eq_by_cmp, is_eq}
use Rattle.std.specs.Cmp.Lexicographic.{nat_list_cmp_total}
use Rattle.std.specs.FinMap as map
use Rattle.std.specs.FinMap.{get-insert}
use Rattle.room_types.proofs.maps.TextMaps.{get-put_other, text_cases}
use Rattle.room_types.specs.Texts.{Text, TextMap, text_cmp}
use Rattle.office_state.specs.Change.{applied_all, HomesStayDistinct, AllFit}
use Rattle.office_state.specs.Office.Invariants.{HomesDiffer}
use Rattle.office_state.specs.Office.{knows_person}
use Rattle.office_state.specs.declared.change.Change.{Change}
use Rattle.office_state.specs.declared.change.Change.TheVariants.{PutWord}
use Rattle.office_state.specs.declared.office.Office.{Office}
use Rattle.office_core.specs.Command.Changes.{word_changes}
use Rattle.office_core.specs.Command.Round.{with_words}
use Rattle.office_core.proofs.imports.Indexed.{some_or}

pub word_changes_more : (people : List Text) (words : List ℕ) (i : ℕ) (d : Text) (e : ℕ)
    → i < length people → i < length words
    → word_changes (drop i people) (drop i words)
    ≡ PutWord (get_or people i d) (get_or words i e) ∷ word_changes (drop (i + 1) people)
    (drop (i + 1) words)
word_changes_more people words i d e h k =
    ap (λ p. word_changes p (drop i words)) (drop_more people i d h)
    ∙ ap (λ w. word_changes (get_or people i d ∷ drop (i + 1) people) w) (drop_more words i e k)

-- the office that the changes lead to
pub word_changes-lead : (office : Office) (people : List Text) (words : List ℕ) (rest : List Change)
    → applied_all office (word_changes people words ++ rest)
    ≡ applied_all (record office { words = with_words office.words people words }) rest
word_changes-lead office (person ∷ people) (word ∷ words) rest =
    word_changes-lead (record office { words = map.insert office.words person word }) people words rest
word_changes-lead office [] words rest = refl
word_changes-lead office (person ∷ people) [] rest = refl

pub word_changes-apart : (office : Office) (people : List Text) (words : List ℕ) (rest : List Change)
    → HomesDiffer office
    → HomesStayDistinct (record office { words = with_words office.words people words }) rest
    → HomesStayDistinct office (word_changes people words ++ rest)
word_changes-apart office (person ∷ people) (word ∷ words) rest h s = (
  h,
  word_changes-apart (record office { words = map.insert office.words person word }) people words
      rest h s,
)
word_changes-apart office [] words rest h s = s
word_changes-apart office (person ∷ people) [] rest h s = s

none_again : (person : Text) (others : List Text)
    → AllByRecursion (λ other. eq_by_cmp text_cmp person other ≡ false) others
    → list_any (eq_by_cmp text_cmp person) others ≡ false
none_again person [] differ = refl
none_again person (other ∷ others) differ =
    ap (λ b. b || list_any (eq_by_cmp text_cmp person) others) differ.0
    ∙ none_again person others differ.1

-- if people differ, one who comes later is another person
comes_later : (person : Text) (others : List Text)
    → AllByRecursion (λ other. eq_by_cmp text_cmp person other ≡ false) others
    → (q : Text) → list_any (eq_by_cmp text_cmp q) others ≡ true → eq_by_cmp text_cmp q person ≡ false
comes_later person others differ q later =
    elim (text_cases q person) as (λ _. eq_by_cmp text_cmp q person ≡ false) [
      | inl same ↦
          let no : true ≡ false = sym later
          ∙ ap (λ p. list_any (eq_by_cmp text_cmp p) others) same ∙ none_again person others differ in
          absurd (cc)
      | inr other ↦ other
    ]

-- the changes fit if the people differ, and each is known and has no word yet
pub word_changes-fit : (first office : Office) (people : List Text) (words : List ℕ)
    (rest : List Change) → IsDistinct (eq_by_cmp text_cmp) people
    → ((q : Text) → list_any (eq_by_cmp text_cmp q) people ≡ true
    → (knows_person office q ≡ true) × (map.contains_key office.words q ≡ false))
    → AllFit first (record office { words = with_words office.words people words }) rest
    → AllFit first office (word_changes people words ++ rest)
unfolding IsDistinct
word_changes-fit first office (person ∷ people) (word ∷ words) rest differ new s = (
  new person (ap (λ o. is_eq o || list_any (eq_by_cmp text_cmp person) people)
      (tied_itself nat_list_cmp_total person)),
  word_changes-fit first (record office { words = map.insert office.words person word }) people words
      rest differ.1
      (λ q e. let there = new q (or_right (eq_by_cmp text_cmp q person)
      (list_any (eq_by_cmp text_cmp q) people) e) in (
        there.0,
        ap is_some (get-put_other office.words person word q (comes_later person people differ.0 q e))
            ∙ there.1,
      )) s,
)
word_changes-fit first office [] words rest differ new s = s
word_changes-fit first office (person ∷ people) [] rest differ new s = s

or_swap : (a b c : Bool) → (a || (b || c)) ≡ ((b || a) || c)
or_swap true true c = refl
or_swap true false c = refl
or_swap false true c = refl
or_swap false false c = refl

-- the people who have a word afterwards
pub with_words-has : (kept : TextMap ℕ) (people : List Text) (words : List ℕ) (p : Text)
    → length words ≡ length people
    → map.contains_key (with_words kept people words) p
    ≡ (list_any (eq_by_cmp text_cmp p) people || map.contains_key kept p)
with_words-has kept (person ∷ people) (word ∷ words) p e =
    let same : length words ≡ length people = omega (arith, e) in
    with_words-has (map.insert kept person word) people words p same
    ∙ ap (λ b. list_any (eq_by_cmp text_cmp p) people || b)
    (ap is_some (get-insert nat_list_cmp_total kept person word p)
    ∙ some_or (eq_by_cmp text_cmp p person) word (map.get kept p))
    ∙ or_swap (list_any (eq_by_cmp text_cmp p) people) (eq_by_cmp text_cmp p person)
    (map.contains_key kept p)
with_words-has kept [] words p e = refl
with_words-has kept (person ∷ people) [] p e = absurd (omega (arith, e))
