-- The kinds of lists by their names.
use Rattle.std.specs.Prelude.{MatchOption}
use Rattle.std.proofs.Common.{◌≡◌, ◌∙◌, Bool, true, false, Option, Some, None, refl, sym, ap}
use Rattle.std.specs.Str.{bytes_eq}
use Rattle.std.proofs.lemmas.Slice.Eq.{bytes_eq-Decides}
use Rattle.room_types.specs.Kinds.{kind_text}
use Rattle.room_types.specs.Texts.{Text}
use Rattle.room_types.specs.declared.kinds.ListKind.{ListKind}
use Rattle.room_types.specs.declared.kinds.ListKind.TheVariants.{Rooms, People, Choices, Grades}
use Rattle.office_cli.specs.Programs.{list_kind_named}

differs : (name other : Text) → (name ≡ other → ⊥) → bytes_eq name other ≡ false
differs name other apart = go (bytes_eq name other) refl
  where
    go : (b : Bool) → bytes_eq name other ≡ b → bytes_eq name other ≡ false
    go true e = absurd (apart ((bytes_eq-Decides name other).0 e))
    go false e = e

named : (kind : ListKind) → list_kind_named (kind_text kind) ≡ Some kind
named Rooms = refl
named People = refl
named Choices = refl
named Grades = refl

unnamed : (name : Text) → ((kind : ListKind) → name ≡ kind_text kind → ⊥) → list_kind_named name ≡ None
unnamed name other =
    rw (
      differs name (kind_text Rooms) (other Rooms),
      differs name (kind_text People) (other People),
      differs name (kind_text Choices) (other Choices),
      differs name (kind_text Grades) (other Grades),
    ) refl

-- `ListKind::named` returns the kind that `list_kind_named` defines
pub kind_is : (name : Text) (read : Option ListKind) → MatchOption read ((kind : ListKind) → name ≡ kind_text kind → ⊥)
    (λ kind. name ≡ kind_text kind)
    → read ≡ list_kind_named name
kind_is name (Some kind) is = sym (ap list_kind_named is ∙ named kind)
kind_is name None other = sym (unnamed name other)
