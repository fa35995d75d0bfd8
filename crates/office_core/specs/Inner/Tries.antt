-- The results of the functions that check the records of a list one by one.
use Rattle.std.specs.Prelude.{◌≡◌, ◌⊎◌, ℕ, List, Option, None, Some}
use Rattle.std.specs.Prelude.{if◌then◌else◌}
use Rattle.std.specs.Option.{is_some}
use Rattle.std.specs.FinMap as map
use Rattle.room_types.specs.Texts.{Text, TextMap}
use Rattle.office_lists.specs.declared.fault.Cause.TheVariants.{Denied}
use Rattle.office_state.specs.Office.{holder}
use Rattle.office_state.specs.declared.change.Change.{Change}
use Rattle.office_state.specs.declared.office.Office.{Office}
use Rattle.office_state.specs.declared.office.person.Person.{Person}
use Rattle.office_core.specs.Command.Import.{EntryCommand, changes_by, entries_in, first_denied}
use Rattle.office_core.specs.Command.Import.{list_refusal}
use Rattle.office_core.specs.Refusal.{number_of}
use Rattle.office_core.specs.Refusal.Checks.{is_out_of_memory}
use Rattle.office_core.specs.declared.command.import.register.Register.{Register}
use Rattle.office_core.specs.declared.refusal.Refusal.{Refusal}
use Rattle.office_core.specs.declared.refusal.Refusal.TheVariants.{BadRecord, OutOfMemory}

-- the refusal of a list when the office refuses the command of record `at` with this refusal; `OutOfMemory` stays
-- `OutOfMemory`
abbrev pub denial_of : ℕ → Refusal → Refusal
denial_of at refusal =
    if is_out_of_memory refusal then OutOfMemory else BadRecord at (Denied (number_of refusal))

-- the refusal is the wanted one, or `OutOfMemory`
abbrev pub IsOrOutOfMemory : Option Refusal → Refusal → Type 0
IsOrOutOfMemory wanted refusal = (wanted ≡ Some refusal) ⊎ (refusal ≡ OutOfMemory)

-- the office refuses none of these records, and there is a change for each
pub record AreAllowed (command : EntryCommand) (office : Office) (entries : List command.Entry)
    (changes : List Change) : Type 0 where
  pub allowed : first_denied command office 1 entries ≡ None
  pub changed : changes ≡ changes_by command entries

-- no record of the list is bad or refused, and there is a change for each
pub record AreAdded (command : EntryCommand) (office : Office) (bytes : List ℕ) (changes : List Change)
    : Type 0 where
  pub accepted : list_refusal command office bytes ≡ None
  pub changed : changes ≡ changes_by command (entries_in command bytes)

-- the table has exactly the keys that somebody has
abbrev pub HasKeys : {X : Type 0} → TextMap Person → TextMap X → Type 0
HasKeys people keys =
    (key : Text) → map.contains_key keys key ≡ is_some (holder (λ p. Some p.key) people key)

-- the table has exactly the rooms that are somebody's home
abbrev pub HasHomes : {X : Type 0} → TextMap Person → TextMap X → Type 0
HasHomes people homes =
    (room : Text) → map.contains_key homes room ≡ is_some (holder (λ p. p.home) people room)

-- the register's tables have exactly the keys and the homes of its people
pub record IsIndexed (register : Register) : Type 0 where
  pub keys : HasKeys register.people register.keys
  pub homes : HasHomes register.people register.tenants

-- the tenants of rooms after a person is added who has this home, or no home
abbrev pub placed : TextMap Text → Option Text → Text → TextMap Text
placed tenants None person = tenants
placed tenants (Some room) person = map.insert tenants room person
