-- What is proved of each command, and of one that makes a single change or none.
use Rattle.std.proofs.Common.{◌≡◌, None, [], ◌∷◌, refl}
use Rattle.office_state.specs.Change.{Fits, LeadsTo, applied}
use Rattle.office_state.specs.Office.Invariants.{IsLawful}
use Rattle.office_state.specs.declared.change.Change.{Change}
use Rattle.office_state.specs.declared.office.Office.{Office}
use Rattle.office_core.specs.Command.Changes.{changes_of}
use Rattle.office_core.specs.Command.{accepts, next}
use Rattle.office_core.specs.declared.command.Command.{Command}

-- if a lawful office accepts the command, its changes lead to the office of its rule, which is lawful
abbrev pub IsCarriedOut : Office → Command → Type 0
IsCarriedOut office command = IsLawful office → accepts office command ≡ None
    → LeadsTo office (next office command) (changes_of office command)

-- one change that fits leads to the office that it makes
pub one_change : (office : Office) (change : Change) → IsLawful office → Fits office office change
    → IsLawful (applied office change) → LeadsTo office (applied office change) (change ∷ [])
one_change office change l fits lawful = record {
  leads = refl;
  apart = (l.register.homes, lawful.register.homes);
  fits = (fits, tt);
  lawful = lawful;
}

-- no change leads to the same office
pub no_change : (office : Office) → IsLawful office → LeadsTo office office []
no_change office l = record { leads = refl; apart = l.register.homes; fits = tt; lawful = l }
