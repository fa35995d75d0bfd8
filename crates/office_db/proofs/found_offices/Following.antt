-- States of a connection between which tables are only read.
use Rattle.std.proofs.Common.{refl, sym, ◌∙◌, subst}
use Rattle.sqlite.specs.State.{State, HasCleanDisk}
use Rattle.sqlite.specs.Effect.{Database}
use Rattle.office_schema.specs.rows.Tables.{Tables}
use Rattle.office_schema.specs.tables.Crashes.{LeavesOldOr, WasOpen}
use Rattle.office_schema.specs.tables.Steps.{IsIntact}
use Rattle.office_schema.specs.tables.InLayout.{HasTablesIn}
use Rattle.office_schema.specs.declared.tables.layouts.Layout.{Layout}
use Rattle.office_schema.proofs.statements.Crashes.{nothing_new_then, old_or_then, old_or_weaker}
use Rattle.office_schema.proofs.statements.Steps.{follows-refl, follows_then, intact_before}
use Rattle.office_db.specs.loading.Reading.{KeepsDatabase, OnlyReads}

pub keeps_then : (a b c : State) → KeepsDatabase a b → KeepsDatabase b c → KeepsDatabase a c
keeps_then a b c p q = record {
  follows = follows_then a b c p.follows q.follows;
  same = λ intact. q.same intact ∙ p.same (intact_before b c q.follows intact);
}

pub reads_then : (a b c : State) → OnlyReads a b → OnlyReads b c → OnlyReads a c
reads_then a b c p q = record {
  keeps = keeps_then a b c p.keeps q.keeps;
  crash = nothing_new_then a b c q.keeps.follows.clean p.crash q.crash;
}

-- If nothing is done, the tables are only read.
pub reads-refl : (a : State) → OnlyReads a a
reads-refl a =
    record { keeps = record { follows = follows-refl a; same = λ intact. refl }; crash = λ clean db may. may }

-- The tables are unchanged.
pub still_has : (layout : Layout) (a b : State) (tables : Tables) → OnlyReads a b → IsIntact b
    → HasTablesIn layout a.now tables → HasTablesIn layout b.now tables
still_has layout a b tables p intact has =
    subst (λ (d : Database). HasTablesIn layout d tables) (sym (p.keeps.same intact)) has

-- What a call commits after tables were only read, if the connection is open between.
pub committed_after_reading : (P : Database → Database → Type 0) (a b c : State) → OnlyReads a b → WasOpen b b
    → (HasCleanDisk c → HasCleanDisk b)
    → LeavesOldOr (P b.now) b c → LeavesOldOr (P a.now) a c
committed_after_reading P a b c reads is_open early p =
    old_or_then (P a.now) a b c early reads.crash
    (old_or_weaker (P b.now) (P a.now) b c
    (λ clean after h. subst (λ (d : Database). P d after) (reads.keeps.same (early clean, is_open (early clean))) h) p)
