use Rattle.std.proofs.lemmas.Bool.Decides.{Decides-eqb, Decides-like, not_from_Decides}
use Rattle.office_db.proofs.found_offices.Among.{in_own_tree, in_tree, tree_is}
use Rattle.office_db.proofs.found_offices.Deciding.{never}
use Rattle.office_db.proofs.loading.layout.is_this_table.Goals as goal

pub returns : goal.returns
returns c =
    Decides-like _
    (λ e. in_tree c.args.own c.args.table.now c.args.tree e (c.is_declared.ensures.0 c.if-not-is_declared.false))
    (λ p. tree_is c.args.own c.args.table.now c.args.tree p) (Decides-eqb c.args.table.now.tree c.args.tree)

pub returns-then-not-is_declared : goal.returns-then-not-is_declared
returns-then-not-is_declared c =
    never (λ p. not_from_Decides _ c.is_declared.ensures c.if-not-is_declared.true
    (in_own_tree c.args.own c.args.table.now c.args.tree p))
