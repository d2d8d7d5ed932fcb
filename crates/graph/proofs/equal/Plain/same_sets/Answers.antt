-- `Plain::same_sets` meets its contract: the sets are compared one by one.
use mathlib.Core.Path.{sym, ap₂, ◌∙◌}
use Rattle.rules.specs.Test.{same}
use Rattle.graph.proofs.Equals.{pre_differs, add_differs, as_deletes}
use Rattle.graph.proofs.equal.Plain.same_sets.Goals as goal

pub returns-then-needs_of : goal.returns-then-needs_of
returns-then-needs_of c = pre_differs _ _ _ (λ e. c.if-needs_of.true (c.needs_of.ensures ∙ e ∙ sym c.needs_of-2.ensures))

pub returns-then-adds_of : goal.returns-then-adds_of
returns-then-adds_of c = add_differs _ _ _ (sym c.needs_of.ensures ∙ c.if-needs_of.false ∙ c.needs_of-2.ensures)
    (λ e. c.if-adds_of.true (c.adds_of.ensures ∙ e ∙ sym c.adds_of-2.ensures))

pub returns : goal.returns
unfolding same
returns c = ap₂ same c.dels_of.ensures c.dels_of-2.ensures
    ∙ as_deletes _ _ _ (sym c.needs_of.ensures ∙ c.if-needs_of.false ∙ c.needs_of-2.ensures)
    (sym c.adds_of.ensures ∙ c.if-adds_of.false ∙ c.adds_of-2.ensures)
