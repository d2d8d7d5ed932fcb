-- `possible::check_possible` meets its contract.
use Rattle.within.proofs.Possibles.{wrong_length, some_open, all_right}
use Rattle.within.proofs.possible.check_possible.Goals as goal

pub returns-then-possible-n : goal.returns-then-possible-n
returns-then-possible-n c = wrong_length _ _ _ _ c.if-possible-n.true

pub returns-then-s-n : goal.returns-then-s-n
returns-then-s-n c = some_open _ _ _ _ c.if-possible-n.false _ c.first_open-s.ensures c.if-s-n.true

pub returns : goal.returns
returns c = all_right _ _ _ _ c.if-possible-n.false _ c.first_open-s.ensures c.if-s-n.false
