-- Each form of cause 18 in turn.
use Rattle.share.proofs.Totals.{no_total, no_denominator, above_one, a_share}
use Rattle.share.proofs.weights.check_weights.Goals as goal

pub returns-then-total-eq0 : goal.returns-then-total-eq0
returns-then-total-eq0 c = no_total _ _ _ c.if-total-eq0.true

pub returns-then-denominator-eq0 : goal.returns-then-denominator-eq0
returns-then-denominator-eq0 c = no_denominator _ _ _ c.if-total-eq0.false c.if-denominator-eq0.true

pub returns-then-denominator-numerator : goal.returns-then-denominator-numerator
returns-then-denominator-numerator c = above_one _ _ _ c.if-total-eq0.false c.if-denominator-eq0.false c.if-denominator-numerator.true

pub returns : goal.returns
returns c = a_share _ _ _ c.if-total-eq0.false c.if-denominator-eq0.false c.if-denominator-numerator.false
