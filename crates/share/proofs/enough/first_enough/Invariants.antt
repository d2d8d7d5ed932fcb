-- The loop goes from layer to layer, and is left at the first where the weight is enough.
use Rattle.rules.specs.Share as S
use Rattle.share.proofs.Seeks.{Seeking}
use Rattle.share.proofs.enough.first_enough.Given as goal

abbrev pub invariant-loop-t : goal.invariant-loop-t
invariant-loop-t l =
    Seeking l.layers.shape l.layers.depth (S.share_of l.share.weights.now l.share.numerator l.share.denominator) l.goal.0 l.layers.words.now l.short.0 l.have l.t
