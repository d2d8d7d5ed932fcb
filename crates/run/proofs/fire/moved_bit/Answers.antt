-- Bit s of the word, moved to bit p.
use Rattle.run.proofs.Touches.{moved_bit}
use Rattle.run.proofs.fire.moved_bit.Goals as goal

pub returns : goal.returns
returns c = moved_bit _ _ _ c.requires.1
