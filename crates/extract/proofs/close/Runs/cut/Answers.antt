use Rattle.words.proofs.Writes.{list_none, list_more, list_done}
use Rattle.extract.specs.Moves.{cut_words}
use Rattle.words.specs.Width.{state_width}
use Rattle.rules.specs.Extract.{close_up}
use lib.ListN.{get_or}
use native.Mathlib.Omega.{arith}
use native.Mathlib.Nat.{zero-add}
use Prim.Native.Nat.{ℕ}
use mathlib.Core.Path.{sym, ap, ◌∙◌}
use Rattle.extract.proofs.close.Runs.cut.Goals as goal

pub loop-j-init : goal.loop-j-init
loop-j-init c = list_none (omega arith)

pub bounds-out-j : goal.bounds-out-j
bounds-out-j c = omega (arith, c.loop-j.invariant.long)

pub loop-j-preserved : goal.loop-j-preserved
loop-j-preserved c =
    let a = c.args in
    list_more c.loop-j.invariant (omega arith) (sym (zero-add _))
    (c.close_up.ensures ∙ ap (λ (x : ℕ). close_up state_width a.self.set (get_or a.words.now x 0)) (sym (zero-add _)))

pub shape_of-out : goal.shape_of-out
shape_of-out c = c.loop-j.invariant.long

pub returns : goal.returns
unfolding cut_words
returns c = list_done c.loop-j.invariant (omega arith)
