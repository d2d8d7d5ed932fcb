use mathlib.Core.Path.{refl}
use native.Mathlib.Omega.{arith}
use borrow.Author.Rules.{rules}
use lib.Count.{ones-le}
use Rattle.words.specs.Width.{word_width}
use Rattle.scans.proofs.Looks.{sized_none, sized_more}
use Rattle.scans.proofs.count_adders.Goals as goal

pub loop-p-init : goal.loop-p-init
loop-p-init c = sized_none refl

pub overflow_cast-sizes : goal.overflow_cast-sizes
overflow_cast-sizes c = omega (arith, ones-le word_width _ (c.type_inv.adders c.loop-p.p).fits)

pub overflow_add-sizes : goal.overflow_add-sizes
overflow_add-sizes c = omega (arith, ones-le word_width _ (c.type_inv.adders c.loop-p.p).fits)

pub bounds-sizes-p : goal.bounds-sizes-p
bounds-sizes-p c = omega (arith, c.loop-p.invariant.long, c.requires.0)

pub loop-p-preserved : goal.loop-p-preserved
loop-p-preserved c = sized_more c.loop-p.invariant (search rules) c.requires.0

pub shape_of-sizes : goal.shape_of-sizes
shape_of-sizes c = c.loop-p.invariant.long

pub returns : goal.returns
returns c = λ p l. c.loop-p.invariant.is p (omega arith)
