use mathlib.Core.Path.{◌≡◌, refl, ap, ◌∙◌}
use Prim.Native.Nat.{ℕ}
use native.Mathlib.Omega.{arith}
use lib.ListN.{get_or}
use Rattle.rules.specs.Word.{bit, union, single}
use Rattle.rules.specs.Over.{keep, join_over}
use Rattle.rules.specs.Shared.{start_label}
use Rattle.rules.proofs.Overs.{join_over_next}
use Rattle.words.specs.Rows.{row_length}
use Rattle.run.specs.Fire.{set_in}
use Rattle.run.proofs.fire.set_in.Goals as goal

pub loop-p-init : goal.loop-p-init
unfolding join_over
loop-p-init c = (omega arith, refl)

pub loop-p-preserved : goal.loop-p-preserved
loop-p-preserved c =
    let l = c.loop-p in
    let a = c.args in (
      omega arith,
      ap (union l.set) c.moved_bit-set.ensures ∙ join_over_next l.p (λ i. keep (bit a.s (get_or a.labels.now i 0)) (single i)) l.invariant.1,
    )

pub returns : goal.returns
unfolding set_in start_label
returns c =
    let l = c.loop-p in
    let a = c.args in
    let e : l.p ≡ row_length = omega (arith, l.invariant.0) in
    l.invariant.1 ∙ ap (λ (x : ℕ). join_over x (λ i. keep (bit a.s (get_or a.labels.now i 0)) (single i))) e
