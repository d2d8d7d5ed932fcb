use mathlib.Core.Path.{sym, ap₂, ◌∙◌}
use mathlib.Core.List.{List, ◌++◌}
use Prim.Native.Nat.{ℕ}
use native.Mathlib.Nat.{zero-add}
use native.Mathlib.Omega.{arith}
use lib.ListN.{length, drop}
use lib.Seq.{length-take-le}
use Rattle.rules.specs.Lists.{list_over}
use Rattle.rules.proofs.Layers.{length_list_over}
use Rattle.words.specs.Memory.{put_at}
use Rattle.words.proofs.Writes.{list_none, list_more, list_whole}
use Rattle.graph.specs.Format.{start_of}
use Rattle.graph.proofs.view.View.lay_starts.Goals as goal

pub loop-s-init : goal.loop-s-init
loop-s-init c = list_none (omega (arith, length-take-le c.args.self.now.counts.states c.args.out.now c.requires))

pub loop-s-preserved : goal.loop-s-preserved
loop-s-preserved c = list_more c.loop-s.invariant (omega (arith, length-take-le c.args.self.now.counts.states c.args.out.now c.requires)) (sym (zero-add _)) c.start.ensures

pub returns : goal.returns
unfolding put_at
returns c =
    let n : ℕ = c.args.self.now.counts.states in
    let f : ℕ → ℕ = start_of c.args.self.now.bytes.now c.args.self.now.counts in
    let long = length-take-le n c.args.out.now c.requires in
    ap₂ (λ (l : List ℕ) (k : ℕ). l ++ drop k c.args.out.now) (list_whole c.loop-s.invariant (omega (arith, long)) long)
    (sym (zero-add (length (list_over n f)) ∙ length_list_over n f))
