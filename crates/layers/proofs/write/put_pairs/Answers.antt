use mathlib.Core.Path.{refl}
use Prim.Native.Nat.{ℕ, ◌+◌, ◌-◌, ◌*◌}
use native.Mathlib.Omega.{arith}
use borrow.Author.Rules.{rules}
use lib.ListN.{get_or}
use Rattle.words.specs.Rows.{row_length}
use Rattle.words.proofs.Writes.{run_none, run_done, tail_word}
use Rattle.layers.proofs.Puts.{pairs_room, pairs_more, apart_put}
use Rattle.layers.proofs.write.put_pairs.Goals as goal

pub loop-p-init : goal.loop-p-init
loop-p-init c = run_none (omega arith)

pub slice_bounds-put_apart-end : goal.slice_bounds-put_apart-end
slice_bounds-put_apart-end c =
    omega (arith, c.loop-p.invariant.long, pairs_room c.args.n c.args.labels.now c.args.t.now c.loop-p.invariant c.loop-p-test.true c.requires.1)

pub loop-p-preserved : goal.loop-p-preserved
loop-p-preserved c =
    let inv = c.loop-p.invariant in
    let n = c.args.n in
    let p = c.loop-p.p in
    let at = c.loop-p.at in
    let labels = c.args.labels.now in
    let t = c.args.t.now in
    let room = pairs_room n labels t inv c.loop-p-test.true c.requires.1 in
    pairs_more n labels t inv c.loop-p-test.true c.requires.1
    (apart_put at (at + (n - 1 - p)) (n - 1 - p) (get_or labels p 0) c.loop-p.words
    _ (λ (k : ℕ). get_or labels (p + 1 + k) 0) _ (λ (k : ℕ). get_or t (p * row_length + p + 1 + k) 0) refl (omega (arith, room, inv.long))
    c.put_apart.ensures (tail_word (p + 1) labels) (tail_word (p * row_length + p + 1) t))

pub returns : goal.returns
returns c = run_done c.loop-p.invariant (search rules)
