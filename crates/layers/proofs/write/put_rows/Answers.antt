use mathlib.Core.Path.{refl}
use Prim.Native.Nat.{ℕ, ◌+◌, ◌-◌, ◌*◌}
use native.Mathlib.Omega.{arith}
use borrow.Author.Rules.{rules}
use borrow.Rule.Slice.PartMut.{same_len_mid}
use lib.ListN.{get_or}
use Rattle.words.specs.Rows.{row_length}
use Rattle.words.proofs.Writes.{run_none, run_done, tail_word}
use Rattle.layers.proofs.Puts.{rows_room, rows_more, rows_end, apart_put}
use Rattle.layers.proofs.write.put_rows.Goals as goal

pub loop-i-init : goal.loop-i-init
loop-i-init c = run_none (omega arith)

pub slice_bounds-put_apart-end : goal.slice_bounds-put_apart-end
slice_bounds-put_apart-end c =
    let t = c.args.tables.now in
    omega (arith, c.loop-i.invariant.long, rows_room c.args.n c.args.a t.live c.args.labels.now t.mates t.r c.loop-i.invariant c.requires.1 c.loop-i-test.true)

pub slice_bounds-put_apart-end-in-loop-i-3 : goal.slice_bounds-put_apart-end-in-loop-i-3
slice_bounds-put_apart-end-in-loop-i-3 c =
    let t = c.args.tables.now in
    let at = c.loop-i.at in
    omega (
      arith,
      same_len_mid at (at + (c.args.a - 1 - c.loop-i.i) - at) c.loop-i.words c.put_apart.new.out c.put_apart.auto.out,
      c.loop-i.invariant.long,
      rows_room c.args.n c.args.a t.live c.args.labels.now t.mates t.r c.loop-i.invariant c.requires.1 c.loop-i-test.true,
    )

pub loop-i-preserved : goal.loop-i-preserved
loop-i-preserved c =
    let inv = c.loop-i.invariant in
    let n = c.args.n in
    let a = c.args.a in
    let i = c.loop-i.i in
    let at = c.loop-i.at in
    let w = c.loop-i.words in
    let labels = c.args.labels.now in
    let t = c.args.tables.now in
    let own = get_or t.live i 0 in
    let room = rows_room n a t.live labels t.mates t.r inv c.requires.1 c.loop-i-test.true in
    let middle = at + (a - 1 - i) in
    rows_more n a t.live labels t.mates t.r inv c.requires.1 c.loop-i-test.true
    (apart_put at middle (a - 1 - i) own w
    _ (λ (k : ℕ). get_or t.live (i + 1 + k) 0) _ (λ (k : ℕ). get_or t.mates (i * row_length + i + 1 + k) 0) refl (omega (arith, room, inv.long))
    c.put_apart.ensures (tail_word (i + 1) t.live) (tail_word (i * row_length + i + 1) t.mates))
    (apart_put middle (middle + n) n own _
    _ (λ (q : ℕ). get_or labels q 0) _ (λ (q : ℕ). get_or t.r (i * row_length + q) 0) refl (omega (arith, same_len_mid at (middle - at) w c.put_apart.new.out c.put_apart.auto.out, room, inv.long))
    c.put_apart-in-loop-i.ensures (λ k. refl) (tail_word (i * row_length) t.r))

pub shape_of-words : goal.shape_of-words
shape_of-words c = c.loop-i.invariant.long

pub returns : goal.returns
returns c = (rows_end c.args.n c.args.a c.args.tables.now.live c.args.labels.now c.args.tables.now.mates c.args.tables.now.r c.loop-i.invariant c.requires.1 (search rules), run_done c.loop-i.invariant (search rules))
