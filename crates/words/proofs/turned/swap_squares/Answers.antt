use mathlib.Core.Path.{◌≡◌, refl, sym, ap, ◌∙◌}
use Prim.Native.Nat.{ℕ}
use native.Mathlib.Numerals.{add-one}
use native.Mathlib.Omega.{arith}
use lib.ListN.{length}
use Rattle.words.specs.Squares.{pair_count, swap_pair, swap_pairs, upper_row}
use Rattle.words.specs.Width.{prop_width}
use Rattle.words.proofs.Squares.{some_width, pair_inside, swaps_length}
use Rattle.words.proofs.turned.swap_squares.Goals as goal

pub loop-k-init : goal.loop-k-init
unfolding swap_pairs
loop-k-init c = (c.requires.0, c.requires.1, omega arith, refl)

pub nonzero_div-k : goal.nonzero_div-k
nonzero_div-k c = some_width _ _ c.loop-k.invariant.1

pub overflow_mul-k : goal.overflow_mul-k
unfolding upper_row
overflow_mul-k c = let l = c.loop-k in omega (arith, pair_inside _ _ l.invariant.1 {k = l.k} (omega arith))

pub overflow_add-k : goal.overflow_add-k
unfolding upper_row
overflow_add-k c = let l = c.loop-k in omega (arith, pair_inside _ _ l.invariant.1 {k = l.k} (omega arith))

pub swap_pair-requires : goal.swap_pair-requires
unfolding upper_row
swap_pair-requires c =
    let l = c.loop-k in
    let long : length l.rows ≡ prop_width = ap length l.invariant.3 ∙ swaps_length _ _ l.invariant.1 l.k _ ∙ l.invariant.0 in
    (omega (arith, pair_inside _ _ l.invariant.1 {k = l.k} (omega arith), long), long)

pub loop-k-preserved : goal.loop-k-preserved
unfolding swap_pairs upper_row
loop-k-preserved c =
    let l = c.loop-k in
    let a = c.args in (
      l.invariant.0,
      l.invariant.1,
      omega arith,
      c.swap_pair.ensures ∙ ap (swap_pair a.w a.low (upper_row a.w l.k)) l.invariant.3
          ∙ ap (λ (n : ℕ). swap_pairs a.w a.low n a.rows.now) (sym (add-one l.k)),
    )

pub shape_of-rows : goal.shape_of-rows
shape_of-rows c = let l = c.loop-k in ap length l.invariant.3 ∙ swaps_length _ _ l.invariant.1 l.k _

pub returns : goal.returns
returns c = let l = c.loop-k in
    let e : l.k ≡ pair_count = omega (arith, l.invariant.2) in
    l.invariant.3 ∙ ap (λ (n : ℕ). swap_pairs c.args.w c.args.low n c.args.rows.now) e
