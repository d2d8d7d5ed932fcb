-- What is written is what stands so far before.
use mathlib.Core.Path.{sym, ap, ◌∙◌}
use Prim.Native.Nat.{ℕ, ◌+◌, ◌-◌}
use native.Mathlib.Omega.{arith}
use lib.ListN.{get_or}
use Rattle.rules.specs.Lists.{list_over}
use Rattle.words.specs.Memory.{put_at}
use Rattle.words.proofs.Writes.{put_none}
use Rattle.build.proofs.Repeats.{put_copied}
use Rattle.build.proofs.copies.move_block.Goals as goal

pub returns-then-count-eq0 : goal.returns-then-count-eq0
unfolding list_over
returns-then-count-eq0 c =
    let a = c.args in
    sym (put_none a.at a.words.now) ∙ ap (λ (x : ℕ). put_at a.at (list_over x (λ i. get_or a.words.now (a.at + i - a.stride) 0)) a.words.now) (sym c.if-count-eq0.true)

pub returns : goal.returns
returns c =
    let a = c.args in
    let parts = c.split_at_mut-before.ensures in
    put_copied a.at a.stride a.count a.words.now (c.requires.1 (omega (arith, c.if-count-eq0.false))) c.requires.0 c.requires.2 parts.front parts.back c.copy_from_slice.ensures.after
