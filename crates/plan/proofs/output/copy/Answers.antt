-- The front part becomes the plan's words, and what lies behind it stays.
use Prim.Native.Nat.{ℕ}
use mathlib.Core.List.{List, ◌++◌}
use mathlib.Core.Path.{sym, ap, ◌∙◌}
use native.Mathlib.Nat.{zero-add}
use lib.ListN.{length, drop}
use Rattle.words.specs.Memory.{put_at}
use Rattle.plan.proofs.output.copy.Goals as goal

pub returns : goal.returns
unfolding put_at
returns c =
    let plan = c.args.plan.now in
    let out = c.args.out.now in
    ap (λ (l : List ℕ). l ++ drop (length plan) out) c.copy_from_slice.ensures.after
    ∙ ap (λ (x : ℕ). plan ++ drop x out) (sym (zero-add (length plan)))
