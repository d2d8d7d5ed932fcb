-- A set of one or two runs is cut by these, any other by moves.
use mathlib.Core.Path.{ap, ◌∙◌}
use Prim.Native.Nat.{ℕ}
use Rattle.words.specs.Memory.{put_at}
use Rattle.extract.specs.Moves.{cut_words}
use Rattle.extract.proofs.close.cut.Goals as goal

pub returns-in-None : goal.returns-in-None
returns-in-None c =
    let a = c.args in
    c.cut-in-None.ensures ∙ ap (λ (x : ℕ). put_at 0 (cut_words x a.words.now 0 a.count) a.out.now) c.of-in-None.ensures
