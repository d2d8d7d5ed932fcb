-- What is the same as a piece before it is what came of that piece; any other is cut.
use mathlib.Core.Path.{ap, ◌∙◌}
use mathlib.Core.List.{List}
use Prim.Native.Nat.{ℕ, ◌-◌}
use native.Mathlib.Omega.{arith}
use Rattle.words.specs.Memory.{put_at}
use Rattle.extract.proofs.Cuts.{cut_again}
use Rattle.extract.proofs.close.Moves.cut_piece.Goals as goal

pub returns-then-same_piece : goal.returns-then-same_piece
returns-then-same_piece c =
    c.copy_piece.ensures
    ∙ ap (λ (l : List ℕ). put_at c.args.at l c.args.out.now)
    (cut_again c.args.self.set c.args.words.now c.args.out.now (c.args.at - c.args.back) c.args.at (omega arith) c.requires.0
    (c.same_piece.ensures c.if-same_piece.true))
