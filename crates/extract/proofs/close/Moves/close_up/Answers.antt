-- From move to move; where nothing goes down in the last two, they change nothing.
use mathlib.Core.Path.{◌≡◌, ◌∙◌}
use native.Mathlib.Omega.{arith}
use Prim.Native.Nat.{ℕ, ◌^◌, ◌/◌, ◌<◌}
use Rattle.rules.specs.Word.{common, union, without}
use Rattle.words.specs.Width.{state_width}
use Rattle.extract.specs.Moves.{closing}
use Rattle.extract.specs.declared.close.Moves.{Moves}
use Rattle.extract.proofs.Moves.{closing_first, closing_next, closing_still, closing_last}
use Rattle.extract.proofs.MoveLoops.{none_joined}
use Rattle.extract.proofs.close.Moves.close_up.Goals as goal

-- what a move makes of a word
abbrev move : ℕ → ℕ → ℕ → ℕ
move x m d = union (without x m) (common x m / 2 ^ d)

-- the word after four moves
four : (m : Moves) (w : ℕ) → m.set < 2 ^ state_width
    → move (move (move (move (common m.set w) m.m0 1) m.m1 2) m.m2 4) m.m3 8 ≡ closing state_width m.set w 4
four m w small =
    let p = m.made in
    closing_next state_width m.set w 3 _ _ (closing_next state_width m.set w 2 _ _ (closing_next state_width m.set w 1 _ _
    (closing_next state_width m.set w 0 _ _ (closing_first state_width m.set w small) p.mask0) p.mask1) p.mask2) p.mask3

pub returns-then-self-eq0 : goal.returns-then-self-eq0
returns-then-self-eq0 c =
    let m = c.args.self in
    let none = none_joined m.m4 m.m5 c.if-self-eq0.true in
    closing_still state_width m.set c.args.w 5 _ m.m5
    (closing_still state_width m.set c.args.w 4 _ m.m4 (four m c.args.w (omega arith)) m.made.mask4 none.0) m.made.mask5 none.1
    ∙ closing_last state_width m.set c.args.w (omega arith)

pub returns : goal.returns
returns c =
    let m = c.args.self in
    closing_next state_width m.set c.args.w 5 _ _
    (closing_next state_width m.set c.args.w 4 _ _ (four m c.args.w (omega arith)) m.made.mask4) m.made.mask5
    ∙ closing_last state_width m.set c.args.w (omega arith)
