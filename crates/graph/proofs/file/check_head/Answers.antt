-- `file::check_head` meets its contract.
use mathlib.Core.Path.{◌≡◌, sym, ap, ◌∙◌}
use mathlib.Core.Bool.{true}
use native.Mathlib.Omega.{arith}
use Rattle.graph.specs.File.{head_of}
use Rattle.graph.specs.Format.{letters, version}
use Rattle.graph.proofs.Links.{short, no_letters, short_head, headed}
use borrow.Author.Rules.{rules}
use Rattle.graph.proofs.file.check_head.Goals as goal
use Rattle.graph.proofs.file.check_head.Goals.{After-head_of}

lettered : (c : After-head_of) → letters c.args.file.now ≡ true
lettered c = sym c.letters.ensures ∙ c.if-not-letters.false

head : (c : After-head_of) → c.head_of.result ≡ head_of (version c.args.file.now)
head c = c.head_of.ensures ∙ ap head_of c.version.ensures

pub returns-then-file-lt-HEAD_BYTES : goal.returns-then-file-lt-HEAD_BYTES
returns-then-file-lt-HEAD_BYTES c = short _ c.if-file-lt-HEAD_BYTES.true

pub returns-then-not-letters : goal.returns-then-not-letters
returns-then-not-letters c = no_letters _ (search rules) (sym c.letters.ensures ∙ c.if-not-letters.true)

pub returns-then-file-head_of : goal.returns-then-file-head_of
returns-then-file-head_of c = short_head _ (search rules) (lettered (goal.at.returns-then-file-head_of c).After-head_of) (omega (arith, head (goal.at.returns-then-file-head_of c).After-head_of, c.if-file-head_of.true))

pub returns : goal.returns
returns c = headed _ (search rules) (lettered (goal.at.returns c).After-head_of) (omega (arith, head (goal.at.returns c).After-head_of, c.if-file-head_of.false))
