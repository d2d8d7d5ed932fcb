-- `file::letters` meets its contract: the letters are compared one by one.
use native.Mathlib.Omega.{arith}
use Rattle.graph.proofs.Links.{first_not, second_not, third_not, all_letters}
use Rattle.graph.proofs.file.letters.Goals as goal

pub returns-then-file-ne83 : goal.returns-then-file-ne83
returns-then-file-ne83 c = first_not _ c.if-file-ne83.true

pub returns-then-file-ne65 : goal.returns-then-file-ne65
returns-then-file-ne65 c = second_not _ (omega arith) c.if-file-ne65.true

pub returns-then-file-ne71 : goal.returns-then-file-ne71
returns-then-file-ne71 c = third_not _ (omega arith) (omega arith) c.if-file-ne71.true

pub returns : goal.returns
returns c = all_letters _ (omega arith) (omega arith) (omega arith)
