-- `set & (set - 1)` drops the lowest member.
use Rattle.words.proofs.MemberLoops.{others_is}
use borrow.Author.Rules.{rules}
use Rattle.words.proofs.members.others.Goals as goal

pub returns : goal.returns
returns c = others_is _ (search rules) (search rules)
