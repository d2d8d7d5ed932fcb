-- The digit of v is one where v is there.
use Rattle.words.specs.Rows.{row_length}
use Rattle.scans.proofs.Sets.{others_count}
use Rattle.scans.proofs.others_than.Goals as goal

pub returns : goal.returns
returns c = others_count row_length c.args.upper c.args.size c.args.v c.requires.1 c.requires.2
