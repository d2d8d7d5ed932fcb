-- The lists that were read are tables to search by.
use Rattle.plan.proofs.Readings.{read_tables}
use Rattle.plan.proofs.lent_effects.Goals as goal

pub invariant_of-result : goal.invariant_of-result
invariant_of-result c =
    let read = c.read_effects.ensures in
    record { tables = read_tables c.args.file.now.bytes.now c.args.file.now.counts c.args.file.now.taken _ _ _ read.0 read.1 read.2 }

pub returns : goal.returns
returns c = c.read_effects.ensures
