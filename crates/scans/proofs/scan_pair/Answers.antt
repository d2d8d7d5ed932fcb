-- The effects that add both, then the rows, then the last row; nothing is left of what an effect has that adds both.
use mathlib.Core.Path.{sym, ap, ◌∙◌}
use native.Mathlib.Omega.{arith}
use Rattle.rules.specs.Scan.{scan_at}
use Rattle.rules.proofs.Words.{common_lt}
use Rattle.words.specs.Rows.{row_length}
use Rattle.scans.specs.Pairs.{with_last}
use Rattle.scans.proofs.Looks.{last_le}
use Rattle.scans.proofs.Wholes.{ones_parted, parts_are}
use Rattle.scans.proofs.scan_pair.Goals as goal

pub look_at-ones-requires : goal.look_at-ones-requires
look_at-ones-requires c =
    (common_lt row_length c.args.upper c.requires.2, λ i l. omega arith, omega arith)

pub returns : goal.returns
returns c =
    let a = c.args in (
      λ b own. c.with_last.ensures ∙ sym (ap with_last (parts_are a.tables.now.live a.tables.now.mates a.tables.now.r a.lower a.upper a.p a.q a.both
          c.look_at-ones.ensures.0
          (c.look_rows-rows.ensures.0 a.tables.now.r b
          (ones_parted a.tables.now.live a.tables.now.mates a.lower a.upper a.both c.requires.2 own c.look_at-ones.ensures.0))
          c.look_at-last.ensures.0)),
      omega (
        arith,
        c.with_last.ensures,
        last_le (scan_at c.look_at-last.result.left c.look_at-last.result.looked),
        c.look_at-last.ensures.1,
        c.look_rows-rows.ensures.1,
      ),
    )
