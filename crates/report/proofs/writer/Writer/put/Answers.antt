-- The part that was lent has the text.
use mathlib.Core.Path.{refl, ap, ◌∙◌}
use Prim.Native.Nat.{◌+◌, ◌-◌}
use borrow.Rule.Slice.PartMut.{put_mid}
use lib.ListN.{length}
use Rattle.report.proofs.Texts.{put_part}
use Rattle.report.proofs.writer.Writer.put.Goals as goal

pub returns : goal.returns
returns c =
    let w = c.args.self.now in
    let xs = c.args.text.now in
    record {
      wrote = record {
        is = ap (put_mid w.end (w.end + length xs - w.end) w.out.now) c.copy_from_slice.ensures.after ∙ put_part w.end (length xs) w.out.now xs refl;
        ends = refl;
        fits = c.requires.room;
      };
      same = refl;
    }
