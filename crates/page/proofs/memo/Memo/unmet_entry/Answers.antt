-- The entry is remembered.
use mathlib.Core.Path.{refl}
use Rattle.page.proofs.memo.Memo.unmet_entry.Goals as goal

pub returns : goal.returns
returns c = (c.without_level-entry.ensures, refl, refl)
