-- The search, and its memory copied over what was needed.
use mathlib.Core.Path.{sym, ap, ◌∙◌}
use lib.ListN.{length}
use Rattle.rules.proofs.Layers.{length_list_over}
use Rattle.plan.proofs.layer.down.Goals as goal

pub copy_from_slice-requires : goal.copy_from_slice-requires
copy_from_slice-requires c = c.requires.0.wide
    ∙ sym (c.support-answer.auto.under ∙ ap length c.requires.1 ∙ length_list_over _ _)
