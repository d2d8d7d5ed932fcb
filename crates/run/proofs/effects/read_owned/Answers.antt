use mathlib.Core.Path.{◌≡◌, ap, ◌∙◌}
use mathlib.Core.List.{List}
use Prim.Native.Nat.{ℕ, ◌<◌}
use native.Mathlib.Omega.{arith}
use lib.ListN.{length, length-set}
use Rattle.rules.specs.Word.{single}
use Rattle.rules.specs.Lists.{list_over}
use Rattle.rules.specs.Shared.{start_label}
use Rattle.rules.proofs.Layers.{length_list_over}
use Rattle.words.specs.Rows.{row_length}
use Rattle.words.proofs.Spreads.{columns_none, columns_more}
use Rattle.graph.specs.Format.{actions_of}
use Rattle.run.proofs.Touches.{owned_one, owned_all}
use Rattle.run.proofs.effects.read_owned.Goals as goal
use Rattle.run.proofs.effects.read_owned.Goals.{After-owner-a}

-- the row has a word for the owner
owner_in : (c : After-owner-a) → c.owner-a.result < length c.loop-e.owned
owner_in c =
    omega (arith, c.owner-a.ensures.1, c.args.file.now.taken.ranged.actions, c.loop-e.invariant.1)

pub loop-e-init : goal.loop-e-init
unfolding list_over
loop-e-init c =
    (omega arith, ap (λ (l : List ℕ). length l) c.requires ∙ length_list_over row_length (λ a. 0), columns_none row_length (λ e. single ((actions_of c.args.file.now.bytes.now c.args.file.now.counts).owner e)) _ c.requires)

pub loop-e-preserved : goal.loop-e-preserved
loop-e-preserved c =
    let a = c.owner-a in
    let l = c.loop-e in (
      omega arith,
      length-set l.owned a.result _ ∙ l.invariant.1,
      columns_more _ l.e _ l.owned _ _ _ l.invariant.2 (ap (λ (x : ℕ). single x) a.ensures.0) c.single.ensures
          (owned_one l.owned a.result c.single.result (owner_in (goal.at.loop-e-preserved c).After-owner-a)),
    )

pub returns : goal.returns
unfolding actions_of
returns c =
    let l = c.loop-e in
    let a = c.args in
    let A = actions_of a.file.now.bytes.now a.file.now.counts in
    let k : l.e ≡ a.file.now.counts.effects = omega (arith, l.invariant.0) in
    l.invariant.2 ∙ ap (λ (x : ℕ). list_over row_length (start_label x (λ e. single (A.owner e)))) k ∙ owned_all A
