-- `build_within` meets its contract: the file's causes, or what comes after them, with an array for the sure sets, cut to size.
use mathlib.Core.Path.{◌≡◌, sym, ap, ◌∙◌}
use mathlib.Core.List.{List}
use Prim.Native.Nat.{ℕ, ◌-◌}
use native.Mathlib.Omega.{arith}
use lib.ListN.{length, replicate, take}
use lib.Seq.{length-take-le}
use Rattle.rules.proofs.Layers.{length_list_over}
use Rattle.words.proofs.Writes.{put_whole}
use Rattle.graph.specs.Format.{start_of}
use Rattle.graph.specs.Build.{looks_for}
use Rattle.graph.specs.declared.format.Counts.{Counts}
use Rattle.graph.proofs.Ladder.{taken_linked}
use Rattle.graph.proofs.Verdicts.{stops, then_accepted}
use Rattle.build.proofs.Answers.{count_away, count_same}
use Rattle.within.specs.Rule.{set_of, within_taken, within_rule, count_within}
use Rattle.within.proofs.build_within.Goals as goal

pub returns-in_err-view : goal.returns-in_err-view
unfolding within_rule count_within
returns-in_err-view c = count_away _ _ _ _ _ c.from_residual.ensures.1 (stops _ _ _ c.in_err-view.ensures.rule)

pub build_sets-requires : goal.build_sets-requires
build_sets-requires c =
    let v = c.in_ok-view.view in
    let n : ℕ = v.counts.states in
    let long : length (take {A = ℕ} (n - 0) (replicate 64 0)) ≡ n - 0 =
    length-take-le {A = ℕ} (n - 0) (replicate 64 0) (omega (arith, v.taken.ranged.states)) in
    c.lay_starts.ensures ∙ put_whole _ _ (omega (arith, length_list_over n (start_of v.bytes.now v.counts), long))

pub returns : goal.returns
unfolding within_rule count_within
returns c =
    let a = c.args in
    let v = c.in_ok-view.view in
    let same = ap (λ b. b.now) c.in_ok-view.ensures.bytes in
    let taken = sym c.in_ok-view.ensures.rule in
    count_same _
    (ap (λ (x : List ℕ). looks_for x v.counts (set_of a.possible.now) a.depth) same
    ∙ ap (λ (x : Counts). looks_for a.file.now x (set_of a.possible.now) a.depth) (taken_linked _ _ taken).are)
    (ap (λ (x : List ℕ). within_taken x v.counts a.possible.now a.depth (length a.words.now)) same ∙ sym (then_accepted _ _ _ taken))
    c.build_sets.ensures
