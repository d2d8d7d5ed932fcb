-- What an accepted build leaves: memory that begins with the words of the file's graph, so that every law of `rules` about built words holds of it.
-- Assumes nothing.
use Prim.Native.Nat.{ℕ}
use mathlib.Core.Path.{◌≡◌, refl, sym, ap, subst, ◌∙◌}
use mathlib.Core.List.{List}
use lib.ListN.{length}
use Rattle.rules.specs.Domain.{shape_of, domain}
use Rattle.rules.specs.Layer.{word_count}
use Rattle.rules.proofs.Layouts.{Built, built_append, length_graph}
use Rattle.graph.specs.Verdict.{Verdict, accepted, laid}
use Rattle.graph.specs.Format.{actions_of, start_of, domain_of, shape_in}
use Rattle.graph.specs.File.{Taken, file_rule}
use Rattle.graph.specs.Checks.{Passed}
use Rattle.graph.specs.Build.{graph_for, graph_of, build_for, build_rule}
use Rattle.graph.specs.declared.format.Counts.{Counts}
use Rattle.graph.proofs.Verdicts.{passed_then, accepted_is}
use Rattle.graph.proofs.Ladder.{taken_means, graph_means}

-- the file's graph has the shape of its counts
pub shape_is : (file : List ℕ) (c : Counts) → shape_of (domain_of file c) ≡ shape_in c
unfolding domain actions_of
shape_is file c = refl

pub graph_long : (file : List ℕ) (c : Counts) (start : ℕ → ℕ) (depth : ℕ) → length (graph_for file c start depth) ≡ word_count (shape_in c) depth
unfolding domain actions_of
graph_long file c start depth = length_graph (domain_of file c) c.states start depth

-- a build that was accepted: the file's counts, what is known of them, and the words
pub record Accepted (file : List ℕ) (depth room : ℕ) (words : List ℕ) : Type 0 where
  pub counts : Counts
  pub file_rule_lem : file_rule file ≡ accepted counts
  pub taken : Taken file counts
  pub passed : Passed counts depth (accepted tt) room
  pub are : words ≡ graph_of file counts depth

pub build_means : (file : List ℕ) (depth room : ℕ) (words : List ℕ) → build_rule file depth room ≡ accepted words → Accepted file depth room words
unfolding build_rule build_for
build_means file depth room words e =
    let (c, f, e₁) = passed_then (file_rule file) _ words e in
    let (u, g, e₂) = passed_then _ _ words e₁ in
    record {
      counts = c;
      file_rule_lem = f;
      taken = taken_means file c f;
      passed = graph_means c depth _ room g;
      are = sym (accepted_is _ _ e₂);
    }

-- the memory after an accepted build is built, whatever lies behind the words
pub build_built : (file : List ℕ) (depth : ℕ) (memory words : List ℕ) (e : build_rule file depth (length memory) ≡ accepted words)
    → let a = build_means file depth (length memory) words e in
    Built (domain_of file a.counts) a.counts.states (start_of file a.counts) depth (laid (build_rule file depth (length memory)) memory)
unfolding laid
build_built file depth memory words e =
    let a = build_means file depth (length memory) words e in
    subst (Built (domain_of file a.counts) a.counts.states (start_of file a.counts) depth)
    (sym (ap (λ (v : Verdict (List ℕ)). laid v memory) (e ∙ ap accepted a.are))) (built_append _ _ _ _ _)
