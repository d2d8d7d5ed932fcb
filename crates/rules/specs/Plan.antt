-- Relaxed plan, over the words as found.
use Rattle.std.specs.Prelude.{ℕ, zero, suc, ◌+◌, List, [], ◌∷◌}
use Rattle.std.specs.Int.Count.{ones}
use Rattle.rules.specs.Test.{◌and◌, fails, same, below, choose}
use Rattle.rules.specs.Word.{bit, common, union, without, single, within}
use Rattle.rules.specs.Over.{keep, join_over, all_below}
use Rattle.rules.specs.Lists.{list_over}
use Rattle.rules.specs.Domain.{Actions, shape_of, condition, persistence, needs_of, adds_of, domain}
use Rattle.rules.specs.Layer.{label_in, props_in, actions_in}
use Rattle.rules.specs.Level.{Level, level, never, not_by_depth, level_of}

-- The search for support of one layer: the states still uncovered, the actions marked, and for what states each proposition is needed one layer down.
pub record Support : Type 0 where
  pub left : ℕ
  pub marks : ℕ
  pub needed : List ℕ

-- 'each take the still uncovered states in their label; one that takes at least one is marked, one that takes none is not':
-- request Three, 'A plan marks an action when one of its effects is chosen'.
-- 'What a vertex takes is needed of each of its needs at layer t-1.'
unfoldable pub takes : Actions → List ℕ → ℕ → Support → Support
takes A labels v s =
    let took = common s.left (label_in labels v) in
    record {
      left = without s.left took;
      marks = choose (below v A.effects and fails (same took 0)) (union s.marks (single (A.owner v))) s.marks;
      needed = list_over A.props (λ q. union (label_in s.needed q) (keep (bit q (needs_of A v)) took));
    }

-- 'persistence first', then the effects 'in rising number'
unfoldable pub order : Actions → ℕ → List ℕ
order A p = persistence A p ∷ list_over A.effects (λ e. e)

-- the vertices of the list that add p, one after the other: 'The search for support ends at the first vertex that leaves no state uncovered.'
unfoldable pub support : Actions → List ℕ → ℕ → List ℕ → Support → Support
support A labels p [] s = s
support A labels p (v ∷ vs) s =
    choose (same s.left 0) s (support A labels p vs (choose (bit p (adds_of A v)) (takes A labels v s) s))

-- one layer: the actions marked and what is needed one layer down, or states left uncovered
pub data Covered : Type 0 where
  covered : ℕ → List ℕ → Covered
  uncovered : Covered

-- 'propositions rise': from p on, of which n are left; `wanted` is what is needed at the layer itself
unfoldable pub cover_from : Actions → List ℕ → List ℕ → ℕ → ℕ → ℕ → List ℕ → Covered
cover_from A labels wanted zero p marks needed = covered marks needed
cover_from A labels wanted (suc n) p marks needed =
    let s = support A labels p (order A p) (record { left = label_in wanted p; marks = marks; needed = needed }) in
    choose (same s.left 0) (cover_from A labels wanted n (suc p) s.marks s.needed) uncovered

unfoldable pub cover : Actions → List ℕ → List ℕ → Covered
cover A labels wanted = cover_from A labels wanted A.props 0 0 (list_over A.props (λ q. 0))

-- the words of a plan, the layer of cause 14, or no level (cause 13)
pub data Planned : Type 0 where
  planned : List ℕ → Planned
  stuck : ℕ → Planned
  no_level : Planned

-- 'at layer 0 a need outside its label'
unfoldable pub ground : Actions → List ℕ → List ℕ → List ℕ → Planned
ground A words wanted plan =
    choose (all_below A.props (λ p. within (label_in wanted p) (label_in (props_in (shape_of (domain A)) words 0) p))) (planned plan) (stuck 0)

unfoldable pub on_cover : Covered → (ℕ → List ℕ → Planned) → Planned → Planned
on_cover (covered marks needed) go fail = go marks needed
on_cover uncovered go fail = fail

-- 'Layers fall from the level to 1': from layer t down, with the words of the plan from t on
unfoldable pub descend : Actions → List ℕ → ℕ → List ℕ → List ℕ → Planned
descend A words zero wanted plan = ground A words wanted plan
descend A words (suc t) wanted plan =
    on_cover (cover A (actions_in (shape_of (domain A)) words t) wanted) (λ marks needed. descend A words t needed (marks ∷ plan)) (stuck (suc t))

-- 'At the level, each goal is needed for S.'
unfoldable pub plan_at : Actions → ℕ → ℕ → List ℕ → Level → Planned
plan_at A set goal words (level t) = descend A words t (list_over A.props (λ p. keep (bit p goal) set)) []
plan_at A set goal words never = no_level
plan_at A set goal words not_by_depth = no_level

unfoldable pub plan_of : Actions → ℕ → ℕ → ℕ → List ℕ → Planned
plan_of A k set goal words = plan_at A set goal words (level_of (shape_of (domain A)) k set goal words)

-- 'The count is the number of marked bits over all words'
unfoldable pub plan_count : List ℕ → ℕ
plan_count [] = 0
plan_count (w ∷ plan) = ones w + plan_count plan

-- request Three: a word 'joins the adds of every effect of a marked action whose needs held before it'
unfoldable pub relaxed_step : Actions → ℕ → ℕ → ℕ
relaxed_step A w x = union x (join_over A.effects (λ e. keep (bit (A.owner e) w and within (condition A e) x) (A.add e)))

-- 'from each state of S by itself, word by word from word 0'
unfoldable pub relaxed_run : Actions → List ℕ → ℕ → ℕ
relaxed_run A [] x = x
relaxed_run A (w ∷ plan) x = relaxed_run A plan (relaxed_step A w x)
