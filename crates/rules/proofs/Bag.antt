-- A bag that is carried where it is at hand: one action with two effects, computed by the checker from the definitions.
-- Assumes nothing.
use mathlib.Core.Path.{◌≡◌, refl}
use mathlib.Core.List.{List, [], ◌∷◌}
use Prim.Native.Nat.{ℕ}
use lib.ListN.{get_or}
use Rattle.rules.specs.Test.{◌and◌, ◌or◌, ◌implies◌, fails, same, below, choose}
use Rattle.rules.specs.Word.{bit, within, meets}
use Rattle.rules.specs.Over.{keep, join_over, meet_over, remove_over, all_below, any_below, count_below, first_below}
use Rattle.rules.specs.Lists.{list_over, run_over}
use Rattle.rules.specs.Domain.{Actions, shape_of, condition, persistence, needs_of, adds_of, deletes_of, siblings, clobbers, interfere_of, domain}
use Rattle.rules.specs.Layer.{pairs, size, pair_at, row_of, layer_of, paired, label_in, mutex_in, stride, word_count, props_in, actions_in}
use Rattle.rules.specs.Shared.{start_label, start_layer, needs_label, needs_apart, vertex_label, needs_mutex, vertex_mutex, action_layer, next_label, one_adds}
use Rattle.rules.specs.Shared.{two_add, next_mutex, next_layer, prop_from, vertex_layer, graph_words}
use Rattle.rules.specs.Level.{goal_met, first_met, layer_rests, first_rest, Level, level, never, level_by, level_of}
use Rattle.rules.specs.Run.{ready, fires, fired, after, stepped, Ran, ended, run_from, run_of}
use Rattle.rules.specs.Plan.{takes, order, support, cover_from, cover, Planned, planned, ground, on_cover, descend, plan_at, plan_of}
use Rattle.rules.specs.Plan.{relaxed_step, relaxed_run}

-- 0 at the door, 1 at the desk, 2 bag at the door, 3 bag at the desk. One action, walk, needs 0. Its effect 0 adds 1 and deletes 0;
-- its effect 1, where 2 holds, adds 3 and deletes 2.
unfoldable pub bag : Actions
bag = record {
  props = 4;
  count = 1;
  pre = λ a. 1;
  effects = 2;
  owner = λ e. 0;
  when = λ e. get_or (0 ∷ 4 ∷ []) e 0;
  add = λ e. get_or (2 ∷ 8 ∷ []) e 0;
  del = λ e. get_or (1 ∷ 4 ∷ []) e 0;
}

-- state 0 at the door with the bag, state 1 without it
unfoldable pub start : ℕ → ℕ
start s = get_or (5 ∷ 1 ∷ []) s 0

unfoldable pub built : ℕ → List ℕ
built = graph_words (domain bag) 2 start

pub record Figures : Type 0 where
  pub words : ℕ
  pub actions_0 : List ℕ
  pub layer_1 : List ℕ
  pub both_there : Level
  pub bag_alone : Level
  pub bag_twice : Level
  pub no_bag : Level
  pub plan : Planned
  pub relaxed_0 : ℕ
  pub relaxed_1 : ℕ
  pub walk : Ran

unfoldable pub computed : Figures
computed = record {
  words = word_count (shape_of (domain bag)) 1;
  actions_0 = actions_in (shape_of (domain bag)) (built 1) 0;
  layer_1 = props_in (shape_of (domain bag)) (built 1) 1;
  both_there = level_of (shape_of (domain bag)) 1 1 10 (built 1);
  bag_alone = level_of (shape_of (domain bag)) 1 1 9 (built 1);
  bag_twice = level_of (shape_of (domain bag)) 3 1 12 (built 3);
  no_bag = level_of (shape_of (domain bag)) 3 2 8 (built 3);
  plan = plan_of bag 1 1 10 (built 1);
  relaxed_0 = relaxed_run bag (1 ∷ []) 5;
  relaxed_1 = relaxed_run bag (1 ∷ []) 1;
  walk = run_of bag 2 start 3 (0 ∷ []);
}

-- Both effects stand for state 0, the first for state 1 too, and the two are not mutex though the first deletes what the second needs: walker and bag
-- come to the desk in one step. The bag is never in both places, and never comes from nowhere. That it cannot come alone, the graph does not know:
-- it takes effects one by one, so {0, 3} has level 1, a bound that no list meets. The word of the plan is the action, not its two effects.
unfoldable pub table : Figures
table = record {
  words = 41;
  actions_0 = 3 ∷ 1 ∷ 3 ∷ 0 ∷ 1 ∷ 0 ∷ 0 ∷ 3 ∷ 0 ∷ 0 ∷ 0 ∷ 0 ∷ 0 ∷ 1 ∷ 0 ∷ 0 ∷ 0 ∷ 0 ∷ 0 ∷ 0 ∷ 0 ∷ [];
  layer_1 = 3 ∷ 3 ∷ 1 ∷ 1 ∷ 3 ∷ 0 ∷ 0 ∷ 0 ∷ 0 ∷ 1 ∷ [];
  both_there = level 1;
  bag_alone = level 1;
  bag_twice = never;
  no_bag = never;
  plan = planned (1 ∷ []);
  relaxed_0 = 15;
  relaxed_1 = 3;
  walk = ended (10 ∷ 2 ∷ []);
}

pub bag_table : computed ≡ table
unfolding bag start built computed table ◌and◌ ◌or◌ ◌implies◌ fails same below choose bit within meets keep join_over meet_over remove_over all_below
    any_below count_below first_below list_over run_over condition persistence needs_of adds_of deletes_of siblings clobbers interfere_of domain pairs size pair_at
    row_of layer_of paired label_in mutex_in stride word_count props_in actions_in start_label start_layer needs_label needs_apart vertex_label needs_mutex
    vertex_mutex action_layer next_label one_adds two_add next_mutex next_layer prop_from vertex_layer graph_words goal_met first_met layer_rests first_rest level_by level_of
    ready fires fired after stepped run_from run_of takes order support cover_from cover ground on_cover descend plan_at plan_of relaxed_step relaxed_run
bag_table = refl
