-- The lamp of document 01: one table, computed by the checker from the definitions.
-- Assumes nothing.
use mathlib.Core.Path.{◌≡◌, refl}
use mathlib.Core.List.{List, [], ◌∷◌}
use Prim.Native.Nat.{ℕ}
use lib.ListN.{get_or}
use lib.Count.{ones}
use Rattle.rules.specs.Test.{◌and◌, ◌or◌, ◌implies◌, fails, same, below, choose}
use Rattle.rules.specs.Word.{bit, within, meets}
use Rattle.rules.specs.Over.{keep, join_over, meet_over, remove_over, all_below, any_below, count_below, sum_over, first_below}
use Rattle.rules.specs.Lists.{list_over, run_over}
use Rattle.rules.specs.Domain.{Actions, shape_of, condition, persistence, needs_of, adds_of, deletes_of, siblings, clobbers, interfere_of, domain}
use Rattle.rules.specs.Layer.{pairs, size, pair_at, row_of, layer_of, paired, label_in, mutex_in, stride, word_count, props_in, actions_in}
use Rattle.rules.specs.Shared.{start_label, start_layer, needs_label, needs_apart, vertex_label, needs_mutex, vertex_mutex, action_layer, next_label, one_adds}
use Rattle.rules.specs.Shared.{two_add, next_mutex, next_layer, prop_from, vertex_layer, graph_words}
use Rattle.rules.specs.Level.{goal_met, first_met, layer_rests, first_rest, Rest, rests_at, none, rest_of, Level, level, never, not_by_depth, level_by, level_of}
use Rattle.rules.specs.Share.{share_of, weight_of, total, enough, first_enough, share_level}
use Rattle.rules.specs.Extract.{rank, close_up, extract_of}
use Rattle.rules.specs.Run.{ready, fires, fired, after, stepped, Ran, lacks, run_from, run_of}
use Rattle.rules.specs.Plan.{takes, order, support, cover_from, cover, Planned, planned, stuck, no_level, ground, on_cover, descend, plan_at, plan_of}
use Rattle.rules.specs.Plan.{plan_count}

-- 'P=3: 0 at door, 1 at desk, 2 lit. Action 0 walk: needs 0, adds 1, deletes 0. Action 1 light: needs 1, adds 2.'
unfoldable pub lamp : Actions
lamp = record {
  props = 3;
  count = 2;
  pre = λ a. get_or (1 ∷ 2 ∷ []) a 0;
  effects = 2;
  owner = λ e. e;
  when = λ e. 0;
  add = λ e. get_or (2 ∷ 4 ∷ []) e 0;
  del = λ e. get_or (1 ∷ 0 ∷ []) e 0;
}

-- 'States: 0 at door, 1 at desk.'
unfoldable pub start : ℕ → ℕ
start s = get_or (1 ∷ 2 ∷ []) s 0

unfoldable pub built : ℕ → List ℕ
built = graph_words (domain lamp) 2 start

-- the count that goes with a plan
unfoldable pub count_in : Planned → ℕ
count_in (planned plan) = plan_count plan
count_in (stuck t) = 0
count_in no_level = 0

-- what the table tells
pub record Figures : Type 0 where
  pub words : ℕ
  pub layer_0 : List ℕ
  pub actions_0 : List ℕ
  pub layer_1 : List ℕ
  pub actions_1 : List ℕ
  pub layer_2 : List ℕ
  pub lit_both : Level
  pub lit_desk : Level
  pub door_lit_2 : Level
  pub door_lit_3 : Level
  pub lit_none : Level
  pub lit_half : Level
  pub lit_whole : Level
  pub rest_2 : Rest
  pub rest_3 : Rest
  pub plan : Planned
  pub count : ℕ
  pub desk_layer_2 : List ℕ
  pub walk : Ran

-- the figures, from the definitions
unfoldable pub computed : Figures
computed = record {
  words = word_count (shape_of (domain lamp)) 2;
  layer_0 = props_in (shape_of (domain lamp)) (built 2) 0;
  actions_0 = actions_in (shape_of (domain lamp)) (built 2) 0;
  layer_1 = props_in (shape_of (domain lamp)) (built 2) 1;
  actions_1 = actions_in (shape_of (domain lamp)) (built 2) 1;
  layer_2 = props_in (shape_of (domain lamp)) (built 2) 2;
  lit_both = level_of (shape_of (domain lamp)) 2 3 4 (built 2);
  lit_desk = level_of (shape_of (domain lamp)) 2 2 4 (built 2);
  door_lit_2 = level_of (shape_of (domain lamp)) 2 1 5 (built 2);
  door_lit_3 = level_of (shape_of (domain lamp)) 3 1 5 (built 3);
  lit_none = share_level (shape_of (domain lamp)) 2 (share_of (1 ∷ 1 ∷ []) 0 1) 4 (built 2);
  lit_half = share_level (shape_of (domain lamp)) 2 (share_of (1 ∷ 1 ∷ []) 1 2) 4 (built 2);
  lit_whole = share_level (shape_of (domain lamp)) 2 (share_of (1 ∷ 1 ∷ []) 1 1) 4 (built 2);
  rest_2 = rest_of (shape_of (domain lamp)) 2 (built 2);
  rest_3 = rest_of (shape_of (domain lamp)) 3 (built 3);
  plan = plan_of lamp 2 3 4 (built 2);
  count = count_in (plan_of lamp 2 3 4 (built 2));
  desk_layer_2 = props_in (shape_of (domain lamp)) (extract_of (shape_of (domain lamp)) 2 2 2 (built 2)) 2;
  walk = run_of lamp 2 start 3 (0 ∷ []);
}

-- the figures as the paper prints them, and the levels at shares of two equal weights
unfoldable pub table : Figures
table = record {
  words = 48;
  layer_0 = 1 ∷ 2 ∷ 0 ∷ 0 ∷ 0 ∷ 0 ∷ [];
  actions_0 = 1 ∷ 2 ∷ 1 ∷ 2 ∷ 0 ∷ 0 ∷ 1 ∷ 0 ∷ 0 ∷ 0 ∷ 0 ∷ 0 ∷ 0 ∷ 0 ∷ 0 ∷ [];
  layer_1 = 1 ∷ 3 ∷ 2 ∷ 1 ∷ 0 ∷ 0 ∷ [];
  actions_1 = 1 ∷ 3 ∷ 1 ∷ 3 ∷ 2 ∷ 1 ∷ 1 ∷ 1 ∷ 0 ∷ 1 ∷ 0 ∷ 0 ∷ 1 ∷ 0 ∷ 0 ∷ [];
  layer_2 = 1 ∷ 3 ∷ 3 ∷ 1 ∷ 1 ∷ 0 ∷ [];
  lit_both = level 2;
  lit_desk = level 1;
  door_lit_2 = not_by_depth;
  door_lit_3 = never;
  lit_none = level 0;
  lit_half = level 1;
  lit_whole = level 2;
  rest_2 = none;
  rest_3 = rests_at 2;
  plan = planned (3 ∷ 2 ∷ []);
  count = 3;
  desk_layer_2 = 0 ∷ 1 ∷ 1 ∷ 0 ∷ 0 ∷ 0 ∷ [];
  walk = lacks 0;
}

pub lamp_table : computed ≡ table
unfolding lamp start built computed table ◌and◌ ◌or◌ ◌implies◌ fails same below choose bit within meets keep join_over meet_over remove_over all_below
    any_below count_below first_below list_over run_over condition persistence needs_of adds_of deletes_of siblings clobbers interfere_of domain pairs size
    pair_at row_of layer_of paired label_in mutex_in stride word_count props_in actions_in start_label start_layer needs_label needs_apart vertex_label needs_mutex
    vertex_mutex action_layer next_label one_adds two_add next_mutex next_layer prop_from vertex_layer graph_words goal_met first_met layer_rests first_rest rest_of
    level_by level_of sum_over weight_of total enough first_enough share_level rank close_up extract_of ready fires fired after stepped run_from run_of takes order
    support cover_from cover ground on_cover descend plan_at plan_of plan_count count_in ones
lamp_table = refl
