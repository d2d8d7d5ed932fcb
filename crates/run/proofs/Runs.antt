-- What the runs of both versions go by: the words of a file are those of sets, and a run, step by step.
-- Assumes nothing.
use Prim.Native.Nat.{ℕ, suc, ◌+◌, ◌^◌, ◌≤◌, ◌<◌}
use mathlib.Core.Path.{◌≡◌, sym, ap, ◌∙◌}
use mathlib.Core.List.{List}
use native.Mathlib.Nat.{lt_of_lt_of_le}
use lib.ListN.{length, get_or, drop, drop_of_length-le}
use lib.Pow.{pow_mono}
use lib.Seq.{drop-cons}
use Rattle.rules.specs.Test.{choose}
use Rattle.rules.specs.Domain.{Actions}
use Rattle.rules.specs.Over.{keep}
use Rattle.rules.specs.Run.{ready, stepped, ended, lacks, run_from, idle, idle_from}
use Rattle.words.specs.Width.{prop_width, state_width}
use Rattle.graph.specs.Limits.{max_effects}
use Rattle.graph.specs.Format.{actions_of, start_of}
use Rattle.graph.specs.File.{Taken}
use Rattle.graph.specs.declared.format.Counts.{Counts}

-- the words of the actions, of their effects and of the start states are those of sets
pub record Narrow (A : Actions) (n : ℕ) (start : ℕ → ℕ) : Type 0 where
  pub few : n ≤ state_width
  pub effects : A.effects ≤ max_effects
  pub starts : (s : ℕ) → s < n → start s < 2 ^ prop_width
  pub pre : (a : ℕ) → a < A.count → A.pre a < 2 ^ prop_width
  pub when : (e : ℕ) → e < A.effects → A.when e < 2 ^ prop_width
  pub add : (e : ℕ) → e < A.effects → A.add e < 2 ^ prop_width
  pub del : (e : ℕ) → e < A.effects → A.del e < 2 ^ prop_width

pub narrow_of : (file : List ℕ) (c : Counts) → Taken file c → Narrow (actions_of file c) c.states (start_of file c)
unfolding actions_of
narrow_of file c t = record {
  few = t.ranged.states;
  effects = t.ranged.effects;
  starts = λ s h. wide (t.start s h);
  pre = λ a h. wide (t.sound.pre a h);
  when = λ e h. wide (t.sound.when e h);
  add = λ e h. wide (t.add e h);
  del = λ e h. wide (t.del e h);
}
  where
    wide : {x : ℕ} → x < 2 ^ c.props → x < 2 ^ prop_width
    wide h = lt_of_lt_of_le h (pow_mono t.ranged.props)

-- ---- at step i of the list, with the sets xs

module _ (A : Actions) (n set : ℕ) {i : ℕ} (xs list : List ℕ) where
  pub run_turn : (a : ℕ) → i < length list → a ≡ get_or list i 0 → run_from A n set i xs (drop i list)
      ≡ choose (ready A n set a xs) (run_from A n set (suc i) (stepped A n set a xs) (drop (suc i) list)) (lacks i)
  unfolding run_from
  run_turn a h e =
      ap (λ (l : List ℕ). run_from A n set i xs l) (drop-cons list i 0 h)
      ∙ ap (λ (b : ℕ). choose (ready A n set b xs) (run_from A n set (suc i) (stepped A n set b xs) (drop (suc i) list)) (lacks i)) (sym e)

  pub run_end : length list ≤ i → run_from A n set i xs (drop i list) ≡ ended xs
  unfolding run_from
  run_end h = ap (λ (l : List ℕ). run_from A n set i xs l) (drop_of_length-le list h)

  -- and the idle steps among them
  pub idle_turn : (a : ℕ) → i < length list → a ≡ get_or list i 0 → idle_from A n set xs (drop i list)
      ≡ keep (idle A n set a xs) 1 + idle_from A n set (stepped A n set a xs) (drop (suc i) list)
  unfolding idle_from
  idle_turn a h e =
      ap (idle_from A n set xs) (drop-cons list i 0 h)
      ∙ ap (λ (b : ℕ). keep (idle A n set b xs) 1 + idle_from A n set (stepped A n set b xs) (drop (suc i) list)) (sym e)

  pub idle_end : length list ≤ i → idle_from A n set xs (drop i list) ≡ 0
  unfolding idle_from
  idle_end h = ap (idle_from A n set xs) (drop_of_length-le list h)
