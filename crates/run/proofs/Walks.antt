-- Version 1: loops over the steps of a list, and over the actions whose words they go by.
-- Assumes nothing.
use Prim.Native.Nat.{ℕ, zero, suc, ◌+◌, ◌≤◌, ◌<◌}
use mathlib.Core.Path.{◌≡◌, refl, sym, ap, ap₂, subst, ◌∙◌}
use mathlib.Core.Bool.{Bool, true, false, So}
use mathlib.Core.Logic.{⊎_elim}
use mathlib.Core.List.{List}
use native.Mathlib.Nat.{zero-add}
use native.Mathlib.Numerals.{add-one}
use native.Mathlib.Omega.{arith}
use lib.Bits.{and_le_l}
use lib.ListN.{length, get_or, set}
use Rattle.rules.specs.Test.{fails, same, below, choose}
use Rattle.rules.specs.Word.{common}
use Rattle.rules.specs.Over.{keep}
use Rattle.rules.proofs.Tests.{choose_held, choose_failed, holds_or, test_eq, same_of, same_at, below_fails, below_not, is_fails}
use Rattle.rules.proofs.Overs.{below_suc}
use Rattle.words.proofs.Writes.{Lists, list_none, list_more}
use Rattle.graph.specs.Format.{plain, actions_of}
use Rattle.graph.specs.File.{Taken}
use Rattle.graph.specs.declared.format.Counts.{Counts}
use Rattle.run.specs.Course.{leaves_of, brings_of, further, tried_on, course_at, lack_at, still, still_at, Tables, Walks}
use Rattle.std.specs.Prelude.{Result, Ok}
use Rattle.run.specs.declared.step.Made.{Made}
use Rattle.run.specs.declared.step.Unmade.{Unmade}

-- ---- one step

-- what is left of a word is all of it exactly when it is not less
pub still_is : (w leave : ℕ) → still w (common w leave) ≡ keep (same (common w leave) w) 1
unfolding still
still_is w leave = ap (λ (b : Bool). keep b 1) (test_eq
    (λ t. let h : w ≤ common w leave = below_fails t in same_of (omega (arith, and_le_l w leave)))
    (λ t. is_fails (below_not (omega (arith, same_at t)))))

pub still_le : (w left : ℕ) → still w left ≤ 1
unfolding still keep choose
still_le w left = go (fails (below left w))
  where
    go : (b : Bool) → keep b 1 ≤ 1
    go true = omega arith
    go false = omega arith

pub stills_le : (leave bring list : List ℕ) (w i : ℕ) → still_at leave bring list w i ≤ i
unfolding still_at
stills_le leave bring list w zero = omega arith
stills_le leave bring list w (suc i) =
    let v = course_at leave bring list w i in
    omega (arith, stills_le leave bring list w i, still_le v (common v (get_or leave (get_or list i 0) 0)))

-- what a step that was tried on the word answers
module _ (w need leave bring : ℕ) where
  pub tried_made : {made : Made} → tried_on w need leave bring ≡ Ok made
      → (common w need ≡ 0) × (made.left ≡ common w leave) × (made.course ≡ further leave bring w)
  unfolding tried_on
  tried_made e = ⊎_elim
      (λ t. let k = sym (choose_held _ t) ∙ e in (same_at t, cc, cc))
      (λ f. let k = sym (choose_failed _ _ f) ∙ e in (cc, cc, cc))
      (holds_or (same (common w need) 0))

  -- it was not made
  pub tried_off : {r : Result Made Unmade} → r ≡ tried_on w need leave bring → ((made : Made) → r ≡ Ok made → ⊥) → common w need ≡ 0 → ⊥
  unfolding tried_on
  tried_off {r} e p z = p _ (e ∙ choose_held _ (same_of z))

-- ---- the loop: the last step made is not counted yet

pub record Walking (needs leave bring list : List ℕ) (w₀ w before left idle i : ℕ) : Type 0 where
  pub tables : Tables needs leave bring list
  pub inside : i ≤ length list
  pub course_is : w ≡ course_at leave bring list w₀ i
  pub idle_is : idle + still before left ≡ still_at leave bring list w₀ i
  pub ready : (k : ℕ) → k < i → lack_at needs leave bring list w₀ k ≡ 0

module _ {needs leave bring list : List ℕ} {w₀ : ℕ} where
  pub walk_none : Tables needs leave bring list → Walking needs leave bring list w₀ w₀ 1 0 0 0
  unfolding course_at still_at still keep fails below choose
  walk_none t = record { tables = t; inside = omega arith; course_is = refl; idle_is = refl; ready = λ k h. absurd (omega arith) }

  module _ {w before left idle i : ℕ} (g : Walking needs leave bring list w₀ w before left idle i) where
    pub idle_fits : idle + still before left ≤ length list
    idle_fits = omega (arith, g.idle_is, stills_le leave bring list w₀ i, g.inside)

    module _ (a : ℕ) (e : a ≡ get_or list i 0) where
      lack_here : common w (get_or needs a 0) ≡ lack_at needs leave bring list w₀ i
      unfolding lack_at
      lack_here = ap₂ (λ (x y : ℕ). common x (get_or needs y 0)) g.course_is e

      pub walk_more : {w' left' idle' : ℕ} → i < length list → common w (get_or needs a 0) ≡ 0 → left' ≡ common w (get_or leave a 0)
          → w' ≡ further (get_or leave a 0) (get_or bring a 0) w → idle' ≡ idle + still before left → Walking needs leave bring list w₀ w' w left' idle' (i + 1)
      unfolding course_at still_at
      walk_more {w'} {left'} {idle'} h free kept next counted = record {
        tables = g.tables;
        inside = omega arith;
        course_is = next ∙ ap₂ (λ (x y : ℕ). further (get_or leave y 0) (get_or bring y 0) x) g.course_is e
            ∙ ap (course_at leave bring list w₀) (sym (add-one i));
        idle_is = ap₂ (λ (x y : ℕ). x + still w y) (counted ∙ g.idle_is) kept
            ∙ ap₂ (λ (x y : ℕ). still_at leave bring list w₀ i + still x (common x (get_or leave y 0))) g.course_is e
            ∙ ap (still_at leave bring list w₀) (sym (add-one i));
        ready = λ k l. below_suc {P = λ j. lack_at needs leave bring list w₀ j ≡ 0} (sym lack_here ∙ free) g.ready (omega arith);
      }

      pub walk_off : {idle' : ℕ} → (common w (get_or needs a 0) ≡ 0 → ⊥) → idle' ≡ idle + still before left
          → Walks needs leave bring list w₀ (record { course = w; made = i; idle = idle' })
      walk_off {idle'} lacks counted = record {
        inside = g.inside;
        course_is = g.course_is;
        idle_is = counted ∙ g.idle_is;
        before = g.ready;
        at = λ h z. lacks (lack_here ∙ z);
      }

    pub walk_done : {idle' : ℕ} → length list ≤ i → idle' ≡ idle + still before left
        → Walks needs leave bring list w₀ (record { course = w; made = length list; idle = idle' })
    walk_done {idle'} h counted =
        let e : i ≡ length list = omega (arith, g.inside) in
        subst (λ (n : ℕ). Walks needs leave bring list w₀ (record { course = w; made = n; idle = idle' })) e (record {
          inside = g.inside;
          course_is = g.course_is;
          idle_is = counted ∙ g.idle_is;
          before = g.ready;
          at = λ l z. omega arith;
        })

-- ---- the words of the actions, so far

pub record Told (file : List ℕ) (c : Counts) (needs₀ leave₀ bring₀ needs leave bring : List ℕ) (i : ℕ) : Type 0 where
  pub taken : Taken file c
  pub own : c.effects ≡ c.actions
  pub all : length needs₀ ≡ c.actions
  pub need : Lists (actions_of file c).pre 0 c.actions needs₀ i needs
  pub left : Lists (leaves_of (actions_of file c)) 0 c.actions leave₀ i leave
  pub brought : Lists (brings_of (actions_of file c)) 0 c.actions bring₀ i bring

pub told_none : {file : List ℕ} {c : Counts} {needs leave bring : List ℕ} → Taken file c → So (plain c) → length needs ≡ c.actions
    → length leave ≡ c.actions → length bring ≡ c.actions → Told file c needs leave bring needs leave bring 0
told_none t v a b d = record {
  taken = t;
  own = t.ranged.own v;
  all = a;
  need = list_none (omega arith);
  left = list_none (omega arith);
  brought = list_none (omega arith);
}

pub told_more : {file : List ℕ} {c : Counts} {needs₀ leave₀ bring₀ needs leave bring : List ℕ} {i x y z : ℕ}
    → Told file c needs₀ leave₀ bring₀ needs leave bring i → i < c.actions → x ≡ (actions_of file c).pre i
    → y ≡ leaves_of (actions_of file c) i → z ≡ brings_of (actions_of file c) i
    → Told file c needs₀ leave₀ bring₀ (set needs i x) (set leave i y) (set bring i z) (i + 1)
told_more {i = i} t h x y z = record {
  taken = t.taken;
  own = t.own;
  all = t.all;
  need = list_more t.need h (sym (zero-add i)) x;
  left = list_more t.left h (sym (zero-add i)) y;
  brought = list_more t.brought h (sym (zero-add i)) z;
}
