-- Version 1: a run, step by step, and what it comes to.
-- Assumes nothing.
use Prim.Native.Nat.{ℕ, zero, suc, ◌+◌, ◌^◌, ◌≤◌, ◌<◌}
use mathlib.Core.Path.{◌≡◌, refl, sym, ap, ap₂, subst, ◌∙◌}
use mathlib.Core.Bool.{Bool, So}
use mathlib.Core.List.{List}
use native.Mathlib.Nat.{add_assoc, add-zero}
use native.Mathlib.Numerals.{add-one}
use native.Mathlib.Omega.{arith}
use lib.ListN.{length, get_or, drop}
use Rattle.rules.specs.Test.{same, choose}
use Rattle.rules.specs.Word.{common}
use Rattle.rules.specs.Over.{keep}
use Rattle.rules.specs.Lists.{list_over}
use Rattle.rules.specs.Domain.{Actions, Plain}
use Rattle.rules.specs.Run.{ready, idle, stepped, ended, lacks, run_from, run_of, idle_from, idle_of}
use Rattle.rules.proofs.Tests.{same_of, same_at, choose_held, choose_failed, fails_of}
use Rattle.rules.proofs.Layers.{length_list_over, get_d_list_over}
use Rattle.words.specs.Width.{prop_width}
use Rattle.graph.specs.Format.{plain, actions_of, start_of}
use Rattle.graph.specs.declared.format.Counts.{Counts}
use Rattle.graph.proofs.Places.{actions_plain}
use Rattle.run.specs.Course.{Known, Some, Checked, course, leaves_of, brings_of, further, course_at, lack_at, still, still_at, Tables, Walks, sets_of}
use Rattle.run.specs.declared.step.Walked.{Walked}
use Rattle.run.proofs.Runs.{Narrow, narrow_of, run_turn, run_end, idle_turn, idle_end}
use Rattle.run.proofs.Courses.{Sets, course_eq, ready_is, idle_is, course_step, sets_new, sets_narrow, sets_further}
use Rattle.run.proofs.Walks.{still_is}

-- ---- at step i, what is left of the run is a run of the rest of the list from what the steps so far have made of the states

pub record Going (A : Actions) (n : ℕ) (start : ℕ → ℕ) (set : ℕ) (list : List ℕ) (i w idle : ℕ) : Type 0 where
  pub course_is : w ≡ course n set (λ s. get_or (sets_of n start set w) s 0)
  pub is : run_of A n start set list ≡ run_from A n set i (sets_of n start set w) (drop i list)
  pub idle_is : idle_of A n start set list ≡ idle + idle_from A n set (sets_of n start set w) (drop i list)

-- the words of plain actions are those of sets
sets_of_lem : {A : Actions} {n : ℕ} {start : ℕ → ℕ} → Narrow A n start → Plain A → Sets A
sets_of_lem narrow plain = record {
  pre = narrow.pre;
  add = λ a h. narrow.add a (subst (λ (m : ℕ). a < m) (sym plain.effects) h);
  del = λ a h. narrow.del a (subst (λ (m : ℕ). a < m) (sym plain.effects) h);
}

module _ {A : Actions} {n : ℕ} {start : ℕ → ℕ} {set : ℕ} {list : List ℕ} (narrow : Narrow A n start) where
  pub go_none : {w : ℕ} → w ≡ course n set start → Going A n start set list 0 w 0
  unfolding run_of idle_of
  go_none {w} e = record {
    course_is = e ∙ course_eq n set (λ s h. sym (ap (λ (xs : List ℕ). get_or xs s 0) (sym begin) ∙ get_d_list_over start h));
    is = ap (λ (xs : List ℕ). run_from A n set 0 xs list) begin;
    idle_is = ap (λ (xs : List ℕ). idle_from A n set xs list) begin ∙ omega arith;
  }
    where
      begin : list_over n start ≡ sets_of n start set w
      begin = sets_new n start set narrow.starts ∙ ap (sets_of n start set) (sym e)

  module _ (plain : Plain A) (some : Some n set) where
    module _ {i w k : ℕ} (g : Going A n start set list i w k) (a : ℕ) (h : i < length list) (e : a ≡ get_or list i 0) (l : a < A.count) where
      abbrev xs : List ℕ
      xs = sets_of n start set w

      small : (s : ℕ) → s < n → get_or xs s 0 < 2 ^ prop_width
      small = sets_narrow n start set narrow.starts w

      asked : ready A n set a xs ≡ same (common w (A.pre a)) 0
      asked = ready_is plain (sets_of_lem narrow plain) narrow.few some a l xs small ∙ ap (λ (x : ℕ). same (common x (A.pre a)) 0) (sym g.course_is)

      told : keep (idle A n set a xs) 1 ≡ still w (common w (leaves_of A a))
      told =
          ap (λ (b : Bool). keep b 1) (idle_is plain (sets_of_lem narrow plain) narrow.few some a l xs small
          ∙ ap (λ (x : ℕ). same (common x (leaves_of A a)) x) (sym g.course_is))
          ∙ sym (still_is w (leaves_of A a))

      turn : run_of A n start set list ≡ choose (ready A n set a xs) (run_from A n set (suc i) (stepped A n set a xs) (drop (suc i) list)) (lacks i)
      turn = g.is ∙ run_turn A n set xs list a h e

      next : stepped A n set a xs ≡ sets_of n start set (further (leaves_of A a) (brings_of A a) w)
      next = sets_further n start set narrow.starts plain (sets_of_lem narrow plain) a w l

      pub go_more : common w (A.pre a) ≡ 0
          → Going A n start set list (i + 1) (further (leaves_of A a) (brings_of A a) w) (k + still w (common w (leaves_of A a)))
      go_more z = record {
        course_is = ap (further (leaves_of A a) (brings_of A a)) g.course_is
            ∙ sym (course_step plain (sets_of_lem narrow plain) narrow.few some a l xs small (λ s m.
            subst (λ (ys : List ℕ). get_or ys s 0 < 2 ^ prop_width) (sym next)
            (sets_narrow n start set narrow.starts (further (leaves_of A a) (brings_of A a) w) s m)))
            ∙ ap (λ (ys : List ℕ). course n set (λ s. get_or ys s 0)) next;
        is = turn ∙ choose_held _ (asked ∙ same_of z)
            ∙ ap₂ (λ (j : ℕ) (ys : List ℕ). run_from A n set j ys (drop j list)) (sym (add-one i)) next;
        idle_is = g.idle_is ∙ ap (λ (x : ℕ). k + x) (idle_turn A n set xs list a h e)
            ∙ sym (add_assoc k (keep (idle A n set a xs) 1) _)
            ∙ ap₂ (λ (x : ℕ) (ys : List ℕ). k + x + idle_from A n set ys (drop (suc i) list)) told next
            ∙ ap (λ (j : ℕ). k + still w (common w (leaves_of A a))
            + idle_from A n set (sets_of n start set (further (leaves_of A a) (brings_of A a) w)) (drop j list))
            (sym (add-one i));
      }

      pub go_off : (common w (A.pre a) ≡ 0 → ⊥) → lacks i ≡ run_of A n start set list
      go_off f = sym (turn ∙ choose_failed _ _ (fails_of (λ t. f (same_at (sym asked ∙ t)))))

  module _ {i w k : ℕ} (g : Going A n start set list i w k) (h : length list ≤ i) where
    pub go_done : ended (sets_of n start set w) ≡ run_of A n start set list
    go_done = sym (g.is ∙ run_end A n set (sets_of n start set w) list h)

    pub go_idle : k ≡ idle_of A n start set list
    go_idle = sym (g.idle_is ∙ ap (λ (x : ℕ). k + x) (idle_end A n set (sets_of n start set w) list h) ∙ add-zero k)

-- ---- the list, by the words of the actions

pub record Words (A : Actions) (needs leave bring : List ℕ) : Type 0 where
  pub needed : needs ≡ list_over A.count A.pre
  pub left : leave ≡ list_over A.count (leaves_of A)
  pub brought : bring ≡ list_over A.count (brings_of A)

word_at : (m : ℕ) (f : ℕ → ℕ) (l : List ℕ) (a : ℕ) → l ≡ list_over m f → a < m → get_or l a 0 ≡ f a
word_at m f l a e h = ap (λ (x : List ℕ). get_or x a 0) e ∙ get_d_list_over f h

module _ {A : Actions} {n : ℕ} {start : ℕ → ℕ} {set : ℕ} {list : List ℕ} (narrow : Narrow A n start) (plain : Plain A) (some : Some n set)
    (known : Known A.count list) {needs leave bring : List ℕ} (words : Words A needs leave bring) {w : ℕ} (begins : w ≡ course n set start) where
  -- the steps before m had their preconditions
  go_steps : (m : ℕ) → m ≤ length list → ((k : ℕ) → k < m → lack_at needs leave bring list w k ≡ 0)
      → Going A n start set list m (course_at leave bring list w m) (still_at leave bring list w m)
  unfolding course_at still_at lack_at
  go_steps zero h full = go_none narrow begins
  go_steps (suc m) h full =
      let a = get_or list m 0 in
      let v = course_at leave bring list w m in
      let l = known m h in
      let need : get_or needs a 0 ≡ A.pre a = word_at A.count A.pre needs a words.needed l in
      let left : leaves_of A a ≡ get_or leave a 0 = sym (word_at A.count (leaves_of A) leave a words.left l) in
      let brought : brings_of A a ≡ get_or bring a 0 = sym (word_at A.count (brings_of A) bring a words.brought l) in
      let r = go_more narrow plain some (go_steps m (omega arith) (λ k i. full k (omega arith))) a h refl l
      (ap (common v) (sym need) ∙ full m (omega arith)) in
      subst (λ (x : ℕ). Going A n start set list (suc m) (further x (get_or bring a 0) v) (still_at leave bring list w m + still v (common v x))) left
      (subst (λ (x : ℕ). Going A n start set list (suc m) (further (leaves_of A a) x v)
      (still_at leave bring list w m + still v (common v (leaves_of A a)))) brought
      (subst (λ (j : ℕ). Going A n start set list j (further (leaves_of A a) (brings_of A a) v)
      (still_at leave bring list w m + still v (common v (leaves_of A a)))) (add-one m) r))

  module _ {r : Walked} (walks : Walks needs leave bring list w r) where
    gone : Going A n start set list r.made r.course r.idle
    gone =
        subst (λ (x : ℕ). Going A n start set list r.made x r.idle) (sym walks.course_is)
        (subst (λ (x : ℕ). Going A n start set list r.made (course_at leave bring list w r.made) x) (sym walks.idle_is)
        (go_steps r.made walks.inside walks.before))

    pub walk_ends : length list ≤ r.made → ended (sets_of n start set r.course) ≡ run_of A n start set list
    walk_ends h = go_done narrow gone h

    pub walk_counts : length list ≤ r.made → r.idle ≡ idle_of A n start set list
    walk_counts h = go_idle narrow gone h

    pub walk_lacks : r.made < length list → lacks r.made ≡ run_of A n start set list
    unfolding lack_at
    walk_lacks h =
        let a = get_or list r.made 0 in
        let l = known r.made h in
        let need : get_or needs a 0 ≡ A.pre a = word_at A.count A.pre needs a words.needed l in
        go_off narrow plain some gone a h refl l (λ z. walks.at h (ap₂ common (sym walks.course_is) need ∙ z))

-- the lists serve the list of steps
pub tables_of : {A : Actions} {needs leave bring list : List ℕ} → Words A needs leave bring → Known A.count list → Tables needs leave bring list
tables_of {A} {needs} {leave} {bring} {list} w k =
    let n : length needs ≡ A.count = ap length w.needed ∙ length_list_over A.count _ in
    record {
      known = λ i h. subst (λ (m : ℕ). get_or list i 0 < m) (sym n) (k i h);
      as_leave = ap length w.left ∙ length_list_over A.count _ ∙ sym n;
      as_bring = ap length w.brought ∙ length_list_over A.count _ ∙ sym n;
    }

-- ---- the run of a file

module _ {file : List ℕ} {c : Counts} {set : ℕ} {list out needs leave bring : List ℕ} {w : ℕ} {r : Walked} (checked : Checked file c set list out)
    (plainly : So (plain c)) (words : Words (actions_of file c) needs leave bring) (begins : w ≡ course c.states set (start_of file c))
    (walks : Walks needs leave bring list w r) where
  known : Known (actions_of file c).count list
  unfolding actions_of
  known = checked.known

  as_plain : Plain (actions_of file c)
  as_plain = actions_plain c plainly file (checked.taken.ranged.own plainly)

  pub run_ends : length list ≤ r.made
      → ended (sets_of c.states (start_of file c) set r.course) ≡ run_of (actions_of file c) c.states (start_of file c) set list
  run_ends h = walk_ends (narrow_of file c checked.taken) as_plain checked.some known words begins walks h

  pub run_counts : length list ≤ r.made → r.idle ≡ idle_of (actions_of file c) c.states (start_of file c) set list
  run_counts h = walk_counts (narrow_of file c checked.taken) as_plain checked.some known words begins walks h

  pub run_lacks : r.made < length list → lacks r.made ≡ run_of (actions_of file c) c.states (start_of file c) set list
  run_lacks h = walk_lacks (narrow_of file c checked.taken) as_plain checked.some known words begins walks h
