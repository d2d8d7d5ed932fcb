-- Equal actions: when the rule turns a file away for them, that files with the same actions have the same verdict, and how they are found by their marks.
-- Assumes nothing.
use mathlib.Core.Path.{◌≡◌, refl, sym, ap, ap₂, subst, ◌∙◌}
use mathlib.Core.Bool.{Bool, So, true, false, false≢true}
use mathlib.Core.Logic.{⊎_elim, by_cases}
use mathlib.Core.List.{List}
use Prim.Native.Nat.{ℕ, suc, ◌+◌, ◌-◌, ◌*◌, ◌≤◌, ◌<◌}
use borrow.Author.Count.{below_more}
use native.Mathlib.Decide.{dec_le}
use native.Mathlib.Omega.{arith}
use lib.ListN.{get_or, set, replicate, length-set, get_or-replicate}
use lib.Seq.{get_or-set_same, get_or-set_other}
use Rattle.rules.specs.Test.{◌and◌, fails, same, below, choose}
use Rattle.rules.specs.Over.{first_below}
use Rattle.rules.specs.Domain.{Actions, SameActions}
use Rattle.rules.proofs.Tests.{choose_failed, fails_of, fails_at, is_fails, holds_or, test_eq, and_left, and_right}
use Rattle.rules.proofs.Tests.{same_of, same_not, same_at, below_of, below_not}
use Rattle.rules.proofs.Overs.{any_of, any_at, any_eq}
use Rattle.rules.proofs.Firsts.{first_eq, first_unique}
use Rattle.graph.specs.Limits.{max_actions}
use Rattle.graph.specs.Verdict.{Verdict, accepted, refused, and_then}
use Rattle.graph.specs.Format.{long_head, set_bytes, plain_version, plain, action_at, pre_at, actions_of}
use Rattle.graph.specs.File.{Ranged, owners_rule, actions_rule, equal_actions, equals_earlier, first_equal, equal_rule}
use Rattle.graph.specs.Marks.{marks, spread, mark_of, Last, Chained, Marked, After}
use Rattle.graph.specs.declared.format.Counts.{Counts}
use Rattle.graph.proofs.Verdicts.{then_accepted}
use Rattle.graph.proofs.Places.{pre_plain}

-- ---- the rule, given the first action that equals an earlier one

module _ (file : List ℕ) (c : Counts) where
  module _ (v : So (plain c)) (a : ℕ) (is : a ≡ first_equal (actions_of file c)) where
    pub some_equal : a < c.actions → refused 15 (action_at a) ≡ equal_rule file c
    unfolding equal_rule choose ◌and◌
    some_equal h = simp (v, sym is, below_of h, pre_plain c v a)

    pub none_equal : c.actions ≤ a → accepted tt ≡ equal_rule file c
    unfolding equal_rule choose ◌and◌
    none_equal h = simp (v, sym is, below_not h)

  -- in version 2 it is not looked for
  pub not_sought : So (fails (plain c)) → accepted tt ≡ equal_rule file c
  unfolding equal_rule
  not_sought v = sym (choose_failed _ _ (fails_of (λ t. fails_at v (and_left _ t))))

  -- each version has one of the causes 16 and 15
  pub equal_alone : accepted tt ≡ owners_rule file c → actions_rule file c ≡ equal_rule file c
  unfolding actions_rule
  equal_alone o = then_accepted _ _ tt (sym o)

  pub owners_alone : So (fails (plain c)) → actions_rule file c ≡ owners_rule file c
  unfolding actions_rule and_then
  owners_alone v = go (owners_rule file c)
    where
      go : (o : Verdict (Unit {0})) → and_then o (λ _. equal_rule file c) ≡ o
      go (accepted tt) = sym (not_sought v)
      go (refused number place) = refl

-- ---- the three sets, one by one

module _ (A : Actions) (b a : ℕ) where
  pub pre_differs : (A.pre b ≡ A.pre a → ⊥) → false ≡ equal_actions A b a
  unfolding equal_actions ◌and◌
  pre_differs p = simp (same_not p)

  pub add_differs : A.pre b ≡ A.pre a → (A.add b ≡ A.add a → ⊥) → false ≡ equal_actions A b a
  unfolding equal_actions ◌and◌
  add_differs p q = simp (same_of p, same_not q)

  pub as_deletes : A.pre b ≡ A.pre a → A.add b ≡ A.add a → same (A.del b) (A.del a) ≡ equal_actions A b a
  unfolding equal_actions ◌and◌
  as_deletes p q = simp (same_of p, same_of q)

-- ---- the same actions

module _ (file : List ℕ) (c : Counts) (file' : List ℕ) (c' : Counts) (s : SameActions (actions_of file c) (actions_of file' c')) where
  firsts_same : c.effects ≡ c.actions → first_equal (actions_of file c) ≡ first_equal (actions_of file' c')
  unfolding first_equal equals_earlier equal_actions actions_of
  firsts_same own =
      first_eq c.actions (λ a h. any_eq a (λ b g.
      ap₂ (λ (p q : Bool). p and q) (ap₂ same (s.pre b (omega arith)) (s.pre a h))
      (ap₂ (λ (p q : Bool). p and q) (ap₂ same (s.add b (omega arith)) (s.add a (omega arith)))
      (ap₂ same (s.del b (omega arith)) (s.del a (omega arith))))))
      ∙ ap (λ (n : ℕ). first_below n (equals_earlier (actions_of file' c'))) s.count

  plainly_same : c.version ≡ c'.version → c.effects ≡ c.actions → equal_rule file c ≡ equal_rule file' c'
  unfolding equal_rule pre_at actions_of
  plainly_same v own i =
      let a : ℕ = firsts_same own i in
      choose (same (v i) plain_version and below a (s.count i))
      (refused 15 (choose (same (v i) plain_version) (action_at a) (long_head + set_bytes * a))) (accepted tt)

  pub equal_same : Ranged c → c.version ≡ c'.version → equal_rule file c ≡ equal_rule file' c'
  equal_same r v =
      ⊎_elim (λ p. plainly_same v (r.own p))
      (λ f. sym (not_sought file c f) ∙ not_sought file' c' (subst (λ (x : ℕ). So (fails (same x plain_version))) v f)) (holds_or (plain c))

-- ---- marks

-- equal actions have equal marks
pub equal_marks : (A : Actions) (b a : ℕ) → So (equal_actions A b a) → mark_of A b ≡ mark_of A a
unfolding equal_actions mark_of
equal_marks A b a t =
    let p : A.pre b ≡ A.pre a = same_at (and_left _ t) in
    let q : A.add b ≡ A.add a = same_at (and_left _ (and_right _ t)) in
    ap₂ spread p q

-- ---- from one action back to the one before it with its mark

-- `left`, counted from 1, is the next action to compare a with: it has a's mark, and no action after it and before a equals a
pub record Walked (A : Actions) (a left : ℕ) : Type 0 where
  pub within : left ≤ a
  pub marked : (b : ℕ) → left ≡ suc b → mark_of A b ≡ mark_of A a
  pub earlier : (b : ℕ) → b < a → So (equal_actions A b a) → b < left

module _ {A : Actions} {a : ℕ} where
  pub walked_none : {last : ℕ} → Last A a (mark_of A a) last → Walked A a last
  walked_none s = record { within = s.within; marked = s.marked; earlier = λ b l t. s.none_later b l (equal_marks A b a t) }

  module _ {left : ℕ} (s : Walked A a left) where
    pub walked_more : {next : ℕ} → 0 < left → equal_actions A (left - 1) a ≡ false → Last A (left - 1) (mark_of A (left - 1)) next → Walked A a next
    walked_more h e f =
        let own : mark_of A (left - 1) ≡ mark_of A a = s.marked (left - 1) (omega arith) in
        record {
          within = omega (arith, s.within, f.within);
          marked = λ b q. f.marked b q ∙ own;
          earlier = λ b l t.
              let other : b ≡ left - 1 → ⊥ = λ q. fails_at (is_fails e) (subst (λ (x : ℕ). So (equal_actions A x a)) q t) in
              f.none_later b (omega (arith, s.earlier b l t)) (equal_marks A b a t ∙ sym own);
        }

    pub walked_found : 0 < left → So (equal_actions A (left - 1) a) → true ≡ equals_earlier A a
    unfolding equals_earlier
    walked_found h t = sym (any_of (λ b. equal_actions A b a) (omega (arith, s.within)) t)

    pub walked_done : left ≤ 0 → false ≡ equals_earlier A a
    unfolding equals_earlier
    walked_done h = test_eq (λ f. absurd (false≢true f)) (λ t. let (b, l, e) = any_at t in absurd (omega (arith, s.earlier b l e)))

-- ---- marking one action after the other

module _ {A : Actions} (a : ℕ) {m : ℕ} where
  last_own : mark_of A a ≡ m → Last A (a + 1) m (a + 1)
  last_own e = record {
    within = omega arith;
    marked = λ b q. let w : a ≡ b = omega arith in subst (λ (x : ℕ). mark_of A x ≡ m) w e;
    none_later = λ b l q. l;
  }

  last_other : {last : ℕ} → (mark_of A a ≡ m → ⊥) → Last A a m last → Last A (a + 1) m last
  last_other other s = record {
    within = omega (arith, s.within);
    marked = s.marked;
    none_later = below_more _ _ s.none_later (λ q. absurd (other q));
  }

-- where all is 0 no action is marked
module _ (A : Actions) where
  pub marked_none : Marked A 0 (replicate marks 0)
  marked_none = record {
    full = refl;
    each = λ m l. subst (Last A 0 m) (sym (get_or-replicate marks m 0 0 l)) (record {
      within = omega arith;
      marked = λ b q. absurd (omega arith);
      none_later = λ b l. absurd (omega arith);
    });
  }

  pub chained_none : Chained A 0 (replicate max_actions 0)
  chained_none = record { room = refl; each = λ a l. absurd (omega arith); rest = λ a l k. get_or-replicate max_actions a 0 0 k }

-- the next action leads to the last one before it with its mark; where there is none, nothing is put down
module _ {A : Actions} {a : ℕ} {befores : List ℕ} (s : Chained A a befores) {last : ℕ} (is : Last A a (mark_of A a) last) where
  pub chained_put : a < max_actions → Chained A (a + 1) (set befores a last)
  chained_put h = record {
    room = length-set befores a last ∙ s.room;
    each = below_more _ _
        (λ b l. subst (Last A b (mark_of A b)) (sym (get_or-set_other befores a b last 0 (λ q. omega arith))) (s.each b l))
        (subst (Last A a (mark_of A a)) (sym (get_or-set_same befores a last 0 (omega (arith, s.room)))) is);
    rest = λ b l k. get_or-set_other befores a b last 0 (λ q. omega arith) ∙ s.rest b (omega arith) k;
  }

  pub chained_stays : a < max_actions → last ≡ 0 → Chained A (a + 1) befores
  chained_stays h e = record {
    room = s.room;
    each = below_more _ _ s.each (subst (Last A a (mark_of A a)) (e ∙ sym (s.rest a (omega arith) h)) is);
    rest = λ b l k. s.rest b (omega arith) k;
  }

-- and with none before it that has its mark it equals no earlier one
pub none_equals : {A : Actions} {a last : ℕ} → Last A a (mark_of A a) last → last ≡ 0 → equals_earlier A a ≡ false
none_equals s e = sym (walked_done (walked_none s) (omega (arith, e)))

-- the first a of n actions are marked, and none of them equals an earlier one
pub record Marking (A : Actions) (n a : ℕ) (lasts befores : List ℕ) : Type 0 where
  pub within : a ≤ n
  pub marked : Marked A a lasts
  pub chained : Chained A a befores
  pub none : (b : ℕ) → b < a → So (equals_earlier A b) → ⊥

module _ {A : Actions} {n : ℕ} {lasts befores : List ℕ} where
  pub marking_none : Marked A 0 lasts → Chained A 0 befores → Marking A n 0 lasts befores
  marking_none s t = record { within = omega arith; marked = s; chained = t; none = λ b l. absurd (omega arith) }

  pub marking_last : {a m : ℕ} → Marking A n a lasts befores → m ≡ mark_of A a → m < marks → Last A a (mark_of A a) (get_or lasts m 0)
  marking_last {a} {m} s is fits = subst (λ (x : ℕ). Last A a x (get_or lasts m 0)) is (s.marked.each m fits)

  pub marking_more : {a m k : ℕ} {befores' : List ℕ} → Marking A n a lasts befores → a < n → m ≡ mark_of A a → m < marks → k ≡ a + 1
      → equals_earlier A a ≡ false → Chained A (a + 1) befores' → Marking A n (a + 1) (set lasts m k) befores'
  marking_more {a} {m} {k} s h is fits e f chained = record {
    within = omega arith;
    marked = record {
      full = length-set lasts m k ∙ s.marked.full;
      each = λ j l. ⊎_elim
          (λ t. subst (Last A (a + 1) j)
          (sym (ap (λ (x : ℕ). get_or (set lasts m k) x 0) (sym (same_at t)) ∙ get_or-set_same lasts m k 0 (omega (arith, s.marked.full)) ∙ e))
          (last_own a (sym is ∙ same_at t)))
          (λ t. subst (Last A (a + 1) j) (sym (get_or-set_other lasts m j k 0 (λ q. fails_at t (same_of (sym q)))))
          (last_other a (λ q. fails_at t (same_of (is ∙ q))) (s.marked.each j l)))
          (holds_or (same m j));
    };
    chained = chained;
    none = below_more _ _ s.none (λ t. fails_at (is_fails f) t);
  }

module _ (file : List ℕ) (c : Counts) {a : ℕ} {lasts befores : List ℕ} (s : Marking (actions_of file c) c.actions a lasts befores) where
  pub marking_found : So (equals_earlier (actions_of file c) a) → a ≡ first_equal (actions_of file c)
  unfolding first_equal actions_of
  marking_found t = first_unique s.within s.none (λ l. t)

  pub marking_done : c.actions ≤ a → c.actions ≡ first_equal (actions_of file c)
  unfolding first_equal actions_of
  marking_done h = first_unique (omega arith) (λ b l. s.none b (omega arith)) (λ l. absurd (omega arith))

-- ---- looking for one action after the other

-- no action after b and before a equals b
pub record Looked (A : Actions) (b a : ℕ) : Type 0 where
  pub after : b < a
  pub none : (k : ℕ) → b < k → k < a → So (equal_actions A b k) → ⊥

module _ {A : Actions} {b : ℕ} where
  pub looked_none : Looked A b (b + 1)
  looked_none = record { after = omega arith; none = λ k g l. absurd (omega arith) }

  pub looked_more : {a : ℕ} → Looked A b a → equal_actions A b a ≡ false → Looked A b (a + 1)
  looked_more {a} s e = record {
    after = omega (arith, s.after);
    none = λ k g l t. by_cases (dec_le a k) (λ m. let q : k ≡ a = omega arith in fails_at (is_fails e) (subst (λ (x : ℕ). So (equal_actions A b x)) q t))
        (λ m. s.none k g (omega arith) t);
  }

  pub looked_found : {a end : ℕ} → Looked A b a → a < end → So (equal_actions A b a) → After A b end a
  looked_found s h t = record { within = omega arith; found = λ l. (s.after, t); none = s.none }

  pub looked_done : {a end : ℕ} → Looked A b a → end ≤ a → After A b end end
  looked_done s h = record { within = omega arith; found = λ l. absurd (omega arith); none = λ k g l. s.none k g (omega arith) }

-- no action before `first` equals one of the first i that comes before it, and `first`, where it is an action, equals an earlier one
pub record Firsts (A : Actions) (n i first : ℕ) : Type 0 where
  pub within : first ≤ n
  pub found : first < n → So (equals_earlier A first)
  pub none : (b : ℕ) → b < i → (a : ℕ) → b < a → a < first → So (equal_actions A b a) → ⊥

pub firsts_none : {A : Actions} {n : ℕ} → Firsts A n 0 n
firsts_none = record { within = omega arith; found = λ l. absurd (omega arith); none = λ b l. absurd (omega arith) }

pub firsts_more : {A : Actions} {n b first r : ℕ} → Firsts A n b first → After A b first r → Firsts A n (b + 1) r
unfolding equals_earlier
firsts_more {A} {n} {b} {first} {r} s f = record {
  within = omega (arith, s.within, f.within);
  found = λ l. by_cases (dec_le first r)
      (λ g. let e : first ≡ r = omega (arith, f.within) in subst (λ (x : ℕ). So (equals_earlier A x)) e (s.found (omega arith)))
      (λ g. let (k, t) = f.found (omega arith) in any_of (λ b. equal_actions A b r) k t);
  none = below_more _ _ (λ b l a k m. s.none b l a k (omega (arith, f.within))) f.none;
}

pub firsts_done : (file : List ℕ) (c : Counts) {i first : ℕ} → Firsts (actions_of file c) c.actions i first → c.actions ≤ i
    → first ≡ first_equal (actions_of file c)
unfolding first_equal equals_earlier actions_of
firsts_done file c {i} {first} s h =
    first_unique s.within (λ a l t. let (b, k, e) = any_at t in s.none b (omega (arith, s.within)) a k l e) s.found
