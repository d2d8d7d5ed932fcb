-- Which files have equal actions or effects without an action: causes 15 and 16 name the first, and a file that is taken has none.
-- Assumes nothing.
use mathlib.Core.Path.{◌≡◌, refl, sym, ap, ◌∙◌}
use mathlib.Core.Bool.{Bool, true, false, So}
use mathlib.Core.List.{List}
use mathlib.Core.Logic.{◌⊎◌, inl, inr, ⊎_elim}
use Prim.Native.Nat.{ℕ, zero, suc, ◌+◌, ◌*◌, ◌≤◌, ◌<◌}
use native.Mathlib.Omega.{arith}
use Rattle.rules.specs.Test.{fails, below, choose}
use Rattle.rules.proofs.Tests.{choose_held, choose_failed, and_of, and_left, and_right, same_of, same_at, fails_of, holds_or, below_of, below_at, below_fails}
use Rattle.rules.proofs.Overs.{any_of, any_at}
use Rattle.rules.proofs.Firsts.{first_at, first_before, first_to}
use Rattle.graph.specs.Verdict.{Verdict, accepted, refused, and_then}
use Rattle.graph.specs.Format.{set_bytes, head_bytes, long_head, plain, action_at, effect_at, when_at, states_at, counts_in, actions_of}
use Rattle.graph.specs.File.{head_rule, version_rule, counts_rule, length_rule, sets_from, effect_sets, action_sets, sets_rule, first_stray, owners_rule}
use Rattle.graph.specs.File.{equal_actions, equals_earlier, first_equal, equal_rule, actions_rule, file_rule}
use Rattle.graph.specs.declared.format.Counts.{Counts}
use Rattle.graph.proofs.Places.{pre_plain}
use Rattle.graph.proofs.Owners.{all_owned, plain_owned}
use Rattle.graph.proofs.Ladder.{counts_mean, actions_mean, taken_linked, by_actions}
use Rattle.graph.proofs.Verdicts.{then_accepted, then_refused}
use Rattle.graph.proofs.Equals.{some_equal, none_equal, not_sought}
use Rattle.theorems.specs.Setting.{Exactly, EqualPair, FirstPair, FirstStray, Passes}

-- ---- which link of a chain turned the file away

module _ {n p : ℕ} where
  pub link : {X Y : Type 0} (v : Verdict X) (next : X → Verdict Y) → and_then v next ≡ refused n p
      → (v ≡ refused n p) ⊎ ((x : X) × (v ≡ accepted x) × (next x ≡ refused n p))
  unfolding and_then
  link (accepted x) next e = inr (x, refl, e)
  link (refused number place) next e = inl cc

  pub taken_not : {X : Type 0} (x : X) → accepted x ≡ refused n p → ⊥
  taken_not x e = let z : ◌≡◌ {A = ℕ} 0 1 = cc in omega arith

  -- a test that turns away with number k, or leaves it to what comes next
  pub unless : {X : Type 0} (b : Bool) (k q : ℕ) (v : Verdict X) → choose b (refused k q) v ≡ refused n p → (k ≡ n) ⊎ (v ≡ refused n p)
  unfolding choose
  unless true k q v e = inl cc
  unless false k q v e = inr e

  pub only_if : {X : Type 0} (b : Bool) (k q : ℕ) (v : Verdict X) → choose b v (refused k q) ≡ refused n p → (k ≡ n) ⊎ (v ≡ refused n p)
  unfolding choose
  only_if true k q v e = inr e
  only_if false k q v e = inl cc

  head_number : (file : List ℕ) → head_rule file ≡ refused n p → 1 ≡ n
  unfolding head_rule
  head_number file e = ⊎_elim (λ h. h) (λ h. absurd (taken_not _ h)) (unless _ _ _ _ e)

  version_number : (file : List ℕ) → version_rule file ≡ refused n p → 2 ≡ n
  unfolding version_rule
  version_number file e = ⊎_elim (λ h. h) (λ h. absurd (taken_not _ h)) (only_if _ _ _ _ e)

  counts_number : (c : Counts) → counts_rule c ≡ refused n p → 3 ≡ n
  unfolding counts_rule
  counts_number c e =
      ⊎_elim (λ h. h) (λ e₁. ⊎_elim (λ h. h) (λ e₂. ⊎_elim (λ h. h) (λ e₃. ⊎_elim (λ h. h) (λ h. absurd (taken_not _ h)) (unless _ _ _ _ e₃))
      (unless _ _ _ _ e₂)) (unless _ _ _ _ e₁)) (unless _ _ _ _ e)

  length_number : (file : List ℕ) (c : Counts) → length_rule file c ≡ refused n p → 4 ≡ n
  unfolding length_rule
  length_number file c e = ⊎_elim (λ h. h) (λ h. absurd (taken_not _ h)) (only_if _ _ _ _ e)

  from_number : (file : List ℕ) (props left at : ℕ) → sets_from file props left at ≡ refused n p → 5 ≡ n
  unfolding sets_from
  from_number file props zero at e = absurd (taken_not _ e)
  from_number file props (suc left) at e =
      ⊎_elim (λ h. h) (λ r. from_number file props left (at + set_bytes) r) (only_if _ _ _ _ e)

  effects_number : (file : List ℕ) (c : Counts) (left e : ℕ) → effect_sets file c left e ≡ refused n p → 5 ≡ n
  unfolding effect_sets
  effects_number file c zero e r = absurd (taken_not _ r)
  effects_number file c (suc left) e r =
      ⊎_elim (from_number file c.props 3 (when_at c e)) (λ q. effects_number file c left (suc e) q.2) (link _ _ r)

  actions_number : (file : List ℕ) (c : Counts) → action_sets file c ≡ refused n p → 5 ≡ n
  unfolding action_sets
  actions_number file c r = ⊎_elim
      (λ v. from_number file c.props (3 * c.actions) head_bytes (sym (choose_held _ v) ∙ r))
      (λ v. ⊎_elim (from_number file c.props c.actions long_head) (λ q. effects_number file c c.effects 0 q.2)
      (link _ _ (sym (choose_failed _ _ v) ∙ r)))
      (holds_or (plain c))

  sets_number : (file : List ℕ) (c : Counts) → sets_rule file c ≡ refused n p → 5 ≡ n
  unfolding sets_rule
  sets_number file c r =
      ⊎_elim (actions_number file c) (λ q. from_number file c.props c.states (states_at c) q.2) (link _ _ r)

  owners_number : (file : List ℕ) (c : Counts) → owners_rule file c ≡ refused n p → 16 ≡ n
  unfolding owners_rule
  owners_number file c e = ⊎_elim (λ h. h) (λ h. absurd (taken_not _ h)) (unless _ _ _ _ e)

  equal_number : (file : List ℕ) (c : Counts) → equal_rule file c ≡ refused n p → 15 ≡ n
  unfolding equal_rule
  equal_number file c e = ⊎_elim (λ h. h) (λ h. absurd (taken_not _ h)) (unless _ _ _ _ e)

-- the links before one that turns away with another number are passed
past : {n p k : ℕ} {X Y : Type 0} (v : Verdict X) (next : X → Verdict Y) → (v ≡ refused n p → k ≡ n) → (k ≡ n → ⊥) → and_then v next ≡ refused n p
    → (x : X) × (v ≡ accepted x) × (next x ≡ refused n p)
past v next number not q = ⊎_elim (λ r. absurd (not (number r))) (λ r. r) (link v next q)

-- cause 16 or 15 is found behind causes 1 to 5
behind : (file : List ℕ) (n p : ℕ) → 5 < n → file_rule file ≡ refused n p
    → Passes file × (and_then (owners_rule file (counts_in file)) (λ _. equal_rule file (counts_in file)) ≡ refused n p)
unfolding file_rule actions_rule
behind file n p h e =
    let (u₁, a, e₁) = past _ _ (head_number file) (λ q. omega arith) e in
    let (u₂, v, e₂) = past _ _ (version_number file) (λ q. omega arith) e₁ in
    let (u₃, k, e₃) = past _ _ (counts_number (counts_in file)) (λ q. omega arith) e₂ in
    let (u₄, l, e₄) = past _ _ (length_number file (counts_in file)) (λ q. omega arith) e₃ in
    let (u₅, s, e₅) = past _ _ (sets_number file (counts_in file)) (λ q. omega arith) e₄ in
    (record { head = a; version = v; counts = k; length = l; sets = s }, ⊎_elim (λ q. q) (λ r. absurd (taken_not _ r.2)) (link _ _ e₅))

-- where one of the two turns the file away, both together do
equal_after : (file : List ℕ) (c : Counts) {p : ℕ} → owners_rule file c ≡ accepted tt → equal_rule file c ≡ refused 15 p → actions_rule file c ≡ refused 15 p
unfolding actions_rule
equal_after file c o q = then_accepted _ _ tt o ∙ q

stray_stops : (file : List ℕ) (c : Counts) {p : ℕ} → owners_rule file c ≡ refused 16 p → actions_rule file c ≡ refused 16 p
unfolding actions_rule
stray_stops file c o = then_refused _ _ _ _ o

-- each by its own link
fifteen : (file : List ℕ) (p : ℕ) → file_rule file ≡ refused 15 p → Passes file × (equal_rule file (counts_in file) ≡ refused 15 p)
fifteen file p e =
    let (s, e₁) = behind file 15 p (omega arith) e in
    let (u, o, e₂) = past _ _ (owners_number file (counts_in file)) (λ q. omega arith) e₁ in
    (s, e₂)

sixteen : (file : List ℕ) (p : ℕ) → file_rule file ≡ refused 16 p → Passes file × (owners_rule file (counts_in file) ≡ refused 16 p)
sixteen file p e =
    let (s, e₁) = behind file 16 p (omega arith) e in
    (s, ⊎_elim (λ q. q) (λ r. absurd (let z = equal_number file (counts_in file) r.2 in omega arith)) (link _ _ e₁))

-- ---- pairs

module _ (file : List ℕ) (c : Counts) where
  says : {b a : ℕ} → EqualPair file c b a → So (equal_actions (actions_of file c) b a)
  unfolding equal_actions
  says e = and_of (same_of e.pre) (and_of (same_of e.add) (same_of e.del))

  means : So (plain c) → {b a : ℕ} → b < a → a < c.actions → So (equal_actions (actions_of file c) b a) → EqualPair file c b a
  unfolding equal_actions
  means v h l t = record {
    version = v;
    earlier = h;
    later = l;
    pre = same_at (and_left _ t);
    add = same_at (and_left _ (and_right _ t));
    del = same_at (and_right _ (and_right _ t));
  }

  abbrev first : ℕ
  first = first_equal (actions_of file c)

  -- the later action of a pair is at or after the first
  not_before : {b a : ℕ} → EqualPair file c b a → first ≤ a
  unfolding first_equal equals_earlier actions_of
  not_before {b} {a} e =
      first_to c.actions (equals_earlier (actions_of file c)) (any_of (λ b. equal_actions (actions_of file c) b a) e.earlier (says e))

  -- and the first is one
  is_first : So (plain c) → first < c.actions → (b : ℕ) × EqualPair file c b first
  unfolding first_equal equals_earlier actions_of
  is_first v h = let (b, l, t) = any_at (first_at c.actions (equals_earlier (actions_of file c)) h) in (b, means v l h t)

  unequal : equal_rule file c ≡ accepted tt → {b a : ℕ} → EqualPair file c b a → ⊥
  unequal q e = ⊎_elim (λ h. taken_not _ (sym q ∙ sym (some_equal file c e.version first refl (below_at h)))) (λ h. omega (arith, below_fails h, not_before e, e.later))
      (holds_or (below first c.actions))

  named : (p : ℕ) → equal_rule file c ≡ refused 15 p → FirstPair file c p
  named p q = ⊎_elim
      (λ v. ⊎_elim
      (λ h.
      let (b, e) = is_first v (below_at h) in
      let r : refused 15 (action_at first) ≡ refused 15 p = some_equal file c v first refl (below_at h) ∙ q in
      let o : action_at first ≡ p = cc in
      record { b = b; a = first; pair = e; offset = sym (pre_plain c v first ∙ o); first = λ b' a' e'. not_before e' })
      (λ h. absurd (taken_not _ (none_equal file c v first refl (below_fails h) ∙ q)))
      (holds_or (below first c.actions)))
      (λ f. absurd (taken_not _ (not_sought file c f ∙ q)))
      (holds_or (plain c))

-- ---- effects without an action

module _ (file : List ℕ) (c : Counts) where
  abbrev stray : ℕ → Bool
  stray e = fails (below ((actions_of file c).owner e) c.actions)

  strays : (p : ℕ) → owners_rule file c ≡ refused 16 p → FirstStray file c p
  unfolding owners_rule first_stray actions_of
  strays p q =
      let e : ℕ = first_stray (actions_of file c) in
      ⊎_elim
      (λ h.
      let r : refused 16 (effect_at c e) ≡ refused 16 p = sym (choose_held _ h) ∙ q in
      let o : effect_at c e ≡ p = cc in
      record {
        e = e;
        effect = below_at h;
        stray = below_fails (first_at c.effects stray (below_at h));
        offset = sym o;
        first = λ k l. owned k (first_before c.effects stray k l);
      })
      (λ h. absurd (taken_not _ (sym (choose_failed _ _ h) ∙ q)))
      (holds_or (below e c.effects))
    where
      owned : (k : ℕ) → (So (stray k) → ⊥) → (actions_of file c).owner k < c.actions
      owned k n = ⊎_elim (λ t. below_at t) (λ t. absurd (n t)) (holds_or (below ((actions_of file c).owner k) c.actions))

  -- an effect without one is at or after the first
  stray_refused : (e : ℕ) → e < c.effects → c.actions ≤ (actions_of file c).owner e → (p : ℕ) × (owners_rule file c ≡ refused 16 p)
  unfolding owners_rule first_stray actions_of
  stray_refused e h s =
      let t : So (stray e) = fails_of (λ t. omega (arith, below_at t)) in
      let l : first_stray (actions_of file c) < c.effects = omega (arith, first_to c.effects stray t) in
      (effect_at c (first_stray (actions_of file c)), choose_held _ (below_of l))

-- ---- files

pub taken_none : (file : List ℕ) (c : Counts) → file_rule file ≡ accepted c → (b a : ℕ) → EqualPair file c b a → ⊥
taken_none file c e b a pair =
    let l = taken_linked file c e in
    unequal file c (ap (equal_rule file) l.are ∙ (actions_mean file _ l.actions).1) pair

pub names_first : (file : List ℕ) (p : ℕ) → file_rule file ≡ refused 15 p → FirstPair file (counts_in file) p
names_first file p e = named file (counts_in file) p (fifteen file p e).1

pub exactly : (file : List ℕ)
    → Exactly ((p : ℕ) × (file_rule file ≡ refused 15 p)) (Passes file × ((b : ℕ) × (a : ℕ) × EqualPair file (counts_in file) b a))
exactly file = (
  λ r.
      let (p, e) = r in
      let f = names_first file p e in
      ((fifteen file p e).0, (f.b, f.a, f.pair)),
  λ r.
      let (s, some) = r in
      let e = some.2 in
      let c = counts_in file in (
        action_at (first file c),
        by_actions file _ _ s.head s.version s.counts s.length s.sets
            (equal_after file c (sym (all_owned file c (plain_owned file c (counts_mean file s.counts) e.version)))
            (sym (some_equal file c e.version (first file c) refl (omega (arith, not_before file c e, e.later))))),
      ),
)

pub stray_first : (file : List ℕ) (p : ℕ) → file_rule file ≡ refused 16 p → FirstStray file (counts_in file) p
stray_first file p e = strays file (counts_in file) p (sixteen file p e).1

pub stray_exactly : (file : List ℕ) → Exactly ((p : ℕ) × (file_rule file ≡ refused 16 p))
    (Passes file × ((e : ℕ) × (e < (counts_in file).effects) × ((counts_in file).actions ≤ (actions_of file (counts_in file)).owner e)))
stray_exactly file = (
  λ r.
      let (p, q) = r in
      let f = stray_first file p q in
      ((sixteen file p q).0, (f.e, f.effect, f.stray)),
  λ r.
      let (s, some) = r in
      let (p, q) = stray_refused file (counts_in file) some.0 some.1 some.2 in
      (p, by_actions file _ _ s.head s.version s.counts s.length s.sets (stray_stops file (counts_in file) q)),
)
