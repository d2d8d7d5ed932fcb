-- The layers of a graph, one behind the other: layer 0, the step, and all steps.
-- Assumes nothing.
use Prim.Native.Nat.{ℕ, zero, suc, ◌+◌, ◌-◌, ◌*◌, ◌≤◌, ◌<◌}
use mathlib.Core.Path.{◌≡◌, refl, sym, ap, ap₂, subst, ◌∙◌}
use mathlib.Core.Bool.{Bool, true}
use mathlib.Core.List.{List, ◌++◌, append_assoc, append-nil}
use native.Mathlib.Nat.{le_refl, suc-mul, mul-le-mul, mul-le-mul_right, zero-mul, add-zero}
use native.Mathlib.Numerals.{add-one}
use native.Mathlib.Omega.{arith}
use borrow.Rule.Slice.PartMut.{put_mid, same_len_mid}
use lib.ListN.{length, get_or, take, drop, length-append}
use Rattle.rules.specs.Word.{first}
use Rattle.rules.specs.Lists.{run_over}
use Rattle.rules.specs.Domain.{Domain, Actions, domain}
use Rattle.rules.specs.Layer.{size, layer_of}
use Rattle.rules.specs.Shared.{start_label, start_layer, action_layer, next_layer, prop_from, prop_layer, vertex_layer, graph_words}
use Rattle.rules.specs.Together.{layer_by}
use Rattle.rules.specs.Over.{sum_over}
use Rattle.rules.specs.Scan.{step_looks, looks_from}
use Rattle.rules.proofs.Layers.{length_layer_of, layer_eq}
use Rattle.rules.proofs.Scans.{looks_left}
use Rattle.words.specs.Memory.{put_at}
use Rattle.words.specs.Rows.{cell}
use Rattle.words.proofs.Writes.{Runs, run_more, run_done, put_put, put_within, put_none, tail_length}
use Rattle.layers.specs.Step.{Told, Deletes, Tells, Ready, Stepped, step_words, most_of_step}
use Rattle.graph.specs.Limits.{max_depth}
use Rattle.build.specs.Steps.{Ended, Lent}

pub length_actions : (D : Domain) (all : ℕ) (l : List ℕ) → length (action_layer D all l) ≡ size D.vertices
unfolding action_layer
length_actions D all l = length_layer_of D.vertices _ _

pub length_next : (D : Domain) (a : List ℕ) → length (next_layer D a) ≡ size D.props
unfolding next_layer
length_next D a = length_layer_of D.props _ _

pub step_length : (D : Domain) (all : ℕ) (l : List ℕ) → length (step_words D all l) ≡ size D.vertices + size D.props
unfolding step_words
step_length D all l =
    length-append (action_layer D all l) (next_layer D (action_layer D all l))
    ∙ ap₂ (λ (x y : ℕ). x + y) (length_actions D all l) (length_next D (action_layer D all l))

-- ---- all steps

-- a graph's words, layer 0 apart: each step writes an action layer and the next proposition layer
graph_steps : (D : Domain) (n : ℕ) (start : ℕ → ℕ) (k : ℕ)
    → start_layer D n start ++ run_over k (λ t. step_words D (first n) (prop_from D (first n) (start_layer D n start) t)) ≡ graph_words D n start k
unfolding graph_words vertex_layer step_words prop_from run_over
graph_steps D n start zero = append-nil (start_layer D n start)
graph_steps D n start (suc k) =
    sym (append_assoc (start_layer D n start) _ _)
    ∙ ap (λ (x : List ℕ). x ++ step_words D (first n) (prop_layer D n start k)) (graph_steps D n start k)
    ∙ regroup (run_over k (λ t. prop_layer D n start t ++ action_layer D (first n) (prop_layer D n start t))) (prop_layer D n start k) _ _
  where
    regroup : (a b c d : List ℕ) → (a ++ b) ++ (c ++ d) ≡ (a ++ (b ++ c)) ++ d
    regroup a b c d = simp append_assoc

-- ---- the loop over the steps

-- k steps of `depth` over the layer l are written, up to `at`, they look so many times, and the table tells the layer that they reach
pub record Going (A : Actions) (all : ℕ) (l : List ℕ) (depth : ℕ) (w₀ : List ℕ) (k at looked : ℕ) (w labels t : List ℕ) : Type 0 where
  pub runs : Runs (λ k. step_words (domain A) all (prop_from (domain A) all l k)) (size (domain A).props) depth w₀ k at w
  pub tells : Tells A all labels t
  pub layer : layer_by (domain A).props (cell t) ≡ prop_from (domain A) all l k
  pub looks : looked ≡ looks_from (domain A) all l k

pub going_none : (A : Actions) (all depth : ℕ) (w labels t : List ℕ) → size (domain A).props ≤ length w → Tells A all labels t
    → Going A all (layer_by (domain A).props (cell t)) depth w 0 (size (domain A).props) 0 w labels t
unfolding prop_from run_over looks_from sum_over
going_none A all depth w labels t room is = record {
  runs = record { within = omega arith; here = add-zero (size (domain A).props); inside = room; long = refl; is = sym (put_none (size (domain A).props) w) };
  tells = is;
  layer = refl;
  looks = refl;
}

module _ {A : Actions} {all : ℕ} {l : List ℕ} {depth : ℕ} {w₀ : List ℕ} {k at looked : ℕ} {w labels t : List ℕ} (s : Going A all l depth w₀ k at looked w labels t) where
  abbrev D : Domain
  D = domain A

  module _ (labels' t' p : List ℕ) (still : Bool) (looks : ℕ) (h : k < depth) (room : at + (size D.vertices + size D.props) ≤ length w₀)
      (did : Stepped A all t labels' t' (take (length w - at) (drop at w)) p still looks) where
    put : put_mid at (length w - at) w p ≡ put_at at (step_words D all (prop_from D all l k)) w
    put =
        put_within at 0 (step_words D all (prop_from D all l k)) w p (omega (arith, step_length D all (prop_from D all l k), s.runs.long))
        (did.is ∙ ap (λ (x : List ℕ). put_at 0 (step_words D all x) (take (length w - at) (drop at w))) s.layer)
        ∙ ap (λ (x : ℕ). put_at x (step_words D all (prop_from D all l k)) w) (add-zero at)

    reached : layer_by D.props (cell t') ≡ prop_from D all l (suc k)
    reached = unfold prop_from in did.next.layer ∙ ap (λ (x : List ℕ). next_layer D (action_layer D all x)) s.layer

    all_looks_lem : looked + looks ≡ looks_from D all l (k + 1)
    all_looks_lem = unfold looks_from sum_over in
        ap₂ ◌+◌ s.looks (did.looks ∙ ap (step_looks D all) s.layer) ∙ ap (looks_from D all l) (sym (add-one k))

    pub going_more : Going A all l depth w₀ (k + 1) (at + (size D.vertices + size D.props)) (looked + looks) (put_mid at (length w - at) w p) labels' t'
    going_more = record {
      runs = run_more (size D.vertices + size D.props) s.runs h room (step_length D all (prop_from D all l k)) put;
      tells = did.next.tells;
      layer = reached ∙ ap (prop_from D all l) (sym (add-one k));
      looks = all_looks_lem;
    }

    -- nothing changed: the layer that is reached is the one before
    same : still ≡ true → prop_from D all l k ≡ prop_from D all l (suc k)
    same e = sym s.layer ∙ sym (did.next.rests e) ∙ reached

    pub ended_rest : still ≡ true → Ended D all l depth w₀ (k + 1) (looked + looks + (depth - (k + 1)) * looks) (put_mid at (length w - at) w p)
    ended_rest e = record {
      within = omega arith;
      is = going_more.runs.is;
      rests = λ g. (
        omega arith,
        (let q : k + 1 - 1 ≡ k = omega arith in ap (prop_from D all l) q) ∙ same e ∙ ap (prop_from D all l) (sym (add-one k)),
      );
      looks = sym (looks_left D all l k (same e) depth (k + 1) (looked + looks) looks refl (omega arith) all_looks_lem (did.looks ∙ ap (step_looks D all) s.layer));
    }

  pub ended_all : depth ≤ k → Ended D all l depth w₀ depth looked w
  ended_all h = record {
    within = le_refl depth;
    is = run_done s.runs h;
    rests = λ g. absurd (omega arith);
    looks = let e : k ≡ depth = omega (arith, s.runs.within) in s.looks ∙ ap (looks_from D all l) e;
  }

-- layer 0 at the front, and all steps behind it: the graph's words
pub layers_put : (D : Domain) (n : ℕ) (start : ℕ → ℕ) (depth all : ℕ) (l w₀ w₁ w₂ : List ℕ) → size D.props ≤ length w₀ → all ≡ first n
    → l ≡ start_layer D n start → w₁ ≡ put_at 0 l w₀
    → w₂ ≡ put_at (size D.props) (run_over depth (λ t. step_words D all (prop_from D all l t))) w₁
    → w₂ ≡ put_at 0 (graph_words D n start depth) w₀
unfolding start_layer
layers_put D n start depth all l w₀ w₁ w₂ room q el e₁ e₂ =
    let long : length (start_layer D n start) ≡ size D.props = length_layer_of D.props _ _ in
    let here : size D.props ≡ 0 + length (start_layer D n start) = omega arith in
    e₂
    ∙ ap₂ (λ (x : ℕ) (l : List ℕ). put_at (size D.props) (run_over depth (λ t. step_words D x (prop_from D x l t))) w₁) q el
    ∙ ap₂ (λ (x : ℕ) (l : List ℕ). put_at x (run_over depth (λ t. step_words D (first n) (prop_from D (first n) (start_layer D n start) t))) l) here
    (e₁ ∙ ap (λ (x : List ℕ). put_at 0 x w₀) el)
    ∙ put_put 0 (start_layer D n start) w₀ (omega arith) _
    ∙ ap (λ (l : List ℕ). put_at 0 l w₀) (graph_steps D n start depth)

-- ---- the same, whatever actions the lists tell

pub record Stepping (n width span depth all : ℕ) (needs adds dels adders interferers labels₀ t₀ w₀ : List ℕ) (k at looked : ℕ) (w labels t : List ℕ) : Type 0 where
  pub within : k ≤ depth
  pub few : looked ≤ k * most_of_step
  pub place : at ≡ size n + k * (size (length needs + n) + size n)
  pub lent : Lent n width span depth needs adders w
  pub long : length w ≡ length w₀
  pub going : (A : Actions) → Told A n needs adds adders interferers → Deletes A dels → Tells A all labels₀ t₀
      → Going A all (layer_by (domain A).props (cell t₀)) depth w₀ k at looked w labels t

-- the sizes of a layer of the vertices and of one of the propositions
pub told_sizes : (A : Actions) (n : ℕ) (needs adds adders interferers : List ℕ) → Told A n needs adds adders interferers
    → (size (domain A).vertices ≡ size (length needs + n)) × (size (domain A).props ≡ size n)
unfolding domain
told_sizes A n needs adds adders interferers told = (ap₂ (λ (x y : ℕ). size (x + y)) told.effects told.props, ap size told.props)

pub stepping_none : (n width span depth all at : ℕ) (needs adds dels adders interferers labels t w : List ℕ)
    → Lent n width span depth needs adders w → at ≡ size n
    → Stepping n width span depth all needs adds dels adders interferers labels t w 0 at 0 w labels t
stepping_none n width span depth all at needs adds dels adders interferers labels t w lent q = record {
  within = omega arith;
  few = omega arith;
  place = omega (arith, zero-mul (size (length needs + n) + size n));
  lent = lent;
  long = refl;
  going = λ A told del is.
      let e : size (domain A).props ≡ at = (told_sizes A n needs adds adders interferers told).1 ∙ sym q in
      subst (λ (x : ℕ). Going A all (layer_by (domain A).props (cell t)) depth w 0 x 0 w labels t) e
      (going_none A all depth w labels t (omega (arith, lent.fits, q)) is);
}

module _ {n width span depth all : ℕ} {needs adds dels adders interferers labels₀ t₀ w₀ : List ℕ} {k at looked : ℕ} {w labels t : List ℕ}
    (s : Stepping n width span depth all needs adds dels adders interferers labels₀ t₀ w₀ k at looked w labels t) (h : k < depth) where
  -- the next step has room
  pub room : at + (size (length needs + n) + size n) ≤ length w
  room = omega (arith, s.place, s.lent.fits, suc-mul k (size (length needs + n) + size n), mul-le-mul_right (size (length needs + n) + size n) h)

  pub ready : (act : ℕ) → act ≡ size (length needs + n)
      → Ready n width span act needs adders (take (length w - at) (drop at w))
  ready act e = record {
    mating = s.lent.mating;
    place = e;
    room = omega (arith, room, tail_length at w (omega (arith, room)));
  }

  -- no sum is too large
  pub looks_fit : (looks : ℕ) → looks ≤ most_of_step → (looked + looks ≤ (k + 1) * most_of_step) × ((depth - (k + 1)) * looks ≤ max_depth * most_of_step)
  looks_fit looks most = (
    omega (arith, s.few),
    (let few : depth - (k + 1) ≤ max_depth = omega (arith, s.lent.deep) in mul-le-mul few most),
  )

  module _ (labels' t' p : List ℕ) (still : Bool) (looks : ℕ)
      (did : (A : Actions) → Told A n needs adds adders interferers → Deletes A dels → Tells A all labels t
      → Stepped A all t labels' t' (take (length w - at) (drop at w)) p still looks) (most : looks ≤ most_of_step) where
    further : (A : Actions) → Told A n needs adds adders interferers → at + (size (domain A).vertices + size (domain A).props) ≤ length w₀
    further A told = let (a, b) = told_sizes A n needs adds adders interferers told in omega (arith, room, s.long)

    pub stepping_more : (far : ℕ) → far ≡ size (length needs + n) + size n → length p ≡ length (take (length w - at) (drop at w))
        → Stepping n width span depth all needs adds dels adders interferers labels₀ t₀ w₀ (k + 1) (at + far) (looked + looks) (put_mid at (length w - at) w p) labels' t'
    stepping_more far ef lp =
        let lw : length (put_mid at (length w - at) w p) ≡ length w = same_len_mid at (length w - at) w p lp in
        record {
          within = omega arith;
          few = (looks_fit looks most).0;
          place = omega (arith, s.place, ef, suc-mul k (size (length needs + n) + size n), ap (λ (x : ℕ). x * (size (length needs + n) + size n)) (add-one k));
          lent = record {
            mating = s.lent.mating;
            deep = s.lent.deep;
            fits = omega (arith, s.lent.fits, lw);
          };
          long = lw ∙ s.long;
          going = λ A told del is.
              let (a, b) = told_sizes A n needs adds adders interferers told in
              let e : at + (size (domain A).vertices + size (domain A).props) ≡ at + far = omega (arith, ef) in
              let g = s.going A told del is in
              subst (λ (x : ℕ). Going A all (layer_by (domain A).props (cell t₀)) depth w₀ (k + 1) x (looked + looks) (put_mid at (length w - at) w p) labels' t') e
              (going_more g labels' t' p still looks h (further A told) (did A told del g.tells));
        }

    pub stepping_rest : still ≡ true → (A : Actions) → Told A n needs adds adders interferers → Deletes A dels → Tells A all labels₀ t₀
        → Ended (domain A) all (layer_by (domain A).props (cell t₀)) depth w₀ (k + 1) (looked + looks + (depth - (k + 1)) * looks) (put_mid at (length w - at) w p)
    stepping_rest e A told del is =
        let g = s.going A told del is in
        ended_rest g labels' t' p still looks h (further A told) (did A told del g.tells) e

pub stepping_all : {n width span depth all : ℕ} {needs adds dels adders interferers labels₀ t₀ w₀ : List ℕ} {k at looked : ℕ} {w labels t : List ℕ}
    → Stepping n width span depth all needs adds dels adders interferers labels₀ t₀ w₀ k at looked w labels t → depth ≤ k
    → (A : Actions) → Told A n needs adds adders interferers → Deletes A dels → Tells A all labels₀ t₀
    → Ended (domain A) all (layer_by (domain A).props (cell t₀)) depth w₀ depth looked w
stepping_all s h A told del is = ended_all (s.going A told del is) h

-- layer 0 of the start states whose labels these are
pub props_are : (A : Actions) (n : ℕ) → A.props ≡ n → n ≡ (domain A).props
unfolding domain
props_are A n e = sym e

pub start_is : (A : Actions) (m n : ℕ) (start : ℕ → ℕ) (labels t : List ℕ) → A.props ≡ n → layer_by n (cell t) ≡ layer_of n (λ p. get_or labels p 0) (λ p q. 0)
    → ((p : ℕ) → p < n → get_or labels p 0 ≡ start_label m start p) → layer_by (domain A).props (cell t) ≡ start_layer (domain A) m start
unfolding domain start_layer
start_is A m n start labels t e el is =
    ap (λ (x : ℕ). layer_by x (cell t)) e ∙ el ∙ layer_eq is (λ p q h k. refl) ∙ ap (λ (x : ℕ). layer_of x (start_label m start) (λ p q. 0)) (sym e)
