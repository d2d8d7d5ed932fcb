-- The layers from the level down: where an action layer lies, one layer further down, and each way in which the descent ends.
-- Assumes nothing.
use mathlib.Core.Path.{◌≡◌, refl, sym, ap, ap₂, subst, ◌∙◌}
use mathlib.Core.List.{List, [], ◌∷◌}
use mathlib.Core.Bool.{Bool, true, false}
use Prim.Native.Nat.{ℕ, suc, ◌+◌, ◌-◌, ◌*◌, ◌≤◌}
use native.Mathlib.Numerals.{add-one}
use native.Mathlib.Omega.{arith}
use lib.ListN.{length, get_or, set, take, drop, length-set}
use lib.Seq.{get_or-take}
use Rattle.rules.specs.Test.{choose}
use Rattle.rules.specs.Word.{within}
use Rattle.rules.specs.Over.{all_below}
use Rattle.rules.specs.Domain.{domain, shape_of}
use Rattle.rules.specs.Layer.{size, stride, label_in, props_in, actions_in}
use Rattle.rules.specs.Plan.{Covered, covered, uncovered, cover, planned, stuck, ground, on_cover, descend}
use Rattle.rules.specs.declared.Shape.{Shape}
use Rattle.rules.proofs.Overs.{all_eq}
use Rattle.rules.proofs.Layers.{labels_in}
use Rattle.rules.proofs.Layouts.{props_fit, actions_fit}
use Rattle.graph.specs.Checks.{Room}
use Rattle.plan.specs.Search.{listed_actions, listed_shape, Tables, Live, Covers}
use Rattle.std.specs.Prelude.{Option, Some, None}
use Rattle.plan.specs.declared.layer.Marked.{Marked}
use Rattle.plan.proofs.Counts.{stored, none_left}

-- action layer t lies within the words
pub fall_fits : {S : Shape} {w : List ℕ} (t at long : ℕ) → Room S (t + 1) w → at ≡ t * stride S + size S.props → long ≡ size S.vertices
    → at + long ≤ length w
fall_fits {S} {w} t at long room e l = omega (arith, actions_fit S t (t + 1) (omega arith), room.fits)

-- and is what is read
pub fall_part : (needs owners adders w : List ℕ) (t at long : ℕ) → at ≡ t * stride (listed_shape needs adders) + size (length adders)
    → long ≡ size (length needs + length adders)
    → take (at + long - at) (drop at w) ≡ actions_in (shape_of (domain (listed_actions needs owners adders))) w t
unfolding actions_in domain listed_actions
fall_part needs owners adders w t at long e l =
    let q : at + long - at ≡ long = omega arith in
    ap₂ (λ (x y : ℕ). take x (drop y w)) (q ∙ l) e

-- the words hold the labels of layer 0, at their front
pub room_front : {S : Shape} {t m : ℕ} {w : List ℕ} → m ≡ S.props → Room S t w → m ≤ length w
room_front {S} {t} {m} {w} e r = omega (arith, labels_in S.props, props_fit S 0 t (omega arith), r.fits)

ground_reads : (needs owners adders w wanted : List ℕ)
    → all_below (length adders) (λ p. within (label_in wanted p) (label_in w p))
    ≡ all_below (length adders) (λ p. within (label_in wanted p) (label_in (props_in (shape_of (domain (listed_actions needs owners adders))) w 0) p))
unfolding props_in domain listed_actions label_in
ground_reads needs owners adders w wanted =
    let n = length adders in
    let z : 0 * stride (listed_shape needs adders) ≡ 0 = omega arith in
    all_eq (λ p h. ap (within (get_or wanted p 0))
    (sym (get_or-take (size n) w p 0 (omega (arith, labels_in n))) ∙ ap (λ (x : ℕ). get_or (take (size n) (drop x w)) p 0) (sym z)))

-- at layer t the rest of the descent, with the words of the plan from t on, is the whole one
pub record Falling (needs owners adders words needed₀ plan₀ needed plan : List ℕ) (live t : ℕ) : Type 0 where
  pub tables : Tables needs owners adders
  pub room : Room (listed_shape needs adders) (length plan₀) words
  pub wide : length needed ≡ length adders
  pub live_in : Live live needed
  pub long : length plan ≡ length plan₀
  pub inside : t ≤ length plan₀
  pub is : descend (listed_actions needs owners adders) words (length plan₀) needed₀ [] ≡ descend (listed_actions needs owners adders) words t needed (drop t plan)

module _ {needs owners adders words needed₀ plan₀ : List ℕ} where
  pub fall_none : {live : ℕ} → Tables needs owners adders → Room (listed_shape needs adders) (length plan₀) words → length needed₀ ≡ length adders → Live live needed₀
      → Falling needs owners adders words needed₀ plan₀ needed₀ plan₀ live (length plan₀)
  fall_none t r w l = record {
    tables = t;
    room = r;
    wide = w;
    live_in = l;
    long = refl;
    inside = omega arith;
    is = ap (descend (listed_actions needs owners adders) words (length plan₀) needed₀) (none_left plan₀);
  }

  module _ {needed plan : List ℕ} {live t : ℕ} (f : Falling needs owners adders words needed₀ plan₀ needed plan live t) where
    module _ (u : ℕ) (s : t ≡ suc u) where
      step : (c : Covered) → c ≡ cover (listed_actions needs owners adders) (actions_in (shape_of (domain (listed_actions needs owners adders))) words u) needed
          → descend (listed_actions needs owners adders) words (length plan₀) needed₀ []
          ≡ on_cover c (λ marks below. descend (listed_actions needs owners adders) words u below (marks ∷ drop t plan)) (stuck (suc u))
      unfolding descend
      step c q =
          f.is ∙ ap (λ (x : ℕ). descend (listed_actions needs owners adders) words x needed (drop t plan)) s
          ∙ ap (λ (x : Covered). on_cover x (λ marks below. descend (listed_actions needs owners adders) words u below (marks ∷ drop t plan)) (stuck (suc u))) (sym q)

      -- one layer down
      pub fall_on : {r : Option Marked} {needed' : List ℕ} (layer : Marked)
          → Covers (listed_actions needs owners adders) (actions_in (shape_of (domain (listed_actions needs owners adders))) words u) needed r needed'
          → r ≡ Some layer → length needed' ≡ length needed
          → Falling needs owners adders words needed₀ plan₀ needed' (set plan u layer.marks) layer.live u
      unfolding on_cover
      fall_on {r} {needed'} layer k e l =
          let m = subst (λ (x : Option Marked). Covers (listed_actions needs owners adders) (actions_in (shape_of (domain (listed_actions needs owners adders)))
          words u) needed x needed') e k in
          record {
            tables = f.tables;
            room = f.room;
            wide = l ∙ f.wide;
            live_in = m.live;
            long = length-set plan u layer.marks ∙ f.long;
            inside = omega (arith, f.inside);
            is = step (covered layer.marks needed') m.is
                ∙ ap (descend (listed_actions needs owners adders) words u needed') (sym (stored plan u t layer.marks s (omega (arith, f.inside, f.long))));
          }

      -- states are left uncovered
      pub fall_off : {r : Option Marked} {needed' : List ℕ}
          → Covers (listed_actions needs owners adders) (actions_in (shape_of (domain (listed_actions needs owners adders))) words u) needed r needed'
          → r ≡ None → stuck (u + 1) ≡ descend (listed_actions needs owners adders) words (length plan₀) needed₀ []
      unfolding on_cover
      fall_off {r} {needed'} k e =
          let m = subst (λ (x : Option Marked). Covers (listed_actions needs owners adders) (actions_in (shape_of (domain (listed_actions needs owners adders)))
          words u) needed x needed') e k in
          sym (step uncovered m.is ∙ ap stuck (sym (add-one u)))

    -- at layer 0
    module _ (end : t ≤ 0) (r : Bool) (is : r ≡ all_below (length needed) (λ p. within (label_in needed p) (label_in words p))) where
      at_ground : descend (listed_actions needs owners adders) words (length plan₀) needed₀ [] ≡ choose r (planned plan) (stuck 0)
      unfolding descend ground listed_actions
      at_ground =
          let z : t ≡ 0 = omega arith in
          f.is ∙ ap (λ (x : ℕ). descend (listed_actions needs owners adders) words x needed (drop x plan)) z
          ∙ ap (λ (b : Bool). choose b (planned plan) (stuck 0))
          (sym (is ∙ ap (λ (x : ℕ). all_below x (λ p. within (label_in needed p) (label_in words p))) f.wide
          ∙ ground_reads needs owners adders words needed))

      pub fall_whole : r ≡ true → planned plan ≡ descend (listed_actions needs owners adders) words (length plan₀) needed₀ []
      unfolding choose
      fall_whole q = sym (at_ground ∙ ap (λ (b : Bool). choose b (planned plan) (stuck 0)) q)

      pub fall_stuck : r ≡ false → stuck 0 ≡ descend (listed_actions needs owners adders) words (length plan₀) needed₀ []
      unfolding choose
      fall_stuck q = sym (at_ground ∙ ap (λ (b : Bool). choose b (planned plan) (stuck 0)) q)
