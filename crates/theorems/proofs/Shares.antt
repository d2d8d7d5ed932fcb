-- Enough of the weight: what cause 18 turns away, which states count, the whole share, larger shares, and the bound.
-- Assumes nothing.
use mathlib.Core.Path.{◌≡◌, refl, sym, ap, ◌∙◌}
use mathlib.Core.Bool.{Bool, So}
use mathlib.Core.Logic.{◌⊎◌, inl, inr, ⊎_elim}
use mathlib.Core.List.{List}
use Prim.Native.Nat.{ℕ, suc, ◌*◌, ◌^◌, ◌≤◌, ◌<◌}
use native.Mathlib.Nat.{mul-le-mul, mul-le-mul_right}
use native.Mathlib.Omega.{arith}
use lib.Pow.{pow_mono}
use lib.ListN.{length, get_or}
use Rattle.rules.specs.Test.{◌or◌, fails, same, below}
use Rattle.rules.specs.Word.{bit, first}
use Rattle.rules.specs.Over.{any_below}
use Rattle.rules.specs.Domain.{domain}
use Rattle.rules.specs.Layer.{props_in}
use Rattle.rules.specs.Own.{admits, own_props}
use Rattle.rules.specs.Level.{first_met, first_rest, Level, level, never, not_by_depth, level_of}
use Rattle.rules.specs.Share.{Share, weight_of, total, holders, enough, first_enough, share_level}
use Rattle.rules.proofs.Tests.{choose_held, choose_failed, or_left, or_right, or_at, fails_of, fails_at, holds_or, same_of, same_at, same_not, below_at}
use Rattle.rules.proofs.Tests.{below_fails}
use Rattle.rules.proofs.Words.{bit_below, first_lt, within_of}
use Rattle.rules.proofs.Overs.{all_of_lem, all_at, any_of, any_at}
use Rattle.rules.proofs.Firsts.{first_at, first_before, first_unique, first_to}
use Rattle.rules.proofs.Levels.{SaysBy, by_says, level_by_lem, never_by, not_by, answer_says}
use Rattle.rules.proofs.Shares.{weight_le, total_fits, enough_of, enough_at, enough_mono, holders_few, holders_agree, whole_level, enough_later}
use Rattle.rules.proofs.Claims.{level_admits}
use Rattle.graph.specs.Limits.{max_depth}
use Rattle.graph.specs.Verdict.{Verdict, accepted, refused, and_then}
use Rattle.graph.specs.Format.{actions_of, start_of, domain_of, shape_in}
use Rattle.graph.specs.File.{file_rule}
use Rattle.graph.specs.Checks.{depth_rule, goal_rule, memory_rule, asked_rule, graph_rule}
use Rattle.graph.specs.declared.format.Counts.{Counts}
use Rattle.graph.proofs.Links.{deep_enough, some_states, fit_goal}
use Rattle.graph.proofs.Ladder.{taken_means, depth_means, goal_means, graph_of_lem}
use Rattle.graph.proofs.Verdicts.{then_accepted, then_refused, passed_if_not, passed_then, accepted_is}
use Rattle.level.specs.Rule.{level_taken, level_rule}
use Rattle.share.specs.Rule.{all_zero, weights_rule, wanted_rule, share_taken, share_rule}
use Rattle.theorems.specs.Setting.{Exactly, Found, StatesOf, GoalOf, Reaches, Weighted, Numbers, holding, Holds, FirstShare}
use Rattle.theorems.proofs.Founds.{built, deep, fits, level_answer, level_says_lem}
use Rattle.theorems.proofs.Pairs.{link, taken_not, unless, only_if}
use Rattle.theorems.proofs.Bounds.{level_bound, never_bound, depth_bound}

-- ---- cause 18

module _ (c : Counts) (share : Share) where
  -- what turns it away
  abbrev wrong : Bool
  wrong =
      fails (same (length share.weights) c.states) or all_zero share.weights or same share.denominator 0
      or below share.denominator share.numerator

  right_at : So (fails wrong) → Weighted c share
  unfolding all_zero
  right_at f =
      let long : length share.weights ≡ c.states = ⊎_elim same_at (λ t. absurd (fails_at f (or_left _ t))) (holds_or _) in
      let (s, l, b) = ⊎_elim any_at
      (λ t. absurd (fails_at f (or_right _ (or_left _ (all_of_lem (λ s l. ⊎_elim (λ z. z) (λ z. absurd (fails_at t (any_of weighs l z))) (holds_or _)))))))
      (holds_or (any_below (length share.weights) weighs)) in
      record {
        long = long;
        state = s;
        one = omega arith;
        weighs = λ e. fails_at b (same_of e);
        some = λ e. fails_at f (or_right _ (or_right _ (or_left _ (same_of e))));
        proper = below_fails (fails_of (λ t. fails_at f (or_right _ (or_right _ (or_right _ t)))));
      }
    where
      weighs : ℕ → Bool
      weighs s = fails (same (get_or share.weights s 0) 0)

  right_of : Weighted c share → So (fails wrong)
  unfolding all_zero
  right_of w = fails_of (λ t. ⊎_elim
      (λ a. fails_at a (same_of w.long))
      (λ t. ⊎_elim
      (λ a. w.weighs (same_at (all_at _ a (omega (arith, w.one, w.long)))))
      (λ t. ⊎_elim (λ a. w.some (same_at a)) (λ a. omega (arith, below_at a, w.proper)) (or_at t))
      (or_at t))
      (or_at t))

  pub right : Weighted c share → weights_rule c.states share ≡ accepted tt
  unfolding weights_rule
  right w = choose_failed _ _ (right_of w)

  pub share_exactly : Exactly (weights_rule c.states share ≡ accepted tt) (Weighted c share)
  unfolding weights_rule
  share_exactly = (λ e. right_at (passed_if_not _ _ _ _ _ e).0, right)

  not_right : (Weighted c share → ⊥) → weights_rule c.states share ≡ refused 18 0
  unfolding weights_rule
  not_right n = ⊎_elim (λ t. choose_held _ t) (λ f. absurd (n (right_at f))) (holds_or wrong)

-- no other check answers it
module _ {place : ℕ} where
  depth_not : (depth : ℕ) → depth_rule depth ≡ refused 18 place → ⊥
  unfolding depth_rule
  depth_not depth e = ⊎_elim (λ h. omega (arith, h)) (λ h. taken_not _ h) (unless _ _ _ _ e)

  goal_not : (props goal : ℕ) → goal_rule props goal ≡ refused 18 place → ⊥
  unfolding goal_rule
  goal_not props goal e = ⊎_elim (λ h. omega (arith, h)) (λ h. taken_not _ h) (only_if _ _ _ _ e)

  memory_not : (wanted have : ℕ) → memory_rule wanted have ≡ refused 18 place → ⊥
  unfolding memory_rule
  memory_not wanted have e = ⊎_elim (λ h. omega (arith, h)) (λ h. taken_not _ h) (unless _ _ _ _ e)

-- a check behind which there is none more
then_none : (v : Verdict (Unit {0})) → and_then v (λ _. accepted tt) ≡ v
unfolding and_then
then_none (accepted x) = refl
then_none (refused number place) = refl

module _ (file : List ℕ) (c : Counts) (taken : file_rule file ≡ accepted c) (depth goal : ℕ) (words : List ℕ) where
  -- what comes before cause 18, and cause 18
  abbrev Answers18 : Share → ℕ → Type 0
  Answers18 share place = (depth ≤ max_depth) × GoalOf c goal × (Weighted c share → ⊥) × (place ≡ 0)

  checked : (share : Share) → share_rule file depth goal share words ≡ share_taken c depth goal share words
  unfolding share_rule
  checked share = then_accepted _ _ c taken

  pub refused_exactly : (share : Share) (place : ℕ) → Exactly (share_rule file depth goal share words ≡ refused 18 place) (Answers18 share place)
  unfolding share_taken graph_rule wanted_rule
  refused_exactly share place = (
    λ e. ⊎_elim graph (λ (u, a, q). absurd (taken_not _ q)) (link _ _ (sym (checked share) ∙ e)),
    λ (d, g, n, z).
        checked share
        ∙ then_refused _ _ 18 place (then_accepted _ _ tt (sym (deep_enough depth d)) ∙ then_refused _ _ 18 place
        (then_accepted _ _ tt (sym (fit_goal c.props goal g)) ∙ not_right c share n ∙ ap (refused 18) (sym z))),
  )
    where
      weights : depth ≤ max_depth → GoalOf c goal → weights_rule c.states share ≡ refused 18 place → Answers18 share place
      weights d g q =
          let n : Weighted c share → ⊥ = λ w. taken_not _ (sym (right c share w) ∙ q) in
          let r : refused 18 0 ≡ refused 18 place = sym (not_right c share n) ∙ q in
          (d, g, n, cc)

      wanted : depth ≤ max_depth → wanted_rule c goal share ≡ refused 18 place → Answers18 share place
      wanted d e = ⊎_elim (λ q. absurd (goal_not _ _ q)) (λ (u, g, q). weights d (goal_means c.props goal g) q) (link _ _ e)

      graph : graph_rule c depth (wanted_rule c goal share) (length words) ≡ refused 18 place → Answers18 share place
      graph e = ⊎_elim
          (λ q. absurd (depth_not _ q))
          (λ (u, d, e₁). ⊎_elim (wanted (depth_means depth d)) (λ (v, a, q). absurd (memory_not _ _ q)) (link _ _ e₁))
          (link _ _ e)

  -- what turns the call away once the share is right: no more than the depth, the goal and the words
  abbrev gate : Verdict (Unit {0})
  gate = graph_rule c depth (goal_rule c.props goal) (length words)

  module _ (share : Share) (w : Weighted c share) where
    wanted_is : wanted_rule c goal share ≡ goal_rule c.props goal
    unfolding wanted_rule
    wanted_is = ap (λ (v : Verdict (Unit {0})). and_then (goal_rule c.props goal) (λ _. v)) (right c share w) ∙ then_none _

    pub share_gated : share_rule file depth goal share words ≡ and_then gate (λ _. accepted (share_level (shape_in c) depth share goal words))
    unfolding share_taken
    share_gated =
        checked share
        ∙ ap (λ (v : Verdict (Unit {0})). and_then (graph_rule c depth v (length words)) (λ _. accepted (share_level (shape_in c) depth share goal words)))
        wanted_is

    -- an answer, and what it says
    said : {a : Level} → share_rule file depth goal share words ≡ accepted a
        → (gate ≡ accepted tt) × SaysBy (shape_in c) depth words (first_enough (shape_in c) depth share goal words) a
    unfolding share_level
    said {a} e = let (u, g, q) = passed_then _ _ a (sym share_gated ∙ e) in (g, by_says _ _ _ _ (accepted_is _ _ q))

    answered : gate ≡ accepted tt → share_rule file depth goal share words ≡ accepted (share_level (shape_in c) depth share goal words)
    answered g = share_gated ∙ then_accepted _ _ tt g

  -- ---- the whole share

  all_states : StatesOf c (first c.states)
  all_states = record {
    some = λ e. omega (arith, pow_mono (taken_means file c taken).ranged.some_states);
    few = first_lt c.states;
  }

  level_gated : level_rule file depth (first c.states) goal words ≡ and_then gate (λ _. accepted (level_of (shape_in c) depth (first c.states) goal words))
  unfolding level_rule level_taken asked_rule
  level_gated =
      then_accepted _ _ c taken
      ∙ ap (λ (v : Verdict (Unit {0})).
      and_then (graph_rule c depth v (length words)) (λ _. accepted (level_of (shape_in c) depth (first c.states) goal words)))
      (then_accepted _ _ tt (sym (some_states c.states (first c.states) (same_not all_states.some) all_states.few)))

  pub one_is_level : (share : Share) → Weighted c share → share.numerator ≡ share.denominator
      → ((s : ℕ) → s < c.states → get_or share.weights s 0 ≡ 0 → ⊥)
      → share_rule file depth goal share words ≡ level_rule file depth (first c.states) goal words
  one_is_level share w whole each =
      share_gated share w
      ∙ ap (λ (a : Level). and_then gate (λ _. accepted a))
      (whole_level (shape_in c) depth goal words share whole w.some (λ s h. each s (omega (arith, w.long)))
      ∙ ap (λ (n : ℕ). level_of (shape_in c) depth (first n) goal words) w.long)
      ∙ sym level_gated

  -- ---- a larger share

  module _ (share share' : Share) (w : Weighted c share) (w' : Weighted c share') (alike : share.weights ≡ share'.weights)
      (less : share.numerator * share'.denominator ≤ share'.numerator * share.denominator) where
    later : first_enough (shape_in c) depth share goal words ≤ first_enough (shape_in c) depth share' goal words
    later = enough_later (shape_in c) depth goal words share share' alike w'.some less

    pub larger_level : (t' : ℕ) → share_rule file depth goal share' words ≡ accepted (level t')
        → (t : ℕ) × (share_rule file depth goal share words ≡ accepted (level t)) × (t ≤ t')
    unfolding share_level
    larger_level t' e =
        let (g, (l, q)) = said share' w' e in (
          first_enough (shape_in c) depth share goal words,
          answered share w g ∙ ap accepted (level_by_lem _ _ _ _ (omega (arith, later))),
          omega (arith, later),
        )

    pub larger_never : share_rule file depth goal share words ≡ accepted never → share_rule file depth goal share' words ≡ accepted never
    unfolding share_level
    larger_never e = let (g, (l, r)) = said share w e in answered share' w' g ∙ ap accepted (never_by _ _ _ _ (omega (arith, later)) r)

    pub larger_not_by_depth : share_rule file depth goal share words ≡ accepted not_by_depth → share_rule file depth goal share' words ≡ accepted not_by_depth
    unfolding share_level
    larger_not_by_depth e = let (g, (l, r)) = said share w e in answered share' w' g ∙ ap accepted (not_by _ _ _ _ (omega (arith, later)) r)

-- ---- the numbers

module _ (file : List ℕ) (c : Counts) (taken : file_rule file ≡ accepted c) (share : Share) (w : Weighted c share) (n : Numbers share) where
  total_small : total share.weights ≤ 4194240
  total_small = total_fits share.weights {n = 64} {m = 65535} (omega (arith, w.long, (taken_means file c taken).ranged.states)) n.weights

  pub fits_words : (set : ℕ) → (weight_of share.weights set * share.denominator < 2 ^ 38) × (total share.weights * share.numerator < 2 ^ 38)
  fits_words set = (
    omega (arith, mul-le-mul (weight_le share.weights set) n.denominator, mul-le-mul_right 65535 total_small),
    omega (arith, mul-le-mul total_small n.numerator),
  )

-- ---- built words

-- none but the file's states count, on any words
pub none_else : (c : Counts) (words : List ℕ) (goal t s : ℕ) → So (bit s (holding c words goal t)) → s < c.states
none_else c words goal t s b = bit_below (holders_few c.props c.states (props_in (shape_in c) words t) goal) b

module _ {file : List ℕ} {c : Counts} {depth : ℕ} {found : List ℕ} (f : Found file c depth found) where
  pub counts : (goal t : ℕ) → t ≤ depth → (s : ℕ) → s < c.states → Exactly (So (bit s (holding c found goal t))) (Holds file c goal t s)
  unfolding domain actions_of
  counts goal t h s l =
      let e : bit s (holding c found goal t) ≡ admits c.props (own_props (domain_of file c) (start_of file c s) t) goal =
      holders_agree (domain_of file c) c.states (start_of file c) depth found (built f) goal h l in
      (λ b. sym e ∙ b, λ b. e ∙ b)

  module _ {goal : ℕ} (over : GoalOf c goal) {share : Share} (w : Weighted c share) where
    pub share_answer : share_rule file depth goal share found ≡ accepted (share_level (shape_in c) depth share goal found)
    share_answer =
        answered file c f.taken depth goal found share w
        (graph_of_lem c depth _ (length found) (record { deep = deep f; fine = sym (fit_goal c.props goal over); fits = fits f }))

    -- the first layer that is enough
    abbrev sought : ℕ
    sought = first_enough (shape_in c) depth share goal found

    says : {a : Level} → share_rule file depth goal share found ≡ accepted a → SaysBy (shape_in c) depth found sought a
    says e = (said file c f.taken depth goal found share w e).1

    -- that t is enough, as the search asks it
    abbrev test : ℕ → Bool
    test t = enough share (holders c.props (first (length share.weights)) (props_in (shape_in c) found t) goal)

    test_is : (t : ℕ) → test t ≡ enough share (holding c found goal t)
    test_is t = ap (λ (n : ℕ). enough share (holders c.props (first n) (props_in (shape_in c) found t) goal)) w.long

    pub first_exactly : (t : ℕ) → Exactly (share_rule file depth goal share found ≡ accepted (level t)) ((t ≤ depth) × FirstShare c share found goal t)
    unfolding first_enough share_level
    first_exactly t = (
      λ e.
          let (l, q) = says e in
          let at : So (test t) = rw q (first_at (suc depth) test (omega arith)) in (
            l,
            record {
              there = enough_at share _ (sym (test_is t) ∙ at);
              before = λ u h. short u (λ b. first_before (suc depth) test u (omega arith) b);
            },
          ),
      λ (l, r).
          let q : t ≡ sought = first_unique (omega arith)
          (λ u h b. let o = enough_at share _ (sym (test_is u) ∙ b) in omega (arith, r.before u h))
          (λ h. test_is t ∙ enough_of share _ r.there) in
          share_answer ∙ ap accepted (level_by_lem _ _ _ _ (omega arith) ∙ ap level (sym q)),
    )
      where
        short : (u : ℕ) → (So (test u) → ⊥)
            → weight_of share.weights (holding c found goal u) * share.denominator < total share.weights * share.numerator
        short u n =
            let m : total share.weights * share.numerator ≤ weight_of share.weights (holding c found goal u) * share.denominator → ⊥ =
            λ h. n (test_is u ∙ enough_of share _ h) in
            omega arith

    module _ {set : ℕ} (some : StatesOf c set) where
      set_says : {a : Level} → level_rule file depth set goal found ≡ accepted a
          → SaysBy (shape_in c) depth found (first_met (shape_in c) depth set goal found) a
      unfolding domain actions_of
      set_says {a} e = answer_says (domain_of file c) depth set goal found (level_says_lem f set goal some over a e)

      pub as_level : ((t : ℕ) → share_rule file depth goal share found ≡ accepted (level t) → ⊥)
          → ((t : ℕ) → level_rule file depth set goal found ≡ accepted (level t) → ⊥)
          → share_rule file depth goal share found ≡ level_rule file depth set goal found
      as_level none none' = go _ _ share_answer (level_answer f set goal some over)
        where
          go : (a b : Level) → share_rule file depth goal share found ≡ accepted a → level_rule file depth set goal found ≡ accepted b
              → share_rule file depth goal share found ≡ level_rule file depth set goal found
          go (level t) b e e' = absurd (none t e)
          go never (level t) e e' = absurd (none' t e')
          go never never e e' = e ∙ sym e'
          go never not_by_depth e e' = absurd (omega (arith, (says e).1, (set_says e').1))
          go not_by_depth (level t) e e' = absurd (none' t e')
          go not_by_depth never e e' = absurd (omega (arith, (says e).1, (set_says e').1))
          go not_by_depth not_by_depth e e' = e ∙ sym e'

      -- ---- the bound

      module _ (heavy : So (enough share set)) {list : List ℕ} (r : Reaches file c set goal list) where
        -- where the set has the goal the share has it
        no_later : (t : ℕ) → level_rule file depth set goal found ≡ accepted (level t) → sought ≤ t
        unfolding first_enough domain actions_of
        no_later t e =
            let (l, all) = level_admits (domain_of file c) c.states (start_of file c) depth found (built f) goal some.few
            (level_says_lem f set goal some over _ e) in
            first_to (suc depth) test (test_is t ∙ enough_mono share set (holding c found goal t)
            (within_of (holding c found goal t) some.few (λ s h b. (counts goal t l s h).1 (all s h b))) heavy)

        -- there is a layer no later than the list is long, or the list is longer than the depth and the graph does not rest
        bound : ((sought ≤ depth) × (sought ≤ length list)) ⊎ ((depth < length list) × (depth ≤ first_rest (shape_in c) depth found))
        bound = go _ (level_answer f set goal some over)
          where
            go : (a : Level) → level_rule file depth set goal found ≡ accepted a
                → ((sought ≤ depth) × (sought ≤ length list)) ⊎ ((depth < length list) × (depth ≤ first_rest (shape_in c) depth found))
            go (level t) e =
                inl (omega (arith, no_later t e, (set_says e).0), omega (arith, no_later t e, level_bound f some over r t e))
            go never e = absurd (never_bound f some over r e)
            go not_by_depth e = inr (depth_bound f some over r e, (set_says e).1)

        pub share_bound : (t : ℕ) → share_rule file depth goal share found ≡ accepted (level t) → t ≤ length list
        share_bound t e = let (l, q) = says e in ⊎_elim (λ (a, b). omega arith) (λ (a, b). omega arith) bound

        pub share_never : share_rule file depth goal share found ≡ accepted never → ⊥
        share_never e = let (l, q) = says e in ⊎_elim (λ (a, b). omega arith) (λ (a, b). omega arith) bound

        pub share_depth : share_rule file depth goal share found ≡ accepted not_by_depth → depth < length list
        share_depth e = let (l, q) = says e in ⊎_elim (λ (a, b). omega arith) (λ (a, b). a) bound
