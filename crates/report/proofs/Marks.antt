-- Levels and rests as text: what the rest says, and how long each line is.
-- Assumes nothing.
use Prim.Native.Nat.{ℕ, suc, ◌+◌, ◌*◌, ◌^◌, ◌≤◌, ◌<◌}
use mathlib.Core.Path.{◌≡◌, refl}
use mathlib.Core.Bool.{Bool, true, false}
use mathlib.Core.List.{List, [], ◌∷◌, ◌++◌}
use native.Mathlib.Omega.{arith}
use native.Mathlib.Nat.{mul-le-mul}
use lib.ListN.{length, length-append}
use Rattle.rules.specs.Test.{below, choose}
use Rattle.rules.specs.Word.{single, first}
use Rattle.rules.specs.Lists.{run_over}
use Rattle.rules.specs.Level.{level, never, not_by_depth, first_met, first_rest, level_by, level_of, rests_at, none, rest_of}
use Rattle.rules.specs.declared.Shape.{Shape}
use Rattle.rules.proofs.Tests.{below_at, below_fails, is_fails}
use Rattle.words.specs.Width.{prop_width, state_width}
use Rattle.level.proofs.Answers.{met_le}
use Rattle.graph.specs.Limits.{max_depth}
use Rattle.report.specs.Decimal.{decimal}
use Rattle.report.specs.Text.{rest_text, cell_text, cells_text, line_text, head_text, state_text, all_text, graph_text, refused_text, head_room, text_room}
use Rattle.report.proofs.Texts.{decimal_length, runs_length}

module _ (S : Shape) (depth : ℕ) (words : List ℕ) where
  -- a rest at a layer says that the graph rests, and none that it does not
  pub rest_some : (t : ℕ) → rests_at t ≡ rest_of S depth words → first_rest S depth words < depth
  unfolding rest_of choose
  rest_some t e = go (below (first_rest S depth words) depth) refl e
    where
      go : (b : Bool) → below (first_rest S depth words) depth ≡ b → rests_at t ≡ choose b (rests_at (first_rest S depth words)) none
          → first_rest S depth words < depth
      go true q e = below_at q
      go false q e = absurd (let z : ◌≡◌ {A = ℕ} 0 1 = cc in omega arith)

  pub rest_none : none ≡ rest_of S depth words → depth ≤ first_rest S depth words
  unfolding rest_of choose
  rest_none e = go (below (first_rest S depth words) depth) refl e
    where
      go : (b : Bool) → below (first_rest S depth words) depth ≡ b → none ≡ choose b (rests_at (first_rest S depth words)) none
          → depth ≤ first_rest S depth words
      go true q e = absurd (let z : ◌≡◌ {A = ℕ} 0 1 = cc in omega arith)
      go false q e = below_fails (is_fails q)

  module _ (deep : depth ≤ max_depth) where
    -- how long the text of the rest, of a level and of each line is
    pub rest_short : length (rest_text (rest_of S depth words)) ≤ 3
    unfolding rest_of choose
    rest_short = go (below (first_rest S depth words) depth) (λ e. below_at e)
      where
        go : (b : Bool) → (b ≡ true → first_rest S depth words < depth) → length (rest_text (choose b (rests_at (first_rest S depth words)) none)) ≤ 3
        go true l = decimal_length 3 (first_rest S depth words) (omega (arith, l refl)) (omega arith)
        go false l = omega arith

    pub cell_short : (set goal : ℕ) → length (cell_text (level_of S depth set goal words)) ≤ 4
    unfolding level_by level_of choose
    cell_short set goal = go (below (first_met S depth set goal words) (suc depth)) (below (first_rest S depth words) depth)
      where
        go : (a b : Bool) → length (cell_text (choose a (level (first_met S depth set goal words)) (choose b never not_by_depth))) ≤ 4
        go true b = let l = met_le S depth set words goal in
            omega (arith, decimal_length 3 (first_met S depth set goal words) (omega arith) (omega arith))
        go false true = omega arith
        go false false = omega arith

    line_short : (set : ℕ) → length (line_text S.props (λ p. level_of S depth set (single p) words)) ≤ 2 + 4 * S.props
    unfolding line_text cells_text
    line_short set =
        let cell = λ (p : ℕ). cell_text (level_of S depth set (single p) words) in
        omega (arith, runs_length cell 4 S.props (λ p h. cell_short set (single p)), length-append (run_over S.props cell) (10 ∷ []))

    pub state_short : (s : ℕ) → s < 100 → length (state_text S depth words s) ≤ 4 + 4 * S.props
    unfolding state_text
    state_short s h =
        omega (
          arith,
          decimal_length 2 s h (omega arith),
          line_short (single s),
          length-append (decimal s) (line_text S.props (λ p. level_of S depth (single s) (single p) words)),
        )

    all_short : (states : ℕ) → length (all_text S states depth words) ≤ 5 + 4 * S.props
    unfolding all_text
    all_short states = omega (arith, line_short (first states))

    pub head_short : length (head_text depth (rest_of S depth words)) ≤ head_room
    unfolding head_text
    head_short =
        omega (
          arith,
          decimal_length 3 depth (omega arith) (omega arith),
          rest_short,
          length-append (decimal depth) ((32 ∷ 114 ∷ 101 ∷ 115 ∷ 116 ∷ 32 ∷ []) ++ (rest_text (rest_of S depth words) ++ (10 ∷ []))),
          length-append (rest_text (rest_of S depth words)) (10 ∷ []),
        )

    -- a state's line is at most 132 bytes
    line_most : S.props ≤ prop_width → 4 + 4 * S.props ≤ 132
    line_most h = omega arith

    -- no text of a graph is longer
    pub graph_short : (states : ℕ) → S.props ≤ prop_width → states ≤ state_width → length (graph_text S states depth words) ≤ text_room
    unfolding graph_text
    graph_short states h l =
        let lines : List ℕ = run_over states (state_text S depth words) in
        omega (
          arith,
          head_short,
          runs_length (state_text S depth words) (4 + 4 * S.props) states (λ s k. state_short s (omega arith)),
          mul-le-mul l (line_most h),
          all_short states,
          length-append (head_text depth (rest_of S depth words)) (lines ++ all_text S states depth words),
          length-append lines (all_text S states depth words),
        )

-- nor is the line of a refusal
pub refused_short : (number place : ℕ) → number < 2 ^ 64 → place < 2 ^ 64 → length (refused_text number place) ≤ text_room
unfolding refused_text
refused_short number place h l =
    omega (
      arith,
      decimal_length 20 number (omega (arith, h)) (omega arith),
      decimal_length 20 place (omega (arith, l)) (omega arith),
      length-append (decimal number) ((32 ∷ []) ++ (decimal place ++ (10 ∷ []))),
      length-append (decimal place) (10 ∷ []),
    )
