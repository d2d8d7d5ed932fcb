-- What `levels` prints, byte for byte, in ASCII.
use Rattle.std.specs.Prelude.{ℕ, List, [], ◌∷◌, ◌++◌}
use Rattle.rules.specs.Word.{single, first}
use Rattle.rules.specs.Lists.{run_over}
use Rattle.rules.specs.Level.{Level, level, never, not_by_depth, level_of, Rest, rests_at, none, rest_of}
use Rattle.rules.specs.declared.Shape.{Shape}
use Rattle.graph.specs.Verdict.{Verdict, accepted, refused, and_then}
use Rattle.graph.specs.Format.{shape_in}
use Rattle.graph.specs.File.{file_rule}
use Rattle.graph.specs.Checks.{output_rule}
use Rattle.graph.specs.Build.{graph_of}
use Rattle.graph.specs.declared.format.Counts.{Counts}
use Rattle.report.specs.Depth.{depth_for}
use Rattle.report.specs.Decimal.{decimal}

-- 'rest (`?` if none)'
abbrev pub rest_text : Rest → List ℕ
rest_text (rests_at t) = decimal t
rest_text none = 63 ∷ []

-- 'level (`-` never, `?` not by depth)'
abbrev pub level_text : Level → List ℕ
level_text (level t) = decimal t
level_text never = 45 ∷ []
level_text not_by_depth = 63 ∷ []

-- a space and the level
abbrev pub cell_text : Level → List ℕ
cell_text l = 32 ∷ level_text l

-- that of each of n propositions
unfoldable pub cells_text : ℕ → (ℕ → Level) → List ℕ
cells_text n f = run_over n (λ p. cell_text (f p))

-- what follows the name of a line: ':', the levels, the line's end
unfoldable pub line_text : ℕ → (ℕ → Level) → List ℕ
line_text n f = 58 ∷ (cells_text n f ++ (10 ∷ []))

-- 'depth and rest': "depth ", the depth, " rest ", the rest
unfoldable pub head_text : ℕ → Rest → List ℕ
head_text depth rest =
    (100 ∷ 101 ∷ 112 ∷ 116 ∷ 104 ∷ 32 ∷ []) ++ (decimal depth ++ ((32 ∷ 114 ∷ 101 ∷ 115 ∷ 116 ∷ 32 ∷ []) ++ (rest_text rest ++ (10 ∷ []))))

-- 'per state its number and each proposition's level'
unfoldable pub state_text : Shape → ℕ → List ℕ → ℕ → List ℕ
state_text S depth words s = decimal s ++ line_text S.props (λ p. level_of S depth (single s) (single p) words)

-- 'then the same for all states': "all"
unfoldable pub all_text : Shape → ℕ → ℕ → List ℕ → List ℕ
all_text S states depth words = (97 ∷ 108 ∷ 108 ∷ []) ++ line_text S.props (λ p. level_of S depth (first states) (single p) words)

-- the whole text, of the graph words of so many states
unfoldable pub graph_text : Shape → ℕ → ℕ → List ℕ → List ℕ
graph_text S states depth words =
    head_text depth (rest_of S depth words) ++ (run_over states (state_text S depth words) ++ all_text S states depth words)

-- 'A refused file prints one line, `refused`, number and place with single spaces'
unfoldable pub refused_text : ℕ → ℕ → List ℕ
refused_text number place =
    (114 ∷ 101 ∷ 102 ∷ 117 ∷ 115 ∷ 101 ∷ 100 ∷ 32 ∷ []) ++ (decimal number ++ ((32 ∷ []) ++ (decimal place ++ (10 ∷ []))))

-- '8,192 words'
abbrev pub levels_room : ℕ
levels_room = 8192

-- a file that is taken is built to 'the greatest depth up to 255 that fits' them
unfoldable pub taken_text : List ℕ → Counts → List ℕ
taken_text file c =
    let depth : ℕ = depth_for (shape_in c) levels_room in
    graph_text (shape_in c) c.states depth (graph_of file c depth)

unfoldable pub verdict_text : List ℕ → Verdict Counts → List ℕ
verdict_text file (accepted c) = taken_text file c
verdict_text file (refused number place) = refused_text number place

-- 'The program `levels` reads the file .. and prints'
unfoldable pub levels_text : List ℕ → List ℕ
levels_text file = verdict_text file (file_rule file)

-- no first line is longer
abbrev pub head_room : ℕ
head_room = 19

-- no text is longer: a first line of 19 bytes, 64 lines of 132 and one of 133
abbrev pub text_room : ℕ
text_room = 8600

-- 10, or the text: any file has one
unfoldable pub text_rule : List ℕ → ℕ → Verdict (List ℕ)
text_rule file room = and_then (output_rule text_room room) (λ _. accepted (levels_text file))
