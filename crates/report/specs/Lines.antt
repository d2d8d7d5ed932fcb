-- The lines of the text, as the layers of a graph say them.
use Rattle.std.specs.Prelude.{ℕ, List}
use Rattle.rules.specs.Word.{single}
use Rattle.rules.specs.Level.{Level, level_of}
use Rattle.level.specs.declared.layers.Layers.{Layers}
use Rattle.report.specs.Text.{cells_text, line_text, state_text, all_text, graph_text}

-- the level of proposition p for a set of states
abbrev pub level_in : Layers → ℕ → ℕ → Level
level_in l set p = level_of l.shape l.depth set (single p) l.words.now

-- those of each proposition, and the line that they stand in
abbrev pub cells_of : Layers → ℕ → List ℕ
cells_of l set = cells_text l.shape.props (level_in l set)

abbrev pub line_of : Layers → ℕ → List ℕ
line_of l set = line_text l.shape.props (level_in l set)

-- the lines of state s and of all of so many states
abbrev pub state_of : Layers → ℕ → List ℕ
state_of l s = state_text l.shape l.depth l.words.now s

abbrev pub all_of : Layers → ℕ → List ℕ
all_of l states = all_text l.shape states l.depth l.words.now

-- the whole text
abbrev pub graph_text_of : Layers → ℕ → List ℕ
graph_text_of l states = graph_text l.shape states l.depth l.words.now
