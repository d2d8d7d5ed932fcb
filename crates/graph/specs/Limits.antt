-- The paper's limits that are no width of a set. Each has its number here and, in code, in `limits.rt`.
use Rattle.std.specs.Prelude.{ℕ}

-- 'A actions (0 to 32)'
abbrev pub max_actions : ℕ
max_actions = 32

-- request Three: 'the number of effects, 0 to 32'
abbrev pub max_effects : ℕ
max_effects = 32

-- 'V = E + P': the vertices of a layer at most
abbrev pub max_vertices : ℕ
max_vertices = 64

-- 'the depth (0 to 255)'
abbrev pub max_depth : ℕ
max_depth = 255

-- the words of a layer of so many vertices: no layer has more
abbrev pub max_layer : ℕ
max_layer = 2080
