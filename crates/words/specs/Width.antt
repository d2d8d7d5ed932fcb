-- How much a set has room for. Nothing else knows the numbers.
use Rattle.std.specs.Prelude.{ℕ}

-- 'A set of propositions is 4 bytes'
abbrev pub prop_width : ℕ
prop_width = 32

-- 'A set of start states is a 64-bit word'
abbrev pub state_width : ℕ
state_width = 64

-- any other word as a set: of vertices, or of the rows of a table
abbrev pub word_width : ℕ
word_width = 64
