-- 'bits closed up in order': all that have as far to go at once, or by moves: in move i the states that have 2 ^ i to go, of all they have to go, go down by so much.
use Rattle.std.specs.Prelude.{ℕ, ◌+◌, ◌-◌, ◌%◌, ◌^◌, ◌<◌, ◌≡◌, Bool, true, List, get_or}
use Rattle.rules.specs.Test.{◌and◌, same}
use Rattle.rules.specs.Word.{bit, single}
use Rattle.rules.specs.Over.{keep, join_over}
use Rattle.rules.specs.Lists.{list_over}
use Rattle.rules.specs.Extract.{rank, close_up}
use Rattle.words.specs.Width.{state_width}

-- how far state s has to go down: the number of states below it that are not in S
unfoldable pub gap : ℕ → ℕ → ℕ
gap set s = s - rank set s

-- the states of S that have so far to go
unfoldable pub going : ℕ → ℕ → ℕ
going set far = join_over state_width (λ s. keep (bit s set and same (gap set s) far) (single s))

-- what is prepared for a set of one or two runs
pub record RunsFor (set near low far high : ℕ) : Type 0 where
  pub near_in : near < state_width
  pub far_in : far < state_width
  pub low_is : low ≡ going set near
  pub high_is : high ≡ going set far

-- no state has 2 ^ 6 or more to go: the moves at most
abbrev pub most_moves : ℕ
most_moves = 6

-- where state s stands before move i
unfoldable pub place : ℕ → ℕ → ℕ → ℕ
place set i s = s - gap set s % 2 ^ i

-- of n states those of S that go down in move i, where they stand
unfoldable pub moving : ℕ → ℕ → ℕ → ℕ
moving n set i = join_over n (λ s. keep (bit s set and bit i (gap set s)) (single (place set i s)))

-- what is prepared for any other: the mask of each move
pub record MovesFor (set m0 m1 m2 m3 m4 m5 : ℕ) : Type 0 where
  pub mask0 : m0 ≡ moving state_width set 0
  pub mask1 : m1 ≡ moving state_width set 1
  pub mask2 : m2 ≡ moving state_width set 2
  pub mask3 : m3 ≡ moving state_width set 3
  pub mask4 : m4 ≡ moving state_width set 4
  pub mask5 : m5 ≡ moving state_width set 5

-- the word w cut to S, before move i
unfoldable pub closing : ℕ → ℕ → ℕ → ℕ → ℕ
closing n set w i = join_over n (λ s. keep (bit s set and bit s w) (single (place set i s)))

-- so many words from a place on, each cut to S and closed up
unfoldable pub cut_words : ℕ → List ℕ → ℕ → ℕ → List ℕ
cut_words set words at count = list_over count (λ i. close_up state_width set (get_or words (at + i) 0))

-- the words up to a place have been cut
abbrev pub CutUpTo : ℕ → List ℕ → List ℕ → ℕ → Type 0
CutUpTo set words out at = (j : ℕ) → j < at → get_or out j 0 ≡ close_up state_width set (get_or words j 0)

-- how many words are compared and copied at once
abbrev pub piece_words : ℕ
piece_words = 64

-- what it means that two pieces are found the same
abbrev pub SamePiece : List ℕ → ℕ → ℕ → Bool → Type 0
SamePiece words one other found = found ≡ true → (i : ℕ) → i < piece_words → get_or words (one + i) 0 ≡ get_or words (other + i) 0
