-- Text written into lent memory.
use Rattle.std.specs.Prelude.{ℕ, ◌+◌, ◌≤◌, ◌≡◌, List, length}
use Rattle.words.specs.Memory.{put_at}
use Rattle.report.specs.declared.writer.Writer.{Writer}

-- the memory w becomes w' as the text is written from `at` up to `end`
pub record Wrote (w : List ℕ) (at : ℕ) (text w' : List ℕ) (end : ℕ) : Type 0 where
  pub is : w' ≡ put_at at text w
  pub ends : end ≡ at + length text
  pub fits : end ≤ length w

-- there is room for the text behind what is written
pub record Fits (w : Writer) (text : List ℕ) : Type 0 where
  pub room : w.end + length text ≤ length w.out.now

-- the writer has added the text, in the same memory
pub record Adds (w : Writer) (text : List ℕ) (w' : Writer) : Type 0 where
  pub wrote : Wrote w.out.now w.end text w'.out.now w'.end
  pub same : w'.out.ghost_name ≡ w.out.ghost_name
