-- The greatest depth that fits so many words.
use Rattle.std.specs.Prelude.{ℕ, zero, suc, Bool, List}
use Rattle.rules.specs.Test.{fails, below, choose}
use Rattle.rules.specs.Layer.{word_count}
use Rattle.rules.specs.declared.Shape.{Shape}
use Rattle.graph.specs.Verdict.{Verdict, accepted, and_then}
use Rattle.graph.specs.Limits.{max_depth}
use Rattle.graph.specs.Format.{shape_in}
use Rattle.graph.specs.File.{file_rule}
use Rattle.graph.specs.Checks.{memory_rule}
use Rattle.graph.specs.declared.format.Counts.{Counts}

-- the greatest number up to n at which the test holds, and 0 where it holds at none of them
unfoldable pub greatest_with : ℕ → (ℕ → Bool) → ℕ
greatest_with zero f = zero
greatest_with (suc n) f = choose (f (suc n)) (suc n) (greatest_with n f)

-- the graph of depth k takes no more than so many words
unfoldable pub fits : Shape → ℕ → ℕ → Bool
fits S room k = fails (below room (word_count S k))

-- 'the greatest depth up to 255 that fits' so many words
unfoldable pub depth_for : Shape → ℕ → ℕ
depth_for S room = greatest_with max_depth (fits S room)

-- the file being taken: 9, with the words of depth 0, where not even these fit
unfoldable pub fitting_taken : Counts → ℕ → Verdict ℕ
fitting_taken c room = and_then (memory_rule (word_count (shape_in c) 0) room) (λ _. accepted (depth_for (shape_in c) room))

-- the file's causes and 9, or the depth
unfoldable pub fitting_rule : List ℕ → ℕ → Verdict ℕ
fitting_rule file room = and_then (file_rule file) (λ c. fitting_taken c room)
