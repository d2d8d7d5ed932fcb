-- The front is lent and comes back empty.
use mathlib.Core.Path.{◌≡◌, sym, ap, ap₂, ◌∙◌}
use mathlib.Core.List.{List, ◌++◌}
use Prim.Native.Nat.{ℕ, ◌+◌}
use native.Mathlib.Omega.{arith}
use borrow.Author.Rules.{rules}
use lib.ListN.{length, drop, replicate}
use lib.Seq.{length-take-le, take_all}
use Rattle.rules.specs.Lists.{list_over}
use Rattle.rules.proofs.Layers.{length_list_over}
use Rattle.words.specs.Memory.{put_at}
use Rattle.words.proofs.Zeros.{zeros}
use Rattle.together.proofs.few.clear.Goals as goal

pub returns : goal.returns
unfolding put_at
returns c =
    let n = c.args.count in
    let words = c.args.words.now in
    let long = length-take-le n words c.requires in
    let filled : c.fill.new.self ≡ replicate n 0 = c.fill.ensures.after (λ y e. search rules) ∙ ap (λ (k : ℕ). replicate k 0) long in
    let empty : c.fill.new.self ≡ list_over n (λ i. 0) =
    filled ∙ sym (take_all n (replicate n 0) (omega (arith, ap length filled, c.fill.ensures.len, long))) ∙ zeros n n (omega arith) in
    let here : n ≡ 0 + length (list_over n (λ i. 0)) = omega (arith, length_list_over n (λ i. 0)) in
    ap₂ (λ (l : List ℕ) (k : ℕ). l ++ drop k words) empty here
