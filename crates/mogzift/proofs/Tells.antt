-- What was returned and told is what the call's verdict comes to, by the two ways that an answer goes.
-- Assumes nothing.
use Prim.Native.Nat.{ℕ}
use mathlib.Core.Path.{◌≡◌, ap, ◌∙◌}
use mathlib.Core.List.{List, [], ◌∷◌}
use Rattle.std.specs.Prelude.{Result, Ok, Err, IfOk, IfErr}
use Rattle.graph.specs.Verdict.{Verdict, number_of, place_of, verdict_by}
use Rattle.graph.specs.declared.refusal.Refusal.{Refusal}
use Rattle.mogzift.specs.Answer.{code_of, answer_of}

-- v is what the answer r says
pub tells : {X Y : Type 0} (said : X → Y) (says : Y → List ℕ) (r : Result X Refusal) {v : Verdict Y} {code : ℕ} {numbers : List ℕ} → verdict_by said r ≡ v
    → IfOk r (λ x. (code ≡ 0) × (numbers ≡ says (said x)))
    → IfErr r (λ why. (code ≡ number_of why) × (numbers ≡ 0 ∷ number_of why ∷ place_of why ∷ []))
    → (code ≡ code_of v) × (numbers ≡ answer_of says v)
unfolding code_of answer_of
tells said says (Ok x) e ok err = (ok.0 ∙ ap code_of e, ok.1 ∙ ap (answer_of says) e)
tells said says (Err why) e ok err = (err.0 ∙ ap code_of e, err.1 ∙ ap (answer_of says) e)

-- and of a call that writes, with the memory that it left
pub with_memory : {A B C : Type 0} → A × B → C → A × B × C
with_memory told memory = (told.0, told.1, memory)
