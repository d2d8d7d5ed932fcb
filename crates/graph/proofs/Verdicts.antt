-- What a call's verdict comes to, stage by stage: the answer and the memory together.
-- Assumes nothing.
use Prim.Native.Nat.{ℕ}
use mathlib.Core.Path.{◌≡◌, refl, sym, ap, ◌∙◌}
use mathlib.Core.Bool.{Bool, true, false, So}
use mathlib.Core.List.{List, ◌++◌}
use native.Mathlib.Nat.{zero-add}
use native.Mathlib.Omega.{arith}
use lib.ListN.{length, drop}
use Rattle.rules.specs.Test.{fails, choose}
use Rattle.std.specs.Prelude.{Result, IsErrAnd}
use Rattle.std.proofs.lemmas.Result.{err_from_is_err_and}
use Rattle.graph.specs.Verdict.{Verdict, accepted, refused, turned_away, verdict, verdict_by, and_then, laid, written}
use Rattle.graph.specs.declared.refusal.Refusal.{Refusal}
use Rattle.words.specs.Memory.{put_at}

-- an answer in hand, which is known to be j, says what j says
pub told : {K X : Type 0} (says : K → X) {k j : K} {v : X} → says k ≡ v → k ≡ j → v ≡ says j
told says e q = sym e ∙ ap says q

-- a check that is refused ends the chain; one that is passed leaves the rest
pub then_refused : {X Y : Type 0} (v : Verdict X) (next : X → Verdict Y) (number place : ℕ) → v ≡ refused number place → and_then v next ≡ refused number place
unfolding and_then
then_refused v next number place e = ap (λ (x : Verdict _). and_then x next) e

pub then_accepted : {X Y : Type 0} (v : Verdict X) (next : X → Verdict Y) (x : X) → v ≡ accepted x → and_then v next ≡ next x
unfolding and_then
then_accepted v next x e = ap (λ (y : Verdict _). and_then y next) e

-- what `?` hands on where a check is refused is that refusal
pub handed_on : {X Y : Type 0} (says : X → Y) (r : Result X Refusal) (why : Refusal) → IsErrAnd r (λ w. w ≡ why) → verdict_by says r ≡ turned_away why
handed_on says r why h = let e = err_from_is_err_and r h in ap (verdict_by says) e.1 ∙ ap turned_away e.2

-- a chain of checks ends at one that is refused, and goes on behind one that is passed
pub stops : {X Y : Type 0} (why : Refusal) (v : Verdict Y) (next : Y → Verdict X) → turned_away why ≡ v → turned_away why ≡ and_then v next
stops why v next e = sym (then_refused v next _ _ (sym e))

-- so it ends at a `?` that is refused
pub ends_at : {X Y Z : Type 0} (says : X → Y) (r : Result X Refusal) (why : Refusal) (v : Verdict Z) (next : Z → Verdict Y) → IsErrAnd r (λ w. w ≡ why) → turned_away why ≡ v
    → verdict_by says r ≡ and_then v next
ends_at says r why v next h e = handed_on says r why h ∙ stops why v next e

pub goes_on : {X Y : Type 0} {w : Verdict X} (v : Verdict Y) (next : Y → Verdict X) (y : Y) → accepted y ≡ v → w ≡ next y → w ≡ and_then v next
goes_on v next y e q = q ∙ sym (then_accepted v next y (sym e))

-- a check that was passed
module _ {X : Type 0} (b : Bool) (n p : ℕ) (v : Verdict X) (x : X) where
  pub passed_if_not : choose b (refused n p) v ≡ accepted x → So (fails b) × (v ≡ accepted x)
  unfolding choose fails
  passed_if_not e = go b e
    where
      go : (b : Bool) → choose b (refused n p) v ≡ accepted x → So (fails b) × (v ≡ accepted x)
      go true e = (cc, cc)
      go false e = (refl, e)

  pub passed_if : choose b v (refused n p) ≡ accepted x → So b × (v ≡ accepted x)
  unfolding choose
  passed_if e = go b e
    where
      go : (b : Bool) → choose b v (refused n p) ≡ accepted x → So b × (v ≡ accepted x)
      go true e = (refl, e)
      go false e = (cc, cc)

-- a chain of checks was passed one by one
pub passed_then : {X Y : Type 0} (v : Verdict X) (next : X → Verdict Y) (y : Y) → and_then v next ≡ accepted y
    → (x : X) × (v ≡ accepted x) × (next x ≡ accepted y)
unfolding and_then
passed_then (accepted x) next y e = (x, refl, e)
passed_then (refused number place) next y e = absurd (let z : ◌≡◌ {A = ℕ} 0 1 = cc in omega arith)

pub accepted_is : {X : Type 0} (x y : X) → accepted x ≡ accepted y → x ≡ y
accepted_is x y e = cc

-- turned away: the number and the place, and no word changes
pub laid_refused : (v : Verdict (List ℕ)) (number place : ℕ) (w : List ℕ) → v ≡ refused number place → (refused number place ≡ written v) × (w ≡ laid v w)
unfolding laid written
laid_refused v number place w e = (sym (ap written e), sym (ap (λ (x : Verdict (List ℕ)). laid x w) e))

-- so where `?` hands the refusal on
pub laid_away : (r : Result ℕ Refusal) (why : Refusal) (v : Verdict (List ℕ)) (w : List ℕ) → IsErrAnd r (λ x. x ≡ why) → turned_away why ≡ v
    → (verdict r ≡ written v) × (w ≡ laid v w)
laid_away r why v w h e = let q = laid_refused v _ _ w (sym e) in (handed_on (λ x. x) r why h ∙ q.0, q.1)

-- accepted: the number of words, which stand at the front
pub laid_accepted : (v : Verdict (List ℕ)) (words w w' : List ℕ) (n : ℕ) → v ≡ accepted words → n ≡ length words → w' ≡ put_at 0 words w
    → (accepted n ≡ written v) × (w' ≡ laid v w)
unfolding laid written put_at
laid_accepted v words w w' n e l q = (
  ap accepted l ∙ sym (ap written e),
  q ∙ ap (λ (x : ℕ). words ++ drop x w) (zero-add (length words)) ∙ sym (ap (λ (x : Verdict (List ℕ)). laid x w) e),
)

-- the answer and the memory by a rule that is equal
pub same_rule : {r : Verdict ℕ} {w' : List ℕ} (w : List ℕ) (v v' : Verdict (List ℕ)) → v ≡ v' → (r ≡ written v) × (w' ≡ laid v w)
    → (r ≡ written v') × (w' ≡ laid v' w)
same_rule {r} {w'} w v v' e h = (h.0 ∙ ap written e, h.1 ∙ ap (λ (x : Verdict (List ℕ)). laid x w) e)
