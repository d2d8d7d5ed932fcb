-- What a run answers and writes, by the verdict of its rule.
-- Assumes nothing.
use Prim.Native.Nat.{ℕ}
use mathlib.Core.Path.{◌≡◌, sym, ap, ap₂, ◌∙◌}
use mathlib.Core.List.{List}
use lib.ListN.{length}
use Rattle.words.specs.Memory.{put_at}
use Rattle.std.specs.Prelude.{Result, IsErrAnd}
use Rattle.graph.specs.Verdict.{Verdict, accepted, refused, turned_away, and_then, laid}
use Rattle.graph.proofs.Verdicts.{laid_refused, laid_accepted, then_refused, handed_on}
use Rattle.graph.specs.declared.refusal.Refusal.{Refusal}
use Rattle.run.specs.declared.Ran.{Ran as Answer}
use Rattle.run.specs.Run.{Reported, reported, run_verdict}

-- turned away: no number, and nothing is written
pub reported_refused : (idle : ℕ) (v : Verdict (List ℕ)) (number place : ℕ) (w : List ℕ) → v ≡ refused number place
    → (refused number place ≡ reported idle v) × (w ≡ laid v w)
unfolding reported
reported_refused idle v number place w e = (sym (ap (reported idle) e), (laid_refused v number place w e).1)

-- accepted: the number of sets, which stand at the front, and of idle steps
pub reported_accepted : (idle : ℕ) (v : Verdict (List ℕ)) (ends w w' : List ℕ) (n k : ℕ) → v ≡ accepted ends → n ≡ length ends → k ≡ idle
    → w' ≡ put_at 0 ends w → (accepted (record { sets = n; idle = k }) ≡ reported idle v) × (w' ≡ laid v w)
unfolding reported
reported_accepted idle v ends w w' n k e l i q = (
  ap₂ (λ (x y : ℕ). accepted (report x y)) l i ∙ sym (ap (reported idle) e),
  (laid_accepted v ends w w' n e l q).1,
)
  where
    report : ℕ → ℕ → Reported
    report x y = record { sets = x; idle = y }

-- the answer and the memory by a rule and a number that are equal
pub same_report : {r : Verdict Reported} {w' : List ℕ} (w : List ℕ) {idle idle' : ℕ} {v v' : Verdict (List ℕ)} → idle ≡ idle' → v ≡ v'
    → (r ≡ reported idle v) × (w' ≡ laid v w) → (r ≡ reported idle' v') × (w' ≡ laid v' w)
same_report w i e h = (h.0 ∙ ap₂ reported i e, h.1 ∙ ap (λ (x : Verdict (List ℕ)). laid x w) e)

-- a chain of checks that ends at one that is refused, and what a run answers then: `?` hands on that refusal
pub stops : {X Y : Type 0} (v : Verdict X) (next : X → Verdict Y) (why : Refusal) → turned_away why ≡ v → turned_away why ≡ and_then v next
stops v next why e = sym (then_refused v next _ _ (sym e))

pub handed_back : (idle : ℕ) (v : Verdict (List ℕ)) (w : List ℕ) (r : Result Answer Refusal) (why : Refusal) → IsErrAnd r (λ x. x ≡ why) → turned_away why ≡ v
    → (run_verdict r ≡ reported idle v) × (w ≡ laid v w)
handed_back idle v w r why h e =
    let (answer, memory) = reported_refused idle v _ _ w (sym e) in
    (handed_on _ r why h ∙ answer, memory)
