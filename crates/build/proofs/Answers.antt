-- What a build's verdict comes to: the answer, with the looks, and the memory together.
-- Assumes nothing.
use Prim.Native.Nat.{ℕ}
use mathlib.Core.Path.{◌≡◌, sym, ap, ap₂, ◌∙◌}
use mathlib.Core.List.{List}
use lib.ListN.{length}
use Rattle.std.specs.Prelude.{Result, IsErrAnd}
use Rattle.words.specs.Memory.{put_at}
use Rattle.graph.specs.Verdict.{Verdict, accepted, refused, turned_away, verdict_by, laid}
use Rattle.graph.specs.declared.refusal.Refusal.{Refusal}
use Rattle.build.specs.Rooms.{counted_words}
use Rattle.build.specs.declared.Built.{Built}
use Rattle.graph.specs.Build.{Counted, counted}
use Rattle.graph.proofs.Verdicts.{handed_on, laid_refused, laid_accepted}

pub count_refused : (looked : ℕ) (v : Verdict (List ℕ)) (number place : ℕ) (w : List ℕ) → v ≡ refused number place
    → (refused number place ≡ counted looked v) × (w ≡ laid v w)
unfolding counted
count_refused looked v number place w e = (sym (ap (counted looked) e), (laid_refused v number place w e).1)

-- where `?` hands the refusal on
pub count_away : (looked : ℕ) (r : Result Built Refusal) (why : Refusal) (v : Verdict (List ℕ)) (w : List ℕ) → IsErrAnd r (λ x. x ≡ why) → turned_away why ≡ v
    → (verdict_by counted_words r ≡ counted looked v) × (w ≡ laid v w)
count_away looked r why v w h e = let q = count_refused looked v _ _ w (sym e) in (handed_on counted_words r why h ∙ q.0, q.1)

pub count_accepted : (looked : ℕ) (v : Verdict (List ℕ)) (words w w' : List ℕ) (n l : ℕ) → v ≡ accepted words → n ≡ length words → l ≡ looked → w' ≡ put_at 0 words w
    → (accepted (record { words = n; looked = l }) ≡ counted looked v) × (w' ≡ laid v w)
unfolding counted
count_accepted looked v words w w' n l e en el q = (
  ap₂ (λ (x y : ℕ). accepted (record { words = x; looked = y })) en el ∙ sym (ap (counted looked) e),
  (laid_accepted v words w w' n e en q).1,
)

-- by a rule that is equal
pub count_same : {r : Verdict Counted} {w' : List ℕ} (w : List ℕ) {looked looked' : ℕ} {v v' : Verdict (List ℕ)} → looked ≡ looked' → v ≡ v'
    → (r ≡ counted looked v) × (w' ≡ laid v w) → (r ≡ counted looked' v') × (w' ≡ laid v' w)
count_same w el e h = (h.0 ∙ ap₂ counted el e, h.1 ∙ ap (λ (x : Verdict (List ℕ)). laid x w) e)
