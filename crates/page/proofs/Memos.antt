-- Layers that are remembered for the words of a proposition layer, and where the search for a goal may begin.
-- Assumes nothing.
use mathlib.Core.Path.{◌≡◌, refl, sym, ap, subst, ◌∙◌}
use mathlib.Core.Bool.{So}
use mathlib.Core.List.{List}
use mathlib.Core.Logic.{⊎_elim, by_cases}
use Prim.Native.Nat.{ℕ, suc, ◌+◌, ◌*◌, max, ◌≤◌, ◌<◌}
use native.Mathlib.Decide.{dec_le}
use native.Mathlib.Nat.{mul-le-mul}
use native.Mathlib.Omega.{arith}
use lib.ListN.{length, get_or, set, length-set}
use lib.Seq.{get_or-set_same, get_or-set_other}
use Rattle.rules.specs.Test.{same}
use Rattle.rules.specs.Word.{bit}
use Rattle.rules.specs.Lists.{list_over}
use Rattle.rules.specs.Layer.{size, props_in}
use Rattle.rules.specs.Level.{goal_met}
use Rattle.rules.specs.declared.Shape.{Shape}
use Rattle.rules.proofs.Tests.{fails_at, holds_or, same_of, same_at}
use Rattle.rules.proofs.Layers.{length_list_over, get_d_list_over}
use Rattle.words.specs.Width.{prop_width}
use Rattle.words.specs.declared.sets.States.{States}
use Rattle.level.specs.declared.layers.Layers.{Layers}
use Rattle.level.specs.Meets.{shown_at, PassedOver}
use Rattle.level.proofs.Goals.{label_shows}
use Rattle.level.proofs.Searches.{Sought, sought_none}
use Rattle.page.specs.Memo.{Firsts, rows_length, Rows, OfLabel, of_none, of_one}

-- each word of a proposition layer has its row
pub rows_few : (n : ℕ) → n ≤ prop_width → 2 * size n ≤ rows_length
unfolding size
rows_few n h = let next : n + 1 ≤ 33 = omega arith in omega (arith, mul-le-mul h next)

module _ {S : Shape} {words : List ℕ} {k states place shows : ℕ} where
  -- a row may be entered at any of its layers, and go on where it ended
  pub passed_from : {from upto next : ℕ} → PassedOver S words k states place shows from upto → from ≤ next → next ≤ upto
      → PassedOver S words k states place shows next upto
  passed_from p g h = record { rises = h; within = p.within; each = λ t l. p.each t (omega arith) }

  pub passed_on : {from upto end : ℕ} → PassedOver S words k states place shows from upto → PassedOver S words k states place shows upto end
      → PassedOver S words k states place shows from end
  passed_on {from} {upto} p q = record {
    rises = omega (arith, p.rises, q.rises);
    within = q.within;
    each = λ t g h. by_cases (dec_le upto t) (λ l. q.each t l h) (λ l. p.each t g (omega arith));
  }

  -- the same by other names
  pub passed_as : {shows' from upto from' upto' : ℕ} → shows' ≡ shows → from' ≡ from → upto' ≡ upto → PassedOver S words k states place shows from upto
      → PassedOver S words k states place shows' from' upto'
  passed_as {shows'} {from} {upto} {from'} {upto'} d e f p =
      subst (λ (x : ℕ). PassedOver S words k states place x from' upto') (sym d)
      (subst (λ (x : ℕ). PassedOver S words k states place shows x upto') (sym e)
      (subst (λ (x : ℕ). PassedOver S words k states place shows from x) (sym f) p))

  -- none
  pub passed_none : PassedOver S words k states place shows 0 0
  passed_none = record { rises = omega arith; within = omega arith; each = λ t g l. absurd (omega arith) }

-- the same of equal layers and sets
pub passed_of : {l m : Layers} {s t : States} (place from upto : ℕ) → l ≡ m → s ≡ t
    → PassedOver l.shape l.words.now l.depth s.0 place (shown_at l.shape.props s.0 place) from upto
    → PassedOver m.shape m.words.now m.depth t.0 place (shown_at m.shape.props t.0 place) from upto
passed_of {l} {m} {s} {t} place from upto e f p =
    subst (λ (x : States). PassedOver m.shape m.words.now m.depth x.0 place (shown_at m.shape.props x.0 place) from upto) f
    (subst (λ (x : Layers). PassedOver x.shape x.words.now x.depth s.0 place (shown_at x.shape.props s.0 place) from upto) e p)

-- ---- labels

module _ {S : Shape} {words : List ℕ} {k states : ℕ} {firsts : List ℕ} (r : Firsts S words k states firsts) where
  -- a layer in place of the one that was remembered
  pub firsts_put : {p b : ℕ} → p < prop_width → PassedOver S words k states p (shown_at S.props states p) 0 b → Firsts S words k states (set firsts p b)
  firsts_put {p} {b} h new = record {
    long = length-set firsts p b ∙ r.long;
    each = λ q g. ⊎_elim
        (λ e. subst (λ (x : ℕ). PassedOver S words k states x (shown_at S.props states x) 0 (get_or (set firsts p b) x 0)) (sym (same_at e))
        (passed_as refl refl (get_or-set_same firsts p b 0 (omega (arith, r.long))) new))
        (λ e. passed_as refl refl (get_or-set_other firsts p q b 0 (λ d. fails_at e (same_of d))) (r.each q g))
        (holds_or (same q p));
  }

  -- before a layer that is remembered of a label of the goal none meets the goal
  pub start_sought : {goal t : ℕ} → OfLabel firsts S.props goal t → Sought (λ u. goal_met S.props (props_in S words u) states goal) (suc k) t
  start_sought {goal} {t} (of_none e) = subst (Sought (λ u. goal_met S.props (props_in S words u) states goal) (suc k)) (sym e) sought_none
  start_sought {goal} {t} (of_one p h b e) = let known = r.each p h in record {
    within = omega (arith, known.within);
    before = λ u l m. known.each u (omega arith) (omega arith) (label_shows S.props states goal (props_in S words u) p m h b);
  }

-- the larger of two such layers
pub of_label : {firsts : List ℕ} {n goal t r : ℕ} (p : ℕ) → OfLabel firsts n goal t → p < n → So (bit p goal) → r ≡ max t (get_or firsts p 0) → OfLabel firsts n goal r
of_label {firsts} {n} {goal} {t} {r} p old h b is = by_cases (dec_le t (get_or firsts p 0)) (λ l. of_one p h b (omega arith)) (λ l. go old (omega arith))
  where
    go : OfLabel firsts n goal t → r ≡ t → OfLabel firsts n goal r
    go (of_none z) e = of_none (e ∙ z)
    go (of_one q g c z) e = of_one q g c (e ∙ z)

-- ---- words

-- a row in place of the one that was remembered
pub rows_put : {S : Shape} {words : List ℕ} {k states : ℕ} {rows : List ℕ} {place a b : ℕ} → Rows S words k states rows → S.props ≤ prop_width
    → place < size S.props → PassedOver S words k states place (shown_at S.props states place) a b
    → Rows S words k states (set (set rows (2 * place) a) (2 * place + 1) b)
rows_put {S} {words} {k} {states} {rows} {place} {a} {b} r few h new = record {
  long = length-set (set rows (2 * place) a) (2 * place + 1) b ∙ length-set rows (2 * place) a ∙ r.long;
  each = λ other g. ⊎_elim
      (λ e. subst (λ (x : ℕ). PassedOver S words k states x (shown_at S.props states x)
      (get_or (set (set rows (2 * place) a) (2 * place + 1) b) (2 * x) 0) (get_or (set (set rows (2 * place) a) (2 * place + 1) b) (2 * x + 1) 0)) (sym (same_at e))
      (passed_as refl
      (get_or-set_other (set rows (2 * place) a) (2 * place + 1) (2 * place) b 0 (λ d. omega arith)
      ∙ get_or-set_same rows (2 * place) a 0 (omega (arith, r.long, rows_few S.props few)))
      (get_or-set_same (set rows (2 * place) a) (2 * place + 1) b 0 (omega (arith, length-set rows (2 * place) a, r.long, rows_few S.props few)))
      new))
      (λ e.
      let apart : other ≡ place → ⊥ = λ d. fails_at e (same_of d) in
      passed_as refl
      (get_or-set_other (set rows (2 * place) a) (2 * place + 1) (2 * other) b 0 (λ d. omega arith)
      ∙ get_or-set_other rows (2 * place) (2 * other) a 0 (λ d. apart (omega arith)))
      (get_or-set_other (set rows (2 * place) a) (2 * place + 1) (2 * other + 1) b 0 (λ d. apart (omega arith))
      ∙ get_or-set_other rows (2 * place) (2 * other + 1) a 0 (λ d. omega arith))
      (r.each other g))
      (holds_or (same other place));
}

-- ---- at first nothing is remembered

module _ (S : Shape) (words : List ℕ) (k states : ℕ) where
  zero_at : (n : ℕ) {l : List ℕ} → l ≡ list_over n (λ i. 0) → (i : ℕ) → i < n → get_or l i 0 ≡ 0
  zero_at n e i h = ap (λ (x : List ℕ). get_or x i 0) e ∙ get_d_list_over (λ i. 0) h

  pub firsts_none : {firsts : List ℕ} → firsts ≡ list_over prop_width (λ i. 0) → S.props ≤ prop_width → Firsts S words k states firsts
  firsts_none {firsts} e few = record {
    long = ap length e ∙ length_list_over prop_width (λ i. 0);
    each = λ p h. passed_as refl refl (zero_at prop_width e p (omega arith)) passed_none;
  }

  pub rows_none : {rows : List ℕ} → rows ≡ list_over rows_length (λ i. 0) → S.props ≤ prop_width → Rows S words k states rows
  rows_none {rows} e few = record {
    long = ap length e ∙ length_list_over rows_length (λ i. 0);
    each = λ place h.
        let fits = rows_few S.props few in
        passed_as refl (zero_at rows_length e (2 * place) (omega arith)) (zero_at rows_length e (2 * place + 1) (omega arith)) passed_none;
  }
