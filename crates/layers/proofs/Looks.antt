-- What the tables of a step tell of its scans: the looks counted by them are those of the rules.
-- Assumes nothing.
use Prim.Native.Nat.{ℕ, suc, ◌+◌, ◌-◌, ◌<◌}
use mathlib.Core.Path.{◌≡◌, refl, sym, ap, ap₂, subst, ◌∙◌}
use mathlib.Core.Bool.{Bool, So}
use mathlib.Core.List.{List}
use native.Mathlib.Omega.{arith}
use lib.ListN.{length, get_or}
use Rattle.rules.specs.Test.{same, choose}
use Rattle.rules.specs.Word.{bit, common, union, without, single}
use Rattle.rules.specs.Over.{join_of, sum_over}
use Rattle.rules.specs.Domain.{Actions, persistence, adds_of, domain}
use Rattle.rules.specs.Layer.{label_in, free_in}
use Rattle.rules.specs.Shared.{next_label, next_layer}
use Rattle.rules.specs.Together.{layer_by}
use Rattle.rules.specs.Scan.{Scan, scan_at, look, scan_where, scan_of, scanned, pair_looks, looks_of, step_looks}
use Rattle.rules.proofs.Words.{bit_below, common_lt, without_lt}
use Rattle.rules.proofs.Layers.{label_back}
use Rattle.rules.proofs.Members.{join_only, bit_start_label, start_label_lt}
use Rattle.rules.proofs.Togethers.{free_turn, free_own, label_by}
use Rattle.rules.proofs.Steps.{Sets}
use Rattle.rules.proofs.Steps as S
use Rattle.rules.proofs.Scans.{Adders, where_alike, sum_eq}
use Rattle.rules.proofs.ScanSplits.{of_wider, looked_more, scanned_split}
use Rattle.words.specs.Rows.{row_length, cell}
use Rattle.scans.specs.Pairs.{row_looks, before_last, with_last, pair_count, row_count, table_looks, Alike}
use Rattle.layers.specs.Step.{Told, Tells, Kept, Mated, Next, over_of}

-- what a step finds of the action layer over the layer of t: the labels of the effects, each effect with each persistence, two effects,
-- and each effect with the adders of each proposition
pub record Shown (A : Actions) (all : ℕ) (t live r mates besides : List ℕ) : Type 0 where
  pub label : (i : ℕ) → i < A.effects → get_or live i 0 ≡ label_in (over_of A all t) i
  pub kept : Kept A all t r
  pub mated : Mated A all t mates besides

module _ {A : Actions} {all n : ℕ} {needs adds adders interferers t live r mates besides : List ℕ} (sets : Sets row_length A)
    (told : Told A n needs adds adders interferers) (shown : Shown A all t live r mates besides) where
  -- the action layer
  abbrev over : List ℕ
  over = over_of A all t

  abbrev free : ℕ → ℕ → ℕ
  free = free_in (A.effects + A.props) over

  -- the adders of a proposition
  by : (p : ℕ) → p < A.props → Adders A.effects A.add p (get_or adders p 0)
  by p h = subst (Adders A.effects A.add p) (sym (told.by p h))
      (record { small = start_label_lt A.effects A.add p; are = λ v l. bit_start_label A.add p l })

  -- one look more or less, the same where the words are
  looks_at : (m : ℕ) (c : ℕ → Bool) (f g : ℕ → ℕ) (s : Scan) → ((i : ℕ) → i < m → f i ≡ g i) → scan_where m c (λ i. look (f i)) s ≡ scan_where m c (λ i. look (g i)) s
  looks_at m c f g s e = where_alike m c c _ _ s (λ i l. refl) (λ i l s. ap (λ (x : ℕ). look x s) (e i l))

  module _ {p q : ℕ} (hp : p < A.props) (hq : q < A.props) (differ : p ≡ q → ⊥) where
    abbrev lower : ℕ
    lower = get_or adders p 0

    abbrev upper : ℕ
    upper = get_or adders q 0

    -- the row of an effect
    row_told : (v : ℕ) → v < A.effects → (s : Scan) → row_looks mates r upper q v s
        ≡ look (free v (A.effects + q)) (scan_of A.effects (without upper (single v)) (λ w. look (free v w)) s)
    unfolding row_looks scan_of domain persistence
    row_told v l s =
        ap₂ look (shown.kept v q l hq)
        (of_wider (λ w. look (cell mates v w)) s sets.effects (without_lt A.effects (single v) (by q hq).small)
        ∙ looks_at A.effects _ (cell mates v) (free v) s (λ w g. shown.mated.pair v w l g))

    before_told : (both : ℕ) → before_last live mates r lower upper p q both
        ≡ scan_of A.effects upper (λ w. look (free w (A.effects + p)))
        (scan_of A.effects lower (λ v s. look (free v (A.effects + q)) (scan_of A.effects (without upper (single v)) (λ w. look (free v w)) s))
        (scan_of A.effects (common lower upper) (λ v. look (label_in over v)) (scan_at both 0)))
    unfolding before_last scan_of domain persistence
    before_told both =
        of_wider _ _ sets.effects (by q hq).small
        ∙ looks_at A.effects _ (λ w. cell r w p) (λ w. free w (A.effects + p)) _ (λ w l. shown.kept w p l hp)
        ∙ ap (scan_of A.effects upper (λ w. look (free w (A.effects + p))))
        (of_wider _ _ sets.effects (by p hp).small ∙ where_alike A.effects _ _ _ _ _ (λ v l. refl) (λ v l s. row_told v l s)
        ∙ ap (scan_of A.effects lower (λ v s. look (free v (A.effects + q)) (scan_of A.effects (without upper (single v)) (λ w. look (free v w)) s)))
        (of_wider _ _ sets.effects (common_lt A.effects upper (by p hp).small)
        ∙ looks_at A.effects _ (λ v. get_or live v 0) (label_in over) _ (λ v l. shown.label v l)))

    -- the looks at the pair
    pair_told : (both : ℕ) → with_last (before_last live mates r lower upper p q both) ≡ (scanned (A.effects + A.props) (adds_of A) over both p q).looked
    unfolding with_last
    pair_told both =
        ap (λ (s : Scan). choose (same s.left 0) s.looked (suc s.looked)) (before_told both)
        ∙ sym (ap (λ (s : Scan). s.looked) (scanned_split A over hp hq differ (by p hp) (by q hq) both)
        ∙ looked_more (free (A.effects + p) (A.effects + q)) _)

  -- the labels of the next layer
  label_told : {labels t' : List ℕ} {still : Bool} → Next A all t labels t' still → (k : ℕ) → k < A.props
      → get_or labels k 0 ≡ next_label (A.effects + A.props) (adds_of A) over k
  unfolding domain next_layer
  label_told {t' = t'} next k h =
      next.tells.diagonal k h ∙ sym (label_by A.props all (cell t') next.tells.consistent h) ∙ ap (λ (l : List ℕ). label_in l k) next.layer ∙ label_back _ _ h

  -- those of all pairs
  pub looks_told : {labels t' : List ℕ} {still : Bool} → Next A all t labels t' still → length adders ≡ n
      → table_looks (length adders) adders labels live mates r ≡ step_looks (domain A) all (layer_by (domain A).props (cell t))
  unfolding table_looks row_count pair_count step_looks looks_of pair_looks domain
  looks_told {labels} next long =
      ap (λ (m : ℕ). sum_over m (λ p. sum_over (m - 1 - p) (λ k. pair_count adders labels live mates r p (p + 1 + k)))) (long ∙ sym told.props)
      ∙ sum_eq A.props _ _ (λ p h. sum_eq (A.props - 1 - p) _ _ (λ k l.
      let g : p + 1 + k < A.props = omega arith in
      pair_told h g (λ e. omega arith) (common (get_or labels p 0) (get_or labels (p + 1 + k) 0))
      ∙ ap₂ (λ (x y : ℕ). (scanned (A.effects + A.props) (adds_of A) over (common x y) p (p + 1 + k)).looked)
      (label_told next p h) (label_told next (p + 1 + k) g)))

  -- the tables tell of each other what the count goes by
  member_lt : {v p : ℕ} → p < length adders → length adders ≡ n → So (bit v (get_or adders p 0)) → v < A.effects
  member_lt {v} {p} h long b = bit_below (by p (omega (arith, told.props))).small b

  pub alike_told : {labels spare : List ℕ} → Tells A all labels t → length adders ≡ n
      → ((p q : ℕ) → p < n → q < n → cell spare p q ≡ join_of row_length (get_or adders p 0) (λ v. cell besides v q)) → Alike adders live mates r besides spare
  unfolding domain persistence
  alike_told is long joined = record {
    own = λ v p h b. let l = member_lt h long b in shown.mated.pair v v l l ∙ free_own (A.effects + A.props) over v ∙ sym (shown.label v l);
    beside = λ v p q h k b. let l = member_lt h long b in let hq : q < A.props = omega (arith, told.props) in
        shown.mated.with_adders_lem v q l hq ∙ sym (S.beside_rows row_length all A sets is.consistent v hq)
        ∙ ap₂ union (sym (shown.kept v q l hq))
        (ap (λ (x : ℕ). join_of row_length x (λ j. free j v)) (sym (told.by q hq))
        ∙ join_only (get_or adders q 0) (λ w m d. free_turn (A.effects + A.props) over w v ∙ sym (shown.mated.pair v w l (member_lt k long d))));
    joined = λ p q h k. joined p q (omega arith) (omega arith);
  }
