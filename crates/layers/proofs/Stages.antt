-- The words that the code writes into its tables are those of the rules.
-- Assumes nothing.
use Prim.Native.Nat.{ℕ, ◌+◌, ◌-◌, ◌*◌, ◌≤◌, ◌<◌, ◌^◌}
use mathlib.Core.Path.{◌≡◌, refl, sym, ap, ap₂, subst, ◌∙◌}
use mathlib.Core.Bool.{Bool, true, So}
use mathlib.Core.Logic.{⊎_elim}
use mathlib.Core.List.{List}
use native.Mathlib.Omega.{arith}
use native.Mathlib.Nat.{add-zero}
use borrow.Rule.Slice.PartMut.{put_mid}
use mathlib.Core.List.{◌++◌}
use lib.ListN.{length, get_or, take, drop}
use lib.Seq.{get_or-take, get_or-drop}
use Rattle.rules.specs.Test.{◌and◌, ◌or◌, fails, same, choose}
use Rattle.rules.specs.Word.{bit, common, union, without, single, first}
use Rattle.rules.specs.Over.{keep, join_of, meet_of}
use Rattle.rules.specs.Lists.{list_over, run_over}
use Rattle.rules.specs.Domain.{Domain, Actions, condition, persistence, interfere_of, domain}
use Rattle.rules.specs.Layer.{size, row_of, layer_of, label_in, free_in}
use Rattle.rules.specs.Shared.{start_label, vertex_label, action_layer, next_layer}
use Rattle.rules.specs.Together.{layer_by, beside, next_together}
use Rattle.rules.proofs.Tests.{choose_held, choose_failed, and_of, and_right, or_left, or_right, or_at, fails_of, fails_at}
use Rattle.rules.proofs.Tests.{holds_or, test_eq, same_of, same_at, below_of}
use Rattle.rules.proofs.Words.{bit_union, bit_without, bit_single, bit_first, bit_below, first_lt, without_lt, ext_all}
use Rattle.rules.proofs.Layers.{length_layer_of, list_over_eq, run_over_eq, list_append, run_append}
use Rattle.rules.proofs.Members.{meet_only, join_only, start_label_lt}
use Rattle.rules.proofs.Domains.{needs_effect, effect_below, interfere_turn}
use Rattle.rules.proofs.Togethers.{vertex_label_lem, label_at, free_own, free_turn, action_by, next_by, next_together_lem, layer_by_eq, consistent_eq}
use Rattle.rules.proofs.Steps as S
use Rattle.rules.proofs.Steps.{Sets}
use Rattle.words.specs.Memory.{put_at}
use Rattle.words.specs.Rows.{row_length, cell, both_ways, grown}
use Rattle.words.proofs.Writes.{put_length, put_behind, put_within, front_word}
use lib.Dec.{eqb}
use borrow.Author.Tests.{eqb-true}
use Rattle.scans.specs.Pairs.{Alike, table_looks}
use Rattle.scans.specs.Ends.{Turns, Finished}
use Rattle.together.specs.Effects.{Effecting}
use Rattle.together.specs.Cells.{Width, Span, label_for, row_for, with_prop, with_effect, independent_of, with_independent, row_in, mate_of, beside_for}
use Rattle.layers.specs.Write.{apart, effect_row, action_words}
use Rattle.layers.proofs.Looks.{Shown, looks_told, alike_told}
use Rattle.together.proofs.Rows.{parts_le}
use Rattle.layers.specs.Step.{Told, Tells, over_of, Admitted, Kept, Mated, Next, Deletes, Ready, Stepped, step_words}

-- a word of a row
pub row_cell : (table : List ℕ) (i q : ℕ) → q < row_length → get_or (row_in table i) q 0 ≡ cell table i q
unfolding row_in cell
row_cell table i q h = get_or-take row_length (drop (i * row_length) table) q 0 h ∙ get_or-drop (i * row_length) table q 0

-- a word that is joined to two others
join_both : (a b x : ℕ) → union (union a b) x ≡ union (union x a) (union x b)
join_both a b x = ext_all (λ s.
    bit_union s (union a b) x ∙ ap (λ (y : Bool). y or bit s x) (bit_union s a b) ∙ tests (bit s a) (bit s b) (bit s x)
    ∙ sym (bit_union s (union x a) (union x b) ∙ ap₂ ◌or◌ (bit_union s x a) (bit_union s x b)))
  where
    tests : (a b x : Bool) → ((a or b) or x) ≡ ((x or a) or (x or b))
    tests a b x = test_eq
        (λ t. ⊎_elim (λ y. ⊎_elim (λ z. or_left _ (or_right _ z)) (λ z. or_right _ (or_right _ z)) (or_at y)) (λ y. or_left _ (or_left _ y)) (or_at t))
        (λ t. ⊎_elim (λ y. ⊎_elim (or_right _) (λ z. or_left _ (or_left _ z)) (or_at y)) (λ y. ⊎_elim (or_right _) (λ z. or_left _ (or_right _ z)) (or_at y)) (or_at t))

module _ (A : Actions) (all : ℕ) (sets : Sets row_length A) (labels t : List ℕ) (is : Tells A all labels t) where
  abbrev free : ℕ → ℕ → ℕ
  free = free_in (domain A).vertices (over_of A all t)

  -- the label of an effect, as the layer has it
  pub label_is : (i : ℕ) → i < A.effects → label_in (over_of A all t) i ≡ vertex_label (domain A).props all (layer_by (domain A).props (cell t)) (condition A i)
  unfolding domain
  label_is i h = vertex_label_lem (domain A) all (cell t) is.consistent (effect_below A h)
      ∙ ap (vertex_label A.props all (layer_by A.props (cell t))) (needs_effect A h)

  label_code : (i : ℕ) → i < A.effects → label_for all t (condition A i)
      ≡ vertex_label (domain A).props all (layer_by (domain A).props (cell t)) (condition A i)
  unfolding label_for
  label_code i h = S.admitted row_length all A sets is.consistent h

  pub label_told : (i : ℕ) → i < A.effects → label_for all t (condition A i) ≡ label_in (over_of A all t) i
  label_told i h = label_code i h ∙ sym (label_is i h)

  -- an effect with a proposition, whatever it deletes
  abbrev row_with : ℕ → ℕ → ℕ
  row_with = S.row_with row_length all A sets is.consistent

  row_told : (live r : List ℕ) → Admitted A all labels t live r → (i q : ℕ) → i < A.effects → q < A.props → cell r i q ≡ row_with i q
  unfolding row_for
  row_told live r adm i q h k = adm.row i q h k
      ∙ ap₂ (λ (x y : ℕ). meet_of row_length (condition A i) (λ p. cell t p q) (common x y)) (is.diagonal q k) (label_code i h)

  -- and with its persistence
  pub kept_told : (dels live r : List ℕ) → Admitted A all labels t live r → Deletes A dels → (i q : ℕ) → i < A.effects → q < A.props
      → with_prop dels r i q ≡ free i (persistence A q)
  unfolding with_prop
  kept_told dels live r adm del i q h k =
      ap₂ (λ (x y : ℕ). choose (bit q x) 0 y) (del i h) (row_told live r adm i q h k) ∙ S.with_prop_lem row_length all A sets is.consistent h k

  -- ---- two effects

  module _ (n : ℕ) (needs adds dels adders interferers live r : List ℕ) (told : Told A n needs adds adders interferers) (del : Deletes A dels)
      (adm : Admitted A all labels t live r) where
    lives : (i : ℕ) → i < A.effects → get_or live i 0 ≡ vertex_label (domain A).props all (layer_by (domain A).props (cell t)) (condition A i)
    lives i h = adm.label i h ∙ label_is i h

    need_lt : (i p : ℕ) → i < A.effects → So (bit p (get_or needs i 0)) → p < A.props
    need_lt i p h m = bit_below (sets.needs i h) (ap (bit p) (sym (told.need i h)) ∙ m)

    -- by rows
    pub pair_told : (turned : List ℕ) → ((j p : ℕ) → j < A.effects → p < A.props → cell turned p j ≡ cell r j p) → (i j : ℕ) → i < A.effects → j < A.effects
        → with_effect needs interferers live turned i j ≡ free i j
    unfolding with_effect
    pair_told turned turns i j h k = ⊎_elim
        (λ e. choose_held _ e ∙ adm.label i h ∙ sym (free_own (domain A).vertices (over_of A all t) i) ∙ ap (free i) (same_at e))
        (λ d. choose_failed _ _ d
        ∙ ap (λ (x : ℕ). choose (bit j (get_or interferers i 0)) 0 x)
        (meet_only (get_or needs i 0) _ (λ p l m.
        let hp : p < A.props = need_lt i p h m in turns j p k hp ∙ row_told live r adm j p k hp)
        ∙ ap₂ (λ (set w : ℕ). meet_of row_length set (row_with j) w) (told.need i h) (ap₂ common (lives j k) (lives i h)))
        ∙ S.with_effect_lem row_length all A sets is.consistent h k (λ q. fails_at d (same_of q)) (told.interfere i j h k))
        (holds_or (same i j))

    -- one by one
    independent_bits : (i j : ℕ) → bit j (independent_of needs interferers i) ≡ (bit j (first (length needs)) and fails (bit j (get_or interferers i 0) or same j i))
    unfolding independent_of
    independent_bits i j = bit_without j (first (length needs)) (union (get_or interferers i 0) (single i))
        ∙ ap (λ (b : Bool). bit j (first (length needs)) and fails b) (bit_union j (get_or interferers i 0) (single i) ∙ ap (λ (b : Bool). bit j (get_or interferers i 0) or b) (bit_single j i))

    pub independent_lt : (i : ℕ) → independent_of needs interferers i < 2 ^ length needs
    unfolding independent_of
    independent_lt i = without_lt (length needs) _ (first_lt (length needs))

    independent_is : (i j : ℕ) → i < A.effects → So (bit j (independent_of needs interferers i))
        → (j < A.effects) × So (fails (bit j (get_or interferers i 0))) × (i ≡ j → ⊥)
    independent_is i j h m =
        let u = sym (independent_bits i j) ∙ m in (
          subst (λ (x : ℕ). j < x) (sym told.effects) (bit_below (independent_lt i) m),
          fails_of (λ x. fails_at (and_right _ u) (or_left _ x)),
          λ e. fails_at (and_right _ u) (or_right _ (same_of (sym e))),
        )

    interferers_is : (i j : ℕ) → i < A.effects → j < A.effects → (i ≡ j → ⊥) → So (fails (bit j (independent_of needs interferers i)))
        → So (bit j (get_or interferers i 0))
    interferers_is i j h k ne m = ⊎_elim
        (λ x. x)
        (λ x. absurd (fails_at m (independent_bits i j ∙ and_of (bit_first j (length needs) ∙ below_of (subst (λ (y : ℕ). j < y) told.effects k))
        (fails_of (λ o. ⊎_elim (fails_at x) (λ e. ne (sym (same_at e))) (or_at o))))))
        (holds_or (bit j (get_or interferers i 0)))

    turned_interfere : (i j : ℕ) → i < A.effects → j < A.effects → bit j (get_or interferers i 0) ≡ interfere_of A j i
    turned_interfere i j h k = told.interfere i j h k ∙ test_eq (interfere_turn A i j) (interfere_turn A j i)

    both_ways_lem : (i j : ℕ) → i < A.effects → j < A.effects → (i ≡ j → ⊥)
        → choose (bit j (get_or interferers i 0)) 0 (meet_of row_length (condition A j) (row_with i)
        (common (vertex_label (domain A).props all (layer_by (domain A).props (cell t)) (condition A i))
        (vertex_label (domain A).props all (layer_by (domain A).props (cell t)) (condition A j)))) ≡ free i j
    both_ways_lem i j h k ne =
        S.with_effect_lem row_length all A sets is.consistent k h (λ q. ne (sym q)) (turned_interfere i j h k)
        ∙ free_turn (domain A).vertices (over_of A all t) j i

    apart_none : (i j : ℕ) → i < A.effects → j < A.effects → (i ≡ j → ⊥) → So (fails (bit j (independent_of needs interferers i))) → free i j ≡ 0
    apart_none i j h k ne m = sym (both_ways_lem i j h k ne) ∙ choose_held _ (interferers_is i j h k ne m)

    independent_told : (i j : ℕ) → i < A.effects → So (bit j (independent_of needs interferers i)) → with_independent needs live (row_in r i) i j ≡ free i j
    unfolding with_independent
    independent_told i j h m =
        let (k, f, ne) = independent_is i j h m in
        meet_only (get_or needs j 0) _ (λ q l n.
        let hq : q < A.props = need_lt j q k n in row_cell r i q l ∙ row_told live r adm i q h hq)
        ∙ ap₂ (λ (set w : ℕ). meet_of row_length set (row_with i) w) (told.need j k) (ap₂ common (lives i h) (lives j k))
        ∙ sym (choose_failed (bit j (get_or interferers i 0)) 0 f) ∙ both_ways_lem i j h k ne

    pub mate_told : (i j : ℕ) → i < A.effects → j < A.effects → mate_of needs interferers live r i j ≡ free i j
    unfolding mate_of
    mate_told i j h k = ⊎_elim
        (λ e. choose_held _ e ∙ adm.label i h ∙ sym (free_own (domain A).vertices (over_of A all t) i) ∙ ap (free i) (sym (same_at e)))
        (λ d. let ne : i ≡ j → ⊥ = (λ q. fails_at d (same_of (sym q))) in choose_failed _ _ d ∙ ⊎_elim
        (λ m. choose_held _ m ∙ independent_told i j h m)
        (λ m. choose_failed _ _ m ∙ sym (apart_none i j h k ne m))
        (holds_or (bit j (independent_of needs interferers i))))
        (holds_or (same j i))

    pub beside_told : (i p : ℕ) → i < A.effects → p < A.props → beside_for needs adds dels interferers live r i p ≡ beside (domain A) (over_of A all t) i p
    unfolding beside_for
    beside_told i p h k =
        ap₂ union
        (ap₂ union (kept_told dels live r adm del i p h k) (join_only (independent_of needs interferers i) (λ j l m.
        let (g, f, ne) = independent_is i j h m in ap₂ (λ (x y : ℕ). keep (bit p x) y) (told.add j g) (independent_told i j h m))))
        (ap₂ (λ (x y : ℕ). keep (bit p x) y) (told.add i h) (adm.label i h ∙ sym (free_own (domain A).vertices (over_of A all t) i)))
        ∙ S.beside_few row_length all A sets is.consistent h k
        (subst (λ (x : ℕ). independent_of needs interferers i < 2 ^ x) (sym told.effects) (independent_lt i))
        (λ j g ne m. apart_none i j h g (λ q. ne (sym q)) m)

    -- rows joined over the adders of a proposition
    adder_lt : (p j : ℕ) → p < A.props → So (bit j (get_or adders p 0)) → j < A.effects
    adder_lt p j k m = bit_below (start_label_lt A.effects A.add p) (ap (bit j) (sym (told.by p k)) ∙ m)

    pub rows_told : (cut mates : List ℕ) → ((j p : ℕ) → j < A.effects → p < A.props → cell cut p j ≡ with_prop dels r j p)
        → ((i j : ℕ) → i < A.effects → j < A.effects → cell mates i j ≡ free i j) → (i p : ℕ) → i < A.effects → p < A.props
        → union (cell cut p i) (join_of row_length (get_or adders p 0) (λ j. cell mates j i)) ≡ beside (domain A) (over_of A all t) i p
    rows_told cut mates cuts pair i p h k =
        ap₂ union (cuts i p h k ∙ kept_told dels live r adm del i p h k)
        (join_only (get_or adders p 0) (λ j l m. pair j i (adder_lt p j k m) h) ∙ ap (λ (x : ℕ). join_of row_length x (λ j. free j i)) (told.by p k))
        ∙ S.beside_rows row_length all A sets is.consistent i k

  -- ---- the next table

  module _ (n : ℕ) (needs adds adders interferers : List ℕ) (told : Told A n needs adds adders interferers) (spare besides t' : List ℕ)
      (halves : (p q : ℕ) → p < A.props → q < A.props → cell spare p q ≡ join_of row_length (get_or adders p 0) (λ i. cell besides i q))
      (with_adders_lem : (i p : ℕ) → i < A.effects → p < A.props → cell besides i p ≡ beside (domain A) (over_of A all t) i p)
      (joined : (p q : ℕ) → p < A.props → q < A.props → cell t' p q ≡ grown spare t p q) where
    half_told : (p q : ℕ) → p < A.props → q < A.props
        → cell spare p q ≡ join_of row_length (start_label A.effects A.add p) (λ i. beside (domain A) (over_of A all t) i q)
    half_told p q h k =
        halves p q h k
        ∙ join_only (get_or adders p 0) (λ i l m. with_adders_lem i q
        (bit_below (start_label_lt A.effects A.add p) (ap (bit i) (sym (told.by p h)) ∙ m)) k)
        ∙ ap (λ (x : ℕ). join_of row_length x (λ i. beside (domain A) (over_of A all t) i q)) (told.by p h)

    pub cell_told : (p q : ℕ) → p < A.props → q < A.props → cell t' p q ≡ next_together (domain A) (over_of A all t) p q
    unfolding grown both_ways domain
    cell_told p q h k =
        joined p q h k ∙ join_both (cell spare p q) (cell spare q p) (cell t p q)
        ∙ ap₂ union (ap (union (cell t p q)) (half_told p q h k)) (ap₂ union (is.consistent.turn p q h k) (half_told q p k h))
        ∙ S.next_cells row_length all A sets is.consistent h k

    inside : (s v : ℕ) → v < (domain A).vertices → So (bit s (label_in (over_of A all t) v)) → So (bit s all)
    inside s v h b =
        (label_at (domain A).props all (cell t) is.consistent
        (ap (bit s) (sym (vertex_label_lem (domain A) all (cell t) is.consistent h)) ∙ b)).inside

    pub next_told : (labels' : List ℕ) (still : Bool) → ((p : ℕ) → p < A.props → get_or labels' p 0 ≡ cell t' p p)
        → (still ≡ true → (p q : ℕ) → p < A.props → q < A.props → cell t' p q ≡ cell t p q) → Next A all t labels' t' still
    unfolding domain
    next_told labels' still diag same = record {
      tells = record {
        consistent = consistent_eq (λ p q h k. sym (cell_told p q h k))
            (next_together_lem (domain A) (over_of A all t) inside);
        diagonal = diag;
      };
      layer = layer_by_eq cell_told ∙ sym (next_by (domain A) (over_of A all t));
      rests = λ e. layer_by_eq (same e);
    }

-- ---- the action layer's words

module _ (a n : ℕ) (f : ℕ → ℕ → ℕ) where
  abbrev word : ℕ → ℕ → ℕ
  word v w = without (common (f v v) (f w w)) (f v w)

  row_split : (i : ℕ) → i < a → row_of (a + n) word i ≡ list_over (a - 1 - i) (λ k. word i (i + 1 + k)) ++ list_over n (λ q. word i (a + q))
  unfolding row_of
  row_split i h =
      let e : a + n - 1 - i ≡ (a - 1 - i) + n = omega arith in
      ap (λ (x : ℕ). list_over x (λ k. word i (i + 1 + k))) e ∙ list_append (a - 1 - i) n (λ k. word i (i + 1 + k))
      ∙ ap (λ (l : List ℕ). list_over (a - 1 - i) (λ k. word i (i + 1 + k)) ++ l) (list_over_eq (λ q l.
      let g : i + 1 + (a - 1 - i + q) ≡ a + q = omega arith in ap (word i) g))

  row_last : (p : ℕ) → row_of (a + n) word (a + p) ≡ row_of n (λ p q. word (a + p) (a + q)) p
  unfolding row_of
  row_last p =
      let e : a + n - 1 - (a + p) ≡ n - 1 - p = omega arith in
      ap (λ (x : ℕ). list_over x (λ k. word (a + p) (a + p + 1 + k))) e
      ∙ list_over_eq (λ k l. let g : a + p + 1 + k ≡ a + (p + 1 + k) = omega arith in ap (word (a + p)) g)

  pub layer_split : layer_by (a + n) f
      ≡ (list_over a (λ i. f i i) ++ list_over n (λ p. f (a + p) (a + p)))
      ++ (run_over a (λ i. list_over (a - 1 - i) (λ k. word i (i + 1 + k)) ++ list_over n (λ q. word i (a + q))) ++ run_over n (row_of n (λ p q. word (a + p) (a + q))))
  unfolding layer_by layer_of
  layer_split =
      ap₂ (λ (x y : List ℕ). x ++ y) (list_append a n (λ v. f v v))
      (run_append a n (row_of (a + n) word)
      ∙ ap₂ (λ (x y : List ℕ). x ++ y) (run_over_eq a row_split) (run_over_eq n (λ p h. row_last p)))

pub actions_told : (A : Actions) (all : ℕ) (sets : Sets row_length A) (labels t live r cut mates besides : List ℕ) → Tells A all labels t
    → Admitted A all labels t live r → Kept A all t cut → Mated A all t mates besides → action_words A.props A.effects live labels t mates cut ≡ over_of A all t
unfolding action_words effect_row apart domain persistence
actions_told A all sets labels t live r cut mates besides is adm kept_is mat =
    sym (action_by (domain A) all (layer_by A.props (cell t)) ∙ layer_split a n free ∙ ap₂ (λ (x y : List ℕ). x ++ y)
    (ap₂ (λ (x y : List ℕ). x ++ y) (list_over_eq own) (list_over_eq kept))
    (ap₂ (λ (x y : List ℕ). x ++ y)
    (run_over_eq a (λ i h. ap₂ (λ (x y : List ℕ). x ++ y)
    (list_over_eq (λ k l.
    let hk : i + 1 + k < a = omega arith in
    ap₂ without (ap₂ common (own i h) (own (i + 1 + k) hk)) (sym (mat.pair i (i + 1 + k) h hk))))
    (list_over_eq (λ q l. ap₂ without (ap₂ common (own i h) (kept q l)) (sym (kept_is i q h l))))))
    (run_over_eq n (λ p h. rows p h))))
  where
    a : ℕ
    a = A.effects

    n : ℕ
    n = A.props

    free : ℕ → ℕ → ℕ
    free = free_in (A.effects + A.props) (over_of A all t)

    own : (i : ℕ) → i < A.effects → free i i ≡ get_or live i 0
    own i h = free_own (A.effects + A.props) (over_of A all t) i ∙ sym (adm.label i h)

    kept : (p : ℕ) → p < A.props → free (A.effects + p) (A.effects + p) ≡ get_or labels p 0
    kept p h = S.both_kept row_length all A sets is.consistent h h ∙ sym (is.diagonal p h)

    rows : (p : ℕ) → p < A.props
        → row_of A.props (λ p q. without (common (free (A.effects + p) (A.effects + p)) (free (A.effects + q) (A.effects + q)))
        (free (A.effects + p) (A.effects + q))) p
        ≡ row_of A.props (λ p q. without (common (get_or labels p 0) (get_or labels q 0)) (cell t p q)) p
    rows p h = unfold row_of in list_over_eq (λ k l.
        let hk : p + 1 + k < A.props = omega arith in
        ap₂ without (ap₂ common (kept p h) (kept (p + 1 + k) hk)) (S.both_kept row_length all A sets is.consistent h hk))

-- ---- on what the functions leave

pub sets_of_lem : (A : Actions) (n width : ℕ) (needs adds adders interferers : List ℕ) → Told A n needs adds adders interferers → Width n width needs → Sets row_length A
sets_of_lem A n width needs adds adders interferers told wide =
    let le : width ≤ row_length = parts_le wide.parts in
    record {
      props = omega (arith, told.props, wide.props);
      effects = omega (arith, told.effects, wide.effects);
      needs = λ i h. subst (λ (x : ℕ). x < 2 ^ A.props) (told.need i h) (subst (λ (x : ℕ). get_or needs i 0 < 2 ^ x) (sym told.props)
          (wide.inside i (subst (λ (x : ℕ). i < x) told.effects h)));
    }

-- the effects' tables, one by one or by rows
module _ (A : Actions) (all n width : ℕ) (needs adds dels adders interferers live r labels t : List ℕ) (told : Told A n needs adds adders interferers)
    (wide : Width n width needs) (del : Deletes A dels) (is : Tells A all labels t) (adm : Admitted A all labels t live r) where
  sets : Sets row_length A
  sets = sets_of_lem A n width needs adds adders interferers told wide

  act : (i : ℕ) → i < A.effects → i < length needs
  act i h = subst (λ (x : ℕ). i < x) told.effects h

  prop : (p : ℕ) → p < A.props → p < n
  prop p h = subst (λ (x : ℕ). p < x) told.props h

  pub few_made : (mates besides : List ℕ) → ((i j : ℕ) → i < length needs → j < row_length → cell mates i j ≡ mate_of needs interferers live r i j)
      → ((i p : ℕ) → i < length needs → p < width → cell besides i p ≡ beside_for needs adds dels interferers live r i p) → Mated A all t mates besides
  few_made mates besides pair by = record {
    pair = λ i j h k. pair i j (act i h) (omega (arith, act j k, wide.effects, parts_le wide.parts))
        ∙ mate_told A all sets labels t is n needs adds dels adders interferers live r told del adm i j h k;
    with_adders_lem = λ i p h k. by i p (act i h) (omega (arith, prop p k, wide.props))
        ∙ beside_told A all sets labels t is n needs adds dels adders interferers live r told del adm i p h k;
  }

  pub rows_made : (span : ℕ) (turned mates cut spare besides : List ℕ) → Span span needs → length adders ≡ n → length dels ≡ length needs
      → ((i j : ℕ) → i < length needs → j < n → cell turned j i ≡ cell r i j)
      → ((i j : ℕ) → i < length needs → j < span → cell mates i j ≡ with_effect needs interferers live turned i j)
      → ((i q : ℕ) → i < length dels → cell cut q i ≡ choose (bit q (get_or dels i 0)) 0 (cell turned q i))
      → ((p k : ℕ) → p < length adders → k < span → cell spare p k ≡ union (cell cut p k) (join_of row_length (get_or adders p 0) (λ i. cell mates i k)))
      → ((i j : ℕ) → i < n → j < length needs → cell besides j i ≡ cell spare i j) → Mated A all t mates besides
  rows_made span turned mates cut spare besides spans long dels_long turns pair cuts joined back = record {
    pair = paired;
    with_adders_lem = λ i p h k. back p i (prop p k) (act i h) ∙ joined p i (omega (arith, prop p k)) (omega (arith, act i h, spans.effects))
        ∙ rows_told A all sets labels t is n needs adds dels adders interferers live r told del adm cut mates gone paired i p h k;
  }
    where
      gone : (j p : ℕ) → j < A.effects → p < A.props → cell cut p j ≡ with_prop dels r j p
      gone j p h k = unfold with_prop in
          cuts j p (omega (arith, act j h, dels_long)) ∙ ap (λ (x : ℕ). choose (bit p (get_or dels j 0)) 0 x) (turns j p (act j h) (prop p k))

      paired : (i j : ℕ) → i < A.effects → j < A.effects → cell mates i j ≡ free_in (domain A).vertices (over_of A all t) i j
      paired i j h k = pair i j (act i h) (omega (arith, act j k, spans.effects))
          ∙ pair_told A all sets labels t is n needs adds dels adders interferers live r told del adm turned (λ j q g l. turns j q (act j g) (prop q l)) i j h k

-- ---- the whole step

length_by : (n : ℕ) (t : ℕ → ℕ → ℕ) → length (layer_by n t) ≡ size n
unfolding layer_by
length_by n t = length_layer_of n _ _

length_actions' : (D : Domain) (all : ℕ) (l : List ℕ) → length (action_layer D all l) ≡ size D.vertices
unfolding action_layer
length_actions' D all l = length_layer_of D.vertices _ _

pub admit_made : (A : Actions) (all n width : ℕ) (needs adds adders interferers labels t live live' r' : List ℕ)
    → Told A n needs adds adders interferers → Width n width needs → Tells A all labels t → length live ≡ row_length
    → live' ≡ put_at 0 (list_over (length needs) (λ i. label_for all t (get_or needs i 0))) live
    → ((i q : ℕ) → i < length needs → q < width → cell r' i q ≡ row_for all labels t (get_or needs i 0) q) → Admitted A all labels t live' r'
admit_made A all n width needs adds adders interferers labels t live live' r' told wide is long e cells = record {
  label = λ i h. ap (λ (l : List ℕ). get_or l i 0) e ∙ front_word (length needs) i _ live (omega (arith, wide.effects, parts_le wide.parts)) (act i h)
      ∙ ap (label_for all t) (told.need i h) ∙ label_told A all ready labels t is i h;
  row = λ i q h k. cells i q (act i h) (omega (arith, subst (λ (x : ℕ). q < x) told.props k, wide.props))
      ∙ ap (λ (x : ℕ). row_for all labels t x q) (told.need i h);
}
  where
    act : (i : ℕ) → i < A.effects → i < length needs
    act i h = subst (λ (x : ℕ). i < x) told.effects h

    ready : Sets row_length A
    ready = sets_of_lem A n width needs adds adders interferers told wide

pub step_made : (A : Actions) (all n width span at fresh looked : ℕ)
    (needs adds dels adders interferers labels live t w live' r' mates' besides' cut w₁ spare' labels' t' p : List ℕ)
    → Ready n width span at needs adders w → Effecting needs adds dels interferers adders → length live ≡ row_length → Told A n needs adds adders interferers → Deletes A dels → Tells A all labels t
    → live' ≡ put_at 0 (list_over (length needs) (λ i. label_for all t (get_or needs i 0))) live
    → ((i q : ℕ) → i < length needs → q < width → cell r' i q ≡ row_for all labels t (get_or needs i 0) q)
    → ((A : Actions) (all : ℕ) (labels t : List ℕ) → Told A n needs adds adders interferers → Deletes A dels → Tells A all labels t
    → Admitted A all labels t live' r' → Mated A all t mates' besides')
    → ((i q : ℕ) → i < length dels → q < row_length → cell cut i q ≡ with_prop dels r' i q)
    → w₁ ≡ put_at 0 (action_words n (length needs) live' labels t mates' cut) w
    → ((p q : ℕ) → p < length adders → q < width → cell spare' p q ≡ join_of row_length (get_or adders p 0) (λ v. cell besides' v q))
    → (Turns (length adders) t → Finished (length adders) spare' t labels' t' (take (length w₁ - at) (drop at w₁)) p fresh)
    → (Alike adders live' mates' cut besides' spare' → looked ≡ table_looks (length adders) adders labels' live' mates' cut)
    → Stepped A all t labels' t' w (put_mid at (length w₁ - at) w₁ p) (eqb fresh 0) looked
step_made A all n width span at fresh looked needs adds dels adders interferers labels live t w
    live' r' mates' besides' cut w₁ spare' labels' t' p ready lists live_long told del is el cells mate cuts e₁ gathered finish sees =
    record {
      next = nx;
      is = unfold step_words in back;
      looks = sees (alike_told sets told shown is long_adders joined) ∙ looks_told sets told shown nx long_adders;
    }
  where
    sets : Sets row_length A
    sets = sets_of_lem A n width needs adds adders interferers told ready.mating.wide

    adm : Admitted A all labels t live' r'
    adm = admit_made A all n width needs adds adders interferers labels t live live' r' told ready.mating.wide is live_long el cells

    mat : Mated A all t mates' besides'
    mat = mate A all labels t told del is adm

    kept : Kept A all t cut
    kept i q h k =
        cuts i q (omega (arith, subst (λ (x : ℕ). i < x) told.effects h, lists.dels_long)) (omega (arith, sets.props))
        ∙ kept_told A all sets labels t is dels live' r' adm del i q h k

    shown : Shown A all t live' cut mates' besides'
    shown = record { label = adm.label; kept = kept; mated = mat }

    long_adders : length adders ≡ n
    long_adders = ready.mating.adders_long

    -- a proposition of the actions is one of the list
    listed : (p : ℕ) → p < A.props → p < length adders
    listed p h = omega (arith, long_adders, told.props)

    joined : (p q : ℕ) → p < n → q < n → cell spare' p q ≡ join_of row_length (get_or adders p 0) (λ v. cell besides' v q)
    joined p q h k = gathered p q (omega (arith, long_adders)) (omega (arith, ready.mating.wide.props))

    done : Finished (length adders) spare' t labels' t' (take (length w₁ - at) (drop at w₁)) p fresh
    done = unfold domain in finish (λ p q h k. is.consistent.turn p q (omega (arith, long_adders, told.props)) (omega (arith, long_adders, told.props)))

    nx : Next A all t labels' t' (eqb fresh 0)
    nx = next_told A all sets labels t is n needs adds adders interferers told spare' besides' t'
        (λ p q h k. joined p q (omega (arith, told.props)) (omega (arith, told.props))) mat.with_adders_lem
        (λ p q h k. done.grows p q (listed p h) (listed q k)) labels' (eqb fresh 0)
        (λ p h. done.diagonal p (listed p h))
        (λ e p q h k. done.still (eqb-true fresh 0 e) p q (listed p h) (listed q k))

    words : w₁ ≡ put_at 0 (over_of A all t) w
    words =
        e₁ ∙ ap₂ (λ (x y : ℕ). put_at 0 (action_words x y live' labels t mates' cut) w) (sym told.props) (sym told.effects)
        ∙ ap (λ (l : List ℕ). put_at 0 l w)
        (actions_told A all sets labels t live' r' cut mates' besides' is adm kept mat)

    long : length (over_of A all t) ≡ at
    long = unfold domain in
        length_actions' (domain A) all (layer_by A.props (cell t)) ∙ ap₂ (λ (x y : ℕ). size (x + y)) told.effects told.props ∙ sym ready.place

    next_words : layer_by (length adders) (cell t') ≡ next_layer (domain A) (over_of A all t)
    next_words = unfold domain in ap (λ (x : ℕ). layer_by x (cell t')) (long_adders ∙ sym told.props) ∙ nx.layer

    next_long : length (layer_by (length adders) (cell t')) ≡ size n
    next_long = length_by (length adders) (cell t') ∙ ap size long_adders

    fits : at + length (next_layer (domain A) (over_of A all t)) ≤ length w
    fits = omega (arith, ready.room, next_long, ap length next_words)

    lw : length w₁ ≡ length w
    lw = ap length words ∙ put_length 0 (over_of A all t) w (omega (arith, long, fits))

    back : put_mid at (length w₁ - at) w₁ p ≡ put_at 0 (over_of A all t ++ next_layer (domain A) (over_of A all t)) w
    back =
        put_within at 0 (layer_by (length adders) (cell t')) w₁ p (omega (arith, ready.room, next_long, lw)) done.is
        ∙ ap₂ (λ (x : ℕ) (l : List ℕ). put_at x l w₁) (add-zero at) next_words
        ∙ put_behind at (over_of A all t) (next_layer (domain A) (over_of A all t)) w w₁ _ long fits words refl
