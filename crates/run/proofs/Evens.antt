-- Version 2: steps whose effects fire in every state of the set or in none: what goes of the word by them, and what comes of the labels.
-- Assumes nothing.
use Prim.Native.Nat.{ℕ, ◌+◌, ◌-◌, ◌*◌, ◌/◌, ◌%◌, ◌^◌, ◌≤◌, ◌<◌}
use mathlib.Core.Path.{◌≡◌, refl, sym, ap, ap₂, subst, subst₂, ◌∙◌}
use mathlib.Core.Bool.{Bool, false, So}
use mathlib.Core.Logic.{⊎_elim}
use mathlib.Core.List.{List}
use native.Mathlib.Nat.{add-zero}
use native.Mathlib.Omega.{arith}
use lib.Bits.{or_zero_l}
use lib.Count.{count_trailing_zeros}
use lib.ListN.{length, get_or}
use Rattle.rules.specs.Test.{◌and◌, fails, same, choose}
use Rattle.rules.specs.Word.{bit, common, union, without, first, single}
use Rattle.rules.specs.Over.{keep, join_over, join_of}
use Rattle.rules.specs.Lists.{list_over}
use Rattle.rules.specs.Domain.{Actions}
use Rattle.rules.specs.Shared.{start_label}
use Rattle.rules.proofs.Tests.{choose_held, choose_failed, holds_or, fails_of, fails_at, and_of, and_left, and_right, and_true, same_of, same_at, same_not, test_eq}
use Rattle.rules.proofs.Overs.{any_at, any_eq, bit_keep, join_over_eq, join_over_lt, keep_lt, keep_held, keep_failed}
use Rattle.rules.proofs.Words.{bit_without, bit_single, bit_shift, no_bit_zero, without_lt, ext_all}
use Rattle.rules.proofs.Members.{bit_join_of}
use Rattle.rules.proofs.Layers.{length_list_over, get_d_list_over}
use Rattle.words.specs.Width.{prop_width, word_width}
use Rattle.words.proofs.MemberLoops.{Members, lowest_in, lowest_lt, members_none, members_more, members_done}
use Rattle.words.specs.Rows.{row_length}
use Rattle.graph.specs.Limits.{max_effects}
use Rattle.graph.specs.Verdict.{accepted, refused}
use Rattle.graph.specs.Format.{actions_of, start_of}
use Rattle.graph.specs.File.{Taken}
use Rattle.graph.specs.declared.format.Counts.{Counts}
use Rattle.run.specs.Course.{Known, Checked, course, pack, leaves, brings, further, still, sets_of}
use Rattle.run.specs.Run.{end_rule, idle_steps}
use Rattle.run.specs.Fire.{effects_of, course_in, settled, fired_in, partly, of_effect, of_effects, applied_in, stepped_in, ready_in}
use Rattle.run.specs.Fire.{evenly, even_answer, told, answer_in, Stepping}
use Rattle.run.specs.Even.{above, everywhere, untold, goes_of, goes_by, Foretold, Moves, TriedEvenly, Fit, Tells, GoesOn, Led}
use Rattle.std.specs.Prelude.{Some, None, Ok}
use Rattle.run.specs.declared.step.Made.{Made}
use Rattle.run.specs.declared.step.Walked.{Walked}
use Rattle.run.specs.declared.fire.Stepped.TheVariants as did
use Rattle.run.proofs.Packs.{up_low, up_high, cut_bit, pack_lt, pack_low, pack_high, halves}
use Rattle.run.proofs.Walks.{still_le, still_is}
use Rattle.run.proofs.Runs.{narrow_of}
use Rattle.run.proofs.Touches.{applied_evenly, owned_at, effects_lt}
use Rattle.run.proofs.Idles.{had_word, had_none, above_is, evenly_course, even_told}
use Rattle.run.proofs.Settles.{settled_same, settled_even}
use Rattle.run.proofs.Fires.{Stopped, step_none, step_done, step_missing, step_made, step_idle, step_changed, step_off, effects_off, effects_done, effects_idle}
use Rattle.run.proofs.Rows.{course_turned, sets_turned}

-- ---- what goes, as one word: of the deletes only those count that nothing adds

module _ {del add goes gone : ℕ} (d : del < 2 ^ prop_width) (a : add < 2 ^ prop_width) (packed : goes ≡ pack add del)
    (rest : gone ≡ without goes (above goes)) where
  goes_lt : goes < 2 ^ word_width
  goes_lt = subst (λ (w : ℕ). w < 2 ^ word_width) (sym packed) (pack_lt a d)

  pub gone_is : gone ≡ pack add (without del add)
  unfolding above fails
  gone_is = rest ∙ halves (without_lt word_width (above goes) goes_lt) (pack_lt a (without_lt prop_width add d))
      (λ p l.
      bit_without p goes (above goes)
      ∙ ap₂ (λ (x y : Bool). x and fails y) (ap (bit p) packed ∙ pack_low add del p a l)
      (cut_bit _ word_width p (omega arith) ∙ up_low goes prop_width p l)
      ∙ and_true ∙ sym (pack_low add (without del add) p a l))
      (λ p l.
      bit_without (prop_width + p) goes (above goes)
      ∙ ap₂ (λ (x y : Bool). x and fails y)
      (ap (bit (prop_width + p)) packed ∙ pack_high add del p a)
      (cut_bit _ word_width (prop_width + p) (omega arith) ∙ up_high goes prop_width p ∙ ap (bit p) packed ∙ pack_low add del p a l)
      ∙ sym (pack_high add (without del add) p a ∙ bit_without p del add))

  pub leave_is : first word_width - gone ≡ leaves del add
  unfolding leaves
  leave_is = ap (λ (w : ℕ). first word_width - w) gone_is

  -- what goes comes back in the other half
  pub bring_is : union (gone / 2 ^ prop_width) ((gone * 2 ^ prop_width) % 2 ^ word_width) ≡ brings del add
  unfolding brings pack
  bring_is = ap₂ union
      (ext_all (λ p. bit_shift gone prop_width p ∙ ap (bit (prop_width + p)) gone_is ∙ pack_high add (without del add) p a))
      (halves {a = (gone * 2 ^ prop_width) % 2 ^ word_width} {b = add * 2 ^ prop_width} (omega arith) (omega (arith, a))
      (λ p l. cut_bit _ word_width p (omega arith) ∙ up_low gone prop_width p l ∙ sym (up_low add prop_width p l))
      (λ p l.
      cut_bit _ word_width (prop_width + p) (omega arith) ∙ up_high gone prop_width p ∙ ap (bit p) gone_is ∙ pack_low add (without del add) p a l
      ∙ sym (up_high add prop_width p)))

-- ---- what the word tells of effects

-- a bit of words joined, from that bit of each
join_bit : (n by : ℕ) (c : ℕ → Bool) (q p : ℕ) (f h : ℕ → ℕ) → ((e : ℕ) → e < n → bit q (f e) ≡ bit p (h e))
    → bit q (join_of n by (λ e. keep (c e) (f e))) ≡ bit p (join_of n by (λ e. keep (c e) (h e)))
join_bit n by c q p f h each =
    bit_join_of q n by _
    ∙ any_eq n (λ e l. ap (λ (b : Bool). bit e by and b)
    (bit_keep q (c e) (f e) ∙ ap (λ (b : Bool). c e and b) (each e l) ∙ sym (bit_keep p (c e) (h e))))
    ∙ sym (bit_join_of p n by _)

module _ {A : Actions} {needs owned when goes : List ℕ} (tells : Tells A needs owned when goes) (set by : ℕ) (now : List ℕ) where
  pub foretold_small : ((of_effects A set by now).del < 2 ^ prop_width) × ((of_effects A set by now).add < 2 ^ prop_width)
  unfolding of_effects of_effect join_of
  foretold_small = (
    join_over_lt prop_width _ (λ e l. keep_lt prop_width (λ t. keep_lt prop_width (λ u. tells.del e l))),
    join_over_lt prop_width _ (λ e l. keep_lt prop_width (λ t. keep_lt prop_width (λ u. tells.add e l))),
  )

  when_long : length when ≡ A.effects
  when_long = ap length tells.whens ∙ length_list_over A.effects A.when

  when_at_lem : {e : ℕ} → e < A.effects → get_or when e 0 ≡ A.when e
  when_at_lem {e} l = ap (λ (x : List ℕ). get_or x e 0) tells.whens ∙ get_d_list_over _ l

  goes_at : {e : ℕ} → e < A.effects → get_or goes e 0 ≡ pack (A.add e) (A.del e)
  unfolding goes_of
  goes_at {e} l = ap (λ (x : List ℕ). get_or x e 0) tells.going ∙ get_d_list_over _ l

  module _ {course : ℕ} (is : course ≡ course_in set now) (g : ℕ) (foretold : Foretold when goes by course (Some g)) where
    -- it tells which of them fire in every state of the set
    fires_all : {e : ℕ} → e < A.effects → everywhere course (A.when e) ≡ same (fired_in A set now e) set
    unfolding everywhere fired_in
    fires_all {e} l = ap (λ (w : ℕ). same (common w (A.when e)) 0) is ∙ had_word set now (A.when e) (tells.antecedent e l)

    -- and that the others fire in none
    fires_even : {e : ℕ} → e < A.effects → So (bit e by) → So (partly set (fired_in A set now e)) → ⊥
    unfolding Foretold partly fired_in untold above
    fires_even {e} l t u =
        let up = above (A.when e) in
        let small = tells.antecedent e l in
        fails_at
        (ap (λ (w : ℕ). fails (untold course w)) (sym (when_at_lem l)) ∙ foretold.1 e (omega (arith, when_long)) t)
        (and_of (ap fails (fires_all l) ∙ and_left _ u) (⊎_elim
        (λ v. v)
        (λ f. absurd (fails_at (and_right _ u) (same_of (sym (had_none set now (A.when e) small (above_is set now (A.when e) small)
        (λ k. fails_at f (same_of (ap (λ (w : ℕ). common w up) is ∙ k))))))))
        (holds_or (same (common course up) up))))

    -- what goes by all that fire, from what goes by each
    goes_all : g ≡ join_of A.effects by (λ e. keep (same (fired_in A set now e) set) (pack (A.add e) (A.del e)))
    unfolding Foretold goes_by join_of
    goes_all =
        foretold.0 ∙ ap (λ (n : ℕ). join_over n (λ e. keep (bit e by) (keep (everywhere course (get_or when e 0)) (get_or goes e 0)))) when_long
        ∙ join_over_eq A.effects (λ e l. ap (keep (bit e by)) (ap₂ keep (ap (everywhere course) (when_at_lem l) ∙ fires_all l) (goes_at l)))

    pub foretold_none : (of_effects A set by now).some ≡ 0
    unfolding of_effects of_effect
    foretold_none = ext_all (λ s. test_eq
        (λ t.
        let (e, l, u) = any_at (sym (bit_join_of s A.effects by _) ∙ t) in
        absurd (fires_even l (and_left _ u) (and_left _ (sym (bit_keep s (partly set (fired_in A set now e)) (single e)) ∙ and_right _ u))))
        (λ t. absurd (no_bit_zero s t)))

    pub foretold_goes : g ≡ pack (of_effects A set by now).add (of_effects A set by now).del
    unfolding of_effects of_effect join_of
    foretold_goes = goes_all ∙ halves
        (join_over_lt word_width _ (λ e l. keep_lt word_width (λ t. keep_lt word_width (λ u. pack_lt (tells.add e l) (tells.del e l)))))
        (pack_lt foretold_small.1 foretold_small.0)
        (λ p h.
        join_bit A.effects by _ p p _ A.add (λ e l. pack_low (A.add e) (A.del e) p (tells.add e l) h)
        ∙ sym (pack_low _ _ p foretold_small.1 h))
        (λ p h.
        join_bit A.effects by _ (prop_width + p) p _ A.del (λ e l. pack_high (A.add e) (A.del e) p (tells.add e l))
        ∙ sym (pack_high _ _ p foretold_small.1))

-- ---- a step by the word alone

module _ {A : Actions} {needs owned when goes : List ℕ} (tells : Tells A needs owned when goes) {set : ℕ} (some : set ≡ 0 → ⊥) {list labels₀ : List ℕ}
    (labels : List ℕ) {i course idle a : ℕ} (s : Stepping A set list labels₀ (settled set course labels) i course idle) (h : i < length list)
    (e : a ≡ get_or list i 0) (known : a < A.count) (free : common course (get_or needs a 0) ≡ 0) where
  abbrev now : List ℕ
  now = settled set course labels

  abbrev by : ℕ
  by = get_or owned a 0

  need_at : get_or needs a 0 ≡ A.pre a
  need_at = ap (λ (x : List ℕ). get_or x a 0) tells.needed ∙ get_d_list_over _ known

  module _ {del add : ℕ} (d : del < 2 ^ prop_width) (k : add < 2 ^ prop_width) (applied : evenly set del add now ≡ applied_in A set by now)
      {left next : ℕ} (left_is : left ≡ common course (leaves del add)) (next_is : next ≡ further (leaves del add) (brings del add) course) where
    -- the labels that the next word stands for
    after : settled set next labels ≡ evenly set del add now
    after = ap (λ (w : ℕ). settled set w labels) next_is ∙ settled_even set course labels del add d k

    next_course : next ≡ course_in set (settled set next labels)
    unfolding further
    next_course = next_is ∙ ap (λ (w : ℕ). further (leaves del add) (brings del add) w) s.course_is ∙ evenly_course set del add now d k some
        ∙ ap (course_in set) (sym after)

    stepped : (even_answer course del add ≡ answer_in A set a now)
        × (settled set next labels ≡ choose (ready_in A set a now) (stepped_in A set a now) now)
    stepped = step_made A set a now (tells.pre a known) s.course_is need_at free (owned_at A tells.own (omega (arith, known, tells.actions)))
        (after ∙ applied) (even_told set del add now d k s.course_is ∙ ap (told set now) applied)

    still_here : still course left ≡ keep (same (common course (leaves del add)) course) 1
    still_here = ap (still course) left_is ∙ still_is course (leaves del add)

    step_on : Stepping A set list labels₀ (settled set next labels) (i + 1) next (idle + still course left)
    unfolding even_answer
    step_on = ⊎_elim
        (λ t.
        let s' = step_idle s h e stepped (choose_held _ t) in
        subst₂ (λ (w n : ℕ). Stepping A set list labels₀ (settled set next labels) (i + 1) w n) (s'.course_is ∙ sym next_course)
        (ap (λ (n : ℕ). idle + n) (sym (still_here ∙ keep_held 1 t))) s')
        (λ f. subst (Stepping A set list labels₀ (settled set next labels) (i + 1) next)
        (sym (ap (λ (n : ℕ). idle + n) (still_here ∙ keep_failed _ 1 f) ∙ add-zero idle))
        (step_changed s h e stepped (choose_failed _ _ f ∙ ap did.Changed (sym next_is))))
        (holds_or (same (common course (leaves del add)) course))

  pub even_step : (g : ℕ) → Foretold when goes (get_or owned a 0) course (Some g) → {left next : ℕ}
      → ((del add : ℕ) → del < 2 ^ prop_width → add < 2 ^ prop_width → g ≡ pack add del
      → (left ≡ common course (leaves del add)) × (next ≡ further (leaves del add) (brings del add) course))
      → Stepping A set list labels₀ (settled set next labels) (i + 1) next (idle + still course left)
  even_step g foretold does =
      let (d, k) = foretold_small tells set by now in
      let (left_is, next_is) = does _ _ d k (foretold_goes tells set by now s.course_is g foretold) in
      step_on d k
      (applied_evenly A set by now now tells.effects refl refl (foretold_none tells set by now s.course_is g foretold) refl)
      left_is next_is

-- ---- what the word tells of one effect

module _ (w when : ℕ) where
  pub told_all : common w when ≡ 0 → false ≡ untold w when
  unfolding untold everywhere fails ◌and◌
  told_all e = sym (ap (λ (b : Bool). fails b and same (common w (above when)) (above when)) (same_of e))

  pub told_half : (common w when ≡ 0 → ⊥) → same (common w (above when)) (above when) ≡ untold w when
  unfolding untold everywhere fails ◌and◌
  told_half off = sym (ap (λ (b : Bool). fails b and same (common w (above when)) (above when)) (same_not off))

-- ---- the effects of a step, one after the other: what goes by those that are done, of none of which it is untold where it fires

pub record Foretelling (when goes : List ℕ) (by w left all : ℕ) : Type 0 where
  pub few : length when ≤ max_effects
  pub joined : Members (λ e. keep (everywhere w (get_or when e 0)) (get_or goes e 0)) 0 (length when) by left all
  pub part : (e : ℕ) → So (bit e left) → So (bit e by)
  pub told : (e : ℕ) → e < length when → So (bit e by) → So (fails (bit e left)) → So (fails (untold w (get_or when e 0)))

pub foretell_none : {when goes : List ℕ} {by w : ℕ} → length when ≤ max_effects → by < 2 ^ length when → Foretelling when goes by w by 0
foretell_none few inside = record { few = few; joined = members_none inside; part = λ e t. t; told = λ e l t f. absurd (fails_at f t) }

module _ {when goes : List ℕ} {by w left all : ℕ} (m : Foretelling when goes by w left all) where
  pub foretell_done : left ≤ 0 → Foretold when goes by w (Some all)
  unfolding Foretold goes_by
  foretell_done h =
      let z : left ≡ 0 = omega arith in (
        members_done m.joined h ∙ or_zero_l _,
        λ e l t. m.told e l t (subst (λ (x : ℕ). So (fails (bit e x))) (sym z) (fails_of (no_bit_zero e))),
      )

  module _ {e : ℕ} (some : 0 < left) (at : e ≡ count_trailing_zeros word_width left) where
    width_few : length when ≤ word_width
    width_few = omega (arith, m.few)

    pub foretell_lt : e < length when
    foretell_lt = subst (λ (i : ℕ). i < length when) (sym at) (lowest_lt _ left width_few m.joined.inside some)

    here : So (bit e left)
    here = subst (λ (i : ℕ). So (bit i left)) (sym at) (lowest_in _ left width_few m.joined.inside some)

    pub foretell_part : So (untold w (get_or when e 0)) → Foretold when goes by w None
    unfolding Foretold
    foretell_part t = (e, foretell_lt, m.part e here, t)

    pub foretell_more : {x left' : ℕ} → So (fails (untold w (get_or when e 0))) → x ≡ keep (everywhere w (get_or when e 0)) (get_or goes e 0)
        → left' ≡ without left (single (count_trailing_zeros word_width left)) → Foretelling when goes by w left' (union all x)
    foretell_more {x} {left'} f one rest = record {
      few = m.few;
      joined = members_more m.joined width_few some
          (one ∙ ap (λ (i : ℕ). keep (everywhere w (get_or when i 0)) (get_or goes i 0)) at) refl rest;
      part = λ i t. m.part i (and_left _ (left_bit i ∙ t));
      told = λ i l t g. ⊎_elim
          (λ u. ⊎_elim
          (λ s. subst (λ (j : ℕ). So (fails (untold w (get_or when j 0)))) (sym (same_at (sym (bit_single i e) ∙ s))) f)
          (λ s. absurd (fails_at g (sym (left_bit i) ∙ and_of u s)))
          (holds_or (bit i (single e))))
          (m.told i l t)
          (holds_or (bit i left));
    }
      where
        left_bit : (i : ℕ) → (bit i left and fails (bit i (single e))) ≡ bit i left'
        left_bit i = sym (bit_without i left (single e)) ∙ ap (λ (j : ℕ). bit i (without left (single j))) at ∙ ap (bit i) (sym rest)

-- ---- the steps of a list, as far as they are even

-- each number of the list is an action's
pub known_in : {A : Actions} {needs owned when goes : List ℕ} (list : List ℕ) → Known (length needs) list → Tells A needs owned when goes → Known A.count list
known_in {A} list l t i h = omega (arith, l i h, ap length t.needed, length_list_over A.count A.pre)

pub known_by : {A : Actions} {needs owned when goes : List ℕ} (list : List ℕ) → Tells A needs owned when goes → Known A.count list → Known (length needs) list
known_by {A} list t known i h = omega (arith, known i h, ap length t.needed, length_list_over A.count A.pre)

abbrev pub walked : ℕ → ℕ → ℕ → Walked
walked w i idle = record { course = w; made = i; idle = idle }

module _ {needs owned when goes list : List ℕ} {from : Walked} where
  pub go_on_none : from.idle ≤ from.made → from.made ≤ length list → GoesOn needs owned when goes list from from
  go_on_none few inside = record { few = few; forth = omega arith; inside = inside; on = λ A set labels₀ labels t h s. s }

  module _ {w i idle : ℕ} (m : GoesOn needs owned when goes list from (walked w i idle)) (known : Known (length needs) list) where
    pub go_on_more : {a : ℕ} (made : Made) {idle' : ℕ} → i < length list → a ≡ get_or list i 0
        → TriedEvenly when goes (get_or owned a 0) (get_or needs a 0) w (Ok made) → idle' ≡ idle + still w made.left
        → GoesOn needs owned when goes list from (walked made.course (i + 1) idle')
    unfolding TriedEvenly Moves
    go_on_more {a} made h e (free, (g, foretold, moves)) counted = record {
      few = omega (arith, m.few, counted, still_le w made.left);
      forth = omega (arith, m.forth);
      inside = omega arith;
      on = λ A set labels₀ labels t some s.
          subst (λ (k : ℕ). Stepping A set list labels₀ (settled set made.course labels) (i + 1) made.course k) (sym counted)
          (even_step t (λ z. omega arith) labels (m.on A set labels₀ labels t some s) h e
          (subst (λ (k : ℕ). k < A.count) (sym e) (known_in list known t i h)) free g foretold moves);
    }

    -- at the end of the list
    pub go_on_done : length list ≤ i → GoesOn needs owned when goes list from (walked w (length list) idle)
    go_on_done h =
        let e : i ≡ length list = omega (arith, m.inside) in
        subst (λ (n : ℕ). GoesOn needs owned when goes list from (walked w n idle)) e m

-- ---- the run of a file, from its start states

pub tells_of : {file : List ℕ} {c : Counts} {needs owned when goes : List ℕ} → Taken file c → needs ≡ list_over c.actions (actions_of file c).pre
    → owned ≡ list_over row_length (effects_of (actions_of file c)) → when ≡ list_over c.effects (actions_of file c).when
    → goes ≡ list_over c.effects (goes_of (actions_of file c)) → Tells (actions_of file c) needs owned when goes
unfolding actions_of
tells_of {file} {c} taken n o w g =
    let narrow = narrow_of file c taken in
    record {
      needed = n;
      own = o;
      whens = w;
      going = g;
      actions = omega (arith, taken.ranged.actions);
      effects = narrow.effects;
      pre = narrow.pre;
      antecedent = narrow.when;
      add = narrow.add;
      del = narrow.del;
    }

pub fit_of : {A : Actions} {needs owned when goes : List ℕ} → Tells A needs owned when goes → Fit needs owned when goes
fit_of {A} {needs} {owned} {when} t =
    let n : length needs ≡ A.count = ap length t.needed ∙ length_list_over A.count A.pre in
    let w : length when ≡ A.effects = ap length t.whens ∙ length_list_over A.effects A.when in
    record {
      room = omega (arith, t.actions);
      few = omega (arith, t.effects);
      as_goes = ap length t.going ∙ length_list_over A.effects (goes_of A) ∙ sym w;
      inside = λ a h. subst₂ (λ (x y : ℕ). x < 2 ^ y) (sym (owned_at A t.own (omega (arith, t.actions)))) (sym w) (effects_lt A a);
    }

module _ {file : List ℕ} {c : Counts} {set : ℕ} {list out : List ℕ} (checked : Checked file c set list out) where
  abbrev turned : List ℕ
  turned = list_over row_length (start_label c.states (start_of file c))

  starts : (s : ℕ) → s < c.states → start_of file c s < 2 ^ prop_width
  starts = (narrow_of file c checked.taken).starts

  -- from the word of the start states on
  pub led_of : {needs owned when goes : List ℕ} {r : Walked} {w : ℕ} → Tells (actions_of file c) needs owned when goes → w ≡ course c.states set (start_of file c)
      → GoesOn needs owned when goes list (walked w 0 0) r → Led file c set list needs owned when goes r
  unfolding actions_of
  led_of {w = w} t begins goes_on = record {
    tells = t;
    steps = λ labels e.
        let long : length labels ≡ row_length = ap length e ∙ length_list_over row_length (start_label c.states (start_of file c)) in
        let is : w ≡ course_in set labels =
        begins ∙ course_turned c.states set (start_of file c) starts checked.some.inside ∙ ap (course_in set) (sym e) in
        goes_on.on (actions_of file c) set labels labels t checked.some.some
        (subst (λ (l : List ℕ). Stepping (actions_of file c) set list labels l 0 w 0) (sym (settled_same set labels long is)) (step_none long is));
  }

  -- where the word led to a step that lacks its precondition
  pub led_lacks : {needs owned when goes : List ℕ} {r : Walked} → Led file c set list needs owned when goes r → r.made < length list
      → So (fails (same (common r.course (get_or needs (get_or list r.made 0) 0)) 0)) → end_rule file c set list ≡ refused 12 r.made
  unfolding actions_of
  led_lacks {needs = needs} {r = r} led h off =
      let A = actions_of file c in
      let a = get_or list r.made 0 in
      let s = led.steps turned refl in
      let named : get_or needs a 0 ≡ A.pre a =
      ap (λ (l : List ℕ). get_or l a 0) led.tells.needed ∙ get_d_list_over A.pre (checked.known r.made h) in
      effects_off checked refl
      (step_off s {labels' = settled set r.course turned} h refl
      (step_missing A set a (settled set r.course turned) (led.tells.pre a (checked.known r.made h)) s.course_is named
      (λ e. fails_at off (same_of e))) refl) h

  -- where the word led to the end of the list
  module _ {needs owned when goes : List ℕ} {r : Walked} (led : Led file c set list needs owned when goes r) (h : length list ≤ r.made) where
    stopped : Stopped (actions_of file c) set list turned (settled set r.course turned) r.made r.idle
    stopped = step_done (led.steps turned refl) h

    pub led_ends : end_rule file c set list ≡ accepted (sets_of c.states (start_of file c) set r.course)
    led_ends = effects_done checked refl stopped h ∙ ap accepted (sets_turned c.states set r.course (start_of file c) starts)

    pub led_counts : r.idle ≡ idle_steps file c set list
    led_counts = effects_idle checked refl stopped h
