use mathlib.Core.Path.{◌≡◌, sym, ap, subst, ◌∙◌}
use Prim.Native.Nat.{ℕ, ◌+◌, ◌*◌, ◌^◌, ◌≤◌, ◌<◌}
use mir.Syntax.{w16}
use mir.Val.{Fits}
use native.Mathlib.Nat.{mul-le-mul}
use native.Mathlib.Omega.{arith}
use borrow.Author.Rules.{rules}
use lib.ListN.{length}
use mathlib.Core.List.{List}
use Rattle.rules.specs.Word.{first}
use Rattle.rules.specs.Share as S
use Rattle.rules.proofs.Tests.{is_fails}
use Rattle.rules.proofs.Shares.{holders_few}
use Rattle.words.specs.declared.sets.States.{States}
use Rattle.level.proofs.Parts.{layer_fits, part_length}
use Rattle.share.specs.Sums.{Looked}
use Rattle.share.specs.declared.enough.Share.{Share}
use Rattle.share.proofs.Seeks.{held_in, Seeking, at_once, seeking_none, seeking_found, seeking_more, seeking_on, seeking_end}
use Rattle.share.proofs.enough.first_enough.Goals as goal
use Rattle.share.proofs.enough.first_enough.Goals.{After-holders-held, Start, Then-not-within, then-not-within+else-wanted-have, else-not-within}

-- a number of 16 bits
small : (x : ℕ) → Fits w16 x → x ≤ 65535
small x h = omega (arith, h)

-- the share as the rule has it
abbrev asked : Share → S.Share
asked s = S.share_of s.weights.now s.numerator s.denominator

-- the search of this call, and what holds the goal in its layer t
abbrev Seeks : Start → ℕ → ℕ → ℕ → Type 0
Seeks c short have t =
    let a = c.args in Seeking a.layers.now.shape a.layers.now.depth (asked a.share.now) a.goal.0 a.layers.now.words.now short have t

looked : (c : After-holders-held) → Looked (held_in c.args.layers.now.shape c.args.layers.now.depth (asked c.args.share.now) c.args.goal.0 c.args.layers.now.words.now c.loop-t.t) c.loop-t.short.0 c.holders-held.result.0
looked c =
    let a = c.args in
    subst (λ (l : List ℕ). Looked (S.holders a.layers.now.shape.props (first (length a.share.now.weights.now)) l a.goal.0) c.loop-t.short.0 c.holders-held.result.0) c.at.ensures
    (subst (λ (all : ℕ). Looked (S.holders a.layers.now.shape.props all c.at.result.now a.goal.0) c.loop-t.short.0 c.holders-held.result.0)
    c.first-all.ensures c.holders-held.ensures)

held : (c : Then-not-within) → Looked (held_in c.args.layers.now.shape c.args.layers.now.depth (asked c.args.share.now) c.args.goal.0 c.args.layers.now.words.now c.loop-t.t) c.loop-t.short.0 c.holders-held.result.0
    → c.holders-held.result.0 ≡ held_in c.args.layers.now.shape c.args.layers.now.depth (asked c.args.share.now) c.args.goal.0 c.args.layers.now.words.now c.loop-t.t
held c l = l.else (is_fails (sym c.within.ensures ∙ c.if-not-within.true))

-- only states with a weight do
few : (c : Then-not-within) → Looked (held_in c.args.layers.now.shape c.args.layers.now.depth (asked c.args.share.now) c.args.goal.0 c.args.layers.now.words.now c.loop-t.t) c.loop-t.short.0 c.holders-held.result.0
    → c.holders-held.result.0 < 2 ^ length c.args.share.now.weights.now
few c l =
    let a = c.args in
    subst (λ (x : ℕ). x < 2 ^ length a.share.now.weights.now) (sym (held c l)) (holders_few a.layers.now.shape.props (length a.share.now.weights.now) _ a.goal.0)

pub returns-then-wanted-eq0 : goal.returns-then-wanted-eq0
returns-then-wanted-eq0 c =
    let a = c.args in
    at_once a.layers.now.shape a.layers.now.depth (asked a.share.now) a.goal.0 a.layers.now.words.now
    (ap (λ (x : ℕ). x * c.args.share.now.numerator) (sym c.args.share.now.weighed.is) ∙ c.if-wanted-eq0.true)

pub returns-then-wanted-have : goal.returns-then-wanted-have
returns-then-wanted-have c =
    seeking_found _ _ _ _ _ c.loop-t.invariant (omega arith) (held (goal.at.returns-then-wanted-have c).Then-not-within (looked (goal.at.returns-then-wanted-have c).After-holders-held)) c.weight_by-have.ensures.0
    (omega (arith, c.if-wanted-have.true, ap (λ (x : ℕ). x * c.args.share.now.numerator) c.args.share.now.weighed.is))

pub loop-t-preserved : goal.loop-t-preserved
loop-t-preserved c =
    elim c.if-not-within.branch [
      | then-not-within+else-wanted-have w ↦
          subst (λ (x : States). Seeks (goal.at.loop-t-preserved c).Start x.0 c.if-not-within.have (c.loop-t.t + 1)) (sym w.short-is)
          (subst (λ (x : ℕ). Seeks (goal.at.loop-t-preserved c).Start c.holders-held.result.0 x (c.loop-t.t + 1)) (sym w.have-is)
          (seeking_more _ _ _ _ _ c.loop-t.invariant (omega arith)
          ((looked (goal.at.loop-t-preserved c).After-holders-held).else (is_fails (sym c.within.ensures ∙ w.if-not-within.true))) w.weight_by-have.ensures.0
          (omega (arith, w.if-wanted-have.false, ap (λ (x : ℕ). x * c.args.share.now.numerator) c.args.share.now.weighed.is))))
      | else-not-within w ↦
          subst (λ (x : States). Seeks (goal.at.loop-t-preserved c).Start x.0 c.if-not-within.have (c.loop-t.t + 1)) (sym w.short-is)
          (subst (λ (x : ℕ). Seeks (goal.at.loop-t-preserved c).Start c.loop-t.short.0 x (c.loop-t.t + 1)) (sym w.have-is)
          (seeking_on _ _ _ _ _ c.loop-t.invariant (omega arith) ((looked (goal.at.loop-t-preserved c).After-holders-held).inside (sym c.within.ensures ∙ w.if-not-within.false))))
    ]

pub overflow_mul-wanted : goal.overflow_mul-wanted
overflow_mul-wanted c =
    omega (arith, mul-le-mul c.args.share.now.weighed.small (small c.args.share.now.numerator (search rules)))

pub first-all-requires : goal.first-all-requires
first-all-requires c = c.args.share.now.weighed.few

pub loop-t-init : goal.loop-t-init
loop-t-init c =
    seeking_none _ _ _ _ _ (λ e. c.if-wanted-eq0.false (ap (λ (x : ℕ). x * c.args.share.now.numerator) c.args.share.now.weighed.is ∙ e))

pub holders-held-requires : goal.holders-held-requires
holders-held-requires c =
    let v = c.args.layers.now in
    (v.room.small.props, ap length c.at.ensures ∙ part_length v.shape c.loop-t.t v.words.now (layer_fits v.room c.loop-t.t (omega arith)), c.requires)

pub weight_by-have-requires : goal.weight_by-have-requires
weight_by-have-requires c =
    (c.args.share.now.weighed.few, few (goal.at.weight_by-have-requires c).Then-not-within (looked (goal.at.weight_by-have-requires c).After-holders-held), c.loop-t.invariant.is)

pub overflow_cast-have : goal.overflow_cast-have
overflow_cast-have c = omega (arith, c.weight_by-have.ensures.1)

pub overflow_mul-have : goal.overflow_mul-have
overflow_mul-have c =
    omega (arith, mul-le-mul c.weight_by-have.ensures.1 (small c.args.share.now.denominator (search rules)))

pub returns : goal.returns
returns c = seeking_end _ _ _ _ _ c.loop-t.invariant (omega arith)
