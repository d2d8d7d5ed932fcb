use mathlib.Core.Path.{◌≡◌, ◌∙◌}
use Prim.Native.Nat.{◌-◌, ◌+◌, ◌*◌, ◌≤◌}
use native.Mathlib.Nat.{add_comm, mul-le-mul_right}
use native.Mathlib.Omega.{arith}
use borrow.Rule.Slice.PartMut.{same_len_mid}
use lib.ListN.{length}
use Rattle.rules.specs.Layer.{size, stride}
use Rattle.together.proofs.Rows.{parts_le}
use Rattle.graph.specs.Limits.{max_depth}
use Rattle.layers.specs.Step.{most_of_step}
use Rattle.build.proofs.Builds.{stepping_none, room, ready, looks_fit, stepping_more, stepping_rest, stepping_all}
use Rattle.build.proofs.steps.steps_until.Goals as goal
use Rattle.build.proofs.steps.steps_until.Goals.{After-step-did, After-stride-apart}

pub overflow_add-s : goal.overflow_add-s
overflow_add-s c = let w = c.requires.mating.wide in
    omega (arith, w.props, w.effects, parts_le w.parts)

pub layer_size-act-requires : goal.layer_size-act-requires
layer_size-act-requires c = let w = c.requires.mating.wide in
    omega (arith, w.props, w.effects, parts_le w.parts)

pub stride-apart-requires : goal.stride-apart-requires
stride-apart-requires c = let w = c.requires.mating.wide in
    record { props = omega (arith, w.props, parts_le w.parts); vertices = omega (arith, w.props, w.effects, parts_le w.parts) }

-- from one step to the next
far_is : (c : After-stride-apart) → let a = c.args in
    c.stride-apart.result ≡ size (length a.effects.needs.now + a.frame.props) + size a.frame.props
unfolding stride
far_is c = c.stride-apart.ensures.0 ∙ add_comm _ _

pub layer_size-at-requires : goal.layer_size-at-requires
layer_size-at-requires c = let w = c.requires.mating.wide in
    omega (arith, w.props, parts_le w.parts)

pub loop-k-init : goal.loop-k-init
loop-k-init c =
    let a = c.args in
    let e = a.effects in
    let f = a.frame in
    stepping_none f.props f.width f.span a.depth f.all _ e.needs.now e.adds.now e.dels.now e.adders.now e.interferers.now a.layer.now.labels a.layer.now.t a.words.now
    c.requires c.layer_size-at.ensures.0

pub offset_bounds-words-at : goal.offset_bounds-words-at
offset_bounds-words-at c = omega (arith, room c.loop-k.invariant c.loop-k-test.true)

pub slice_bounds-step-count : goal.slice_bounds-step-count
slice_bounds-step-count c = omega (arith, room c.loop-k.invariant c.loop-k-test.true)

pub slice_bounds-step-start : goal.slice_bounds-step-start
slice_bounds-step-start c = omega (arith, room c.loop-k.invariant c.loop-k-test.true)

pub step-did-requires : goal.step-did-requires
step-did-requires c = ready c.loop-k.invariant c.loop-k-test.true _ c.layer_size-act.ensures.0

-- the sums of the looks are small
sums : (c : After-step-did) → (c.loop-k.looked + c.step-did.result.looked ≤ (c.loop-k.k + 1) * most_of_step) × ((c.args.depth - (c.loop-k.k + 1)) * c.step-did.result.looked ≤ max_depth * most_of_step)
sums c = looks_fit c.loop-k.invariant c.loop-k-test.true _ c.step-did.ensures.0

deep : (c : After-step-did) → c.loop-k.k + 1 ≤ max_depth
deep c = omega (arith, c.loop-k-test.true, c.loop-k.invariant.lent.deep)

pub overflow_add-looked : goal.overflow_add-looked
overflow_add-looked c = omega (arith, sums (goal.at.overflow_add-looked c).After-step-did, mul-le-mul_right most_of_step (deep (goal.at.overflow_add-looked c).After-step-did))

pub overflow_add-result : goal.overflow_add-result
overflow_add-result c = omega (arith, deep (goal.at.overflow_add-result c).After-step-did)

pub overflow_add-result-then-did : goal.overflow_add-result-then-did
overflow_add-result-then-did c = omega (arith, deep (goal.at.overflow_add-result-then-did c).After-step-did)

pub overflow_sub-result : goal.overflow_sub-result
overflow_sub-result c = omega (arith, c.loop-k-test.true)

pub overflow_mul-result : goal.overflow_mul-result
overflow_mul-result c = omega (arith, sums (goal.at.overflow_mul-result c).After-step-did)

pub overflow_add-result-then-did-2 : goal.overflow_add-result-then-did-2
overflow_add-result-then-did-2 c = omega (arith, sums (goal.at.overflow_add-result-then-did-2 c).After-step-did, mul-le-mul_right most_of_step (deep (goal.at.overflow_add-result-then-did-2 c).After-step-did))

pub shape_of-words-then-did : goal.shape_of-words-then-did
shape_of-words-then-did c = same_len_mid c.loop-k.at (length c.loop-k.words - c.loop-k.at) c.loop-k.words c.step-did.new.words c.step-did.auto.words ∙ c.loop-k.invariant.long

pub returns-then-did : goal.returns-then-did
returns-then-did c = let did = c.step-did in (
  omega (arith, c.loop-k-test.true),
  λ h. omega arith,
  stepping_rest c.loop-k.invariant c.loop-k-test.true did.new.layer.labels did.new.layer.t did.new.words _ _ did.ensures.1 did.ensures.0 c.if-did.true,
)

pub overflow_add-at : goal.overflow_add-at
overflow_add-at c = omega (arith, room c.loop-k.invariant c.loop-k-test.true, far_is (goal.at.overflow_add-at c).After-stride-apart)

pub overflow_step-k : goal.overflow_step-k
overflow_step-k c = omega (arith, c.loop-k-test.true, c.requires.deep)

pub loop-k-smaller : goal.loop-k-smaller
loop-k-smaller c = omega (arith, c.loop-k-test.true)

pub loop-k-preserved : goal.loop-k-preserved
loop-k-preserved c = let did = c.step-did in
    stepping_more c.loop-k.invariant c.loop-k-test.true did.new.layer.labels did.new.layer.t did.new.words _ _ did.ensures.1 did.ensures.0 _ (omega (arith, far_is (goal.at.loop-k-preserved c).After-stride-apart)) did.auto.words

pub shape_of-words : goal.shape_of-words
shape_of-words c = c.loop-k.invariant.long

pub returns : goal.returns
returns c = (omega arith, λ h. absurd (omega arith), stepping_all c.loop-k.invariant c.loop-k-test.false)
