-- `Whole::check_actions` meets its contract: of the two causes each version has one.
use mathlib.Core.Path.{sym, ap, ◌∙◌}
use mathlib.Core.List.{List}
use Prim.Native.Nat.{ℕ}
use denote.Bor.{Bor}
use native.Mathlib.Omega.{arith}
use Rattle.graph.specs.File.{equal_rule}
use Rattle.graph.specs.declared.format.Counts.{Counts}
use Rattle.rules.proofs.Tests.{same_of}
use Rattle.graph.proofs.Places.{not_plain, states_plain}
use Rattle.graph.proofs.Owners.{all_owned, plain_owned}
use Rattle.graph.proofs.Equals.{equal_alone, owners_alone}
use Rattle.graph.proofs.file.Whole.check_actions.Goals as goal

pub new-requires : goal.new-requires
new-requires c = let v = same_of c.if-self-eq-PLAIN_VERSION.true in (c.args.self.now.ranged, v, omega (arith, c.args.self.now.long, states_plain c.args.self.now.counts v))

pub returns-then-self-eq-PLAIN_VERSION : goal.returns-then-self-eq-PLAIN_VERSION
returns-then-self-eq-PLAIN_VERSION c =
    let f = c.args.self.now in
    c.check_equal.ensures
    ∙ ap (λ (d : Counts). equal_rule c.new.result.bytes.now d) c.new.ensures.1 ∙ ap (λ (b : Bor (List ℕ)). equal_rule b.now f.counts) c.new.ensures.0
    ∙ sym (equal_alone _ _ (all_owned _ _ (plain_owned _ _ f.ranged (same_of c.if-self-eq-PLAIN_VERSION.true))))

pub check_owners-requires : goal.check_owners-requires
check_owners-requires c = not_plain c.if-self-eq-PLAIN_VERSION.false

pub returns : goal.returns
returns c = c.check_owners.ensures ∙ sym (owners_alone _ _ (not_plain c.if-self-eq-PLAIN_VERSION.false))
