-- The layer that is remembered is moved up to the first that shows the set; only in an altered graph the label lacks a state again behind it.
use mathlib.Core.Path.{refl, sym}
use Prim.Native.Nat.{◌<◌}
use native.Mathlib.Omega.{arith}
use Rattle.rules.specs.Layer.{size}
use Rattle.rules.proofs.Layers.{labels_in}
use Rattle.level.specs.Meets.{shown_at, PassedOver}
use Rattle.page.proofs.Memos.{passed_from, passed_on, passed_as, firsts_put}
use Rattle.page.proofs.memo.Memo.next_label.Goals as goal
use Rattle.page.proofs.memo.Memo.next_label.Goals.{After-pass_over-first, Start}

-- a label is a word of the layer
inside : (c : Start) → c.args.p < size c.args.self.now.layers.shape.props
inside c = omega (arith, labels_in c.args.self.now.layers.shape.props)

-- no layer before the one found shows the set
found : (c : After-pass_over-first)
    → let a = c.args in PassedOver a.self.now.layers.shape a.self.now.layers.words.now a.self.now.layers.depth a.self.now.set.0 a.p (shown_at a.self.now.layers.shape.props a.self.now.set.0 a.p) 0 c.pass_over-first.result
found c =
    passed_on (c.args.self.now.remembers.of_labels.each c.args.p c.requires.0) (passed_as (sym c.shown-shows.ensures) refl refl c.pass_over-first.ensures)

pub pass_over-first-requires : goal.pass_over-first-requires
pass_over-first-requires c =
    (omega (arith, (c.args.self.now.remembers.of_labels.each c.args.p c.requires.0).within), inside (goal.at.pass_over-first-requires c).Start)

pub invariant_of-self : goal.invariant_of-self
invariant_of-self c = record {
  remembers = record {
    of_labels = firsts_put c.args.self.now.remembers.of_labels (omega arith) (found (goal.at.invariant_of-self c).After-pass_over-first);
    of_words = c.args.self.now.remembers.of_words;
  };
  known = c.args.self.now.known;
}

pub returns-then-t-first : goal.returns-then-t-first
returns-then-t-first c = (passed_from (found (goal.at.returns-then-t-first c).After-pass_over-first) (omega arith) (omega arith), refl, refl)

pub pass_over-requires : goal.pass_over-requires
pass_over-requires c = (omega arith, inside (goal.at.pass_over-requires c).Start)

pub returns : goal.returns
returns c = (passed_as (sym c.shown-shows.ensures) refl refl c.pass_over.ensures, refl, refl)
