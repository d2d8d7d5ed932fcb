-- What was read, turned and compared.
use mathlib.Core.Path.{ap, ◌∙◌}
use Prim.Native.Nat.{ℕ}
use Rattle.words.specs.Rows.{columns_of}
use Rattle.build.proofs.problem.read_problem.Goals as goal

pub returns : goal.returns
returns c =
    let did = c.read_effects in
    record {
      needs_are = did.ensures.0;
      adds_are = did.ensures.1;
      dels_are = did.ensures.2;
      owners_are = did.ensures.3;
      adders_are = c.columns.ensures ∙ ap (λ (x : ℕ). columns_of x did.new.adds) c.requires.adders_long;
      interferers_are = c.interferer_sets.ensures;
    }
