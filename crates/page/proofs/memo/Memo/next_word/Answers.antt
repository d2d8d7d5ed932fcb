-- A layer within the row that is remembered leads to the row's end; any other begins a row of its own.
use mathlib.Core.Path.{refl, sym}
use Prim.Native.Nat.{◌+◌, ◌*◌, ◌<◌}
use native.Mathlib.Omega.{arith}
use Rattle.page.specs.Memo.{rows_length}
use Rattle.page.proofs.Memos.{rows_few, passed_from, passed_as, rows_put}
use Rattle.page.proofs.memo.Memo.next_word.Goals as goal
use Rattle.page.proofs.memo.Memo.next_word.Goals.{Start}

-- the place has its row
inside : (c : Start) → 2 * c.args.place + 1 < rows_length
inside c = omega (arith, rows_few c.args.self.now.layers.shape.props c.args.self.now.layers.room.small.props)

pub overflow_mul-at : goal.overflow_mul-at
overflow_mul-at c = omega (arith, inside (goal.at.overflow_mul-at c).Start)

pub overflow_add-end : goal.overflow_add-end
overflow_add-end c = omega (arith, inside (goal.at.overflow_add-end c).Start)

pub offset_bounds-self-at : goal.offset_bounds-self-at
offset_bounds-self-at c = omega (arith, inside (goal.at.offset_bounds-self-at c).Start)

pub bounds-self-at : goal.bounds-self-at
bounds-self-at c = omega (arith, inside (goal.at.bounds-self-at c).Start, c.args.self.now.remembers.of_words.long)

pub offset_bounds-self-at-2 : goal.offset_bounds-self-at-2
offset_bounds-self-at-2 c = omega (arith, inside (goal.at.offset_bounds-self-at-2 c).Start)

pub bounds-self-at-2 : goal.bounds-self-at-2
bounds-self-at-2 c = omega (arith, inside (goal.at.bounds-self-at-2 c).Start, c.args.self.now.remembers.of_words.long)

pub returns-then-next-end : goal.returns-then-next-end
returns-then-next-end c =
    (passed_from (c.args.self.now.remembers.of_words.each _ c.requires.0) c.if-self-at.true c.if-next-end.true, refl, refl)

pub offset_bounds-self-at-3 : goal.offset_bounds-self-at-3
offset_bounds-self-at-3 c = omega (arith, inside (goal.at.offset_bounds-self-at-3 c).Start)

pub bounds-self-at-3 : goal.bounds-self-at-3
bounds-self-at-3 c = omega (arith, inside (goal.at.bounds-self-at-3 c).Start, c.args.self.now.remembers.of_words.long)

pub overflow_add-self : goal.overflow_add-self
overflow_add-self c = omega (arith, inside (goal.at.overflow_add-self c).Start)

pub offset_bounds-self-at-4 : goal.offset_bounds-self-at-4
offset_bounds-self-at-4 c = omega (arith, inside (goal.at.offset_bounds-self-at-4 c).Start)

pub bounds-self-at-4 : goal.bounds-self-at-4
bounds-self-at-4 c = inside (goal.at.bounds-self-at-4 c).Start

pub invariant_of-self : goal.invariant_of-self
invariant_of-self c = record {
  remembers = record {
    of_labels = c.args.self.now.remembers.of_labels;
    of_words = rows_put c.args.self.now.remembers.of_words c.args.self.now.layers.room.small.props c.requires.0
        (passed_as (sym c.shown-shows.ensures) refl refl c.pass_over-found.ensures);
  };
  known = c.args.self.now.known;
}

pub returns : goal.returns
returns c = (passed_as (sym c.shown-shows.ensures) refl refl c.pass_over-found.ensures, refl, refl)
