-- A read into the rest of the room keeps what lies before, and puts what it gave behind that.
use Rattle.std.proofs.Common.{◌≡◌, ℕ, ◌+◌, ◌-◌, ◌≤◌, List, ◌++◌, rules, arith, length, take, slice_range, sym, ap, ◌∙◌, subst, le_refl, drop_at, length-take-le}
use Rattle.std.proofs.lemmas.Slice.{take-put_mid_below}
use Rattle.std.specs.Io.KnownBytes.{Consumes}
use Rattle.std.proofs.KnownBytes.{Consumes-trans}
use borrow.Rule.Slice.PartMut.{put_mid, post_of}
use lib.Seq.{take-add, take-append-le}
use Rattle.streams.proofs.read_full.Goals as goal

-- the front of a list, and what lies behind it up to a place
front_more : (a b : ℕ) (old new : List ℕ) → a ≤ b → take a new ≡ take a old → take a old ++ slice_range new a b ≡ take b new
front_more a b old new h same =
    let whole : a + (b - a) ≡ b = omega arith in
    ap (λ l. l ++ slice_range new a b) (sym same) ∙ sym (take-add a (b - a) new) ∙ ap (λ n. take n new) whole

-- what was put into the middle of a list is read back
middle_back : (a k n : ℕ) (xs ys : List ℕ) → a ≤ length xs → n ≤ length ys → slice_range (put_mid a k xs ys) a (a + n) ≡ take n ys
middle_back a k n xs ys within fits =
    let whole : (a + n) - a ≡ n = omega arith in
    let behind = post_of a k xs in
    ap (take ((a + n) - a)) (drop_at (take a xs) (ys ++ behind) a (length-take-le a xs within)) ∙ ap (λ m. take m (ys ++ behind)) whole
    ∙ take-append-le n ys behind fits

pub loop-have-preserved : goal.loop-have-preserved
loop-have-preserved g c =
    let have = c.loop-have.have in
    let room = c.loop-have.room in
    let rest = length room - have in
    let inv = c.loop-have.invariant in
    let read = c.in_ok-n.ensures in
    let part = middle_back have rest c.in_ok-n.n room c.read.new.buf inv.within read.bound.0 in
    let joined = front_more have (have + c.in_ok-n.n) room (put_mid have rest room c.read.new.buf) (omega arith) (take-put_mid_below _ _ _ _ _ (le_refl _) inv.within) in
    record {
      within = search rules;
      long = search rules;
      bytes = subst (Consumes _ _) (ap (λ l. take have room ++ l) (sym part) ∙ joined) (Consumes-trans _ _ _ _ _ inv.bytes read.bytes.0);
    }
