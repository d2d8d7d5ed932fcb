-- Nothing to look at, all looks made, or the scan.
use Prim.Native.Nat.{◌*◌, ◌≤◌}
use native.Mathlib.Omega.{arith}
use lib.ListN.{get_or}
use Rattle.scans.proofs.Wholes.{pair_none, shown_all, sizes_few}
use Rattle.scans.proofs.pair_looks.Goals as goal
use Rattle.scans.proofs.pair_looks.Goals.{Start}

pub returns-then-both-eq0 : goal.returns-then-both-eq0
returns-then-both-eq0 c =
    let a = c.args in
    let inside = c.requires.0.inside in (
      λ spare A e. pair_none a.tables.now.live a.tables.now.mates a.tables.now.r (get_or a.adders.now a.p 0) (get_or a.adders.now a.q 0) a.p a.q
          (inside a.p c.requires.1) (inside a.q c.requires.2) a.both c.if-both-eq0.true,
      omega arith,
    )

-- the product is small
few : (s : Start) → get_or s.args.sizes.now s.args.p 0 * get_or s.args.sizes.now s.args.q 0 ≤ 1089
few s =
    let l = s.requires.0 in
    let p = s.args.p in
    let q = s.args.q in
    sizes_few (get_or s.args.adders.now p 0) (get_or s.args.adders.now q 0) (l.inside p s.requires.1) (l.inside q s.requires.2)
    (l.sizes_are p s.requires.1) (l.sizes_are q s.requires.2)

pub overflow_mul-result : goal.overflow_mul-result
overflow_mul-result c = omega (arith, few (goal.at.overflow_mul-result c).Start)

pub returns-then-both-shown-ne0 : goal.returns-then-both-shown-ne0
returns-then-both-shown-ne0 c =
    let a = c.args in
    let l = c.requires.0 in (
      λ spare A e. shown_all A a.p a.q c.requires.1 c.requires.2 a.both a.shown (l.inside a.p c.requires.1) (l.inside a.q c.requires.2)
          (l.sizes_are a.p c.requires.1) (l.sizes_are a.q c.requires.2) e c.if-both-shown-ne0.true,
      omega (arith, few (goal.at.returns-then-both-shown-ne0 c).Start),
    )

pub scan_pair-requires : goal.scan_pair-requires
scan_pair-requires c =
    let l = c.requires.0 in
    let p = c.args.p in
    let q = c.args.q in (
      omega (arith, c.requires.1, l.few),
      omega (arith, c.requires.2, l.few),
      l.inside p c.requires.1,
      l.inside q c.requires.2,
      l.sizes_are q c.requires.2,
    )

pub returns : goal.returns
returns c =
    let a = c.args in (
      λ spare A e. c.scan_pair.ensures.0
          (record { is = λ v t. A.beside v a.p a.q c.requires.1 c.requires.2 t })
          (λ v t. A.own v a.p c.requires.1 t),
      c.scan_pair.ensures.1,
    )
