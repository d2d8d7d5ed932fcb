-- Idle steps, and what a run reports of them.
-- Assumes nothing.
use mathlib.Core.Path.{◌≡◌, refl, sym, ap, ap₂, subst, ◌∙◌}
use mathlib.Core.Bool.{So}
use mathlib.Core.List.{List, ◌∷◌, ◌++◌}
use Prim.Native.Nat.{ℕ, suc, ◌+◌, ◌≤◌, ◌<◌}
use native.Mathlib.Omega.{arith}
use lib.ListN.{length, get_or, length-append}
use Rattle.rules.specs.Word.{single}
use Rattle.rules.specs.Run.{after, idle, ended, run_of}
use Rattle.rules.proofs.Words.{bit_below}
use Rattle.rules.proofs.Layers.{get_d_list_over}
use Rattle.rules.proofs.Idles as laws
use Rattle.graph.specs.Verdict.{Verdict, accepted, refused}
use Rattle.graph.specs.Format.{actions_of, start_of, counts_in}
use Rattle.graph.specs.File.{file_rule}
use Rattle.graph.specs.declared.format.Counts.{Counts}
use Rattle.graph.proofs.Ladder.{taken_linked}
use Rattle.graph.proofs.Verdicts.{accepted_is}
use Rattle.run.specs.Run.{max_steps, run_rule, Reported, reported, idle_steps, report_rule}
use Rattle.run.proofs.Built.{Accepted, run_accepted}
use Rattle.theorems.specs.Setting.{Exactly, StatesOf, Each}
use Rattle.theorems.proofs.Bounds.{runs_accepted}

-- ---- what a run reports

reported_refused : (k : ℕ) (v : Verdict (List ℕ)) {number place : ℕ} → reported k v ≡ refused number place → v ≡ refused number place
unfolding reported
reported_refused k (accepted ends) e = cc
reported_refused k (refused number place) e = cc

reported_accepted : (k : ℕ) (v : Verdict (List ℕ)) {r : Reported} → reported k v ≡ accepted r
    → (ends : List ℕ) × (v ≡ accepted ends) × (r.sets ≡ length ends) × (r.idle ≡ k)
unfolding reported
reported_accepted k (accepted ends) {r} e =
    let q : r ≡ record { sets = length ends; idle = k } = sym (accepted_is _ _ e) in
    (ends, refl, ap (λ (x : Reported). x.sets) q, ap (λ (x : Reported). x.idle) q)
reported_accepted k (refused number place) e = absurd (let z : ◌≡◌ {A = ℕ} 0 1 = cc in omega arith)

pub refused_exactly : (file : List ℕ) (set : ℕ) (list : List ℕ) (room number place : ℕ)
    → Exactly (run_rule file set list room ≡ refused number place) (report_rule file set list room ≡ refused number place)
unfolding report_rule reported
refused_exactly file set list room number place = (
  λ e. ap (reported (idle_steps file (counts_in file) set list)) e,
  λ e. reported_refused (idle_steps file (counts_in file) set list) (run_rule file set list room) e,
)

module _ (file : List ℕ) {c : Counts} (taken : file_rule file ≡ accepted c) (set : ℕ) (list : List ℕ) (room : ℕ) where
  counted : idle_steps file (counts_in file) set list ≡ idle_steps file c set list
  counted = ap (λ (x : Counts). idle_steps file x set list) (sym (taken_linked file c taken).are)

  pub reports : {ends : List ℕ} → run_rule file set list room ≡ accepted ends
      → report_rule file set list room ≡ accepted (record { sets = length ends; idle = idle_steps file c set list })
  unfolding report_rule reported
  reports e = ap₂ reported counted e

  pub report_means : {r : Reported} → report_rule file set list room ≡ accepted r
      → (ends : List ℕ) × (run_rule file set list room ≡ accepted ends) × (r.sets ≡ length ends) × (r.idle ≡ idle_steps file c set list)
  unfolding report_rule
  report_means e =
      let (ends, ran, sets, idles) = reported_accepted (idle_steps file (counts_in file) set list) (run_rule file set list room) e in
      (ends, ran, sets, idles ∙ counted)

-- ---- a step

module _ (file : List ℕ) (c : Counts) (set a : ℕ) (xs : List ℕ) where
  pub exactly : StatesOf c set
      → Exactly (So (idle (actions_of file c) c.states set a xs)) (Each set (λ s. after (actions_of file c) a (get_or xs s 0) ≡ get_or xs s 0))
  exactly some = (
    λ t s b. laws.idle_at_lem (actions_of file c) c.states set a xs t s (bit_below some.few b) b,
    λ each. laws.idle_of_lem (actions_of file c) c.states set a xs (λ s h b. each s b),
  )

  pub members : Exactly (So (idle (actions_of file c) c.states set a xs)) (Each set (λ s. So (idle (actions_of file c) c.states (single s) a xs)))
  members = (
    λ t s b. laws.idle_alone (actions_of file c) c.states set a xs t s b,
    λ each. laws.idle_together (actions_of file c) c.states set a xs (λ s h b. each s b),
  )

  pub in_set : (ys : List ℕ) → Each set (λ s. get_or xs s 0 ≡ get_or ys s 0)
      → idle (actions_of file c) c.states set a xs ≡ idle (actions_of file c) c.states set a ys
  in_set ys agree = laws.idle_same (actions_of file c) c.states set a xs ys (λ s h b. agree s b)

-- ---- a list

-- what is known of an accepted run, by the file's counts
record Passed (file : List ℕ) (c : Counts) (set : ℕ) (list : List ℕ) (room : ℕ) (ends : List ℕ) : Type 0 where
  some : StatesOf c set
  fits : c.states ≤ room
  short : length list ≤ max_steps
  known : (i : ℕ) → i < length list → get_or list i 0 < c.actions
  ran : run_of (actions_of file c) c.states (start_of file c) set list ≡ ended ends

module _ (file : List ℕ) {c : Counts} (taken : file_rule file ≡ accepted c) (set : ℕ) (room : ℕ) where
  passed : (list : List ℕ) {ends : List ℕ} → run_rule file set list room ≡ accepted ends → Passed file c set list room ends
  passed list {ends} e =
      let k : Accepted file set list room ends = run_accepted file set list room ends e in
      subst (λ (x : Counts). Passed file x set list room ends) (accepted_is _ _ (sym k.rule ∙ taken)) (record {
        some = record { some = k.some; few = k.small };
        fits = k.fits;
        short = k.short;
        known = k.known;
        ran = k.ran;
      })

  -- an idle step left out
  module _ (front back : List ℕ) (a : ℕ) {mid : List ℕ} (came : run_rule file set front room ≡ accepted mid)
      (still : So (idle (actions_of file c) c.states set a mid)) where
    pub left_out : {ends : List ℕ} → run_rule file set (front ++ a ∷ back) room ≡ accepted ends → run_rule file set (front ++ back) room ≡ accepted ends
    left_out {ends} e =
        let p : Passed file c set (front ++ a ∷ back) room ends = passed (front ++ a ∷ back) e in
        runs_accepted file taken p.some (front ++ back) (laws.every_left_out (λ i. i < c.actions) a front back p.known) room p.fits
        (omega (arith, p.short, length-append front (a ∷ back), length-append front back))
        (laws.left_out_runs (actions_of file c) c.states (start_of file c) set front back a (passed front came).ran still p.ran)

    pub one_less : idle_steps file c set (front ++ a ∷ back) ≡ suc (idle_steps file c set (front ++ back))
    one_less = laws.left_out_idle (actions_of file c) c.states (start_of file c) set front back a (passed front came).ran still

    pub report_less : (r : Reported) → report_rule file set (front ++ a ∷ back) room ≡ accepted r
        → (r' : Reported) × (report_rule file set (front ++ back) room ≡ accepted r') × (r'.sets ≡ r.sets) × (r.idle ≡ suc r'.idle)
    report_less r e =
        let (ends, ran, sets, idles) = report_means file taken set (front ++ a ∷ back) room e in
        (_, reports file taken set (front ++ back) room (left_out ran), sym sets, idles ∙ one_less)

  module _ (list : List ℕ) {ends : List ℕ} (e : run_rule file set list room ≡ accepted ends) where
    pub no_change : idle_steps file c set list ≡ length list → (s : ℕ) → s < c.states → get_or ends s 0 ≡ start_of file c s
    no_change all s h =
        ap (λ (xs : List ℕ). get_or xs s 0) (laws.idles_all (actions_of file c) c.states set (start_of file c) list (passed list e).ran all)
        ∙ get_d_list_over (start_of file c) h

    pub trimmed : (left : List ℕ) × (run_rule file set left room ≡ accepted ends) × (idle_steps file c set left ≡ 0)
        × (length left + idle_steps file c set list ≡ length list)
    trimmed =
        let p : Passed file c set list room ends = passed list e in
        let (left, ran, none, others, every) =
        laws.trimmed (actions_of file c) c.states set (λ i. i < c.actions) (start_of file c) list p.known p.ran in
        (left, runs_accepted file taken p.some left every room p.fits (omega (arith, p.short, others)) ran, none, others)

pub bound : (file : List ℕ) (c : Counts) (set : ℕ) (list : List ℕ) → idle_steps file c set list ≤ length list
bound file c set list = laws.idles_most (actions_of file c) c.states set (start_of file c) list
