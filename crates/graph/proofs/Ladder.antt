-- What is known once a chain of checks was passed: of a file, of a call, and that what is so known passes.
-- Assumes nothing.
use mathlib.Core.Path.{◌≡◌, refl, sym, ap, subst, ◌∙◌}
use mathlib.Core.Bool.{Bool, true, false, So}
use mathlib.Core.Logic.{⊎_elim}
use mathlib.Core.List.{List}
use Prim.Native.Nat.{ℕ, ◌^◌, ◌≤◌, ◌<◌}
use native.Mathlib.Omega.{arith}
use lib.ListN.{length, get_or}
use Rattle.rules.specs.Test.{◌or◌, fails, same}
use Rattle.rules.specs.Layer.{word_count}
use Rattle.rules.proofs.Tests.{choose_held, choose_failed, fails_of, fails_at, or_left, or_right, or_at, holds_or, same_of, same_at, below_at, below_fails}
use Rattle.graph.specs.Limits.{max_depth}
use Rattle.graph.specs.Verdict.{Verdict, accepted, refused}
use Rattle.graph.specs.Format.{head_bytes, long_head, plain_version, effects_version, actions_offset, effects_offset, effects_place, letters, version, counts_in, right_length}
use Rattle.graph.specs.Format.{actions_of, shape_in}
use Rattle.graph.specs.File.{Ranged, Taken, head_of, head_rule, version_rule, counts_rule, length_rule, sets_rule, owners_rule, equal_rule, actions_rule, file_rule}
use Rattle.graph.specs.Checks.{Small, Passed, depth_rule, set_rule, goal_rule, memory_rule, output_rule, asked_rule, graph_rule}
use Rattle.graph.specs.declared.format.Counts.{Counts}
use Rattle.graph.proofs.Verdicts.{then_refused, then_accepted, passed_if_not, passed_if, passed_then, accepted_is}
use Rattle.graph.proofs.Owners.{owners_mean}
use Rattle.graph.proofs.Files.{Fits, pass_fits, pre_fits, when_fits, add_fits, del_fits, start_fits}
use Rattle.graph.proofs.Links.{deep_enough, long_memory}

so_at : (a : Bool) → So (fails (fails a)) → So a
unfolding fails
so_at true t = refl
so_at false t = t

-- of two of which the first fails
or_second : (a : Bool) {b : Bool} → So (fails a) → So (a or b) → So b
or_second a f t = ⊎_elim (λ s. absurd (fails_at f s)) (λ s. s) (or_at t)

neither : (a b : Bool) → So (fails (a or b)) → So (fails a) × So (fails b)
neither a b t = (fails_of (λ s. fails_at t (or_left b s)), fails_of (λ s. fails_at t (or_right a s)))

-- ---- the links of a file

-- what the head says
pub record Headed (file : List ℕ) : Type 0 where
  pub bytes : head_bytes ≤ length file
  pub letters : So (letters file)
  pub whole : head_of (version file) ≤ length file

pub head_means : (file : List ℕ) → head_rule file ≡ accepted tt → Headed file
unfolding head_rule
head_means file e =
    let (short, more) = neither _ _ (passed_if_not _ _ _ _ _ e).0 in
    let (none, shorter) = neither _ _ more in
    record { bytes = below_fails short; letters = so_at _ none; whole = below_fails shorter }

pub version_means : (file : List ℕ) → version_rule file ≡ accepted tt → So (same (version file) plain_version or same (version file) effects_version)
unfolding version_rule
version_means file e = (passed_if _ _ _ _ _ e).0

-- the number of effects stands in the head
pub effects_inside : (file : List ℕ) → head_rule file ≡ accepted tt → version_rule file ≡ accepted tt
    → effects_place (version file) < length file
unfolding head_of effects_place
effects_inside file h v =
    let headed = head_means file h in
    ⊎_elim
    (λ t. omega (arith, choose_held {b = same (version file) plain_version} {x = actions_offset} effects_offset t, headed.bytes))
    (λ f. omega (
      arith,
      choose_failed (same (version file) plain_version) actions_offset {y = effects_offset} f,
      headed.whole,
      choose_held {b = same (version file) effects_version} {x = long_head} head_bytes (or_second _ f (version_means file v)),
    ))
    (holds_or (same (version file) plain_version))

pub counts_mean : (file : List ℕ) → counts_rule (counts_in file) ≡ accepted tt → Ranged (counts_in file)
unfolding counts_rule counts_in effects_place
counts_mean file e =
    let (p, e₁) = passed_if_not _ _ _ _ _ e in
    let (a, e₂) = passed_if_not _ _ _ _ _ e₁ in
    let (n, e₃) = passed_if_not _ _ _ _ _ e₂ in
    let (f, e₄) = passed_if_not _ _ _ _ _ e₃ in
    let (p₁, p₂) = neither _ _ p in
    let (n₁, n₂) = neither _ _ n in
    record {
      some_props = below_fails p₁;
      props = below_fails p₂;
      actions = below_fails a;
      effects = below_fails f;
      some_states = below_fails n₁;
      states = below_fails n₂;
      own = λ v. ap (λ (x : ℕ). get_or file x 0) (choose_held _ v);
    }

-- so a graph of the file is small
pub small_of : (c : Counts) → Ranged c → Small (shape_in c)
small_of c r = record { props = r.props; vertices = omega (arith, r.props, r.effects) }

pub length_means : (file : List ℕ) (c : Counts) → length_rule file c ≡ accepted tt → length file ≡ right_length c
unfolding length_rule
length_means file c e = same_at (passed_if _ _ _ _ _ e).0

pub actions_mean : (file : List ℕ) (c : Counts) → actions_rule file c ≡ accepted tt → (owners_rule file c ≡ accepted tt) × (equal_rule file c ≡ accepted tt)
unfolding actions_rule
actions_mean file c e = let (u, o, q) = passed_then _ _ tt e in (o, q)

-- the first link that turns the file away, with those before it passed
module _ (file : List ℕ) (n p : ℕ) where
  pub by_head : head_rule file ≡ refused n p → file_rule file ≡ refused n p
  unfolding file_rule
  by_head e = then_refused _ _ n p e

  module _ (h : head_rule file ≡ accepted tt) where
    pub by_version : version_rule file ≡ refused n p → file_rule file ≡ refused n p
    unfolding file_rule
    by_version e = then_accepted _ _ tt h ∙ then_refused _ _ n p e

    module _ (v : version_rule file ≡ accepted tt) where
      pub by_counts : counts_rule (counts_in file) ≡ refused n p → file_rule file ≡ refused n p
      unfolding file_rule
      by_counts e = then_accepted _ _ tt h ∙ then_accepted _ _ tt v ∙ then_refused _ _ n p e

      module _ (k : counts_rule (counts_in file) ≡ accepted tt) where
        pub by_length : length_rule file (counts_in file) ≡ refused n p → file_rule file ≡ refused n p
        unfolding file_rule
        by_length e = then_accepted _ _ tt h ∙ then_accepted _ _ tt v ∙ then_accepted _ _ tt k ∙ then_refused _ _ n p e

        module _ (l : length_rule file (counts_in file) ≡ accepted tt) where
          pub by_sets : sets_rule file (counts_in file) ≡ refused n p → file_rule file ≡ refused n p
          unfolding file_rule
          by_sets e =
              then_accepted _ _ tt h ∙ then_accepted _ _ tt v ∙ then_accepted _ _ tt k ∙ then_accepted _ _ tt l ∙ then_refused _ _ n p e

          module _ (s : sets_rule file (counts_in file) ≡ accepted tt) where
            pub by_actions : actions_rule file (counts_in file) ≡ refused n p → file_rule file ≡ refused n p
            unfolding file_rule
            by_actions e =
                then_accepted _ _ tt h ∙ then_accepted _ _ tt v ∙ then_accepted _ _ tt k ∙ then_accepted _ _ tt l ∙ then_accepted _ _ tt s
                ∙ then_refused _ _ n p e

-- ---- a file that was taken

-- its links, one by one
pub record Linked (file : List ℕ) (c : Counts) : Type 0 where
  pub head : head_rule file ≡ accepted tt
  pub version : version_rule file ≡ accepted tt
  pub counts : counts_rule (counts_in file) ≡ accepted tt
  pub length : length_rule file (counts_in file) ≡ accepted tt
  pub sets : sets_rule file (counts_in file) ≡ accepted tt
  pub actions : actions_rule file (counts_in file) ≡ accepted tt
  pub are : c ≡ counts_in file

pub taken_linked : (file : List ℕ) (c : Counts) → file_rule file ≡ accepted c → Linked file c
unfolding file_rule
taken_linked file c e =
    let (u₁, h, e₁) = passed_then _ _ c e in
    let (u₂, v, e₂) = passed_then _ _ c e₁ in
    let (u₃, n, e₃) = passed_then _ _ c e₂ in
    let (u₄, l, e₄) = passed_then _ _ c e₃ in
    let (u₅, s, e₅) = passed_then _ _ c e₄ in
    let (u₆, a, e₆) = passed_then _ _ c e₅ in
    record { head = h; version = v; counts = n; length = l; sets = s; actions = a; are = sym (accepted_is _ _ e₆) }

-- a file whose links are all passed is taken
pub linked_taken : (file : List ℕ) (c : Counts) → Linked file c → file_rule file ≡ accepted c
unfolding file_rule
linked_taken file c l =
    then_accepted _ _ tt l.head ∙ then_accepted _ _ tt l.version ∙ then_accepted _ _ tt l.counts
    ∙ then_accepted _ _ tt l.length ∙ then_accepted _ _ tt l.sets ∙ then_accepted _ _ tt l.actions
    ∙ ap accepted (sym l.are)

pub taken_means : (file : List ℕ) (c : Counts) → file_rule file ≡ accepted c → Taken file c
unfolding actions_of
taken_means file c e =
    let l = taken_linked file c e in
    let r : Ranged (counts_in file) = counts_mean file l.counts in
    let f : Fits file (counts_in file) = pass_fits file _ l.sets in
    subst (λ (x : Counts). Taken file x) (sym l.are) (record {
      ranged = r;
      long = length_means file _ l.length;
      sound = record { pre = pre_fits file _ r f; when = when_fits file _ r f; owner = owners_mean file _ (actions_mean file _ l.actions).0 };
      add = add_fits file _ r f;
      del = del_fits file _ r f;
      start = start_fits file _ r f;
      counts = refl;
    })

-- ---- the caller's checks

pub depth_means : (depth : ℕ) → depth_rule depth ≡ accepted tt → depth ≤ max_depth
unfolding depth_rule
depth_means depth e = below_fails (passed_if_not _ _ _ _ _ e).0

pub set_means : (n set : ℕ) → set_rule n set ≡ accepted tt → (set ≡ 0 → ⊥) × (set < 2 ^ n)
unfolding set_rule
set_means n set e =
    let (none, wide) = neither _ _ (passed_if_not _ _ _ _ _ e).0 in
    (λ z. fails_at none (same_of z), below_at (so_at _ wide))

pub goal_means : (n goal : ℕ) → goal_rule n goal ≡ accepted tt → goal < 2 ^ n
unfolding goal_rule
goal_means n goal e = below_at (passed_if _ _ _ _ _ e).0

pub memory_means : (wanted have : ℕ) → memory_rule wanted have ≡ accepted tt → wanted ≤ have
unfolding memory_rule
memory_means wanted have e = below_fails (passed_if_not _ _ _ _ _ e).0

pub output_means : (wanted have : ℕ) → output_rule wanted have ≡ accepted tt → wanted ≤ have
unfolding output_rule
output_means wanted have e = below_fails (passed_if_not _ _ _ _ _ e).0

-- the set and the goal of a call that takes both
pub asked_means : (c : Counts) (set goal : ℕ) → asked_rule c set goal ≡ accepted tt
    → (set_rule c.states set ≡ accepted tt) × (goal_rule c.props goal ≡ accepted tt)
unfolding asked_rule
asked_means c set goal e = let (u, s, g) = passed_then _ _ tt e in (s, g)

pub asked_of : (c : Counts) (set goal : ℕ) → set_rule c.states set ≡ accepted tt → goal_rule c.props goal ≡ accepted tt
    → asked_rule c set goal ≡ accepted tt
unfolding asked_rule
asked_of c set goal s g = then_accepted _ _ tt s ∙ g

-- causes 6 to 9, both ways
module _ (c : Counts) (depth : ℕ) (asked : Verdict (Unit {0})) (have : ℕ) where
  pub graph_means : graph_rule c depth asked have ≡ accepted tt → Passed c depth asked have
  unfolding graph_rule
  graph_means e =
      let (u, d, e₁) = passed_then _ _ tt e in
      let (v, a, m) = passed_then _ _ tt e₁ in
      record { deep = depth_means depth d; fine = a; fits = memory_means _ _ m }

  pub graph_of_lem : Passed c depth asked have → graph_rule c depth asked have ≡ accepted tt
  unfolding graph_rule
  graph_of_lem p =
      then_accepted _ _ tt (sym (deep_enough depth p.deep)) ∙ then_accepted _ _ tt p.fine ∙ sym (long_memory (word_count (shape_in c) depth) have p.fits)
