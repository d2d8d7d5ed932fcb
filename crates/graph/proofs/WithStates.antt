-- The file with other start states: it is taken, with the same actions and just these start states, and so is its build.
-- Assumes nothing.
use mathlib.Core.Path.{◌≡◌, refl, sym, ap, ap₂, subst, ◌∙◌}
use mathlib.Core.Bool.{Bool, So}
use mathlib.Core.Logic.{⊎_elim}
use mathlib.Core.List.{List, ◌∷◌, ◌++◌}
use Prim.Native.Nat.{ℕ, suc, ◌+◌, ◌-◌, ◌*◌, ◌/◌, ◌%◌, ◌^◌, ◌≤◌, ◌<◌}
use native.Mathlib.Nat.{add-zero, div-div-eq-div-mul, mod-eq_of_lt, lt_of_lt_of_le}
use native.Mathlib.Omega.{arith}
use lib.ListN.{length, get_or, take, drop, length-append, length-drop, get_or-append}
use lib.Pow.{pow_mono}
use lib.Seq.{length-take-le, get_or-take, get_or-drop, get_or-append-add}
use Rattle.rules.specs.Test.{◌and◌, ◌or◌, fails, same, choose}
use Rattle.rules.specs.Lists.{run_over}
use Rattle.rules.specs.Domain.{SameActions, Domain}
use Rattle.rules.specs.Layer.{word_count}
use Rattle.rules.specs.Shared.{graph_words}
use Rattle.rules.specs.Scan.{looks_in}
use Rattle.rules.proofs.Tests.{choose_held, choose_failed, holds_or, same_at}
use Rattle.rules.proofs.Layers.{length_run_over, run_split}
use Rattle.rules.proofs.SameDomains.{domain_same}
use Rattle.rules.proofs.Leaks.{graph_eq, looks_eq}
use Rattle.words.specs.Width.{prop_width, state_width}
use Rattle.words.specs.Rows.{Inside}
use Rattle.graph.specs.Limits.{max_depth}
use Rattle.graph.specs.Verdict.{Verdict, accepted, refused, and_then}
use Rattle.graph.specs.Format.{head_bytes, long_head, plain_version, effects_version, set_bytes, effects_place, states_offset, set_at, bytes_of}
use Rattle.graph.specs.Format.{letters, version, counts_in, plain, effect_at, when_at, pre_at, sets_at, add_at, del_at, states_at, state_at, right_length}
use Rattle.graph.specs.Format.{actions_of, start_of, domain_of, shape_in, with_count, before_states, with_states}
use Rattle.graph.specs.File.{Ranged, Taken, head_of, version_rule, counts_rule, length_rule, sets_rule, actions_rule, file_rule}
use Rattle.graph.specs.Checks.{graph_rule}
use Rattle.graph.specs.Build.{graph_for, looks_for, graph_looks, build_for, build_rule}
use Rattle.graph.specs.declared.format.Counts.{Counts}
use Rattle.graph.proofs.Verdicts.{then_accepted}
use Rattle.graph.proofs.Places.{states_plain, not_plain, states_long, pre_before, sets_before, pre_behind, sets_behind, states_behind}
use Rattle.graph.proofs.Links.{headed, counted, right_length_lem}
use Rattle.graph.proofs.Files.{Fits, fits_pass, pass_fits}
use Rattle.graph.proofs.Equals.{equal_same}
use Rattle.graph.proofs.Owners.{owners_same}
use Rattle.graph.proofs.Ladder.{head_means, taken_linked, linked_taken, taken_means, graph_of_lem}

-- ---- the same actions

-- bytes that are the same make the same sets
set_same : (f g : List ℕ) (end : ℕ) → ((i : ℕ) → head_bytes ≤ i → i < end → get_or f i 0 ≡ get_or g i 0)
    → (at : ℕ) → head_bytes ≤ at → at + set_bytes ≤ end → set_at f at ≡ set_at g at
unfolding set_at
set_same f g end bytes at l h = omega (
  arith,
  bytes at (omega arith) (omega arith),
  bytes (at + 1) (omega arith) (omega arith),
  bytes (at + 2) (omega arith) (omega arith),
  bytes (at + 3) (omega arith) (omega arith),
)

-- so two files have the same actions whose bytes from the head to the start states are the same
pub bytes_same : (file : List ℕ) (c : Counts) (file' : List ℕ) (n : ℕ) → Ranged c
    → ((i : ℕ) → head_bytes ≤ i → i < states_at c → get_or file' i 0 ≡ get_or file i 0) → SameActions (actions_of file' (with_count c n)) (actions_of file c)
unfolding actions_of with_count pre_at sets_at
bytes_same file c file' n r bytes = record {
  props = refl;
  count = refl;
  pre = λ a h. set_same file' file (states_at c) bytes (pre_at c a) (pre_behind c r a) (pre_before c r h);
  effects = refl;
  owner = λ e h. choose_same_2 (plain c) e (λ v. bytes (effect_at c e) (omega arith) (omega (arith, states_long c v)));
  when = λ e h. choose_same_2 (plain c) 0 (λ v. set_same file' file (states_at c) bytes (when_at c e) (omega arith) (omega (arith, states_long c v)));
  add = λ e h. set_same file' file (states_at c) bytes (add_at c e) (omega (arith, sets_behind c r e)) (omega (arith, sets_before c r h));
  del = λ e h. set_same file' file (states_at c) bytes (del_at c e) (omega (arith, sets_behind c r e)) (omega (arith, sets_before c r h));
}
  where
    choose_same_2 : (b : Bool) (x : ℕ) {y z : ℕ} → (So (fails b) → y ≡ z) → choose b x y ≡ choose b x z
    choose_same_2 b x e = ⊎_elim (λ t. choose_held _ t ∙ sym (choose_held _ t)) (λ f. ap (λ (w : ℕ). choose b x w) (e f)) (holds_or b)

-- ---- a build that is accepted

-- for any start states of a file that was taken
build_accepts : (file : List ℕ) (c : Counts) (start : ℕ → ℕ) (depth room : ℕ) → depth ≤ max_depth → word_count (shape_in c) depth ≤ room
    → build_for file c start depth room ≡ accepted (graph_for file c start depth)
unfolding build_for
build_accepts file c start depth room d m = then_accepted _ _ tt (graph_of_lem c depth (accepted tt) room (record { deep = d; fine = refl; fits = m }))

-- ---- a set and its bytes

set_of_bytes : (f : List ℕ) (at x : ℕ) → x < 2 ^ prop_width → get_or f at 0 ≡ x % 256 → get_or f (at + 1) 0 ≡ x / 256 % 256 → get_or f (at + 2) 0 ≡ x / 65536 % 256
    → get_or f (at + 3) 0 ≡ x / 16777216 % 256 → set_at f at ≡ x
unfolding set_at
set_of_bytes f at x h e₀ e₁ e₂ e₃ =
    let q : x / 256 / 256 ≡ x / 65536 = div-div-eq-div-mul x 256 256 in
    let r : x / 65536 / 256 ≡ x / 16777216 = div-div-eq-div-mul x 65536 256 in
    let u : x / 16777216 % 256 ≡ x / 16777216 = mod-eq_of_lt (omega arith) in
    omega arith

-- ---- the bytes of the file

module _ (file : List ℕ) (c : Counts) (sets : List ℕ) (r : Ranged c) (long : length file ≡ right_length c) where
  abbrev m : ℕ
  m = length sets

  abbrev starts : ℕ → List ℕ
  starts s = bytes_of (get_or sets s 0)

  abbrev rest : List ℕ
  rest = m ∷ take (states_at c - head_bytes) (drop head_bytes file)

  front_length : length (take states_offset file) ≡ states_offset
  front_length = length-take-le states_offset file (omega (arith, long, states_behind c r))

  before_length : length (before_states file c m) ≡ states_at c
  unfolding before_states
  before_length =
      length-append (take states_offset file) rest
      ∙ omega (arith, front_length, length-take-le (states_at c - head_bytes) (drop head_bytes file) (omega (arith, length-drop head_bytes file, long, states_behind c r)), states_behind c r)

  starts_length : (s : ℕ) → s < m → length (starts s) ≡ set_bytes
  unfolding bytes_of
  starts_length s h = refl

  with_length : length (with_states file c sets) ≡ right_length (with_count c m)
  unfolding with_states with_count states_at
  with_length =
      length-append (before_states file c m) (run_over m starts)
      ∙ omega (arith, before_length, length_run_over starts m starts_length)

  in_before : (i : ℕ) → i < states_at c → get_or (with_states file c sets) i 0 ≡ get_or (before_states file c m) i 0
  unfolding with_states
  in_before i h = get_or-append (before_states file c m) (run_over m starts) 0 i (omega (arith, before_length))

  byte_front : (i : ℕ) → i < states_offset → get_or (with_states file c sets) i 0 ≡ get_or file i 0
  unfolding before_states
  byte_front i h =
      in_before i (omega (arith, states_behind c r)) ∙ get_or-append (take states_offset file) rest 0 i (omega (arith, front_length))
      ∙ get_or-take states_offset file i 0 h

  byte_count : get_or (with_states file c sets) states_offset 0 ≡ m
  unfolding before_states
  byte_count =
      in_before states_offset (omega (arith, states_behind c r))
      ∙ ap (λ (x : ℕ). get_or (before_states file c m) (x + 0) 0) (sym front_length)
      ∙ get_or-append-add (take states_offset file) rest 0 0

  byte_action : (i : ℕ) → head_bytes ≤ i → i < states_at c → get_or (with_states file c sets) i 0 ≡ get_or file i 0
  unfolding before_states
  byte_action i l h =
      let e : i ≡ length (take states_offset file) + suc (i - head_bytes) = omega (arith, front_length) in
      let f : head_bytes + (i - head_bytes) ≡ i = omega arith in
      in_before i h
      ∙ ap (λ (x : ℕ). get_or (before_states file c m) x 0) e
      ∙ get_or-append-add (take states_offset file) rest (suc (i - head_bytes)) 0
      ∙ get_or-take (states_at c - head_bytes) (drop head_bytes file) (i - head_bytes) 0 (omega arith)
      ∙ get_or-drop head_bytes file (i - head_bytes) 0
      ∙ ap (λ (x : ℕ). get_or file x 0) f

  byte_start : (s k : ℕ) → s < m → k < set_bytes → get_or (with_states file c sets) (state_at c s + k) 0 ≡ get_or (starts s) k 0
  unfolding with_states
  byte_start s k h l =
      let (more, q) = run_split starts m h in
      let e : state_at c s + k ≡ length (before_states file c m) + (set_bytes * s + k) = omega (arith, before_length) in
      let f : set_bytes * s + k ≡ length (run_over s starts) + k = omega (arith, length_run_over starts s (λ i g. starts_length i (omega arith))) in
      ap (λ (x : ℕ). get_or (with_states file c sets) x 0) e
      ∙ get_or-append-add (before_states file c m) (run_over m starts) (set_bytes * s + k) 0
      ∙ ap₂ (λ (x : List ℕ) (y : ℕ). get_or x y 0) q f
      ∙ get_or-append-add (run_over s starts) (starts s ++ more) k 0
      ∙ get_or-append (starts s) more 0 k (omega (arith, starts_length s h))

  start_is : (s : ℕ) → s < m → get_or sets s 0 < 2 ^ prop_width → set_at (with_states file c sets) (state_at c s) ≡ get_or sets s 0
  unfolding bytes_of
  start_is s h l = set_of_bytes (with_states file c sets) (state_at c s) (get_or sets s 0) l
      (ap (λ (x : ℕ). get_or (with_states file c sets) x 0) (sym (add-zero (state_at c s))) ∙ byte_start s 0 h (omega arith))
      (byte_start s 1 h (omega arith)) (byte_start s 2 h (omega arith)) (byte_start s 3 h (omega arith))

-- ---- it is taken, with the same actions and just these start states

module _ (file : List ℕ) (c : Counts) (sets : List ℕ) (e : file_rule file ≡ accepted c) where
  taken : Taken file c
  taken = taken_means file c e

  byte_before : (i : ℕ) → i < states_offset → get_or (with_states file c sets) i 0 ≡ get_or file i 0
  byte_before = byte_front file c sets taken.ranged taken.long

  byte_behind : (i : ℕ) → head_bytes ≤ i → i < states_at c → get_or (with_states file c sets) i 0 ≡ get_or file i 0
  byte_behind = byte_action file c sets taken.ranged taken.long

  pub with_actions : SameActions (actions_of (with_states file c sets) (with_count c (length sets))) (actions_of file c)
  with_actions = bytes_same file c (with_states file c sets) (length sets) taken.ranged byte_behind

  with_domain : domain_of (with_states file c sets) (with_count c (length sets)) ≡ domain_of file (with_count c (length sets))
  unfolding with_count actions_of pre_at sets_at
  with_domain = domain_same with_actions taken.sound

  letters_stay : letters (with_states file c sets) ≡ letters file
  unfolding letters
  letters_stay i =
      same (byte_before 0 (omega arith) i) 83 and same (byte_before 1 (omega arith) i) 65 and same (byte_before 2 (omega arith) i) 71

  version_stays : version (with_states file c sets) ≡ version file
  unfolding version
  version_stays = omega (arith, byte_before 3 (omega arith), byte_before 4 (omega arith))

  version_same : version_rule (with_states file c sets) ≡ version_rule file
  unfolding version_rule
  version_same = ap (λ (v : ℕ). choose (same v plain_version or same v effects_version) (accepted tt) (refused 2 3)) version_stays

  version_is : c.version ≡ version file
  unfolding counts_in
  version_is = ap (λ (x : Counts). x.version) taken.counts

  -- the head lies before the start states
  head_before : head_of (version file) ≤ states_at c
  unfolding head_of
  head_before = ⊎_elim
      (λ t. omega (
        arith,
        choose_held {b = same (version file) effects_version} {x = long_head} head_bytes t,
        states_long c (not_plain (λ q. omega (arith, version_is, same_at t))),
      ))
      (λ f. omega (arith, choose_failed (same (version file) effects_version) long_head {y = head_bytes} f, states_behind c taken.ranged))
      (holds_or (same (version file) effects_version))

  -- the byte that holds the number of effects lies in front of N's or behind the head
  effects_stay : get_or file (effects_place (version file)) 0 ≡ get_or (with_states file c sets) (effects_place (version (with_states file c sets))) 0
  unfolding effects_place
  effects_stay =
      ⊎_elim
      (λ t. ap (λ (x : ℕ). get_or file x 0) (choose_held _ t) ∙ sym (byte_before 6 (omega arith)) ∙ ap (λ (x : ℕ). get_or f x 0) (sym (choose_held _ t)))
      (λ t. ap (λ (x : ℕ). get_or file x 0) (choose_failed _ _ t) ∙ sym (byte_behind 8 (omega arith) (longer t))
      ∙ ap (λ (x : ℕ). get_or f x 0) (sym (choose_failed _ _ t)))
      (holds_or (same (version file) plain_version))
      ∙ ap (λ (v : ℕ). get_or f (effects_place v) 0) (sym version_stays)
    where
      f : List ℕ
      f = with_states file c sets

      longer : So (fails (same (version file) plain_version)) → 8 < states_at c
      longer t = omega (arith, states_long c (subst (λ (x : ℕ). So (fails (same x plain_version))) (sym version_is) t))

  counts_are : with_count c (length sets) ≡ counts_in (with_states file c sets)
  unfolding with_count counts_in
  counts_are i = record {
    version = (ap (λ (x : Counts). x.version) taken.counts ∙ sym version_stays) i;
    props = (ap (λ (x : Counts). x.props) taken.counts ∙ sym (byte_before 5 (omega arith))) i;
    actions = (ap (λ (x : Counts). x.actions) taken.counts ∙ sym (byte_before 6 (omega arith))) i;
    effects = (ap (λ (x : Counts). x.effects) taken.counts ∙ effects_stay) i;
    states = sym (byte_count file c sets taken.ranged taken.long) i;
  }

  module _ (inside : Inside c.props sets) where
    pub with_starts : (s : ℕ) → s < length sets → start_of (with_states file c sets) (with_count c (length sets)) s ≡ get_or sets s 0
    unfolding start_of with_count states_at
    with_starts s h = start_is file c sets taken.ranged taken.long s h (lt_of_lt_of_le (inside s h) (pow_mono taken.ranged.props))

    -- its sets are those of the file and these start states
    sets_fit : Fits (with_states file c sets) (with_count c (length sets))
    unfolding with_count start_of states_at
    sets_fit =
        let f : Fits file c = subst (Fits file) (sym (taken_linked file c e).are) (pass_fits file _ (taken_linked file c e).sets) in
        record {
          action = λ v i h. stays (omega arith) (omega (arith, states_plain c v)) (f.action v i h);
          pre = λ v i h. stays (omega arith) (omega (arith, states_long c v)) (f.pre v i h);
          effect = λ v k l i h. stays (omega arith) (omega (arith, states_long c v)) (f.effect v k l i h);
          state = λ s h. subst (λ (x : ℕ). x < 2 ^ c.props) (sym (with_starts s h)) (inside s h);
        }
      where
        stays : {at : ℕ} → head_bytes ≤ at → at + set_bytes ≤ states_at c → set_at file at < 2 ^ c.props → set_at (with_states file c sets) at < 2 ^ c.props
        stays {at} l h k = subst (λ (x : ℕ). x < 2 ^ c.props) (sym (set_same _ _ (states_at c) byte_behind at l h)) k

    module _ (some : 1 ≤ length sets) (few : length sets ≤ state_width) where
      ranged : Ranged (with_count c (length sets))
      unfolding with_count
      ranged = record {
        some_props = taken.ranged.some_props;
        props = taken.ranged.props;
        actions = taken.ranged.actions;
        effects = taken.ranged.effects;
        some_states = some;
        states = few;
        own = taken.ranged.own;
      }

      actions_stay : actions_rule (with_states file c sets) (with_count c (length sets)) ≡ actions_rule file c
      unfolding actions_rule with_count
      actions_stay =
          ap₂ (λ (v w : Verdict (Unit {0})). and_then v (λ _. w)) (owners_same (with_states file c sets) (with_count c (length sets)) file c with_actions)
          (equal_same (with_states file c sets) (with_count c (length sets)) file c with_actions ranged refl)

      pub with_taken : file_rule (with_states file c sets) ≡ accepted (with_count c (length sets))
      unfolding with_count states_at
      with_taken =
          let l = taken_linked file c e in
          let f : List ℕ = with_states file c sets in
          let n : Counts = with_count c (length sets) in
          let r : Ranged n = ranged in
          let h = head_means file l.head in
          let long : length f ≡ right_length n = with_length file c sets taken.ranged taken.long in
          let front : head_of (version file) ≤ states_at c = head_before in
          linked_taken f n (record {
            head = sym (headed f (omega (arith, long, states_behind c taken.ranged)) (letters_stay ∙ h.letters)
                (subst (λ (x : ℕ). head_of x ≤ length f) (sym version_stays) (omega (arith, long, front))));
            version = version_same ∙ l.version;
            counts = ap counts_rule (sym counts_are) ∙ sym (counted n r.some_props r.props r.actions r.some_states r.states r.effects);
            length = ap (length_rule f) (sym counts_are) ∙ sym (right_length_lem f n long);
            sets = ap (sets_rule f) (sym counts_are) ∙ fits_pass f n sets_fit;
            actions = ap (actions_rule f) (sym counts_are) ∙ actions_stay ∙ ap (actions_rule file) l.are ∙ l.actions;
            are = counts_are;
          })

      -- its build is the one for these start states, be it accepted or not, and so are its looks
      pub with_build : (depth room : ℕ)
          → build_rule (with_states file c sets) depth room ≡ build_for file (with_count c (length sets)) (λ s. get_or sets s 0) depth room
      unfolding build_rule build_for with_count
      with_build depth room =
          then_accepted _ _ _ with_taken
          ∙ ap (λ (l : List ℕ). and_then (graph_rule (with_count c (length sets)) depth (accepted tt) room) (λ _. accepted l))
          (ap (λ (D : Domain). graph_words D (length sets) (start_of (with_states file c sets) (with_count c (length sets))) depth) with_domain
          ∙ graph_eq _ depth with_starts)

      pub with_looks : (depth : ℕ)
          → graph_looks (with_states file c sets) (with_count c (length sets)) depth ≡ looks_for file (with_count c (length sets)) (λ s. get_or sets s 0) depth
      unfolding with_count
      with_looks depth =
          ap (λ (D : Domain). looks_in D (length sets) (start_of (with_states file c sets) (with_count c (length sets))) depth) with_domain
          ∙ looks_eq _ depth with_starts

      pub with_built : (depth room : ℕ) → depth ≤ max_depth → word_count (shape_in c) depth ≤ room
          → build_rule (with_states file c sets) depth room ≡ accepted (graph_words (domain_of file c) (length sets) (λ s. get_or sets s 0) depth)
      unfolding with_count actions_of pre_at sets_at
      with_built depth room d m = with_build depth room ∙ build_accepts file (with_count c (length sets)) (λ s. get_or sets s 0) depth room d m

-- ---- as many start states as the file has, in place of its own

module _ (file : List ℕ) (c : Counts) (sets : List ℕ) (e : file_rule file ≡ accepted c) (long : length sets ≡ c.states) (inside : Inside c.props sets) where
  count_stays : with_count c (length sets) ≡ c
  unfolding with_count
  count_stays = ap (λ (n : ℕ). with_count c n) long

  some : 1 ≤ length sets
  some = omega (arith, long, (taken_means file c e).ranged.some_states)

  few : length sets ≤ state_width
  few = omega (arith, long, (taken_means file c e).ranged.states)

  pub placed_taken : file_rule (with_states file c sets) ≡ accepted c
  placed_taken = with_taken file c sets e inside some few ∙ ap accepted count_stays

  pub placed_actions : SameActions (actions_of (with_states file c sets) c) (actions_of file c)
  placed_actions = subst (λ (n : Counts). SameActions (actions_of (with_states file c sets) n) (actions_of file c)) count_stays (with_actions file c sets e)

  pub placed_starts : (s : ℕ) → s < c.states → start_of (with_states file c sets) c s ≡ get_or sets s 0
  placed_starts s h =
      ap (λ (n : Counts). start_of (with_states file c sets) n s) (sym count_stays)
      ∙ with_starts file c sets e inside s (omega (arith, long))

  pub placed_build : (depth room : ℕ) → build_rule (with_states file c sets) depth room ≡ build_for file c (λ s. get_or sets s 0) depth room
  placed_build depth room =
      with_build file c sets e inside some few depth room ∙ ap (λ (n : Counts). build_for file n (λ s. get_or sets s 0) depth room) count_stays

  pub placed_looks : (depth : ℕ) → graph_looks (with_states file c sets) (counts_in (with_states file c sets)) depth ≡ looks_for file c (λ s. get_or sets s 0) depth
  placed_looks depth =
      ap (λ (n : Counts). graph_looks (with_states file c sets) n depth) (sym (counts_are file c sets e))
      ∙ with_looks file c sets e inside some few depth
      ∙ ap (λ (n : Counts). looks_for file n (λ s. get_or sets s 0) depth) count_stays
