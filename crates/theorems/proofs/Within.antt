-- Start states known within bounds: the build that takes the list of possible sets, what turns the list away, and levels from both graphs.
-- Assumes nothing.
use mathlib.Core.Path.{◌≡◌, refl, sym, ap, ap₂, subst, ◌∙◌}
use mathlib.Core.Bool.{Bool, So}
use mathlib.Core.Logic.{◌⊎◌, inl, inr, ⊎_elim}
use mathlib.Core.List.{List}
use Prim.Native.Nat.{ℕ, ◌^◌, ◌≤◌, ◌<◌}
use native.Mathlib.Omega.{arith}
use lib.ListN.{length, get_or}
use Rattle.rules.specs.Test.{◌and◌, fails, same, below}
use Rattle.rules.specs.Word.{bit}
use Rattle.rules.specs.Over.{any_below, first_below}
use Rattle.rules.specs.Domain.{Domain, SameActions}
use Rattle.rules.specs.Own.{own_level}
use Rattle.rules.specs.Level.{level}
use Rattle.rules.specs.Share.{Share}
use Rattle.rules.specs.Plan.{Planned}
use Rattle.rules.proofs.Tests.{choose_held, choose_failed, and_of, and_left, and_right, same_of, same_at, fails_of, fails_at, holds_or, below_of, below_at}
use Rattle.rules.proofs.Tests.{below_fails}
use Rattle.rules.proofs.Words.{bit_below, part_lt, width, within_of, within_at}
use Rattle.rules.proofs.Overs.{any_of, any_at}
use Rattle.rules.proofs.Firsts.{first_at, first_before, first_unique}
use Rattle.rules.proofs.Leaks.{graph_eq}
use Rattle.rules.proofs.Levels.{level_mono}
use Rattle.rules.proofs.SamePlans.{plan_same}
use Rattle.rules.proofs.SameDomains.{domain_same, plan_reads}
use Rattle.rules.proofs.Claims.{level_same}
use Rattle.words.specs.Rows.{Inside}
use Rattle.graph.specs.Verdict.{Verdict, accepted, refused, and_then, laid}
use Rattle.graph.specs.Format.{actions_of, start_of, domain_of, with_states}
use Rattle.graph.specs.File.{file_rule}
use Rattle.graph.specs.Checks.{depth_rule, memory_rule, output_rule, asked_rule, graph_rule}
use Rattle.graph.specs.Build.{looks_for, build_for, build_rule, counted, count_rule}
use Rattle.graph.specs.declared.format.Counts.{Counts}
use Rattle.graph.proofs.Verdicts.{then_accepted, then_refused, passed_if, passed_if_not, passed_then, accepted_is}
use Rattle.graph.proofs.Ladder.{taken_linked, taken_means}
use Rattle.graph.proofs.WithStates.{placed_taken, placed_actions, placed_starts, placed_build, placed_looks}
use Rattle.level.specs.Rule.{level_rule, rest_rule}
use Rattle.within.specs.Rule.{encloses, first_open, bounds_rule, possible_rule, within_taken, within_rule, count_within, Levels, both, levels_rule}
use Rattle.within.proofs.Possibles.{wrong_length, some_open}
use Rattle.share.specs.Rule.{share_rule}
use Rattle.page.specs.Rule.{page_taken, page_rule}
use Rattle.extract.specs.Rule.{extract_rule}
use Rattle.plan.specs.Plan.{planned_verdict, plan_taken, plan_rule}
use Rattle.theorems.specs.Setting.{Exactly, Found, StatesOf, GoalOf, Each, alone, PartOf, Lacks, Encloses, Possible, FirstOpen, NotPossible, Between}
use Rattle.theorems.proofs.Founds.{built, level_answer, is_state, build_leaves}
use Rattle.theorems.proofs.Levels.{largest, exists_exactly}
use Rattle.theorems.proofs.Pairs.{link, taken_not, unless}

-- ---- cause 17

module _ (file : List ℕ) (c : Counts) (possible : List ℕ) where
  -- the set of state s
  abbrev sure : ℕ → ℕ
  sure s = start_of file c s

  abbrev wide : ℕ → ℕ
  wide s = get_or possible s 0

  abbrev wrong : ℕ → Bool
  wrong s = fails (encloses c.props (sure s) (wide s))

  abbrev first : ℕ
  first = first_below c.states wrong

  right_at : {s : ℕ} → (So (wrong s) → ⊥) → Encloses file c possible s
  unfolding encloses
  right_at {s} n = ⊎_elim
      (λ t. record { sure = λ p. within_at _ _ p (and_left _ t); inside = below_at (and_right _ t) })
      (λ f. absurd (n f))
      (holds_or (encloses c.props (sure s) (wide s)))

  right_of : {s : ℕ} → Encloses file c possible s → So (wrong s) → ⊥
  unfolding encloses
  right_of e t = fails_at t (and_of (within_of _ width (λ p h. e.sure p)) (below_of e.inside))

  -- a wrong set lacks something or has too much
  wrong_at : (s : ℕ) → So (wrong s) → Lacks (sure s) (wide s) ⊎ (2 ^ c.props ≤ wide s)
  wrong_at s t = ⊎_elim
      (λ h. let (p, l, b) = any_at h in inl (p, and_left _ b, fails_at (and_right _ b)))
      (λ h. inr (let n : wide s < 2 ^ c.props → ⊥ = λ l. right_of (record { sure = has h; inside = l }) t in omega arith))
      (holds_or (any_below (sure s) lacks))
    where
      lacks : ℕ → Bool
      lacks p = bit p (sure s) and fails (bit p (wide s))

      has : So (fails (any_below (sure s) lacks)) → PartOf (sure s) (wide s)
      has h p b = ⊎_elim (λ t. t) (λ f. absurd (fails_at h (any_of lacks (bit_below width b) (and_of b f)))) (holds_or (bit p (wide s)))

  wrong_of : (s : ℕ) → Lacks (sure s) (wide s) ⊎ (2 ^ c.props ≤ wide s) → So (wrong s)
  wrong_of s o = ⊎_elim (λ t. absurd (not_right (right_at (λ f. fails_at f t)))) (λ f. f) (holds_or (encloses c.props (sure s) (wide s)))
    where
      not_right : Encloses file c possible s → ⊥
      not_right e = ⊎_elim (λ (p, b, n). n (e.sure p b)) (λ h. omega (arith, e.inside)) o

  pub possible_exactly : Exactly (possible_rule file c possible ≡ accepted tt) (Possible file c possible)
  unfolding bounds_rule first_open
  possible_exactly = (
    λ e.
        let (l, q) = passed_if _ _ _ _ _ e in
        let (f, u) = passed_if_not _ _ _ _ _ q in
        record { long = same_at l; each = λ s h. right_at (first_before c.states wrong s (omega (arith, below_fails f))) },
    λ p.
        choose_held _ (same_of p.long)
        ∙ choose_failed _ _ (fails_of (λ t. right_of (p.each first (below_at t)) (first_at c.states wrong (below_at t)))),
  )

  not_long : (length possible ≡ c.states → ⊥) → possible_rule file c possible ≡ refused 17 c.states
  not_long n = sym (wrong_length _ _ _ _ n)

  module _ (long : length possible ≡ c.states) where
    first_of : {s : ℕ} → FirstOpen file c possible s → possible_rule file c possible ≡ refused 17 s
    unfolding first_open
    first_of {s} o =
        let e : s ≡ first = first_unique (omega (arith, o.state)) (λ i l. right_of (o.first i l)) (λ l. wrong_of s o.wrong) in
        sym (some_open _ _ _ _ long s e o.state)

    first_at_17 : {s : ℕ} → possible_rule file c possible ≡ refused 17 s → FirstOpen file c possible s
    unfolding bounds_rule first_open
    first_at_17 {s} q = ⊎_elim
        (λ h.
        let r : refused 17 first ≡ refused 17 s = sym (choose_held _ h) ∙ sym (choose_held _ (same_of long)) ∙ q in
        let e : first ≡ s = cc in
        subst (FirstOpen file c possible) e
        (record {
          state = below_at h;
          wrong = wrong_at first (first_at c.states wrong (below_at h));
          first = λ i l. right_at (first_before c.states wrong i l);
        }))
        (λ h. absurd (taken_not _ (sym (choose_failed _ _ h) ∙ sym (choose_held _ (same_of long)) ∙ q)))
        (holds_or (below first c.states))

  seventeen : (place : ℕ) → Exactly (possible_rule file c possible ≡ refused 17 place) (NotPossible file c possible place)
  seventeen place = (
    λ q. ⊎_elim
        (λ t. inr (same_at t, first_at_17 (same_at t) q))
        (λ t.
        let n : length possible ≡ c.states → ⊥ = λ e. fails_at t (same_of e) in
        let r : refused 17 c.states ≡ refused 17 place = sym (not_long n) ∙ q in
        inl (n, cc))
        (holds_or (same (length possible) c.states)),
    λ n. ⊎_elim (λ (l, e). not_long l ∙ ap (λ (x : ℕ). refused 17 x) (sym e)) (λ (l, o). first_of l o) n,
  )

-- a build of a file that was taken is turned away by no later cause than 9
build_number : (file : List ℕ) (c : Counts) (start : ℕ → ℕ) (depth room : ℕ) {n p : ℕ} → build_for file c start depth room ≡ refused n p → n ≤ 9
unfolding build_for graph_rule depth_rule memory_rule
build_number file c start depth room {n} e = ⊎_elim
    (λ e₁. ⊎_elim
    (λ e₂. ⊎_elim (λ h. omega (arith, h)) (λ h. absurd (taken_not _ h)) (unless _ _ _ _ e₂))
    (λ (u, a, e₂). ⊎_elim (λ e₃. absurd (taken_not _ e₃)) (λ (v, b, e₃). ⊎_elim (λ h. omega (arith, h)) (λ h. absurd (taken_not _ h)) (unless _ _ _ _ e₃))
    (link _ _ e₂))
    (link _ _ e₁))
    (λ (u, a, q). absurd (taken_not _ q))
    (link _ _ e)

-- ---- the build that takes the list

-- a list of sets over the file's propositions
inside_of : {file : List ℕ} {c : Counts} {possible : List ℕ} → Possible file c possible → Inside c.props possible
inside_of p s h = (p.each s (omega (arith, p.long))).inside

module _ (file : List ℕ) (c : Counts) (possible : List ℕ) (taken : file_rule file ≡ accepted c) where
  checked : (depth room : ℕ)
      → within_rule file possible depth room ≡ and_then (possible_rule file c possible) (λ _. build_for file c (λ s. get_or possible s 0) depth room)
  unfolding within_rule within_taken
  checked depth room = then_accepted _ _ c taken

  pub refused_exactly : (depth room place : ℕ)
      → Exactly (within_rule file possible depth room ≡ refused 17 place) (NotPossible file c possible place)
  refused_exactly depth room place = (
    λ e. ⊎_elim (λ q. (seventeen file c possible place).0 q) (λ (u, a, q). absurd (let h = build_number file c _ depth room q in omega arith))
        (link _ _ (sym (checked depth room) ∙ e)),
    λ n. checked depth room ∙ then_refused _ _ 17 place ((seventeen file c possible place).1 n),
  )

  module _ (p : Possible file c possible) where
    is_build : (depth room : ℕ) → within_rule file possible depth room ≡ build_rule (with_states file c possible) depth room
    is_build depth room =
        checked depth room ∙ then_accepted _ _ tt ((possible_exactly file c possible).1 p)
        ∙ sym (placed_build file c possible taken p.long (inside_of p) depth room)

    counts_build : (depth room : ℕ) → count_within file possible depth room ≡ count_rule (with_states file c possible) depth room
    unfolding count_within count_rule
    counts_build depth room =
        ap₂ counted
        (ap (λ (n : Counts). looks_for file n (λ s. get_or possible s 0) depth) (sym (taken_linked file c taken).are)
        ∙ sym (placed_looks file c possible taken p.long (inside_of p) depth))
        (is_build depth room)

    pub within_is_build : (depth room : ℕ) → (within_rule file possible depth room ≡ build_rule (with_states file c possible) depth room)
        × (count_within file possible depth room ≡ count_rule (with_states file c possible) depth room)
    within_is_build depth room = (is_build depth room, counts_build depth room)

  pub within_leaves : (depth : ℕ) (memory words : List ℕ) → within_rule file possible depth (length memory) ≡ accepted words
      → Found (with_states file c possible) c depth (laid (within_rule file possible depth (length memory)) memory)
  within_leaves depth memory words e =
      let (u, a, q) = passed_then _ _ words (sym (checked depth (length memory)) ∙ e) in
      let p = (possible_exactly file c possible).0 a in
      let b = is_build p depth (length memory) in
      subst (λ (v : Verdict (List ℕ)). Found (with_states file c possible) c depth (laid v memory)) (sym b)
      (build_leaves (with_states file c possible) c depth memory words (placed_taken file c possible taken p.long (inside_of p)) (sym b ∙ e))

-- ---- the calls that read a graph, for two files with the same counts and the same actions

module _ (file file' : List ℕ) (c : Counts) (taken : file_rule file ≡ accepted c) (taken' : file_rule file' ≡ accepted c) where
  either : {X : Type 0} (f f' : Counts → Verdict X) → f c ≡ f' c → and_then (file_rule file) f ≡ and_then (file_rule file') f'
  either f f' q = then_accepted _ _ c taken ∙ q ∙ sym (then_accepted _ _ c taken')

  level_alike : (depth set goal : ℕ) (words : List ℕ) → level_rule file depth set goal words ≡ level_rule file' depth set goal words
  unfolding level_rule
  level_alike depth set goal words = either _ _ refl

  rest_alike : (depth : ℕ) (words : List ℕ) → rest_rule file depth words ≡ rest_rule file' depth words
  unfolding rest_rule
  rest_alike depth words = either _ _ refl

  page_alike : (depth set : ℕ) (goals words : List ℕ) (room : ℕ) → page_rule file depth set goals words room ≡ page_rule file' depth set goals words room
  unfolding page_rule
  page_alike depth set goals words room =
      either _ _ (λ i. page_taken (λ goal. level_alike depth set goal words i) c depth set goals (length words) room)

  extract_alike : (depth set : ℕ) (words : List ℕ) (room : ℕ) → extract_rule file depth set words room ≡ extract_rule file' depth set words room
  unfolding extract_rule
  extract_alike depth set words room = either _ _ refl

  share_alike : (depth goal : ℕ) (share : Share) (words : List ℕ) → share_rule file depth goal share words ≡ share_rule file' depth goal share words
  unfolding share_rule
  share_alike depth goal share words = either _ _ refl

  plan_alike : SameActions (actions_of file' c) (actions_of file c) → (depth set goal : ℕ) (words : List ℕ) (room : ℕ)
      → plan_rule file depth set goal words room ≡ plan_rule file' depth set goal words room
  unfolding plan_rule plan_taken
  plan_alike same depth set goal words room =
      either _ _ (ap
      (λ (x : Planned). and_then (graph_rule c depth (asked_rule c set goal) (length words)) (λ _. and_then (output_rule depth room) (λ _. planned_verdict depth x)))
      (sym (plan_same (plan_reads same (taken_means file c taken).sound) depth set goal words)))

module _ (file : List ℕ) (c : Counts) (taken : file_rule file ≡ accepted c) (possible : List ℕ) (p : Possible file c possible) where
  pub within_reads : (depth set goal : ℕ) (share : Share) (goals words : List ℕ) (room : ℕ)
      → (level_rule file depth set goal words ≡ level_rule (with_states file c possible) depth set goal words)
      × (share_rule file depth goal share words ≡ share_rule (with_states file c possible) depth goal share words)
      × (rest_rule file depth words ≡ rest_rule (with_states file c possible) depth words)
      × (page_rule file depth set goals words room ≡ page_rule (with_states file c possible) depth set goals words room)
      × (extract_rule file depth set words room ≡ extract_rule (with_states file c possible) depth set words room)
      × (plan_rule file depth set goal words room ≡ plan_rule (with_states file c possible) depth set goal words room)
  within_reads depth set goal share goals words room =
      let file' = with_states file c possible in
      let taken' = placed_taken file c possible taken p.long (inside_of p) in (
        level_alike file file' c taken taken' depth set goal words,
        share_alike file file' c taken taken' depth goal share words,
        rest_alike file file' c taken taken' depth words,
        page_alike file file' c taken taken' depth set goals words room,
        extract_alike file file' c taken taken' depth set words room,
        plan_alike file file' c taken taken' (placed_actions file c possible taken p.long (inside_of p)) depth set goal words room,
      )

-- ---- levels

-- a file whose states have levels by themselves that are no larger has a level no larger
module _ {file file' : List ℕ} {c : Counts} {depth : ℕ} {found found' : List ℕ} (f : Found file c depth found) (f' : Found file' c depth found')
    {set goal : ℕ} (some : StatesOf c set) (over : GoalOf c goal) where
  smaller : Each set (λ s. alone file' c depth goal s ≤ alone file c depth goal s) → (t : ℕ) → level_rule file depth set goal found ≡ accepted (level t)
      → (u : ℕ) × (level_rule file' depth set goal found' ≡ accepted (level u)) × (u ≤ t)
  smaller h t e =
      let (l, g) = largest f some over t e in
      let (u, e') = (exists_exactly f' some over).1 (λ s b. omega (arith, h s b, g.none_larger s b)) in
      let (l', g') = largest f' some over u e' in
      (u, e', omega (arith, g'.reached, h _ g'.member, g.none_larger _ g'.member))

-- two files with the same counts, and a graph of each: the call answers for the two what the single call does
module _ {file file' : List ℕ} {c : Counts} {depth : ℕ} {found found' : List ℕ} (f : Found file c depth found) (f' : Found file' c depth found')
    {set goal : ℕ} (some : StatesOf c set) (over : GoalOf c goal) where
  pub answered : (a : Levels) × (levels_rule file depth set goal found' found ≡ accepted a)
      × (level_rule file' depth set goal found' ≡ accepted a.first) × (level_rule file depth set goal found ≡ accepted a.second)
  unfolding levels_rule both
  answered =
      let e' = level_answer f' set goal some over in
      let e = level_answer f set goal some over in
      let read = level_alike file file' c f.taken f'.taken depth set goal found' in
      (_, then_accepted _ _ _ (read ∙ e') ∙ then_accepted _ _ _ e, e', e)

  module _ (a : Levels) (e : levels_rule file depth set goal found' found ≡ accepted a) where
    same_answer : answered.0 ≡ a
    same_answer = accepted_is _ _ (sym answered.1 ∙ e)

    first_is : level_rule file' depth set goal found' ≡ accepted a.first
    first_is = answered.2 ∙ ap (λ (x : Levels). accepted x.first) same_answer

    second_is : level_rule file depth set goal found ≡ accepted a.second
    second_is = answered.3 ∙ ap (λ (x : Levels). accepted x.second) same_answer

-- ---- a choice of states lying between

-- it is over the file's propositions, as the possible sets are
chosen_inside : {file : List ℕ} {c : Counts} {possible chosen : List ℕ} → Possible file c possible → Between file c possible chosen → Inside c.props chosen
chosen_inside {c} {chosen} p b s h =
    let l : s < c.states = omega (arith, b.long) in
    part_lt c.props (get_or chosen s 0) (p.each s l).inside (b.within s l)

-- its file is taken, and built where the file itself is
pub between_builds : (file : List ℕ) (c : Counts) → file_rule file ≡ accepted c → (possible : List ℕ) → Possible file c possible
    → (chosen : List ℕ) → Between file c possible chosen → (file_rule (with_states file c chosen) ≡ accepted c)
    × ((depth room : ℕ) (words : List ℕ) → build_rule file depth room ≡ accepted words
    → (words' : List ℕ) × (build_rule (with_states file c chosen) depth room ≡ accepted words'))
unfolding build_rule build_for
between_builds file c taken possible p chosen b = (
  placed_taken file c chosen taken b.long (chosen_inside p b),
  λ depth room words e.
      let (u, g, q) = passed_then _ _ words (sym (then_accepted _ _ c taken) ∙ e) in
      (_, placed_build file c chosen taken b.long (chosen_inside p b) depth room ∙ then_accepted _ _ tt g),
)

-- the level that a state of the list has by itself
listed : (file : List ℕ) (c : Counts) (sets : List ℕ) → file_rule file ≡ accepted c → length sets ≡ c.states → Inside c.props sets
    → (depth goal s : ℕ) → s < c.states → alone (with_states file c sets) c depth goal s ≡ own_level (domain_of file c) depth goal (get_or sets s 0)
listed file c sets e long inside depth goal s h =
    ap₂ (λ (D : Domain) (x : ℕ). own_level D depth goal x) (domain_same (placed_actions file c sets e long inside) (taken_means file c e).sound)
    (placed_starts file c sets e long inside s h)

module _ {file : List ℕ} {c : Counts} {possible chosen : List ℕ} (right : Possible file c possible) (between : Between file c possible chosen)
    {depth : ℕ} {p s m : List ℕ} (fp : Found (with_states file c possible) c depth p) (fs : Found file c depth s)
    (fm : Found (with_states file c chosen) c depth m)
    {set goal : ℕ} (some : StatesOf c set) (over : GoalOf c goal) where
  -- the level of a chosen state by itself lies between those of its possible and of its sure set
  above : Each set (λ i. alone (with_states file c possible) c depth goal i ≤ alone (with_states file c chosen) c depth goal i)
  above i b =
      let l = is_state some i b in
      omega (
        arith,
        listed file c possible fs.taken right.long (inside_of right) depth goal i l,
        listed file c chosen fs.taken between.long (chosen_inside right between) depth goal i l,
        level_mono (domain_of file c) (get_or chosen i 0) (get_or possible i 0) (λ q _. between.within i l q) depth goal,
      )

  under : Each set (λ i. alone (with_states file c chosen) c depth goal i ≤ alone file c depth goal i)
  under i b =
      let l = is_state some i b in
      omega (
        arith,
        listed file c chosen fs.taken between.long (chosen_inside right between) depth goal i l,
        level_mono (domain_of file c) (start_of file c i) (get_or chosen i 0) (λ q _. between.sure i l q) depth goal,
      )

  module _ (a : Levels) (e : levels_rule file depth set goal p s ≡ accepted a) where
    pub first_bounds : (t : ℕ) → level_rule (with_states file c chosen) depth set goal m ≡ accepted (level t) → (u : ℕ) × (a.first ≡ level u) × (u ≤ t)
    first_bounds t q =
        let (u, r, l) = smaller fm fp some over above t q in
        (u, accepted_is _ _ (sym (first_is fs fp some over a e) ∙ r), l)

    pub second_bounds : (t : ℕ) → a.second ≡ level t → (u : ℕ) × (level_rule (with_states file c chosen) depth set goal m ≡ accepted (level u)) × (u ≤ t)
    second_bounds t q = smaller fs fm some over under t (second_is fs fp some over a e ∙ ap accepted q)

-- ---- a list of the sure sets themselves

module _ (file : List ℕ) (c : Counts) (taken : file_rule file ≡ accepted c) (possible : List ℕ) (right : Possible file c possible)
    (same : (s : ℕ) → s < c.states → get_or possible s 0 ≡ start_of file c s) where
  sure_build : (depth room : ℕ) → build_rule (with_states file c possible) depth room ≡ build_rule file depth room
  unfolding build_for build_rule
  sure_build depth room =
      placed_build file c possible taken right.long (inside_of right) depth room
      ∙ ap (λ (l : List ℕ). and_then (graph_rule c depth (accepted tt) room) (λ _. accepted l)) (graph_eq (domain_of file c) depth same)
      ∙ sym (then_accepted _ _ c taken)

  module _ {depth : ℕ} {p s : List ℕ} (fp : Found (with_states file c possible) c depth p) (fs : Found file c depth s)
      {set goal : ℕ} (some : StatesOf c set) (over : GoalOf c goal) where
    -- the memory is one of the file's own graph
    own : Found file c depth p
    own = record {
      taken = taken;
      memory = fp.memory;
      words = fp.words;
      build = sym (sure_build depth fp.memory) ∙ fp.build;
      rest = fp.rest;
      begins = fp.begins;
    }

    pub same_answers : (a : Levels) → levels_rule file depth set goal p s ≡ accepted a → a.first ≡ a.second
    same_answers a e =
        accepted_is _ _ (sym (first_is fs own some over a e) ∙ level_answer own set goal some over
        ∙ ap accepted (level_same (domain_of file c) c.states (start_of file c) depth p s (built own) (built fs) set goal)
        ∙ sym (level_answer fs set goal some over) ∙ second_is fs own some over a e)
