-- `file::check_counts` meets its contract: each return is one count out of its range, or none.
use borrow.Author.Rules.{rules}
use Rattle.graph.proofs.Links.{few_props, many_props, many_actions, few_states, many_states, many_effects, counted}
use Rattle.graph.proofs.file.check_counts.Goals as goal

pub returns-then-c-lt1 : goal.returns-then-c-lt1
returns-then-c-lt1 c = few_props _ (search rules)

pub returns-then-c-gt-PROP_WIDTH : goal.returns-then-c-gt-PROP_WIDTH
returns-then-c-gt-PROP_WIDTH c = many_props _ (search rules) (search rules)

pub returns-then-c-gt-MAX_ACTIONS : goal.returns-then-c-gt-MAX_ACTIONS
returns-then-c-gt-MAX_ACTIONS c = many_actions _ (search rules) (search rules) (search rules)

pub returns-then-c-lt1-2 : goal.returns-then-c-lt1-2
returns-then-c-lt1-2 c = few_states _ (search rules) (search rules) (search rules) (search rules)

pub returns-then-c-gt-STATE_WIDTH : goal.returns-then-c-gt-STATE_WIDTH
returns-then-c-gt-STATE_WIDTH c = many_states _ (search rules) (search rules) (search rules) (search rules) (search rules)

pub returns-then-c-gt-MAX_EFFECTS : goal.returns-then-c-gt-MAX_EFFECTS
returns-then-c-gt-MAX_EFFECTS c = many_effects _ (search rules) (search rules) (search rules) (search rules) (search rules) (search rules)

pub returns : goal.returns
returns c = counted _ (search rules) (search rules) (search rules) (search rules) (search rules) (search rules)
