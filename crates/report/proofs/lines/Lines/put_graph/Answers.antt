-- The first line, those of the states and that of all states.
use mathlib.Core.Path.{sym, ap, subst}
use mathlib.Core.List.{◌++◌}
use Rattle.rules.specs.Level.{Rest}
use Rattle.rules.specs.Lists.{run_over}
use Rattle.report.specs.Text.{head_text, graph_text}
use Rattle.report.specs.Lines.{state_of, all_of}
use Rattle.report.specs.Wrote.{Fits}
use Rattle.report.proofs.Texts.{fits_front, fits_next, adds_then, adds_same}
use Rattle.report.proofs.lines.Lines.put_graph.Goals as goal
use Rattle.report.proofs.lines.Lines.put_graph.Goals.{After-put_head, After-put_states}

-- what was written, and so what there is room for
headed : (c : After-put_head) → Fits c.put_head.new.text (run_over c.args.states (state_of c.args.self.now.layers) ++ all_of c.args.self.now.layers c.args.states)
unfolding graph_text
headed c = fits_next (adds_same c.put_head.ensures (ap (head_text c.args.self.now.layers.depth) c.args.self.now.rest_is)) _ c.requires.1

pub put_head-requires : goal.put_head-requires
unfolding graph_text
put_head-requires c =
    let s = c.args.self.now in
    subst (λ (r : Rest). Fits c.args.text.now (head_text s.layers.depth r)) (sym s.rest_is)
    (fits_front (run_over c.args.states (state_of s.layers) ++ all_of s.layers c.args.states) c.requires.1)

pub put_states-requires : goal.put_states-requires
put_states-requires c = (c.requires.0, fits_front (all_of c.args.self.now.layers c.args.states) (headed (goal.at.put_states-requires c).After-put_head))

pub put_all-requires : goal.put_all-requires
put_all-requires c = (c.requires.0, fits_next c.put_states.ensures _ (headed (goal.at.put_all-requires c).After-put_head))

pub returns : goal.returns
unfolding graph_text
returns c = adds_then (adds_same c.put_head.ensures (ap (head_text c.args.self.now.layers.depth) c.args.self.now.rest_is))
    (adds_then c.put_states.ensures c.put_all.ensures)
