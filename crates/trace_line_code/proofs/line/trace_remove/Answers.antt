-- Answers of `trace_line_code::line::trace_remove`.
use mathlib.Core.Path.{ap, ◌∙◌}
use Rattle.session.specs.Step.{line_step}
use Rattle.trace.specs.Step.{line_counts}
use Rattle.trace.proofs.Steps.{change_traced, remove_traced}
use Rattle.trace_line_code.proofs.line.trace_remove.Goals as goal

-- `trace_line_code::line::trace_remove` meets its contract. Assumes nothing.
pub returns : goal.returns
unfolding line_counts line_step
returns c =
    record { step = (c.trace_change.ensures.step ∙ ap (change_traced _ _ _ _) c.remove-change.ensures.result ∙ remove_traced _ _ _ _ _ _ _ _) }
