-- Answers of `trace_line_code::line::trace_write`.
use mathlib.Core.Path.{ap, ◌∙◌}
use Rattle.session.specs.Step.{write_step, line_step}
use Rattle.trace.specs.Step.{line_counts}
use Rattle.trace.proofs.Steps.{change_traced, write_traced}
use Rattle.trace_line_code.proofs.line.trace_write.Goals as goal

-- `trace_line_code::line::trace_write` meets its contract. Assumes nothing.
pub returns : goal.returns
unfolding line_counts line_step write_step
returns c =
    record { step = (c.trace_change.ensures.step ∙ ap (change_traced _ _ _ _) c.write_key-change.ensures.result ∙ write_traced _ _ _ _ _ _ _ _ _ _) }
