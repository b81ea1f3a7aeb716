-- Answers of `trace_line_code::line::carry_silently`.
use mathlib.Core.Path.{refl}
use Rattle.text.specs.inner.Output.{reply_says}
use Rattle.trace.proofs.Steps.{answer_printed}
use Rattle.trace_line_code.proofs.line.carry_silently.Goals as goal

-- `trace_line_code::line::carry_silently` meets its contract. Assumes nothing.
pub returns : goal.returns
unfolding reply_says
returns c =
    record { step = (answer_printed _ _ _ _ _ _ _ _ c.carry_line.ensures.result refl) }
