-- Answers of `trace_line_code::line::trace_change`.
use Rattle.trace.specs.Step.{change_counts}
use Rattle.trace.proofs.Steps.{answer_printed}
use Rattle.trace_line_code.proofs.line.trace_change.Goals as goal

-- `trace_line_code::line::trace_change` meets its contract. Assumes nothing.
pub returns : goal.returns
unfolding change_counts
returns c =
    record {
      step = (answer_printed _ _ _ _ _ _ _ _ c.carry_change.ensures.result
          c.try_change-reply.ensures.counts);
    }
