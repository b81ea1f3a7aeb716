-- Answers of `trace_line_code::line::try_cuts`.
use Rattle.interface.specs.Set.{cut_count_says}
use Rattle.text.specs.inner.Output.{reply_says}
use Rattle.trace.proofs.Counts.{tried}
use borrow.Author.Rules.{rules}
use Rattle.trace_line_code.proofs.line.try_cuts.Goals as goal

-- `trace_line_code::line::try_cuts` meets its contract. Assumes nothing.
pub returns-in-Counted : goal.returns-in-Counted
unfolding reply_says cut_count_says
returns-in-Counted c =
    record {
      counts = (tried _ _ _ _ _ _ _ _ _ c.in-Counted.is (search (rules, c.well_formed.1.0)) (search (rules, c.well_formed.1.0))
          c.count_cuts.ensures.result);
    }

pub returns-in-Refused : goal.returns-in-Refused
unfolding reply_says cut_count_says
returns-in-Refused c =
    record {
      counts = (tried _ _ _ _ _ _ _ _ _ c.in-Refused.is (search (rules, c.well_formed.1.0)) (search (rules, c.well_formed.1.0))
          c.count_cuts.ensures.result);
    }
