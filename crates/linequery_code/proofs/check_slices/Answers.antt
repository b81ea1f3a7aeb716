-- Answers of `linequery_code::check_slices`.
use Rattle.prelude.proofs.Tests.{tests}
use Rattle.prelude.specs.Refusal.{refuse_if}
use Rattle.linequery.specs.Query.{slice_fault}
use Rattle.linequery_code.proofs.check_slices.Goals as goal
use Rattle.linequery_code.proofs.check_slices.Goals.{then-line-ne64-via-then-line-ne64, then-line-ne64-via-else-line-ne64+then-answer-ne8}

pub returns-then-line-ne64 : goal.returns-then-line-ne64
unfolding slice_fault refuse_if
returns-then-line-ne64 c =
    elim c.then-line-ne64.branch [
      | then-line-ne64-via-then-line-ne64 w ↦ search tests
      | then-line-ne64-via-else-line-ne64+then-answer-ne8 w ↦ search tests
    ]

pub returns : goal.returns
unfolding slice_fault refuse_if
returns c = search tests
