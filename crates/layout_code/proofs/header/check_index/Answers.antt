-- Answers of `layout_code::header::check_index`.
use Rattle.std.proofs.Common.{rules}
use Rattle.prelude.proofs.Tests.{tests}
use Rattle.prelude.specs.Refusal.{refuse_if}
use Rattle.layout.specs.Header.{index_fault}
use Rattle.layout_code.proofs.header.check_index.Goals as goal
use Rattle.layout_code.proofs.header.check_index.Goals.{
  then-heads-lt1-via-then-heads-lt1,
  then-heads-lt1-via-else-heads-lt1+then-heads-gt65536,
  then-heads-lt1-via-else-heads-lt1+else-heads-gt65536+then-next-n,
}

pub returns-then-heads-lt1 : goal.returns-then-heads-lt1
unfolding index_fault refuse_if
returns-then-heads-lt1 c =
    record {
      result =
          elim c.then-heads-lt1.branch [
            | then-heads-lt1-via-then-heads-lt1 w ↦ search tests
            | then-heads-lt1-via-else-heads-lt1+then-heads-gt65536 w ↦ search tests
            | then-heads-lt1-via-else-heads-lt1+else-heads-gt65536+then-next-n w ↦ search tests
          ];
    }

pub returns : goal.returns
unfolding index_fault refuse_if
returns c = record { result = (search tests) }
