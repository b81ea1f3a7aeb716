-- Answers of `session_refusal_code::refusal::size_fault`.
use Rattle.prelude.proofs.Tests.{tests}
use Rattle.prelude.specs.Refusal.{refuse_if}
use Rattle.session.specs.Step.{size_fault}
use Rattle.session_refusal_code.proofs.refusal.size_fault.Goals as goal
use Rattle.session_refusal_code.proofs.refusal.size_fault.Goals.{then-n-lt2-via-then-n-lt2, then-n-lt2-via-else-n-lt2+then-n-gt511}
use Rattle.session_refusal_code.proofs.refusal.size_fault.Goals.{then-n-lt2-via-else-n-lt2+else-n-gt511+then-image-n}
use Rattle.session_refusal_code.proofs.refusal.size_fault.Goals.{then-n-lt2-via-else-n-lt2+else-n-gt511+else-image-n+then-heads-lt1}
use Rattle.session_refusal_code.proofs.refusal.size_fault.Goals.{then-n-lt2-via-else-n-lt2+else-n-gt511+else-image-n+else-heads-lt1+then-next-n}

pub returns-then-n-lt2 : goal.returns-then-n-lt2
unfolding size_fault refuse_if
returns-then-n-lt2 c =
    elim c.then-n-lt2.branch [
      | then-n-lt2-via-then-n-lt2 w ↦ search tests
      | then-n-lt2-via-else-n-lt2+then-n-gt511 w ↦ search tests
      | then-n-lt2-via-else-n-lt2+else-n-gt511+then-image-n w ↦ search tests
      | then-n-lt2-via-else-n-lt2+else-n-gt511+else-image-n+then-heads-lt1 w ↦ search tests
      | then-n-lt2-via-else-n-lt2+else-n-gt511+else-image-n+else-heads-lt1+then-next-n w ↦ search tests
    ]

pub returns : goal.returns
unfolding size_fault refuse_if
returns c = search tests
