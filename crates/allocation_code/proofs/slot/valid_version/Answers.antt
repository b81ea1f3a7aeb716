-- Answers of `allocation_code::slot::valid_version`.
use mathlib.Core.Logic.{inl, inr}
use Rattle.allocation.proofs.Tested.{version_valid, version_empty, version_broken}
use Rattle.allocation_code.proofs.slot.valid_version.Goals as goal

pub returns-in-Valid : goal.returns-in-Valid
returns-in-Valid c =
    record { result = version_valid _ _ _ c.slot_verdict.ensures.result _ c.in-Valid.is }

pub returns-in-Empty : goal.returns-in-Empty
returns-in-Empty c =
    record {
      result = elim c.in-Empty.is [
        | inl e ↦ version_empty _ _ _ c.slot_verdict.ensures.result e
        | inr e ↦ version_broken _ _ _ c.slot_verdict.ensures.result _ e.1
      ];
    }
