-- Answers of `allocation_code::choose::known_for`.
use Rattle.allocation.proofs.Choices.{told_exactly, told_invalid, told_below, known_exactly}
use Rattle.allocation_code.proofs.choose.known_for.Goals.{then-version-eq0-via-then-version-eq0, then-version-eq0-via-else-version-eq0+then-version-top}
use Rattle.allocation_code.proofs.choose.known_for.Goals as goal

pub returns-then-exact : goal.returns-then-exact
returns-then-exact c =
    (c.requires.0, told_exactly _ _ _ _ (c.requires.0.exactly c.if-exact.true))

pub returns-then-version-eq0 : goal.returns-then-version-eq0
returns-then-version-eq0 c = (
  c.requires.0,
  elim c.then-version-eq0.branch [
    | then-version-eq0-via-then-version-eq0 w ↦ told_invalid _ _ _ _ _ c.valid_version-version.ensures.result w.if-version-eq0.true
    | then-version-eq0-via-else-version-eq0+then-version-top w ↦ told_below _ _ _ _ _ c.valid_version-version.ensures.result w.if-version-top.true
        c.requires.0.bounded
  ],
)

pub returns : goal.returns
returns c =
    (known_exactly _ _ _ c.highest_valid.ensures.result, told_exactly _ _ _ _ c.highest_valid.ensures.result)
