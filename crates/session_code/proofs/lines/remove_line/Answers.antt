-- Answers of `session_code::lines::remove_line`.
use mathlib.Core.Path.{ap, ◌∙◌}
use Rattle.session.specs.Step.{change_step}
use Rattle.session.proofs.Steps.{remove_left}
use Rattle.session_code.proofs.lines.remove_line.Goals as goal

-- `session_code::lines::remove_line` meets its contract. Assumes nothing.
pub returns : goal.returns
returns c =
    record { result = (c.carry_change.ensures.result ∙ ap (change_step _ _) (c.remove-change.ensures.result) ∙ remove_left _ _ _ _ _ _) }
