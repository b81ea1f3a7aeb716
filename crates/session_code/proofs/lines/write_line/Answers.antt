-- Answers of `session_code::lines::write_line`.
use mathlib.Core.Path.{ap, ◌∙◌}
use Rattle.session.specs.Step.{change_step, write_step}
use Rattle.session.proofs.Steps.{write_left}
use Rattle.session_code.proofs.lines.write_line.Goals as goal

-- `session_code::lines::write_line` meets its contract. Assumes nothing.
pub returns : goal.returns
unfolding write_step
returns c =
    record { result = (c.carry_change.ensures.result ∙ ap (change_step _ _) c.write_key-change.ensures.result ∙ write_left _ _ _ _ _ _ _ _) }
