-- Answers of `recovery_judge_code::comparing::is_key_twice`.
use mathlib.Core.Path.{◌∙◌}
use Rattle.recovery.proofs.Compares.{twice_apart, twice_test}
use Rattle.recovery_judge_code.proofs.comparing.is_key_twice.Goals as goal

pub returns-then-is_followed : goal.returns-then-is_followed
returns-then-is_followed c =
    twice_test _ _ _ _ _ c.is_followed.ensures.result c.if-is_followed.true _ c.is_shared.ensures

pub returns-else-is_followed : goal.returns-else-is_followed
returns-else-is_followed c =
    c.if-is_followed.false ∙ twice_apart _ _ _ _ _ c.is_followed.ensures.result c.if-is_followed.false
