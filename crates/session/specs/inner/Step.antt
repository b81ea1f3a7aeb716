-- What a step left, from its answer.
use Rattle.std.specs.Prelude.{List, ℕ}
use Rattle.text.specs.inner.Output.{reply_says}
use Rattle.session.specs.declared.Stepped.{Stepped}
use Rattle.session.specs.Step.{StepResult, leaves}

-- what a step with this answer left
abbrev pub step_end : Stepped → (image heads next : List ℕ) → StepResult
step_end r image heads next = leaves (reply_says r.reply) r.session image heads next
