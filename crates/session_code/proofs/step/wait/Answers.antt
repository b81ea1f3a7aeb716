-- Answers of `session_code::step::wait`.
use Rattle.session.specs.Step.{waiting_for}
use borrow.Author.Rules.{rules}
use Rattle.session_code.proofs.step.wait.Goals as goal

pub returns : goal.returns
unfolding waiting_for
returns c =
    search rules
