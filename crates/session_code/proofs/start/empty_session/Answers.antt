-- Answers of `session_code::start::empty_session`.
use Rattle.session.specs.Step.{no_set}
use borrow.Author.Rules.{rules}
use Rattle.interface.specs.Set.{no_state}
use Rattle.session_code.proofs.start.empty_session.Goals as goal

pub returns : goal.returns
unfolding no_set no_state
returns c =
    record { result = (search rules) }
