-- Answers of `exports_code::state::keep_state`.
use borrow.Author.Rules.{rules}
use Rattle.exports.specs.State.{state_from}
use Rattle.exports_code.proofs.state.keep_state.Goals as goal

pub returns : goal.returns
unfolding state_from
returns c = search rules
