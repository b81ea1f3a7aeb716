-- Answers of `exports_code::state::state_from`.
use borrow.Author.Rules.{rules}
use Rattle.exports.specs.State.{state_from}
use Rattle.exports_code.proofs.state.state_from.Goals as goal

pub returns : goal.returns
unfolding state_from
returns c = search rules
