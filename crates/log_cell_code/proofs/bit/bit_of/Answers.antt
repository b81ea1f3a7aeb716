-- Answers of `log_cell_code::bit::bit_of`.
use borrow.Author.Rules.{rules}
use Rattle.message_log.specs.Bit.{bit_at}
use Rattle.log_cell_code.proofs.bit.bit_of.Goals as goal

pub returns : goal.returns
unfolding bit_at
returns c =
    search rules
