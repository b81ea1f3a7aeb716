-- Answers of `log_stores_code::filling::marked_word`.
use native.Mathlib.Omega.{arith}
use Rattle.message_log.proofs.Fillings.{word_first, word_last, word_size, word_pairs, word_zero}
use Rattle.log_stores_code.proofs.filling.marked_word.Goals as goal

pub returns-in-0 : goal.returns-in-0
returns-in-0 c =
    word_first _ _ _ _ _ _ c.in-0.is c.first_word.ensures.result

pub returns-in-1 : goal.returns-in-1
returns-in-1 c =
    word_size c.args.stamp c.args.number _ c.args.pairs _ (omega arith) (omega arith) c.in-1.is

pub returns-in-2 : goal.returns-in-2
returns-in-2 c =
    word_pairs c.args.stamp c.args.number c.args.size _ _ (omega arith) (omega arith) (omega arith) c.in-2.is

pub returns-in-7 : goal.returns-in-7
returns-in-7 c =
    word_last _ _ _ _ _ (omega arith) _ c.in-7.is c.last_word.ensures.result

pub returns-in_default : goal.returns-in_default
returns-in_default c =
    word_zero c.args.stamp c.args.number c.args.size c.args.pairs _ (omega arith) (omega arith) (omega arith) (omega arith)
