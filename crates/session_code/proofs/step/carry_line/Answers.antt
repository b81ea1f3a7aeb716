-- Answers of `session_code::step::carry_line`.
use Rattle.text.specs.inner.Output.{reply_says}
use Rattle.session.specs.Step.{line_step}
use borrow.Author.Rules.{rules}
use Rattle.session_code.proofs.step.carry_line.Goals as goal

pub make-requires : goal.make-requires
unfolding line_step reply_says
make-requires c =
    search rules

pub write_line-requires : goal.write_line-requires
unfolding line_step reply_says
write_line-requires c =
    search rules

pub remove_line-requires : goal.remove_line-requires
unfolding line_step reply_says
remove_line-requires c =
    search rules

pub get_word-requires : goal.get_word-requires
unfolding line_step reply_says
get_word-requires c =
    search rules

pub wait-requires : goal.wait-requires
unfolding line_step reply_says
wait-requires c =
    search rules

pub returns-in-New : goal.returns-in-New
unfolding line_step reply_says
returns-in-New c =
    record { result = (search (rules, c.in-New.is)) }

pub returns-in-Write : goal.returns-in-Write
unfolding line_step reply_says
returns-in-Write c =
    record { result = (search (rules, c.in-Write.is)) }

pub returns-in-Remove : goal.returns-in-Remove
unfolding line_step reply_says
returns-in-Remove c =
    record { result = (search (rules, c.in-Remove.is)) }

pub returns-in-Get : goal.returns-in-Get
unfolding line_step reply_says
returns-in-Get c =
    record { result = (search (rules, c.in-Get.is, c.get_word.ensures.result)) }

pub returns-in-Cut : goal.returns-in-Cut
unfolding line_step reply_says
returns-in-Cut c =
    record { result = (search (rules, c.in-Cut.is, c.wait.ensures)) }

pub returns-in-Bad : goal.returns-in-Bad
unfolding line_step reply_says
returns-in-Bad c =
    record { result = (search (rules, c.in-Bad.is)) }
