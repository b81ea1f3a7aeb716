-- Answers of `log_stores_code::filling::fill_line`.
use mathlib.Core.Path.{refl}
use borrow.Author.Rules.{rules}
use Rattle.message_log.proofs.Fillings.{fill_start, fill_next, fill_end}
use Rattle.log_stores_code.proofs.filling.fill_line.Goals as goal

pub loop-j-init : goal.loop-j-init
loop-j-init c =
    fill_start _ _ _ _ _ _

pub loop-j-preserved : goal.loop-j-preserved
loop-j-preserved c =
    fill_next _ _ _ _ _ _ _ _ _ _ _ _ _ _ c.loop-j.invariant (search rules) refl refl c.padded_word.ensures.result refl refl

pub shape_of-at : goal.shape_of-at
shape_of-at c =
    c.loop-j.invariant.left.ats.size

pub shape_of-value : goal.shape_of-value
shape_of-value c =
    c.loop-j.invariant.left.vals.size

pub returns : goal.returns
returns c =
    fill_end _ _ _ _ _ _ _ _ _ c.loop-j.invariant c.loop-j-test.false
