-- Answers of `log_cell_code::bit::nonzero_word`.
use mathlib.Core.Path.{refl}
use native.Mathlib.Omega.{arith}
use Rattle.message_log.proofs.Pairs.{search_start, search_passed, search_ended, search_equal}
use Rattle.log_cell_code.proofs.bit.nonzero_word.Goals as goal

pub loop-place-init : goal.loop-place-init
loop-place-init c =
    search_start _ _ _

pub loop-place-preserved : goal.loop-place-preserved
loop-place-preserved c =
    search_passed _ _ _ _ _ _ _ c.loop-place.invariant (omega arith) refl c.read_word.ensures.result refl c.if-read_word-ne0.false

pub returns-after-loop-place : goal.returns-after-loop-place
returns-after-loop-place c =
    search_equal _ _ _ _ c.loop-place.invariant (omega (arith, c.loop-place-test.false))

pub returns-then-read_word-ne0 : goal.returns-then-read_word-ne0
returns-then-read_word-ne0 c =
    search_ended _ _ _ _ _ _ _ c.loop-place.invariant (omega arith) refl c.read_word.ensures.result refl c.if-read_word-ne0.true
