-- Answers of `log_cell_code::bit::differing_word`.
use mathlib.Core.Path.{refl}
use native.Mathlib.Omega.{arith}
use Rattle.message_log.proofs.Pairs.{search_start, search_passed, search_ended, search_equal, zeros_past}
use Rattle.log_cell_code.proofs.bit.differing_word.Goals as goal

pub returns-then-message-i : goal.returns-then-message-i
returns-then-message-i c =
    record { result = (zeros_past _ _ _ _ c.if-message-i.true _ c.nonzero_word.ensures) }

pub loop-place-init : goal.loop-place-init
loop-place-init c =
    search_start _ _ _

pub loop-place-preserved : goal.loop-place-preserved
loop-place-preserved c =
    search_passed _ _ _ _ _ _ _ c.loop-place.invariant (omega arith) refl
    c.read_word.ensures.result c.padded_word.ensures.result c.if-read_word-padded_word.false

pub returns-after-loop-place : goal.returns-after-loop-place
returns-after-loop-place c =
    record { result = (search_equal _ _ _ _ c.loop-place.invariant (omega (arith, c.loop-place-test.false))) }

pub returns-then-read_word-padded_word : goal.returns-then-read_word-padded_word
returns-then-read_word-padded_word c =
    record {
      result = (search_ended _ _ _ _ _ _ _ c.loop-place.invariant (omega arith) refl
          c.read_word.ensures.result c.padded_word.ensures.result c.if-read_word-padded_word.true);
    }
