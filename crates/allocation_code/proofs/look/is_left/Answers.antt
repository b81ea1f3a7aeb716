-- Answers of `allocation_code::look::is_left`.
use Rattle.words.specs.Word.{word}
use Rattle.words.proofs.Laws.{word_range}
use Rattle.allocation.proofs.Looks.{unmarked, not_above}
use Rattle.allocation_code.proofs.look.is_left.Goals as goal

pub returns-else-marks-slot_low-ne0 : goal.returns-else-marks-slot_low-ne0
returns-else-marks-slot_low-ne0 c =
    λ e.
    record {
      none_older =
          unmarked _ (word c.args.image.now) c.requires.0.layout
          (λ i. word_range _ i (λ j. (c.shared_slice_known-1.given j).fits)) _ _ _ _ _ c.requires.2
          c.slot_low.ensures.result
          c.if-marks-slot_low-ne0.false;
      none_above = not_above _ _ _ _ c.is_version_above.ensures c.if-is_version_above.false;
    }
