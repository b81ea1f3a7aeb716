-- Answers of `report_text_code::image::report_image`.
use mathlib.Core.Path.{refl, sym}
use Rattle.prelude.proofs.Lists.{front_length}
use Rattle.report_text.proofs.Blocks.{entries_few}
use Rattle.report_text.proofs.Texts.{counted_answer, refused-answer, held_room, image_counted, image-refused}
use Rattle.report_text_code.proofs.image.report_image.Goals as goal
use Rattle.report_text_code.proofs.image.report_image.Goals.{in-Counted, in-Refused}

pub slice_bounds-count_slots-end-3 : goal.slice_bounds-count_slots-end-3
slice_bounds-count_slots-end-3 c =
    front_length _ _ (entries_few _ _ _ _ _ c.requires)

pub add_counts-requires : goal.add_counts-requires
add_counts-requires c =
    held_room _ c.requires.held

pub returns : goal.returns
returns c =
    let entries = sym (front_length _ _ (entries_few _ _ _ _ _ c.requires)) in
    elim c.match-answer.branch [
      | in-Counted w ↦ record {
        result = (rw (w.out-is, w.end-is)
            (image_counted _ _ _ _ _ _ c.requires.held c.requires.some_left _ _
            (counted_answer _ _ _ refl entries _ _ w.in-Counted.is _ _ c.count_slots-answer.ensures.result) w.store_counts.ensures.result
            w.add_counts.ensures.0 w.add_counts.ensures.1));
      }
      | in-Refused w ↦ record {
        result = (rw (w.out-is, w.end-is)
            (image-refused _ _ _ _ _ _ c.requires.held c.requires.some_left _
            (refused-answer _ _ _ refl entries _ _ _ w.in-Refused.is _ _ c.count_slots-answer.ensures.result) w.store_refusal.ensures.result));
      }
    ]
