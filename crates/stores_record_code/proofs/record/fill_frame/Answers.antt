-- Answers of `stores_record_code::record::fill_frame`.
use Rattle.stores.proofs.Pasted.{frame_pasted}
use Rattle.stores_record_code.proofs.record.fill_frame.Goals as goal

-- `stores_record_code::record::fill_frame` meets its contract. Assumes nothing.
pub returns : goal.returns
returns c =
    frame_pasted _ _ _ _ _ _ _ _ _ _ _ _ _ _ _ _ _ c.requires.0 c.ranges.low.fits c.requires.2
    c.frame_word-two.ensures c.frame_word-three.ensures
    c.first_word.ensures.result c.last_word.ensures.result c.first_word-2.ensures.result
    c.last_word-2.ensures.result c.put_line.ensures c.put_line-2.ensures
