-- Answers of `stores_record_code::record::record_stores_at`.
use Rattle.stores.proofs.Pasted.{numbers_pasted, values-pasted}
use Rattle.stores_record_code.proofs.record.record_stores_at.Goals as goal

pub returns : goal.returns
returns c =
    record {
      stores = ((
        numbers_pasted _ _ _ _ _ _ _ _ _ _ c.read_word-a.ensures.result c.read_word-b.ensures.result _ _ _
            c.fill_numbers.ensures,
        values-pasted _ _ _ _ _ _ _ _ _ _ c.read_word-a.ensures.result c.read_word-b.ensures.result c.requires.0.layout
            c.requires.0.size _ _ _ _ _ c.requires.4 c.kind_word-w.ensures c.fill_frame.ensures
            c.fill_value.ensures.result.1,
      ));
      moved = (c.fill_value.ensures.result.0);
    }
