-- Answers of `stores_record_code::record::remove_stores`.
use borrow.Author.Rules.{rules}
use Rattle.stores.proofs.Pasted.{whole_frame}
use Rattle.stores_record_code.proofs.record.remove_stores.Goals as goal

pub returns : goal.returns
returns c =
    record { result = (search (whole_frame, rules)) }
