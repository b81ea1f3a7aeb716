-- Answers of `stores_record_code::record::record_stores`.
use borrow.Author.Rules.{rules}
use Rattle.stores.proofs.Pasted.{whole_record}
use Rattle.stores_record_code.proofs.record.record_stores.Goals as goal

pub returns : goal.returns
returns c =
    record { stores = search (whole_record, rules); moved = search (whole_record, rules) }
