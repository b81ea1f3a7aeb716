-- Answers of `stores_record_code::record::frame_word`.
use mathlib.Core.Path.{sym}
use native.Mathlib.Omega.{arith}
use Rattle.stores.proofs.RecordStores.{in_key, in_kind, past_kind}
use Rattle.stores_record_code.proofs.record.frame_word.Goals as goal

pub returns-then-i-l : goal.returns-then-i-l
returns-then-i-l c =
    search in_key

pub returns-then-i-l-2 : goal.returns-then-i-l-2
returns-then-i-l-2 c =
    search in_kind

pub returns-else-i-l-2 : goal.returns-else-i-l-2
returns-else-i-l-2 c =
    sym (past_kind _ _ _ _ (omega arith))
