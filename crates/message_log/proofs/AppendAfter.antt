-- APPEND_AFTER of the highest complete number is append. Assumes nothing.
use mathlib.Core.Path.{refl}
use Rattle.message_log.specs.Append.{next_message, append_stores, append_fault, append_result}
use Rattle.message_log.specs.AppendAfter.{append_after_stores, append_after_fault, append_after_result, AfterHighest}

pub after_highest : AfterHighest
unfolding append_after_stores append_after_fault append_after_result next_message append_stores append_fault append_result
after_highest =
    record {
      stores = λ cells m message. refl;
      fault = λ area message ats vals. refl;
      result = λ area message at value. refl;
    }
