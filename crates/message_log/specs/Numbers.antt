-- THE NUMBERS with which a call of the log is refused, whatever it is given. Document 02, A.10: "29 when a message is
-- empty or over 384 bytes, 30 when the area is not K cells, and 31 when a number read is not shown; 30 is tested first,
-- and in an append 29, then 9 .., then 13 for a list shorter than the stores, which its recovery gives too."
use Rattle.std.specs.Prelude.{List, [], ◌∷◌, ℕ}
use Rattle.prelude.specs.Numbers.{Numbered, ZeroOrOneOf}
use Rattle.stores.specs.Store.{Store}
use Rattle.message_log.specs.Append.{append_result, append_list_result}
use Rattle.message_log.specs.AppendAfter.{append_after_result}
use Rattle.message_log.specs.Recover.{log_recover_result, log_recover_list_result}
use Rattle.message_log.specs.Read.{read_result, part_result}

abbrev pub append_refusals : List ℕ
append_refusals = 30 ∷ 29 ∷ 9 ∷ 13 ∷ []

abbrev pub log_recover_refusals : List ℕ
log_recover_refusals = 30 ∷ 13 ∷ []

abbrev pub read_refusals : List ℕ
read_refusals = 30 ∷ 31 ∷ []

-- append and recovery, with their stores in two lists of numbers or in one list of stores; read, which leaves its
-- refusal in a lent number, and the same by numbers; and append_after, whatever number it is lent
pub record LogNumbers : Type 0 where
  pub append : (area message at value : List ℕ) → Numbered append_refusals (append_result area message at value).answer
  pub append_list : (area message : List ℕ) (list : List Store) → Numbered append_refusals (append_list_result area message list).answer
  pub recover : (area at value : List ℕ) → Numbered log_recover_refusals (log_recover_result area at value).answer
  pub recover_list : (area : List ℕ) (list : List Store) → Numbered log_recover_refusals (log_recover_list_result area list).answer
  pub read : (area : List ℕ) (number : ℕ) → ZeroOrOneOf read_refusals (read_result area number).refusal
  pub read-part : (area : List ℕ) (number : ℕ) → Numbered read_refusals (part_result area number)
  pub append_after : (area : List ℕ) (last : ℕ) (message at value : List ℕ) → Numbered append_refusals (append_after_result area last message at value).answer
