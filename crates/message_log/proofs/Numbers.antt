-- The numbers of the log's calls. Assumes nothing.
use mathlib.Core.Path.{◌≡◌, refl}
use mathlib.Core.Bool.{true}
use mathlib.Core.List.{List}
use Prim.Native.Nat.{ℕ}
use Rattle.prelude.specs.Answer.{Answer, refused}
use Rattle.prelude.specs.Numbers.{Numbered, ZeroOrOneOf}
use Rattle.prelude.proofs.defs.Among.{is_one}
use Rattle.prelude.proofs.Numbers.{none_due, one_due, else_due, numbered}
use Rattle.words.specs.Word.{word}
use Rattle.layout.specs.Line.{version_fault}
use Rattle.stores.specs.Store.{Store}
use Rattle.message_log.specs.Area.{cells_in, area_fault}
use Rattle.message_log.specs.LogOutcome.{short_fault, LogResult, log_end, handing, LogListResult, log_list_end, handing_list}
use Rattle.message_log.specs.Append.{message_fault, next_message, append_stores, append_fault, append_result, append_list_result}
use Rattle.message_log.specs.Message.{highest}
use Rattle.message_log.specs.AppendAfter.{append_after_stores, append_after_fault, append_after_result}
use Rattle.message_log.specs.Recover.{log_recover_fault, log_recover_result, log_recover_list_result}
use Rattle.message_log.specs.Read.{read_fault, read_result, part_result}
use Rattle.message_log.specs.Numbers.{append_refusals, log_recover_refusals, read_refusals, LogNumbers}

area_due : (ks : List ℕ) → is_one 30 ks ≡ true → (area : List ℕ) → ZeroOrOneOf ks (area_fault area)
unfolding area_fault
area_due ks cells area = one_due ks _ 30 0 cells (none_due ks)

short_due : (ks : List ℕ) → is_one 13 ks ≡ true → (count ats vals : ℕ) → ZeroOrOneOf ks (short_fault count ats vals)
unfolding short_fault
short_due ks short count ats vals = one_due ks _ 13 _ short (one_due ks _ 13 0 short (none_due ks))

append_due : (area : List ℕ) (last : ℕ) (message : List ℕ) (ats vals : ℕ) → ZeroOrOneOf append_refusals (append_after_fault area last message ats vals)
unfolding append_after_fault message_fault version_fault
append_due area last message ats vals =
    else_due ks _ _ (area_due ks refl area)
    (else_due ks _ _ (one_due ks _ 29 _ refl (one_due ks _ 29 0 refl (none_due ks)))
    (else_due ks _ _ (one_due ks _ 9 0 refl (none_due ks)) (short_due ks refl _ ats vals)))
  where
    ks : List ℕ
    ks = append_refusals

recover_due : (area : List ℕ) (ats vals : ℕ) → ZeroOrOneOf log_recover_refusals (log_recover_fault area ats vals)
unfolding log_recover_fault
recover_due area ats vals = else_due log_recover_refusals _ _ (area_due log_recover_refusals refl area) (short_due log_recover_refusals refl _ ats vals)

read_due : (area : List ℕ) (number : ℕ) → ZeroOrOneOf read_refusals (read_fault area number)
unfolding read_fault
read_due area number = else_due read_refusals _ _ (area_due read_refusals refl area) (one_due read_refusals _ 31 0 refl (none_due read_refusals))

-- what is handed out with this fault
handed : (ks : List ℕ) (fault : ℕ) → ZeroOrOneOf ks fault → (number : ℕ) (ss : List Store) (at value : List ℕ)
    → Numbered ks (handing fault number ss at value).answer
unfolding handing
handed ks fault d number ss at value = numbered ks (λ (r : LogResult). r.answer) (λ k. log_end (refused k) at value) (λ k. refl) fault d _ tt

stored_list : (ks : List ℕ) (fault : ℕ) → ZeroOrOneOf ks fault → (number : ℕ) (ss list : List Store) → Numbered ks (handing_list fault number ss list).answer
unfolding handing_list
stored_list ks fault d number ss list = numbered ks (λ (r : LogListResult). r.answer) (λ k. log_list_end (refused k) list) (λ k. refl) fault d _ tt

-- THE NUMBERS of the log's calls
pub log_numbers : LogNumbers
unfolding append_after_result append_after_fault append_after_stores next_message append_stores append_fault append_result append_list_result
    log_recover_result log_recover_list_result read_result part_result
log_numbers =
    record {
      append = λ area message at value. handed append_refusals _ (append_due area (highest (cells_in area) (word area)) message _ _) _ _ at value;
      append_list = λ area message list. stored_list append_refusals _ (append_due area (highest (cells_in area) (word area)) message _ _) _ _ list;
      recover = λ area at value. handed log_recover_refusals _ (recover_due area _ _) _ _ at value;
      recover_list = λ area list. stored_list log_recover_refusals _ (recover_due area _ _) _ _ list;
      read = read_due;
      read-part = λ area number. numbered read_refusals (λ (a : Answer). a) (λ k. refused k) (λ k. refl) _ (read_due area number) _ tt;
      append_after = λ area last message at value. handed append_refusals _ (append_due area last message _ _) _ _ at value;
    }
