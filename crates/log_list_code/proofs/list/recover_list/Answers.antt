-- Answers of `log_list_code::list::recover_list`.
use Rattle.std.proofs.Common.{◌≡◌, length, refl, rules}
use Rattle.message_log.specs.Recover.{log_recover_list_result}
use Rattle.message_log.proofs.Lists.{in_list}
use Rattle.log_list_code.proofs.list.recover_list.Goals as goal

pub returns : goal.returns
unfolding log_recover_list_result
returns c =
    let n : length c.recovery_made-made.result.at ≡ 1000 = search rules in
    let m : length c.recovery_made-made.result.value ≡ 1000 = search rules in
    record {
      result =
          in_list _ _ _ _ _ _ _ _ _ c.recovery_made-made.result.at c.recovery_made-made.result.value c.recovery_made-made.ensures.result refl refl n m
          c.args.list.now c.fill_store_list.new.list c.fill_store_list.ensures.result;
    }
