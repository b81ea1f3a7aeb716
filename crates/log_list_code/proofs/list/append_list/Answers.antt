-- Answers of `log_list_code::list::append_list`.
use Rattle.std.proofs.Common.{◌≡◌, length, refl, rules}
use Rattle.message_log.specs.Append.{append_list_result}
use Rattle.message_log.proofs.Lists.{in_list}
use Rattle.log_list_code.proofs.list.append_list.Goals as goal

pub returns : goal.returns
unfolding append_list_result
returns c =
    let n : length c.append_made-made.result.at ≡ 56 = search rules in
    let m : length c.append_made-made.result.value ≡ 56 = search rules in
    record {
      result =
          in_list _ _ _ _ _ _ _ _ _ c.append_made-made.result.at c.append_made-made.result.value c.append_made-made.ensures.result refl refl n m
          c.args.list.now c.fill_store_list.new.list c.fill_store_list.ensures.result;
    }
