-- Answers of `stores_list_code::play::play_stores`.
use Rattle.std.proofs.Common.{refl}
use Rattle.refusals.proofs.Numbers.{not_zero, handed_on}
use Rattle.stores.specs.Play.{word_numbers, values}
use Rattle.stores.proofs.Plays.{list_refused}
use Rattle.stores.proofs.ListPlay.{all_inside, play_done}
use Rattle.stores_list_code.proofs.play.play_stores.Goals as goal

pub returns-in_err-check_stores : goal.returns-in_err-check_stores
returns-in_err-check_stores c =
    record {
      result =
          rw (handed_on _ _ c.from_residual.ensures.1)
          (list_refused c.args.image.now (word_numbers c.args.list.now) (values c.args.list.now) _ c.in_err-check_stores.ensures (not_zero _));
    }

pub make_all-requires : goal.make_all-requires
make_all-requires c = all_inside _ c.args.list.now 0 c.in_ok-check_stores.ensures refl

pub returns : goal.returns
returns c =
    record {
      result =
          play_done c.args.image.now c.args.list.now 0 c.in_ok-check_stores.ensures refl c.make_all.new.image c.make_all.ensures;
    }
