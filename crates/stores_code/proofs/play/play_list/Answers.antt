-- Answers of `stores_code::play::play_list`.
use Rattle.std.proofs.Common.{refl, sym}
use Rattle.refusals.proofs.Numbers.{not_zero, handed_on}
use Rattle.stores.proofs.Plays.{list_refused, list_done}
use Rattle.stores.proofs.Halves.{list_makeable}
use Rattle.stores_code.proofs.play.play_list.Goals as goal

pub returns-in_err-check_list : goal.returns-in_err-check_list
returns-in_err-check_list c =
    record {
      result = rw (handed_on _ _ c.from_residual.ensures.1) (list_refused _ _ _ _ c.in_err-check_list.ensures.result (not_zero _));
    }

pub make_stores-requires : goal.make_stores-requires
make_stores-requires c = list_makeable _ _ _ (sym c.in_ok-check_list.ensures.result)

pub returns : goal.returns
returns c = record { result = list_done _ _ _ _ c.in_ok-check_list.ensures.result refl _ c.make_stores.ensures.result }
