-- Answers of `stores_code::play::play`.
use Rattle.std.proofs.Common.{rules, arith, refl, sym}
use Rattle.refusals.proofs.Numbers.{not_zero, handed_on}
use Rattle.stores.proofs.Plays.{play_refused, play_done}
use Rattle.stores.proofs.Halves.{playable, half_makeable}
use Rattle.stores_code.proofs.play.play.Goals as goal

pub returns-in_err-check_play : goal.returns-in_err-check_play
returns-in_err-check_play c =
    record {
      result = rw (handed_on _ _ c.from_residual.ensures.1) (play_refused _ _ _ _ _ _ c.in_err-check_play.ensures.result (not_zero _));
    }

pub make_stores-requires : goal.make_stores-requires
make_stores-requires c =
    let p = playable _ _ _ _ (sym c.in_ok-check_play.ensures.result) in
    half_makeable _ _ _ _ _ _ p.first p.first_count (omega arith) (search rules) (search rules) refl

pub make_stores-requires-2 : goal.make_stores-requires-2
make_stores-requires-2 c =
    let p = playable _ _ _ _ (sym c.in_ok-check_play.ensures.result) in
    half_makeable _ _ _ _ _ _ p.second p.second_count (omega arith) (search rules) (search rules)
    c.make_stores.auto.image

pub returns : goal.returns
returns c =
    record {
      result =
          play_done _ _ _ _ _ _ c.in_ok-check_play.ensures.result refl _ _ c.make_stores.ensures.result c.make_stores-2.ensures.result;
    }
