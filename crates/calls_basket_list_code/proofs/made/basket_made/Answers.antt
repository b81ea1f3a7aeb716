-- Answers of `calls_basket_list_code::made::basket_made`.
use Rattle.std.proofs.Common.{◌≡◌, sym, ◌∙◌, arith}
use Prim.Native.Nat.{min}
use Rattle.prelude.proofs.Lists.{front_length}
use Rattle.calls.proofs.BasketLists.{made}
use Rattle.calls_basket_list_code.proofs.made.basket_made.Goals as goal

pub returns : goal.returns
returns c =
    let as_many : c.min-n.result ≡ min 128 c.args.room = omega arith in
    record {
      result =
          made c.args.own _ _ _ _ c.args.state _ _ _ _ _ _ _ _ _ _ _ _ _ _ (sym (front_length _ _ (omega arith)) ∙ as_many)
          (sym (front_length _ _ (omega arith)) ∙ as_many)
          c.basket_store_count-stored.ensures.0 c.basket_in-answer.ensures.result c.basket_store_count-stored.ensures.1;
    }
