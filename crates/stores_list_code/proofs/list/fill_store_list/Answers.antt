-- Answers of `stores_list_code::list::fill_store_list`.
use Rattle.std.proofs.Common.{ℕ, List, arith, sym, ap, ◌∙◌, add-one, get_or}
use Rattle.std.proofs.Math.ListN.{set}
use Rattle.stores.specs.Store.{Store}
use Rattle.stores.specs.inner.List.{stores_put}
use Rattle.stores.proofs.ListPut.{put_none, put_next}
use Rattle.stores_list_code.proofs.list.fill_store_list.Goals as goal

pub loop-i-init : goal.loop-i-init
loop-i-init c = (omega arith, sym (put_none c.args.at.now c.args.words.now c.args.list.now))

pub loop-i-preserved : goal.loop-i-preserved
loop-i-preserved c = (
  omega arith,
  ap (λ (l : List Store). set l c.loop-i.i (record { word = get_or c.args.at.now c.loop-i.i 0; value = get_or c.args.words.now c.loop-i.i 0 }))
      c.loop-i.invariant.1
      ∙ put_next c.args.at.now c.args.words.now c.args.list.now c.loop-i.i (omega arith) (omega arith) (omega arith)
      ∙ ap (λ (n : ℕ). stores_put c.args.at.now c.args.words.now n c.args.list.now) (sym (add-one c.loop-i.i)),
)
