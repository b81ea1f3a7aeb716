-- Answers of `stores_list_code::play::make_all`.
use Rattle.std.proofs.Common.{ℕ, List, get_or, arith, ap, ◌∙◌}
use Rattle.words.specs.Word.{set_word}
use Rattle.stores.proofs.ListPlay.{none, play_none, play_next}
use Rattle.stores_list_code.proofs.play.make_all.Goals as goal

pub loop-store-init : goal.loop-store-init
loop-store-init c = (omega arith, play_none c.args.list.now c.args.image.now)

pub loop-store-preserved : goal.loop-store-preserved
loop-store-preserved c = (
  omega arith,
  c.write_word.ensures.result
      ∙ ap (λ (m : List ℕ). set_word m (get_or c.args.list.now c.loop-store.store-index none).word
      (get_or c.args.list.now c.loop-store.store-index none).value) c.loop-store.invariant.1
      ∙ play_next c.args.list.now c.args.image.now c.loop-store.store-index (omega arith),
)
