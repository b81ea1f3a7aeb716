-- Answers of `index_write_code::build::chain_up`.
use Rattle.index.specs.Index.{no_state}
use Rattle.index.proofs.Pushes.{going_starts, going_on}
use Rattle.index_write_code.proofs.build.chain_up.Goals as goal

pub loop-i-init : goal.loop-i-init
unfolding no_state
loop-i-init c =
    going_starts _ _ _ _

pub loop-i-preserved : goal.loop-i-preserved
loop-i-preserved c =
    going_on _ _ _ _ _ _ _ _ c.loop-i.invariant _ _ _ c.loop-i-test.true c.push_front-state.auto.heads
    c.push_front-state.auto.next c.push_front-state.ensures
