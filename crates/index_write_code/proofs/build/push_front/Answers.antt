-- Answers of `index_write_code::build::push_front`.
use Rattle.index.proofs.Pushes.{front_only, front_reuse, front_head}
use Rattle.index_write_code.proofs.build.push_front.Goals as goal

-- `index_write_code::build::push_front` meets its contract. Assumes nothing.
pub returns-then-state-eq0 : goal.returns-then-state-eq0
returns-then-state-eq0 c =
    front_only _ _ _ _ _ c.if-place-eq0.true c.if-state-eq0.true

pub returns-else-state-eq0 : goal.returns-else-state-eq0
returns-else-state-eq0 c =
    front_reuse _ _ _ _ _ c.if-place-eq0.true c.if-state-eq0.false

pub returns : goal.returns
returns c =
    front_head _ _ _ _ _ c.if-place-eq0.false
