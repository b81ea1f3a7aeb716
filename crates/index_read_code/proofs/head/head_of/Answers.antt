-- Answers of `index_read_code::head::head_of`.
use native.Mathlib.Nat.{mod-lt}
use Rattle.index.proofs.Heads.{head_by_low, head_by_mask}
use Rattle.index_read_code.proofs.head.head_of.Goals as goal

-- `index_read_code::head::head_of` meets its contract. Assumes nothing.
pub returns-then-b-mask-eq0 : goal.returns-then-b-mask-eq0
returns-then-b-mask-eq0 c =
    record { result = (head_by_mask c.args.low c.args.b c.requires c.ranges.low.fits c.if-b-mask-eq0.true) }

pub returns : goal.returns
returns c =
    record { result = ((mod-lt c.args.low c.requires, λ high. head_by_low _ high _ c.ranges.low.fits)) }
