-- Answers of `log_cell_code::bit::store_count`.
use mathlib.Core.Path.{sym}
use native.Mathlib.Omega.{arith}
use Rattle.message_log.proofs.Flexible.{count_none, count_some}
use Rattle.log_cell_code.proofs.bit.store_count.Goals as goal

pub returns-then-place-eq8 : goal.returns-then-place-eq8
returns-then-place-eq8 c =
    record { result = (sym (count_none _ c.if-place-eq8.true)) }

pub returns : goal.returns
returns c =
    record { result = (omega (arith, count_some c.args.place c.if-place-eq8.false)) }
