-- Answers of `layout_code::header::slot_count`.
use mathlib.Core.Path.{refl}
use native.Mathlib.Omega.{arith}
use Rattle.layout.proofs.Size.{turned_low, turned_high, turned_right}
use Rattle.layout_code.proofs.header.slot_count.Goals as goal

pub returns-in-3-to-65536 : goal.returns-in-3-to-65536
returns-in-3-to-65536 c =
    record { result = (turned_right c.args.len _ refl (omega arith) (omega arith)) }

pub returns-in_default : goal.returns-in_default
returns-in_default c =
    record { result = (turned_low c.args.len _ refl (omega arith)) }

pub returns-in_default-2 : goal.returns-in_default-2
returns-in_default-2 c =
    record { result = (turned_high c.args.len _ refl (omega arith)) }
