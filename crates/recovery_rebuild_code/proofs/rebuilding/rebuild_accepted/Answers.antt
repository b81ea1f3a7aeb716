-- Answers of `recovery_rebuild_code::rebuilding::rebuild_accepted`.
use mathlib.Core.Path.{refl}
use native.Mathlib.Omega.{arith}
use Rattle.recovery_rebuild_code.proofs.rebuilding.rebuild_accepted.Goals as goal

-- `recovery_rebuild_code::rebuilding::rebuild_accepted` meets its contract. Assumes nothing.
pub returns-then-fault-ne0 : goal.returns-then-fault-ne0
returns-then-fault-ne0 c =
    record { rebuilt = λ z. absurd (c.if-fault-ne0.true (omega arith)); kept = λ ne. (refl, refl) }

pub rebuild-requires : goal.rebuild-requires
rebuild-requires c =
    c.requires (omega (arith, c.if-fault-ne0.false))

pub returns : goal.returns
returns c =
    record { rebuilt = λ z. c.rebuild.ensures; kept = λ ne. absurd (ne (omega (arith, c.if-fault-ne0.false))) }
