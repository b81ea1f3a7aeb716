-- Answers of `stores_record_code::record::fill_numbers`.
use mathlib.Core.Path.{◌≡◌, refl}
use Prim.Native.Nat.{◌+◌, ◌*◌}
use native.Mathlib.Omega.{arith}
use Rattle.stores.proofs.Pasted.{numbering_next, numbering_end}
use Rattle.stores_record_code.proofs.record.fill_numbers.Goals as goal

pub loop-k-preserved : goal.loop-k-preserved
loop-k-preserved c =
    let next : 16 * c.args.s + c.loop-k.k + 1 ≡ 16 * c.args.s + (c.loop-k.k + 1) = omega arith in
    rw (← next) (numbering_next _ _ _ _ _ _ _ c.loop-k.invariant (omega arith) c.requires.1 refl)

pub returns : goal.returns
returns c =
    numbering_end _ _ _ _ _ _ c.loop-k.invariant c.requires.1 (omega arith)
