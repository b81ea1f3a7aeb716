-- Answers of `index_write_code::change::replace_held`.
use native.Mathlib.Omega.{arith}
use lib.ListN.{length-set}
use Rattle.index.proofs.Writes.{taken_last, taken_version, append_version, replace-held}
use Rattle.index_write_code.proofs.change.replace_held.Goals as goal

pub append_slot-back-requires : goal.append_slot-back-requires
append_slot-back-requires c = (
  rw (c.link.auto.next, length-set) c.requires.old-in,
  rw (c.link.auto.next, length-set) (taken_last _ _ _ c.take-rest.ensures c.requires.last_in),
)

pub overflow_add-result : goal.overflow_add-result
overflow_add-result c =
    omega (
      arith,
      append_version _ _ _ c.append_slot-back.ensures.result.0,
      taken_version _ _ _ c.take-rest.ensures,
      c.requires.version_fits,
    )

pub returns : goal.returns
returns c =
    replace-held _ _ _ _ _ _ c.take-rest.ensures _ _ _ _ _ c.append_slot-back.ensures.result.0 c.append_slot-back.ensures.result.1
    c.link.ensures.result.0 c.link.ensures.result.1
