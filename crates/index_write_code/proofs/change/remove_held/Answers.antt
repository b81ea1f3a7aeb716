-- Answers of `index_write_code::change::remove_held`.
use native.Mathlib.Omega.{arith}
use Rattle.index.proofs.Writes.{taken_last, taken_live, taken_version, append_last, append_live, append_version, remove-held}
use Rattle.index_write_code.proofs.change.remove_held.Goals as goal

pub append_slot-joined-requires : goal.append_slot-joined-requires
append_slot-joined-requires c = (
  omega (arith, c.link.auto.next, c.requires.0.old-in, c.requires.0.first_in),
  rw c.link.auto.next (taken_last _ _ _ c.take-rest.ensures c.requires.0.last_in),
)

pub append_slot-all-requires : goal.append_slot-all-requires
append_slot-all-requires c = (
  omega (arith, c.append_slot-joined.auto.next, c.link.auto.next, c.requires.0.old-in, c.requires.0.first_in),
  omega (
    arith,
    c.append_slot-joined.auto.next,
    c.link.auto.next,
    append_last _ _ _ c.append_slot-joined.ensures.result.0,
    c.requires.0.old-in,
    c.requires.0.first_in,
  ),
)

pub overflow_sub-result : goal.overflow_sub-result
overflow_sub-result c =
    omega (
      arith,
      append_live _ _ _ c.append_slot-all.ensures.result.0,
      append_live _ _ _ c.append_slot-joined.ensures.result.0,
      taken_live _ _ _ c.take-rest.ensures,
      c.requires.1,
    )

pub overflow_add-result : goal.overflow_add-result
overflow_add-result c =
    omega (
      arith,
      append_version _ _ _ c.append_slot-all.ensures.result.0,
      append_version _ _ _ c.append_slot-joined.ensures.result.0,
      taken_version _ _ _ c.take-rest.ensures,
      c.requires.0.version_fits,
    )

pub returns : goal.returns
returns c =
    record {
      result = (remove-held _ _ _ _ _ _ c.take-rest.ensures _ _ _ _ _ c.append_slot-joined.ensures.result.0 c.append_slot-joined.ensures.result.1 _ _
          c.link.ensures.result.0 c.link.ensures.result.1 c.append_slot-all.ensures.result.0 c.append_slot-all.ensures.result.1);
    }
