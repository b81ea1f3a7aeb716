-- Answers of `cut_counts_code::count_cuts_in`.
use native.Mathlib.Omega.{arith}
use lib.ListN.{length}
use Rattle.layout.proofs.Size.{slots_high}
use Rattle.cut_counts_code.proofs.count_cuts_in.Goals as goal

pub count_sized-requires-else-n-lt512 : goal.count_sized-requires-else-n-lt512
count_sized-requires-else-n-lt512 c = (
  c.requires,
  c.slot_count-n.ensures.result,
  omega (arith, c.slot_count-n.ensures.result, slots_high (length c.args.image.now)),
  omega arith,
)
