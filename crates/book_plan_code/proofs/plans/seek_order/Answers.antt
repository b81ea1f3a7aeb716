-- Answers of `book_plan_code::plans::seek_order`.
use mathlib.Core.Path.{sym, subst}
use Prim.Native.Nat.{ℕ}
use native.Mathlib.Omega.{arith}
use lib.ListN.{replicate}
use lib.Seq.{length-take-le}
use borrow.Author.Rules.{rules}
use Rattle.interface.specs.Set.{Layout}
use Rattle.interface.proofs.SetLaws.{layout_numbered}
use Rattle.book.proofs.Seeks.{room_zeros}
use Rattle.book_plan_code.proofs.plans.seek_order.Goals as goal

pub overflow_mul-size : goal.overflow_mul-size
overflow_mul-size c =
    omega (arith, (subst Layout (sym c.layout_number.ensures.result) (layout_numbered c.args.wide)).high)

pub overflow_sub-size : goal.overflow_sub-size
overflow_sub-size c =
    omega (arith, (subst Layout (sym c.layout_number.ensures.result) (layout_numbered c.args.wide)).high)

pub slice_bounds-out-end : goal.slice_bounds-out-end
slice_bounds-out-end c =
    omega (arith, (subst Layout (sym c.layout_number.ensures.result) (layout_numbered c.args.wide)).low)

pub slice_bounds-seek_with-end : goal.slice_bounds-seek_with-end
slice_bounds-seek_with-end c =
    sym
    (length-take-le _ (replicate {A = ℕ} 80 0)
    (omega (arith, (subst Layout (sym c.layout_number.ensures.result) (layout_numbered c.args.wide)).low)))

pub seek_with-requires : goal.seek_with-requires
seek_with-requires c =
    rw c.layout_number.ensures.result (room_zeros _ (layout_numbered c.args.wide))
