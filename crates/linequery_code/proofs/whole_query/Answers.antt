-- Answers of `linequery_code::whole_query`.
use mathlib.Core.Path.{refl, ap₂, ◌∙◌}
use mathlib.Core.Bool.{cond}
use Prim.Native.Nat.{ℕ}
use native.Mathlib.Omega.{arith}
use borrow.Author.Rules.{rules}
use Rattle.refusals.proofs.Numbers.{not_zero, handed_on}
use Rattle.layout.specs.Line.{whole}
use Rattle.linequery.specs.Query.{whole_query}
use Rattle.linequery.proofs.Queries.{slices_sized, query_refused, query_put}
use Rattle.linequery_code.proofs.whole_query.Goals as goal

-- `linequery_code::whole_query` meets its contract. Assumes nothing.
pub returns-in_err-check_slices : goal.returns-in_err-check_slices
unfolding whole_query
returns-in_err-check_slices c =
    record { result = rw (handed_on _ _ c.from_residual.ensures.1) (query_refused _ _ _ _ c.in_err-check_slices.ensures (not_zero _)) }

pub read_word-requires : goal.read_word-requires
read_word-requires c =
    omega (arith, slices_sized _ _ _ c.in_ok-check_slices.ensures refl)

pub read_word-requires-2 : goal.read_word-requires-2
read_word-requires-2 c =
    omega (arith, slices_sized _ _ _ c.in_ok-check_slices.ensures refl)

pub write_word-requires : goal.write_word-requires
write_word-requires c =
    omega (arith, slices_sized _ _ _ c.in_ok-check_slices.ensures refl)

pub returns : goal.returns
unfolding whole_query
returns c =
    record {
      result = (query_put _ _ _ _ c.in_ok-check_slices.ensures refl _ _ c.write_word.ensures.result
          (c.whole_word.ensures ∙ ap₂ (λ (x y : ℕ). cond (whole x y) 1 0) c.read_word.ensures.result
          c.read_word-2.ensures.result));
    }
