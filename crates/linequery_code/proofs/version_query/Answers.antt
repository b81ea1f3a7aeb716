-- Answers of `linequery_code::version_query`.
use mathlib.Core.Path.{refl, ap, ◌∙◌}
use native.Mathlib.Omega.{arith}
use borrow.Author.Rules.{rules}
use Rattle.refusals.proofs.Numbers.{not_zero, handed_on}
use Rattle.layout.specs.Line.{version_of}
use Rattle.linequery.specs.Query.{version_query}
use Rattle.linequery.proofs.Queries.{slices_sized, query_refused, query_put}
use Rattle.linequery_code.proofs.version_query.Goals as goal

-- `linequery_code::version_query` meets its contract. Assumes nothing.
pub returns-in_err-check_slices : goal.returns-in_err-check_slices
unfolding version_query
returns-in_err-check_slices c =
    record { result = rw (handed_on _ _ c.from_residual.ensures.1) (query_refused _ _ _ _ c.in_err-check_slices.ensures (not_zero _)) }

pub read_word-requires : goal.read_word-requires
read_word-requires c =
    omega (arith, slices_sized _ _ _ c.in_ok-check_slices.ensures refl)

pub write_word-requires : goal.write_word-requires
write_word-requires c =
    omega (arith, slices_sized _ _ _ c.in_ok-check_slices.ensures refl)

pub returns : goal.returns
unfolding version_query
returns c =
    record {
      result = (query_put _ _ _ _ c.in_ok-check_slices.ensures refl _ _
          c.write_word.ensures.result (c.version_of.ensures.result ∙ ap version_of c.read_word.ensures.result));
    }
