-- Answers of `linequery_code::first_query`.
use mathlib.Core.Path.{refl, ap, ◌∙◌}
use native.Mathlib.Omega.{arith}
use borrow.Author.Rules.{rules}
use Rattle.refusals.proofs.Numbers.{not_zero, handed_on}
use Rattle.layout.specs.Line.{first_word}
use Rattle.linequery.specs.Query.{first_query}
use Rattle.linequery.proofs.Queries.{next_sized, query_refused, query_put}
use Rattle.linequery_code.proofs.first_query.Goals as goal

-- `linequery_code::first_query` meets its contract. Assumes nothing.
pub returns-in_err-check_next : goal.returns-in_err-check_next
unfolding first_query
returns-in_err-check_next c =
    record { result = rw (handed_on _ _ c.from_residual.ensures.1) (query_refused _ _ _ _ c.in_err-check_next.ensures (not_zero _)) }

pub read_word-requires : goal.read_word-requires
read_word-requires c =
    omega (arith, next_sized _ _ _ _ c.in_ok-check_next.ensures refl)

pub write_word-requires : goal.write_word-requires
write_word-requires c =
    omega (arith, next_sized _ _ _ _ c.in_ok-check_next.ensures refl)

pub returns : goal.returns
unfolding first_query
returns c =
    record {
      result = (query_put _ _ _ _ c.in_ok-check_next.ensures refl _ _
          c.write_word.ensures.result (c.first_word.ensures.result ∙ ap first_word c.read_word.ensures.result));
    }
