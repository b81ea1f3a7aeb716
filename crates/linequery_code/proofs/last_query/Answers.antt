-- Answers of `linequery_code::last_query`.
use mathlib.Core.Path.{refl, ap, ◌∙◌}
use Prim.Native.Nat.{ℕ}
use native.Mathlib.Omega.{arith}
use borrow.Author.Rules.{rules}
use Rattle.refusals.proofs.Numbers.{not_zero, handed_on}
use Rattle.layout.specs.Line.{last_word_of}
use Rattle.linequery.specs.Query.{last_query}
use Rattle.linequery.proofs.Queries.{next_sized, query_refused, query_put}
use Rattle.linequery_code.proofs.last_query.Goals as goal

pub returns-in_err-check_next : goal.returns-in_err-check_next
unfolding last_query
returns-in_err-check_next c =
    record { result = rw (handed_on _ _ c.from_residual.ensures.1) (query_refused _ _ _ _ c.in_err-check_next.ensures (not_zero _)) }

pub read_word-requires : goal.read_word-requires
read_word-requires c =
    omega (arith, next_sized _ _ _ _ c.in_ok-check_next.ensures refl)

pub last_word-requires : goal.last_word-requires
last_word-requires c =
    (next_sized _ _ _ _ c.in_ok-check_next.ensures refl).2

pub write_word-requires : goal.write_word-requires
write_word-requires c =
    omega (arith, next_sized _ _ _ _ c.in_ok-check_next.ensures refl)

pub returns : goal.returns
unfolding last_query
returns c =
    record {
      result = (query_put _ _ _ _ c.in_ok-check_next.ensures refl _ _
          c.write_word.ensures.result
          (c.last_word.ensures.result ∙ ap (λ (x : ℕ). last_word_of x c.args.version) c.read_word.ensures.result));
    }
