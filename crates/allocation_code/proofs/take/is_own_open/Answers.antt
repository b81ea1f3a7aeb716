-- Answers of `allocation_code::take::is_own_open`.
use mathlib.Core.Path.{sym}
use borrow.Author.Tests.{ltb-true}
use Rattle.allocation.proofs.Own.{own_first}
use Rattle.allocation_code.proofs.take.is_own_open.Goals as goal

pub returns-then-next-t : goal.returns-then-next-t
returns-then-next-t c =
    record {
      result = (λ e.
          sym
          (own_first _ _ _ _ _ _ _ c.named_version.ensures.result c.requires.0.some c.requires.1 c.requires.2 c.if-next-t.true _
          c.read_word.ensures.result (ltb-true _ _ e)));
    }
