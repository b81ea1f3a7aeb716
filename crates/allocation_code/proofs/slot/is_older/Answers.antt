-- Answers of `allocation_code::slot::is_older`.
use mathlib.Core.Path.{ap, ◌∙◌}
use mathlib.Core.Bool.{not}
use borrow.Author.Tests.{eq-eqb}
use Rattle.allocation.proofs.Tested.{other_key, not_valid, same_key}
use Rattle.allocation_code.proofs.slot.is_older.Goals as goal

pub returns-then-not-has_key : goal.returns-then-not-has_key
returns-then-not-has_key c =
    record { result = (search other_key) }

pub returns-then-found-ne0 : goal.returns-then-found-ne0
returns-then-found-ne0 c =
    record { result = (search same_key) }

pub returns-else-found-ne0 : goal.returns-else-found-ne0
returns-else-found-ne0 c =
    record {
      result = ap not (eq-eqb _ 0 c.if-found-ne0.false)
          ∙ not_valid _ _ _ _ _ _ c.has_key.ensures.result _ c.valid_version-found.ensures.result c.if-found-ne0.false;
    }
