-- Answers of `stores_list_code::play::check_stores`.
use Rattle.std.proofs.Common.{sym, ◌∙◌}
use mathlib.Core.Bool.{true≢false}
use Rattle.stores.proofs.ListPlay.{fault_inside, fault_outside}
use Rattle.stores_list_code.proofs.play.check_stores.Goals as goal

pub returns-then-not-are_inside : goal.returns-then-not-are_inside
returns-then-not-are_inside c =
    fault_outside _ _ (λ h. true≢false (sym (c.are_inside.ensures.1 h) ∙ c.if-not-are_inside.true))

pub returns : goal.returns
returns c = fault_inside _ _ (c.are_inside.ensures.0 c.if-not-are_inside.false)
