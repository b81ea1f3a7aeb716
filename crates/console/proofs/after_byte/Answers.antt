-- `console::after_byte`: whether the output lacks room, by its length.
use Rattle.std.proofs.Common.{◌≡◌, ℕ, ◌+◌, ◌<◌, ◌≤◌, true, false, sym, ◌∙◌, arith, true≢false}
use borrow.Author.Tests.{lt-ltb, le-ltb}
use Rattle.prelude.proofs.Choice.{pick_true, pick_false}
use Rattle.session.specs.Stream.{lacks_room}
use Rattle.session.specs.declared.Progress.{Progress}
use Rattle.console.proofs.after_byte.Goals as goal

full : (p : Progress) (size : ℕ) → size < p.at + 64 → lacks_room p size ≡ true
unfolding lacks_room
full p size h = lt-ltb size (p.at + 64) h

roomy : (p : Progress) (size : ℕ) → p.at + 64 ≤ size → lacks_room p size ≡ false
unfolding lacks_room
roomy p size h = le-ltb size (p.at + 64) h

pub returns-then-saturating_sub-lt64-clause-progress : goal.returns-then-saturating_sub-lt64-clause-progress
returns-then-saturating_sub-lt64-clause-progress c = c.flush.ensures.progress ∙ sym (pick_true _ _ _ (full _ _ (omega arith)))

pub returns-then-saturating_sub-lt64-clause-room : goal.returns-then-saturating_sub-lt64-clause-room
returns-then-saturating_sub-lt64-clause-room c = λ e. absurd (true≢false (sym (full _ _ (omega arith)) ∙ e))

pub returns-else-saturating_sub-lt64-clause-progress : goal.returns-else-saturating_sub-lt64-clause-progress
returns-else-saturating_sub-lt64-clause-progress c = sym (pick_false _ _ _ (roomy _ _ (omega arith)))
