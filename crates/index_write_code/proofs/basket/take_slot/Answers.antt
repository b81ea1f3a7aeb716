-- Answers of `index_write_code::basket::take_slot`.
use mathlib.Core.Path.{refl}
use borrow.Author.Tests.{eq-eqb, ne_eqb}
use Rattle.index.specs.inner.Parts.{link_next}
use Rattle.index.specs.inner.Basket.{left_state}
use Rattle.index_write_code.proofs.basket.take_slot.Goals as goal

-- `index_write_code::basket::take_slot` meets its contract. Assumes nothing.
pub returns-then-prev-eq0 : goal.returns-then-prev-eq0
unfolding left_state link_next
returns-then-prev-eq0 c =
    (rw (eq-eqb _ _ c.if-prev-eq0.true, c.last_without-last.ensures) refl, rw (eq-eqb _ _ c.if-prev-eq0.true) refl)

pub returns : goal.returns
unfolding left_state link_next
returns c =
    (rw (ne_eqb _ _ c.if-prev-eq0.false, c.last_without-last.ensures) refl, rw (ne_eqb _ _ c.if-prev-eq0.false) refl)
