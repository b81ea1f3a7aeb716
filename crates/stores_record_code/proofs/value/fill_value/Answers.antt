-- Answers of `stores_record_code::value::fill_value`.
use mathlib.Core.Path.{refl, ◌∙◌}
use native.Mathlib.Omega.{arith}
use Rattle.stores.proofs.Placed.{filling_start, filling_next, filling_end}
use Rattle.stores_record_code.proofs.value.fill_value.Goals as goal

pub loop-init : goal.loop-init
loop-init c =
    (refl, filling_start _ _ _ _)

pub fill_word-i-requires : goal.fill_word-i-requires
fill_word-i-requires c =
    (c.requires.0, c.requires.1, omega (arith, c.loop.invariant.0), omega (arith, c.requires.2, c.loop.invariant.1.size))

pub loop-preserved : goal.loop-preserved
loop-preserved c = (
  omega (arith, c.fill_word-i.ensures.0, c.loop.invariant.0),
  filling_next _ _ _ _ _ _ _ _ c.loop.invariant.1 (omega (arith, c.loop.invariant.0))
      c.fill_word-i.ensures.0 c.fill_word-i.ensures.1,
)

pub fill_rest-requires : goal.fill_rest-requires
fill_rest-requires c =
    (c.requires.0, c.requires.1, omega (arith, c.if-i-value.true), omega (arith, c.requires.2, c.loop.invariant.1.size))

pub shape_of-words-then-i-value : goal.shape_of-words-then-i-value
shape_of-words-then-i-value c =
    c.fill_rest.auto.words ∙ c.loop.invariant.1.size

pub returns-then-i-value : goal.returns-then-i-value
returns-then-i-value c =
    record {
      result = (filling_end _ _ _ _ _ _
          (filling_next _ _ _ _ _ _ _ _ c.loop.invariant.1 (omega (arith, c.if-i-value.true)) c.fill_rest.ensures.0
          c.fill_rest.ensures.1)
          (omega (arith, c.fill_rest.ensures.0, c.loop.invariant.0)));
    }

pub returns : goal.returns
returns c =
    record { result = (filling_end _ _ _ _ _ _ c.loop.invariant.1 (omega (arith, c.if-i-value.false))) }
