-- Answers of `layout_fields_code::fields::tail_fault`.
use Prim.Native.Nat.{◌-◌}
use native.Mathlib.Omega.{arith}
use borrow.Author.Rules.{rules}
use Rattle.words.specs.Word.{word}
use Rattle.layout.specs.Line.{line_a, line_b}
use Rattle.layout.specs.Fault.{tail_fault}
use Rattle.layout.proofs.Tails.{TailLeft, left_start, left_hit, left_next, left_end}
use Rattle.layout_fields_code.proofs.fields.tail_fault.Goals as goal

pub loop-i-init : goal.loop-i-init
unfolding tail_fault
loop-i-init c =
    left_start _ _ _ _ c.requires.1

pub value_word-w-requires : goal.value_word-w-requires
unfolding tail_fault
value_word-w-requires c =
    (c.requires.0, omega (arith, c.loop-i-test.true))

pub overflow_shr-w : goal.overflow_shr-w
unfolding tail_fault
overflow_shr-w c =
    omega (arith, c.loop-i.invariant.bits_are, c.loop-i.invariant.byte_low)

pub returns-then-w-bits-ne0 : goal.returns-then-w-bits-ne0
unfolding tail_fault
returns-then-w-bits-ne0 c =
    left_hit _ _ _ _ _ _ _ c.requires.0.layout.low
    c.loop-i.invariant (search rules) c.value_word-w.ensures.result (search rules) c.if-w-bits-ne0.true

pub loop-i-smaller : goal.loop-i-smaller
unfolding tail_fault
loop-i-smaller c =
    search rules

pub loop-i-preserved : goal.loop-i-preserved
unfolding tail_fault
loop-i-preserved c =
    search (left_next, rules)

pub returns : goal.returns
unfolding tail_fault
returns c =
    left_end _ _ _ _ _ _ c.requires.0.layout.high c.loop-i.invariant c.loop-i-test.false
