-- Answers of `cut_counts_map_code::values::values_differ`.
use native.Mathlib.Omega.{arith}
use borrow.Author.Rules.{rules}
use Rattle.layout.proofs.Content.{length_bound}
use Rattle.cut_counts.proofs.Values.{lengths_apart, words_apart, words_alike}
use Rattle.cut_counts_map_code.proofs.values.values_differ.Goals as goal

pub returns-then-size-slot_length : goal.returns-then-size-slot_length
returns-then-size-slot_length c =
    record {
      result = (lengths_apart _ _ _ _ _ c.requires.sound.2 c.requires.sound.3 _ _ c.slot_length-size.ensures.result c.slot_length.ensures.result
          c.if-size-slot_length.true);
    }

pub value_word-requires : goal.value_word-requires
value_word-requires c = (
  c.requires.sound.0,
  omega (arith, length_bound _ _ _ c.requires.sound.2, c.slot_length-size.ensures.result, c.div_ceil-i-end.ensures, c.loop-i-test.true),
)

pub value_word-requires-in-loop-i : goal.value_word-requires-in-loop-i
value_word-requires-in-loop-i c = (
  c.requires.sound.1,
  omega (arith, length_bound _ _ _ c.requires.sound.2, c.slot_length-size.ensures.result, c.div_ceil-i-end.ensures, c.loop-i-test.true),
)

pub returns-then-value_word : goal.returns-then-value_word
returns-then-value_word c =
    record {
      result = (words_apart _ _ _ _ _ c.requires.sound.2 c.requires.sound.3 _ _ c.slot_length-size.ensures.result c.slot_length.ensures.result _
          _ _ c.if-size-slot_length.false (omega (arith, c.div_ceil-i-end.ensures, c.loop-i-test.true))
          c.value_word.ensures.result c.value_word-in-loop-i.ensures.result (search rules) (search rules) c.if-value_word.true);
    }

pub returns : goal.returns
returns c =
    record {
      result = (words_alike _ _ _ _ _ c.requires.sound.2 c.requires.sound.3 _ _ c.slot_length-size.ensures.result c.slot_length.ensures.result _
          c.if-size-slot_length.false (omega (arith, c.div_ceil-i-end.ensures, c.loop-i-test.false)) c.loop-i.invariant);
    }
