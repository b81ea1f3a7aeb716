-- What recovery's refusals 5, 6, 22, 23 and 24 ask of one slot. Document 01, "What each operation may say no to";
-- document 02, A.5: "22 when the kind is neither 1 nor 2, 23 when the length is wrong for the kind or over 80, and 24
-- when a byte past the length is nonzero; within a slot they follow 6 in that order"; A.7: "Fault 6 now begins above
-- bit 23 or at a number of 1 or over 8".
use Rattle.std.specs.Prelude.{Bool, true, false, cond, not, ℕ, ◌+◌, ◌-◌, ◌^◌, eqb, ltb, leb}
use Rattle.prelude.specs.Refusal.{refuse_if, or_else}
use Rattle.prelude.specs.Range.{any_of}
use Rattle.layout.specs.Line.{line_a, line_b}
use Rattle.layout.specs.Slot.{line_verdict, is_valid}
use Rattle.layout.specs.Record.{kind_of, length_of, size_field, limit, value_byte}

-- "5 when a mark in slots 1 to N is neither 0 nor 1"
unfoldable pub mark_fault : (ℕ → ℕ) → ℕ → Bool
mark_fault m s = cond (ltb 1 (line_a m s 0)) true (ltb 1 (line_b m s 0))

-- "the kind is neither 1 nor 2"
unfoldable pub kind_fault : ℕ → Bool
kind_fault kind = cond (eqb kind 1) false (cond (eqb kind 2) false true)

-- the greatest length of a record of this kind: "A remove record has length 0"
unfoldable pub kind_limit : (l kind : ℕ) → ℕ
kind_limit l kind = cond (eqb kind 2) 0 (limit l)

-- 6: "above bit 23 or at a number of 1 or over 8"
unfoldable pub bits_fault : ℕ → Bool
bits_fault w = cond (leb (2 ^ 24) w) true (cond (eqb (size_field w) 1) true (ltb 8 (size_field w)))

-- by the kind word: 6, 22, 23
unfoldable pub word_fault : (l w : ℕ) → ℕ
word_fault l w =
    refuse_if (bits_fault w) 6 (refuse_if (kind_fault (kind_of w)) 22 (refuse_if (ltb (kind_limit l (kind_of w)) (length_of w)) 23 0))

-- a byte of the value from position `size` on is not zero
unfoldable pub tail_fault : (l : ℕ) → (A B : ℕ → ℕ) → (size : ℕ) → Bool
tail_fault l A B size = any_of (λ k. not (eqb (value_byte l A B k) 0)) size (limit l - size)

-- the fault of the record in lines A and B: by its kind word, then 24; 0 for none
unfoldable pub fault_of : (l : ℕ) → (A B : ℕ → ℕ) → ℕ
fault_of l A B = or_else (word_fault l (A (l + 1))) (refuse_if (tail_fault l A B (length_of (A (l + 1)))) 24 0)

-- the fault of slot s: only the record of a valid slot has one
unfoldable pub record_fault : (l : ℕ) → (ℕ → ℕ) → ℕ → ℕ
record_fault l m s = cond (is_valid (line_verdict (line_a m s) (line_b m s))) (fault_of l (line_a m s) (line_b m s)) 0
