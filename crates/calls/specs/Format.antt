-- Format. Document 01, "What each operation may say no to", Format.
use Rattle.std.specs.Prelude.{List, [], ◌∷◌, ℕ, eqb, ltb, length, replicate}
use Rattle.words.specs.Word.{set_word}
use Rattle.prelude.specs.Refusal.{refuse_if, unless_refused}
use Rattle.prelude.specs.Answer.{Answer, gives, refused}
use Rattle.layout.specs.Size.{slots_of, slots_in}
use Rattle.calls.specs.declared.Formatted.{Formatted}
use Rattle.calls.specs.declared.Formatted.TheVariants.{Slots, Refused}

-- format's answer and the bytes that it leaves
pub record FormatResult : Type 0 where
  pub answer : Answer
  pub bytes : List ℕ

unfoldable pub format_says : Formatted → Answer
format_says (Slots n) = gives (n ∷ [])
format_says (Refused number) = refused number

-- what a call of format with this answer left
abbrev pub format_end : Formatted → (bytes : List ℕ) → FormatResult
format_end r bytes = record { answer = format_says r; bytes = bytes }

-- document 02, A.11: "32 when format is asked for a layout other than 1 or 2"
unfoldable pub layout_fault : (l : ℕ) → ℕ
layout_fault l = refuse_if (ltb l 1) 32 (refuse_if (ltb 2 l) 32 0)

-- "1 when the length is not 128 × (N + 1) with N in range"; 32 "after 1". n is the number of slots, 0 where the length
-- is of none
unfoldable pub format_fault : (l n : ℕ) → ℕ
format_fault l n = refuse_if (eqb n 0) 1 (layout_fault l)

-- "Otherwise the header is written, every other byte is zero"; A.11: "Header word 1 names the layout"
unfoldable pub formatted : (l len : ℕ) → List ℕ
formatted l len = set_word (set_word (replicate len 0) 0 (slots_of len)) 1 l

-- "and the answer is N"; A.11: "format is told which to write", layout l
unfoldable pub format_result : (l : ℕ) → (image : List ℕ) → FormatResult
format_result l image =
    unless_refused (format_fault l (slots_in image))
    (record { answer = gives (slots_in image ∷ []); bytes = formatted l (length image) })
    (record { answer = refused (format_fault l (slots_in image)); bytes = image })
