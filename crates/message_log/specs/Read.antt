-- Read: its refusals and its part. Document 02, A.10: "A read answers the message as the part of the lent area that
-- holds it."
use Rattle.std.specs.Prelude.{not, List, [], ◌∷◌, ℕ, ◌%◌, Result, Ok, Err}
use Rattle.prelude.specs.Refusal.{refuse_if, or_else, unless_refused}
use Rattle.prelude.specs.Answer.{Answer, gives, refused}
use Rattle.words.specs.Word.{word}
use Rattle.message_log.specs.Area.{cells_in, area_fault, marked_line}
use Rattle.message_log.specs.Message.{shown, message_start, message_in}
use Rattle.refusals.specs.declared.Refusal.{Refusal}
use Rattle.refusals.specs.Number.{code_of}
use Rattle.message_log.specs.declared.Part.{Part}

-- 30, then "31 when a number read is not shown"
unfoldable pub read_fault : (area : List ℕ) → (number : ℕ) → ℕ
read_fault area number = or_else (area_fault area) (refuse_if (not (shown (cells_in area) (word area) number)) 31 0)

-- the message in the number's cell. "A refused read's part is empty."
unfoldable pub read_part : (area : List ℕ) → (number : ℕ) → List ℕ
read_part area number = unless_refused (read_fault area number) (message_in area (number % cells_in area)) []

-- the part, and the number of the refusal, 0 for none
pub record ReadResult : Type 0 where
  pub part : List ℕ
  pub refusal : ℕ

-- what a read with this part left
abbrev pub read_end : (part : List ℕ) → (refusal : ℕ) → ReadResult
read_end part refusal = record { part = part; refusal = refusal }

-- what a read answers: a part, or the refusal. The part's bytes are got by `bytes`
unfoldable pub read_says : {A : Type 0} → (bytes : A → List ℕ) → Result A Refusal → ReadResult
read_says bytes (Ok part) = read_end (bytes part) 0
read_says bytes (Err refusal) = read_end [] (code_of refusal)

unfoldable pub read_result : (area : List ℕ) → (number : ℕ) → ReadResult
read_result area number = read_end (read_part area number) (read_fault area number)

-- ---- the same by numbers, for a caller that cannot be given a part

-- at which byte of the area the part starts and how many bytes it has, or the refusal
unfoldable pub part_says : Result Part Refusal → Answer
part_says (Ok part) = gives (part.start ∷ part.size ∷ [])
part_says (Err refusal) = refused (code_of refusal)

unfoldable pub part_result : (area : List ℕ) → (number : ℕ) → Answer
part_result area number =
    unless_refused (read_fault area number)
    (gives (message_start (number % cells_in area) ∷ marked_line (word area) (number % cells_in area) 1 ∷ []))
    (refused (read_fault area number))
