-- The report on images. Document 02, A.8: "A program reads up to a million images one after another and prints the six
-- in this order on a line for each and a last line of totals of the accepted ones. An image that recovery refuses
-- prints `no` and the number. Word 0 of each gives its length; a word 0 outside 2 to 511, or an image cut short, prints
-- `no 1` and ends the reading."
use Rattle.std.specs.Prelude.{Bool, true, cond, List, [], ◌∷◌, ◌++◌, ℕ, zero, suc, ◌+◌, ◌*◌, ◌/◌, eqb, ltb, leb, length, get_or, take, drop}
use Rattle.words.specs.Word.{word}
use Rattle.prelude.specs.Answer.{Answer, gives, absent, refused}
use Rattle.text.specs.Output.{no, text, line_text}
use Rattle.interface.specs.Set.{count_says}
use Rattle.report_text.specs.declared.SlotTotals.{SlotTotals}

-- ---- an image

-- "a word 0 outside 2 to 511"
unfoldable pub outside : ℕ → Bool
outside n = cond (ltb n 2) true (ltb 511 n)

-- "Word 0 of each gives its length"; 0 where it is outside, or is not there whole
unfoldable pub image_size : (input : List ℕ) → ℕ
image_size input = cond (ltb (length input) 8) 0 (cond (outside (word input 0)) 0 (128 * (word input 0 + 1)))

-- the input begins with a whole image: its size, else 0
unfoldable pub whole_size : (input : List ℕ) → ℕ
whole_size input = cond (leb (image_size input) (length input)) (image_size input) 0

-- the six counts of an image or recovery's refusal, with an index of one head and, for the 128 × (N + 1) bytes of the
-- image, N + 1 entries
unfoldable pub image_answer : (image : List ℕ) → Answer
image_answer image = count_says 1 image 1 (length image / 128)

-- its line: "the six in this order on a line", or "`no` and the number"
unfoldable pub answer_text : Answer → List ℕ
answer_text (gives values) = line_text values
answer_text absent = []
answer_text (refused number) = text (no number)

-- ---- the totals

unfoldable pub no_totals : SlotTotals
no_totals = record { live = 0; hidden = 0; removes = 0; void = 0; broken = 0; empty = 0 }

-- "totals of the accepted ones": with the six of an accepted image
unfoldable pub totals_with : Answer → SlotTotals → SlotTotals
totals_with (gives values) t =
    record {
      live = t.live + get_or values 0 0;
      hidden = t.hidden + get_or values 1 0;
      removes = t.removes + get_or values 2 0;
      void = t.void + get_or values 3 0;
      broken = t.broken + get_or values 4 0;
      empty = t.empty + get_or values 5 0;
    }
totals_with absent t = t
totals_with (refused number) t = t

-- "a last line of totals"
unfoldable pub totals_text : SlotTotals → List ℕ
totals_text t = line_text (t.live ∷ t.hidden ∷ t.removes ∷ t.void ∷ t.broken ∷ t.empty ∷ [])

-- ---- the whole input

-- "prints `no 1` and ends the reading": where images may still be read and input is left that does not begin with a
-- whole one
unfoldable pub unread_text : (left input : ℕ) → List ℕ
unread_text left input = cond (eqb left 0) [] (cond (eqb input 0) [] (text (no 1)))

-- the output for an input of which at most `left` images are still read, with these totals so far
unfoldable pub report_from : (left : ℕ) → (input : List ℕ) → SlotTotals → List ℕ
report_from zero input t = unread_text 0 (length input) ++ totals_text t
report_from (suc left) input t =
    cond (eqb (whole_size input) 0) (unread_text (suc left) (length input) ++ totals_text t)
    (answer_text (image_answer (take (whole_size input) input))
    ++ report_from left (drop (whole_size input) input) (totals_with (image_answer (take (whole_size input) input)) t))

-- "up to a million images"
unfoldable pub report_of : (input : List ℕ) → List ℕ
report_of input = report_from 1000000 input no_totals
