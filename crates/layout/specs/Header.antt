-- The header, and the refusals 1, 2, 3 and 4, which every call on a set gives first. Document 01, "Lines, slots and
-- words" and "What each operation may say no to".
use Rattle.std.specs.Prelude.{◌≡◌, cond, not, List, ℕ, ◌+◌, ◌<◌, ltb, eqb}
use Rattle.words.specs.Word.{word}
use Rattle.prelude.specs.Refusal.{refuse_if, or_else}
use Rattle.prelude.specs.Range.{any_of}
use Rattle.layout.specs.Size.{slots_in}

-- "Slot 0, line A is the header: word 0 is N, word 1 is 1 (the layout), words 2 to 7 are zero"
unfoldable pub header_word : (l n i : ℕ) → ℕ
header_word l n i = cond (eqb i 0) n (cond (eqb i 1) l 0)

-- an image with the header of layout l: it has the length of an image, and its header's words are as laid down
pub record HeaderOf (l : ℕ) (image : List ℕ) : Type 0 where
  pub some_slots : slots_in image ≡ 0 → ⊥
  pub words : (i : ℕ) → i < 8 → word image i ≡ header_word l (slots_in image) i

-- "2 when header word 0 is zero; 3 when the header is otherwise not as laid down for this length"
unfoldable pub header_fault : (l n : ℕ) → (ℕ → ℕ) → ℕ
header_fault l n m = refuse_if (eqb (m 0) 0) 2 (refuse_if (any_of (λ i. not (eqb (m i) (header_word l n i))) 0 8) 3 0)

-- "1 when the length is not 128 × (N + 1) with N in range", then 2 and 3
unfoldable pub image_fault : (l : ℕ) → List ℕ → ℕ
image_fault l image = refuse_if (eqb (slots_in image) 0) 1 (header_fault l (slots_in image) (word image))

-- "4 when B is out of range or next has not N + 1 entries": heads and next are the lengths of the two slices
unfoldable pub index_fault : (n heads next : ℕ) → ℕ
index_fault n heads next = refuse_if (ltb heads 1) 4 (refuse_if (ltb 65536 heads) 4 (refuse_if (not (eqb next (n + 1))) 4 0))

-- 1, 2, 3, 4: what the lent image and the lent index are refused for
unfoldable pub lent_fault : (l : ℕ) → List ℕ → (heads next : ℕ) → ℕ
lent_fault l image heads next = or_else (image_fault l image) (index_fault (slots_in image) heads next)
