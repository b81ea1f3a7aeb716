-- The size of an image. Document 01, "Lines, slots and words".
use Rattle.std.specs.Prelude.{not, ℕ, ◌-◌, ◌/◌, ◌%◌, ltb, eqb, List, length}
use Rattle.prelude.specs.Refusal.{refuse_if}

-- "The image is slot 0 and then slots 1 to N, so its length is 128 × (N + 1); N is 2 to 65,535": N, or 0 where no image
-- has that length
unfoldable pub slots_of : ℕ → ℕ
slots_of len = refuse_if (ltb len 384) 0 (refuse_if (ltb 8388608 len) 0 (refuse_if (not (eqb (len % 128) 0)) 0 (len / 128 - 1)))

-- the number of slots of an image
abbrev pub slots_in : (image : List ℕ) → ℕ
slots_in image = slots_of (length image)
