-- The word numbers and the values of a record's stores, as lists.
use Rattle.std.specs.Prelude.{List, ◌++◌, ℕ, zero, suc, ◌+◌, ◌*◌, set}
use Rattle.std.proofs.Math.Seq.{paste}
use Rattle.words.specs.Word.{word}
use Rattle.layout.specs.Record.{value_place}
use Rattle.prelude.specs.Range.{tabulate}
use Rattle.stores.specs.Written.{new_a, new_b}

-- the word numbers of the 16 stores of slot s
unfoldable pub record_numbers : (s : ℕ) → List ℕ
record_numbers s = tabulate (λ i. 8 * (2 * s) + i) 0 8 ++ tabulate (λ i. 8 * (2 * s + 1) + i) 0 8

-- and their values, over lines with stamps a and b
unfoldable pub record_words : (l a b key kind number : ℕ) → List ℕ → (version : ℕ) → List ℕ
record_words l a b key kind number value version =
    tabulate (new_a l a key kind number value version) 0 8 ++ tabulate (new_b l b value version) 0 8

-- a list of values that has such ones from position `from` on, with the first n words of the value at their places
unfoldable pub with_value : (l : ℕ) → (value : List ℕ) → (from n : ℕ) → (words : List ℕ) → List ℕ
with_value l value from zero words = words
with_value l value from (suc n) words = set (with_value l value from n words) (from + value_place l n) (word value n)

-- the list `old` with the first n of `new` in place of its n elements from position `from` on
unfoldable pub pasted : (old : List ℕ) → (from : ℕ) → (new : List ℕ) → (n : ℕ) → List ℕ
pasted old from new n = paste old from new n
