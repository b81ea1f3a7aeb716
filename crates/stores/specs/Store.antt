-- Stores, what playing them makes of an image, and which of them stand after a power cut. Document 01, "How a call
-- writes".
use Rattle.std.specs.Prelude.{Bool, true, false, cond, List, [], ◌∷◌, ℕ, ◌-◌, ◌/◌, eqb}
use Rattle.words.specs.Word.{set_word}
use Rattle.stores.specs.declared.Store.{Store as StoreStruct}

-- "a word number (32 bits, counted from the start of the image) and a 64-bit value": the struct of that name
abbrev pub Store : Type 0
Store = StoreStruct

-- the stores that a list of word numbers and a list of values name
unfoldable pub zipped : (at value : List ℕ) → List Store
zipped [] value = []
zipped (w ∷ at) [] = []
zipped (w ∷ at) (v ∷ value) = record { word = w; value = v } ∷ zipped at value

-- "A store sets one aligned word whole": the bytes of the image after these stores, in order
unfoldable pub played : List Store → List ℕ → List ℕ
played [] image = image
played (s ∷ ss) image = played ss (set_word image s.word s.value)

-- the words of an image after one store
unfoldable pub stored : Store → (ℕ → ℕ) → ℕ → ℕ
stored s m i = cond (eqb i s.word) s.value (m i)

-- and after these stores, in order
unfoldable pub played_words : List Store → (ℕ → ℕ) → ℕ → ℕ
played_words [] m = m
played_words (s ∷ ss) m = played_words ss (stored s m)

-- the counts with one fewer for line n
unfoldable pub less : ℕ → (ℕ → ℕ) → ℕ → ℕ
less n counts k = cond (eqb k n) (counts k - 1) (counts k)

-- "After a cut each line holds some number of its stores, counted from the first, independently of the other line":
-- the stores that stand when line n holds its first `counts n`
unfoldable pub standing : (counts : ℕ → ℕ) → List Store → List Store
standing counts [] = []
standing counts (s ∷ ss) =
    cond (eqb (counts (s.word / 8)) 0) (standing counts ss) (s ∷ standing (less (s.word / 8) counts) ss)

-- the others, which do not stand
unfoldable pub not_standing : (counts : ℕ → ℕ) → List Store → List Store
not_standing counts [] = []
not_standing counts (s ∷ ss) =
    cond (eqb (counts (s.word / 8)) 0) (s ∷ not_standing counts ss) (not_standing (less (s.word / 8) counts) ss)

-- do all of them stand?
unfoldable pub all_stand : (counts : ℕ → ℕ) → List Store → Bool
all_stand counts [] = true
all_stand counts (s ∷ ss) = cond (eqb (counts (s.word / 8)) 0) false (all_stand (less (s.word / 8) counts) ss)

-- the stores of line n
unfoldable pub on_line : ℕ → List Store → List Store
on_line n [] = []
on_line n (s ∷ ss) = cond (eqb (s.word / 8) n) (s ∷ on_line n ss) (on_line n ss)
