-- Following a key's chain. Document 01, "What each operation may say no to", Put: "11 when, following the key's chain
-- up to the first slot with that key or the end, a link above N is met or N slots pass without the key".
use Rattle.std.specs.Prelude.{◌≡◌, cond, List, ◌∷◌, ◌++◌, ℕ, zero, suc, ◌+◌, eqb, ltb, length, get_or}
use Rattle.prelude.specs.Members.{In}
use Rattle.words.specs.Word.{word}
use Rattle.layout.specs.Line.{line_a}
use Rattle.layout.specs.Record.{key_of}
use Rattle.layout.specs.Size.{slots_in}
use Rattle.index.specs.Index.{head_of}
use Rattle.index.specs.declared.Found.{Found}
use Rattle.index.specs.declared.Found.TheVariants.{At, Missing, BadChain}

-- from slot `at`, with `prev` before it, `compared` slots compared and `left` that may still be; `keys` gives a slot's
-- key
unfoldable pub walk : (keys : ℕ → ℕ) → (next : List ℕ) → (n key left compared prev at : ℕ) → Found
walk keys next n key zero compared prev at = BadChain
walk keys next n key (suc left) compared prev at =
    cond (eqb at 0) (Missing prev compared)
    (cond (ltb n at) BadChain
    (cond (eqb (keys at) key) (At at prev (compared + 1))
    (walk keys next n key left (compared + 1) at (get_or next at 0))))

-- "the first slot with that key": by line A alone
abbrev pub slot_key : (l : ℕ) → (image : List ℕ) → ℕ → ℕ
slot_key l image s = key_of l (line_a (word image) s)

-- the key's chain from its head on
unfoldable pub search : (l : ℕ) → (image heads next : List ℕ) → (key : ℕ) → Found
search l image heads next key =
    walk (slot_key l image) next (slots_in image) key (slots_in image) 0 0 (get_or heads (head_of key (length heads)) 0)

-- document 02, A.4: "The chain search shall report how many slots it compared"; a bad chain has none
unfoldable pub compared_in : Found → ℕ
compared_in (At slot prev compared) = compared
compared_in (Missing prev compared) = compared
compared_in BadChain = 0

-- A.4: "The count of slots compared equals the place of the key in its chain, or the chain's whole length when it is
-- absent": of key k and a chain of slots, where `keys` gives a slot's key; the first slot of the chain has place 1
pub data Counted (keys : ℕ → ℕ) (k : ℕ) (chain : List ℕ) : Found → Type 0 where
  at_place : {s prev compared : ℕ} (before behind : List ℕ) → chain ≡ before ++ s ∷ behind → keys s ≡ k
      → ((y : ℕ) → In y before → keys y ≡ k → ⊥) → compared ≡ length before + 1 → Counted keys k chain (At s prev compared)
  at-end : {prev compared : ℕ} → ((y : ℕ) → In y chain → keys y ≡ k → ⊥) → compared ≡ length chain
      → Counted keys k chain (Missing prev compared)

-- 11 by the chain
unfoldable pub chain_fault : Found → ℕ
chain_fault (At slot prev compared) = 0
chain_fault (Missing prev compared) = 0
chain_fault BadChain = 11
