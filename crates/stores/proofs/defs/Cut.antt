-- Stores by the slots and the bytes that they write.
use mathlib.Core.Path.{◌≡◌}
use mathlib.Core.List.{List, [], ◌∷◌}
use Prim.Native.Nat.{ℕ, ◌+◌, ◌*◌, ◌^◌, ◌≤◌, ◌<◌}
use Rattle.layout.specs.Line.{line}
use Rattle.layout.specs.Content.{highest_whole}
use Rattle.stores.specs.Store.{Store, on_line}
use Rattle.stores.specs.Written.{new_a, new_b, line_stores}
use Rattle.stores.specs.Invalidation.{invalidating_store}
use Rattle.stores.specs.Cut.{Fields, Lawful}

-- the stores ss, whatever else they hold, write this record into slot s
pub record Carries (l : ℕ) (m : ℕ → ℕ) (ss : List Store) (s key kind number : ℕ) (value : List ℕ) (version : ℕ) : Type 0 where
  pub line_A : on_line (2 * s) ss ≡ line_stores (2 * s) (new_a l (line m (2 * s) 7) key kind number value version)
  pub line_B : on_line (2 * s + 1) ss ≡ line_stores (2 * s + 1) (new_b l (line m (2 * s + 1) 7) value version)

-- they write nothing into slot s
pub record Avoids (ss : List Store) (s : ℕ) : Type 0 where
  pub line_A : on_line (2 * s) ss ≡ []
  pub line_B : on_line (2 * s + 1) ss ≡ []

-- they open slot s, and write nothing else into it
pub record Opens (m : ℕ → ℕ) (ss : List Store) (s : ℕ) : Type 0 where
  pub line_A : on_line (2 * s) ss ≡ invalidating_store m s ∷ []
  pub line_B : on_line (2 * s + 1) ss ≡ []

-- one of the three
pub data SlotStores (l : ℕ) (m : ℕ → ℕ) (ss : List Store) (s : ℕ) : Type 0 where
  avoids : Avoids ss s → SlotStores l m ss s
  opens : Opens m ss s → SlotStores l m ss s
  carries : (key kind number : ℕ) (value : List ℕ) (version : ℕ) → Carries l m ss s key kind number value version
      → Fields l key kind number value → Lawful kind number value → highest_whole m s < version → SlotStores l m ss s

-- every store is inside an image of n bytes, and its value is a word
pub data StoresInside (n : ℕ) : List Store → Type 0 where
  nil_in : StoresInside n []
  cons_in : {s : Store} {ss : List Store} → 8 * s.word + 8 ≤ n → s.value < 2 ^ 64 → StoresInside n ss → StoresInside n (s ∷ ss)
