-- The keys that a map holds, as a list in any order.
use Rattle.std.specs.Prelude.{◌≡◌, cond, List, ℕ, eqb}
use Rattle.std.proofs.Math.Option.{Option, some, none}
use Rattle.prelude.specs.Members.{In, Once}

-- the map holds key k
pub data Holds (m : ℕ → Option (List ℕ)) (k : ℕ) : Type 0 where
  holds : (value : List ℕ) → m k ≡ some value → Holds m k

-- the part of a map whose keys belong to head h; `head` gives a key's head
unfoldable pub sharing : (head : ℕ → ℕ) → (h : ℕ) → (ℕ → Option (List ℕ)) → ℕ → Option (List ℕ)
sharing head h m k = cond (eqb (head k) h) (m k) none

-- ks is the keys that m holds, each once
pub record Keys (m : ℕ → Option (List ℕ)) (ks : List ℕ) : Type 0 where
  pub once : Once ks
  pub held : (k : ℕ) → In k ks → Holds m k
  pub all : (k : ℕ) → Holds m k → In k ks
