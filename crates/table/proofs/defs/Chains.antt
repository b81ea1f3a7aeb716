-- The heads' chains as lists: which slots they hold.
use mathlib.Core.Path.{◌≡◌}
use mathlib.Core.Bool.{true}
use mathlib.Core.List.{List}
use Prim.Native.Nat.{ℕ}
use Rattle.prelude.specs.Members.{In, Once, Slot}
use Rattle.layout.specs.Content.{Table}
use Rattle.table.specs.Table.{key_in, live}

-- chain i holds the live slots whose key belongs to head i, each once; `head` gives a key's head
pub record Chains (f : Table) (n : ℕ) (head : ℕ → ℕ) (ch : ℕ → List ℕ) : Type 0 where
  pub slot : (i t : ℕ) → In t (ch i) → Slot n t
  pub alive : (i t : ℕ) → In t (ch i) → live f n t ≡ true
  pub in_head : (i t : ℕ) → In t (ch i) → head (key_in (f t)) ≡ i
  pub all : (t : ℕ) → Slot n t → live f n t ≡ true → In t (ch (head (key_in (f t))))
  pub once : (i : ℕ) → Once (ch i)
