-- The reuse chain after a call that is done, and what a call takes of the broken slots.
use mathlib.Core.Path.{◌≡◌}
use mathlib.Core.Bool.{true, not}
use mathlib.Core.List.{List, [], ◌∷◌, ◌++◌}
use Prim.Native.Nat.{ℕ}
use Rattle.layout.specs.Content.{Table}
use Rattle.prelude.specs.Filter.{filter}
use Rattle.prelude.specs.Members.{In, Slot}
use Rattle.prelude.proofs.defs.Among.{member}
use Rattle.table.specs.Table.{key_in, is_broken}
use Rattle.table.proofs.defs.Reuse.{joins}

-- "A basket takes all its slots before any other index change": what is left of reuse
unfoldable pub left_of : (taken reuse : List ℕ) → List ℕ
left_of taken reuse = filter (λ t. not (member taken t)) reuse

-- "then links and appends key by key": for each key what a write appends
unfoldable pub joins_of : Table → (n : ℕ) → (taken : List ℕ) → (new : Table) → List ℕ
joins_of f n [] new = []
joins_of f n (s ∷ l) new = joins f n s (key_in (new s)) (new s) ++ joins_of f n l new

-- the reuse chain after the call
unfoldable pub reuse_after : Table → (n : ℕ) → (taken : List ℕ) → (new : Table) → (reuse : List ℕ) → List ℕ
reuse_after f n taken new reuse = left_of taken reuse ++ joins_of f n taken new

-- the slots taken are broken while a broken slot is left
abbrev pub BrokenTaken : Table → (n : ℕ) → (taken : List ℕ) → Type 0
BrokenTaken f n taken = (x t : ℕ) → Slot n x → is_broken (f x) ≡ true → (In x taken → ⊥) → In t taken → is_broken (f t) ≡ true
