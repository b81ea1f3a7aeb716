-- The reuse chain as a list: which slots it holds, and what a write appends.
use mathlib.Core.Path.{◌≡◌}
use mathlib.Core.Bool.{Bool, true, false}
use mathlib.Core.List.{List, [], ◌∷◌}
use Prim.Native.Nat.{ℕ, zero, suc}
use Rattle.layout.specs.Content.{Content, Table}
use Rattle.prelude.specs.Members.{In, Once, Slot}
use Rattle.table.specs.Table.{live}
use Rattle.table.specs.Class.{is_put}
use Rattle.table.proofs.defs.Write.{holder}

-- reuse holds the slots that are not live, each once
pub record Spares (f : Table) (n : ℕ) (reuse : List ℕ) : Type 0 where
  pub slot : (t : ℕ) → In t reuse → Slot n t
  pub idle : (t : ℕ) → In t reuse → live f n t ≡ false
  pub all : (t : ℕ) → Slot n t → live f n t ≡ false → In t reuse
  pub once : Once reuse

-- what a write appends: the old slot if the key was held (old is not 0), then the slot just taken if a remove went there
unfoldable pub appended : (old : ℕ) → (isput : Bool) → (s : ℕ) → List ℕ
appended zero true s = []
appended zero false s = s ∷ []
appended (suc old) true s = suc old ∷ []
appended (suc old) false s = suc old ∷ (s ∷ [])

-- for a record c of key k written into slot s of table f
abbrev pub joins : Table → (n s k : ℕ) → Content → List ℕ
joins f n s k c = appended (holder f n k) (is_put c) s
