-- In which chain each slot stands, A being the type of the chains' names.
use mathlib.Core.Bool.{cond}
use mathlib.Core.List.{List, [], ◌∷◌}
use Prim.Native.Nat.{ℕ}
use lib.Dec.{eqb}
use Rattle.layout.specs.Content.{Table}
use Rattle.table.specs.Table.{live, key_in}
use Rattle.table.proofs.defs.Write.{holder}
use Rattle.table.specs.Class.{is_put}

-- a live slot stands in its key's chain, every other slot in reuse
unfoldable pub owner_in : {A : Type 0} → Table → (n : ℕ) → (chain : ℕ → A) → (reuse : A) → (t : ℕ) → A
owner_in f n chain reuse t = cond (live f n t) (chain (key_in (f t))) reuse

-- the owners after a call "links and appends key by key": the slot taken goes to its key's chain, or for a remove to reuse, and the old slot to reuse
unfoldable pub moved : {A : Type 0} → Table → (n : ℕ) → (chain : ℕ → A) → (reuse : A) → (taken : List ℕ) → (new : Table) → (owner : ℕ → A) → (t : ℕ) → A
moved f n chain reuse [] new owner t = owner t
moved f n chain reuse (s ∷ l) new owner t =
    moved f n chain reuse l new
    (λ x. cond (eqb x s) (cond (is_put (new s)) (chain (key_in (new s))) reuse) (cond (eqb x (holder f n (key_in (new s)))) reuse (owner x))) t
