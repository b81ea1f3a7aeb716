-- A write seen in the table: one slot changed, which slots may be lost, and which slot holds a key.
use mathlib.Core.Path.{◌≡◌}
use mathlib.Core.Bool.{Bool, true, false, cond}
use Prim.Native.Nat.{ℕ, suc, ◌<◌}
use lib.Dec.{eqb}
use Rattle.layout.specs.Content.{Content, highest_whole_in, Table}
use Rattle.table.specs.Table.{is_record, rank_for_key, decider, live}
use Rattle.prelude.specs.Members.{Slot}

-- w is above every version on a whole line
abbrev pub Above : Table → (n w : ℕ) → Type 0
Above f n w = (t : ℕ) → Slot n t → highest_whole_in (f t) < w

-- no two slots hold records of one key and one version
abbrev pub ApartByKey : Table → (n : ℕ) → Type 0
ApartByKey f n = (k s t : ℕ) → Slot n s → Slot n t → (s ≡ t → ⊥) → 0 < rank_for_key k (f s) → rank_for_key k (f s) ≡ rank_for_key k (f t) → ⊥

-- the live slot of key k, 0 where the key is not held
unfoldable pub holder : Table → (n k : ℕ) → ℕ
holder f n k = cond (live f n (decider f n k)) (decider f n k) 0

-- slot s changed to c
unfoldable pub upd : Table → (s : ℕ) → Content → Table
upd f s c t = cond (eqb t s) c (f t)

-- the set of one slot
abbrev pub only : (s t : ℕ) → Bool
only s t = eqb t s

-- c is a record of key k with version w, a put or a remove
pub record Record (c : Content) (w k : ℕ) : Type 0 where
  pub own : rank_for_key k c ≡ suc w
  pub other : (j : ℕ) → (k ≡ j → ⊥) → rank_for_key j c ≡ 0
  pub tops : highest_whole_in c ≡ w
  pub counted : is_record c ≡ true

-- the slots of C may be lost: none is live, and where one of them decides its key, no slot outside C has a record of that key
pub record Free (f : Table) (n : ℕ) (C : ℕ → Bool) : Type 0 where
  pub spare : (s : ℕ) → Slot n s → C s ≡ true → live f n s ≡ false
  pub alone : (k t : ℕ) → C (decider f n k) ≡ true → Slot n t → C t ≡ false → rank_for_key k (f t) ≡ 0

-- the tables are equal at the slots outside C
abbrev pub Outside : (f f' : Table) → (n : ℕ) → (C : ℕ → Bool) → Type 0
Outside f f' n C = (t : ℕ) → Slot n t → C t ≡ false → f' t ≡ f t

-- no slot of C has a record of key k
abbrev pub NoRecord : Table → (n : ℕ) → (C : ℕ → Bool) → (k : ℕ) → Type 0
NoRecord f n C k = (t : ℕ) → Slot n t → C t ≡ true → rank_for_key k (f t) ≡ 0
