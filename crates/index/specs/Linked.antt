-- What a well-formed index is: the slots of each chain, and which chain each slot stands in.
use Rattle.std.specs.Prelude.{◌≡◌, cond, List, ℕ, ◌+◌, ◌<◌, eqb, ltb, length}
use Rattle.prelude.specs.Members.{In}
pub use Rattle.prelude.specs.Linked.{Run, end_of, Linked}
use Rattle.index.specs.Index.{Index, Chain, reuse, ahead}

-- ---- whose each slot is

-- which chain a slot stands in, if any
pub data Owner : Type 0 where
  free : Owner
  of : Chain → Owner

-- x is a slot that has an entry in next
pub record Entry (i : Index) (x : ℕ) : Type 0 where
  pub low : 0 < x
  pub high : x < length i.next

-- each slot stands in the chain that owns it and in no other
pub record Owned (owner : ℕ → Owner) (chains : Chain → List ℕ) : Type 0 where
  pub mine : (c : Chain) (x : ℕ) → In x (chains c) → owner x ≡ of c
  pub has : (c : Chain) (x : ℕ) → owner x ≡ of c → In x (chains c)

-- along the links from each start go `chains`, and each slot stands in just one of them: that of its owner
pub record Disjoint (i : Index) (owner : ℕ → Owner) (chains : Chain → List ℕ) : Type 0 where
  pub runs : (c : Chain) → Run (ahead i c) (ahead i c 0) (chains c) 0
  pub owned : Owned owner chains
  pub slot : (c : Chain) (x : ℕ) → owner x ≡ of c → Entry i x

-- and the last slot of reuse is where the index says
pub record WellFormed (i : Index) (owner : ℕ → Owner) (chains : Chain → List ℕ) : Type 0 where
  pub disjoint : Disjoint i owner chains
  pub ends : i.state.last ≡ end_of 0 (chains reuse)

-- ---- the slots 1 to n, each in its place: the place of a slot is the chain in which it stands

-- the slots 1 to n, each in the chain that `place` names
unfoldable pub placed : (n : ℕ) → (place : ℕ → Chain) → ℕ → Owner
placed n place x = cond (eqb x 0) free (cond (ltb n x) free (of (place x)))

-- a well-formed index of n slots and b heads, whose slots stand where `place` says
pub record ChainsPartition (n b : ℕ) (place : ℕ → Chain) (i : Index) (chains : Chain → List ℕ) : Type 0 where
  pub formed : WellFormed i (placed n place) chains
  pub next_size : length i.next ≡ n + 1
  pub heads_size : length i.heads ≡ b
