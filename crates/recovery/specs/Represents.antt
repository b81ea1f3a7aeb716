-- What a recovered index is to a reader: the chains of document 01 along its links, each slot in just one of them, and
-- what a search says of the map.
use Rattle.std.specs.Prelude.{◌≡◌, true, ℕ, ◌+◌, ◌<◌, length, get_or}
use Rattle.std.proofs.Math.Option.{none}
use Rattle.prelude.specs.Members.{In, Once, Slot}
use Rattle.layout.specs.Content.{Table}
use Rattle.table.specs.Table.{value_in, map_of, live}
use Rattle.table.specs.Order.{chain_of, reuse_of}
use Rattle.index.specs.Index.{Index, Chain, head_of}
use Rattle.index.specs.Chained.{last_of}
use Rattle.index.specs.Linked.{Linked}
use Rattle.index.specs.declared.Found.{Found}
use Rattle.index.specs.declared.Found.TheVariants.{At, Missing, BadChain}
use Rattle.recovery.specs.Recover.{chains_of, place_of}

-- "Records are chained by a next index, and zero ends the chain": from each head its chain, from the first spare slot
-- the reuse chain
pub record Represents (f : Table) (n b : ℕ) (i : Index) : Type 0 where
  pub heads_size : length i.heads ≡ b
  pub next_size : length i.next ≡ n + 1
  pub head_chain : (h : ℕ) → h < b → Linked i.next (get_or i.heads h 0) (chain_of f n (λ key. head_of key b) h)
  pub reuse_chain : Linked i.next i.state.first (reuse_of f n)
  pub last_slot : i.state.last ≡ last_of (reuse_of f n)
  -- each slot stands in the chain that is its place, in no other, and once
  pub stands : (s : ℕ) → Slot n s → In s (chains_of f n b (place_of f n b s))
  pub no_other : (c : Chain) (s : ℕ) → In s (chains_of f n b c) → Slot n s × (place_of f n b s ≡ c)
  pub once : (c : Chain) → Once (chains_of f n b c)

-- what the search of a key found is what the map of the slots says of it
pub record Answers (f : Table) (n key : ℕ) (found : Found) : Type 0 where
  pub holds : (slot prev compared : ℕ) → found ≡ At slot prev compared → (map_of f n key ≡ value_in (f slot)) × (live f n slot ≡ true) × Slot n slot
  pub absent : (prev compared : ℕ) → found ≡ Missing prev compared → map_of f n key ≡ none
  pub no_bad_chain : found ≡ BadChain → ⊥
