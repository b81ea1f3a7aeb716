-- The recovered index holds the chains of document 01, each slot in just one of them. Assumes nothing.
use mathlib.Core.Path.{◌≡◌, refl, ◌∙◌}
use Prim.Native.Nat.{ℕ, ◌≤◌}
use lib.ListN.{get_or}
use Rattle.prelude.specs.Members.{slot_numbers}
use Rattle.layout.specs.Content.{Table}
use Rattle.table.specs.Table.{live_count, next_version}
use Rattle.table.specs.Order.{ordered, chain_of, reuse_of}
use Rattle.index.specs.Index.{Index, reuse, head, head_of, start, ahead}
use Rattle.index.specs.Chained.{last_of}
use Rattle.index.specs.Linked.{Linked, ChainsPartition}
use Rattle.index.proofs.Chained.{end_last}
use Rattle.index.proofs.Sits.{sits_in, sits_has, sits_once, sits_counts}
use Rattle.index.proofs.ChainLengths.{formed_linked}
use Rattle.recovery.specs.Recover.{chains_of, place_of, recovered_index}
use Rattle.recovery.specs.Represents.{Represents}
use Rattle.recovery.proofs.Rebuilt.{arranged_sits, arranged_index}

-- THE RECOVERED INDEX: every slot stands in the chain that is its place
pub recovered_sits : (f : Table) (n b : ℕ) → 1 ≤ b → ChainsPartition n b (place_of f n b) (recovered_index f n b) (chains_of f n b)
recovered_sits f n b few =
    rw (arranged_index f n b (ordered f (slot_numbers n)) (place_of f n b) few refl (λ s low high. refl) (live_count f n) (next_version f n) refl refl) at
    (sits_counts n b (place_of f n b) _ (chains_of f n b)
    (arranged_sits f n b (ordered f (slot_numbers n)) (place_of f n b) few refl (λ s low high. refl)) (live_count f n) (next_version f n)
    (last_of (ordered f (slot_numbers n))))

-- ---- for a reader

module _ (f : Table) (n b : ℕ) (i : Index) (g : ChainsPartition n b (place_of f n b) i (chains_of f n b)) where
  by_head : (h : ℕ) → Linked i.next (get_or i.heads h 0) (chain_of f n (λ key. head_of key b) h)
  unfolding chains_of ahead start
  by_head h = formed_linked _ _ _ (head h) g.formed.disjoint

  by_first : Linked i.next i.state.first (reuse_of f n)
  unfolding chains_of ahead start
  by_first = formed_linked _ _ _ reuse g.formed.disjoint

  by_last : i.state.last ≡ last_of (reuse_of f n)
  unfolding chains_of
  by_last = g.formed.ends ∙ end_last (reuse_of f n)

  pub sits_represents : Represents f n b i
  sits_represents =
      record {
        heads_size = g.heads_size;
        next_size = g.next_size;
        head_chain = λ h l. by_head h;
        reuse_chain = by_first;
        last_slot = by_last;
        stands = λ s l. sits_has _ _ _ _ _ g s l.0 l.1;
        no_other = λ c s m. let t = sits_in _ _ _ _ _ g c s m in ((t.0, t.1), t.2);
        once = sits_once _ _ _ _ _ g;
      }

-- THE RECOVERED INDEX as a reader has it
pub recovered_linked : (f : Table) (n b : ℕ) → 1 ≤ b → Represents f n b (recovered_index f n b)
recovered_linked f n b few = sits_represents f n b (recovered_index f n b) (recovered_sits f n b few)
