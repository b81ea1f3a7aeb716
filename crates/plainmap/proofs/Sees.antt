-- In a sound index the chains hold the table's slots, and a search finds what the map of the slots says. Assumes nothing.
use mathlib.Core.Path.{◌≡◌, refl, sym, ap, ap₂, ◌∙◌}
use mathlib.Core.Bool.{Bool, true, false, cond}
use mathlib.Core.Option.{some, none}
use mathlib.Core.List.{List, ◌∷◌, ◌++◌}
use mathlib.Core.Logic.{◌⊎◌, inl, inr}
use Prim.Native.Nat.{ℕ}
use native.Mathlib.Omega.{arith}
use lib.ListN.{length}
use Rattle.prelude.proofs.Choice.{pick_true, pick_false, split}
use Rattle.prelude.specs.Members.{In, Slot}
use Rattle.layout.specs.Content.{Content, Table}
use Rattle.table.specs.Complete.{table_of}
use Rattle.table.specs.Table.{key_in, decider, value_in, value_at, map_of, live}
use Rattle.table.proofs.defs.Reuse.{Spares}
use Rattle.table.proofs.defs.Chains.{Chains}
use Rattle.table.proofs.OneSlot.{value-at}
use Rattle.table.proofs.Map.{Live, lives, live_is}
use Rattle.index.specs.Index.{Index, Chain, reuse, head, head_of}
use Rattle.index.specs.Linked.{end_of, ChainsPartition}
use Rattle.index.specs.Walk.{slot_key, search}
use Rattle.index.proofs.defs.SearchIn.{search_in}
use Rattle.index.specs.declared.Found.{Found}
use Rattle.index.specs.declared.Found.TheVariants.{At, Missing, BadChain}
use Rattle.index.proofs.Owners.{apart_heads, reuse_apart}
use Rattle.index.proofs.Sits.{sits_in, sits_has, sits_once}
use Rattle.index.proofs.Searches.{formed_search, search_in_hit, search_in_missed, never_bad}
use Rattle.recovery.specs.Recover.{place_of}
use Rattle.recovery.specs.Represents.{Answers}
use Rattle.recovery.proofs.Answers.{live_slot_key, chain_at, chain_absent, search_in_answers}
use Rattle.plainmap.specs.World.{World}
use Rattle.layout.specs.Size.{slots_in}
use Rattle.plainmap.specs.Consistency.{Starts, starts, IndexConsistent}

-- ---- a slot's chain says whether it is live

pub place_live : (f : Table) (n b s : ℕ) → live f n s ≡ true → place_of f n b s ≡ head (head_of (key_in (f s)) b)
unfolding place_of
place_live f n b s e = pick_true (live f n s) _ _ e

pub place_idle : (f : Table) (n b s : ℕ) → live f n s ≡ false → place_of f n b s ≡ reuse
unfolding place_of
place_idle f n b s e = pick_false (live f n s) _ _ e

-- slots with one content, live in both tables or in neither, stand in one chain
pub same_place : (f g : Table) (n b s : ℕ) → g s ≡ f s → live g n s ≡ live f n s → place_of g n b s ≡ place_of f n b s
unfolding place_of
same_place f g n b s e a = ap₂ (λ (x : Bool) (c : Content). cond x (head (head_of (key_in c) b)) reuse) a e

pub head_placed : (f : Table) (n b s h : ℕ) → place_of f n b s ≡ head h → (live f n s ≡ true) × (head_of (key_in (f s)) b ≡ h)
head_placed f n b s h e = go (split (live f n s))
  where
    go : (live f n s ≡ true) ⊎ (live f n s ≡ false) → (live f n s ≡ true) × (head_of (key_in (f s)) b ≡ h)
    go (inl a) = (a, apart_heads _ h (sym (place_live f n b s a) ∙ e))
    go (inr a) = absurd (reuse_apart h (sym (place_idle f n b s a) ∙ e))

pub reuse_placed : (f : Table) (n b s : ℕ) → place_of f n b s ≡ reuse → live f n s ≡ false
reuse_placed f n b s e = go (split (live f n s))
  where
    go : (live f n s ≡ true) ⊎ (live f n s ≡ false) → live f n s ≡ false
    go (inl a) = absurd (reuse_apart _ (sym e ∙ place_live f n b s a))
    go (inr a) = a

in_chain : (chains : Chain → List ℕ) (s : ℕ) (c d : Chain) → c ≡ d → In s (chains c) → In s (chains d)
in_chain chains s c d e m = rw e at m

module _ (f : Table) (n b : ℕ) (i : Index) (chains : Chain → List ℕ) (g : ChainsPartition n b (place_of f n b) i chains) where
  sits_slot : (c : Chain) (s : ℕ) → In s (chains c) → Slot n s × (place_of f n b s ≡ c)
  sits_slot c s m = let t = sits_in _ _ _ _ _ g c s m in ((omega (arith, t.0), t.1), t.2)

  in_place : (s : ℕ) (c : Chain) → Slot n s → place_of f n b s ≡ c → In s (chains c)
  in_place s c j e = in_chain chains s _ c e (sits_has _ _ _ _ _ g s (omega arith) j.1)

  -- reuse holds the spare slots
  pub sits_spares : Spares f n (chains reuse)
  sits_spares =
      record {
        slot = λ t m. (sits_slot reuse t m).0;
        idle = λ t m. reuse_placed f n b t (sits_slot reuse t m).1;
        all = λ t j e. in_place t reuse j (place_idle f n b t e);
        once = sits_once _ _ _ _ _ g reuse;
      }

  -- each head's chain holds the live slots of its keys
  pub sits_chains : Chains f n (λ key. head_of key b) (λ h. chains (head h))
  sits_chains =
      record {
        slot = λ h t m. (sits_slot (head h) t m).0;
        alive = λ h t m. (head_placed f n b t h (sits_slot (head h) t m).1).0;
        in_head = λ h t m. (head_placed f n b t h (sits_slot (head h) t m).1).1;
        all = λ t j e. in_place t (head (head_of (key_in (f t)) b)) j (place_live f n b t e);
        once = λ h. sits_once _ _ _ _ _ g (head h);
      }

-- ---- what a search finds

-- the live slot that decides the key, with the slot before it in its chain; or the chain's last slot, where the key is not held
pub data Sees (f : Table) (n key : ℕ) (chain : List ℕ) : Found → Type 0 where
  sees_held : {old prev compared : ℕ} (xs ys v : List ℕ) → chain ≡ xs ++ old ∷ ys → prev ≡ end_of 0 xs → Slot n old
      → decider f n key ≡ old → live f n old ≡ true → map_of f n key ≡ some v → value_in (f old) ≡ some v
      → Sees f n key chain (At old prev compared)
  sees_absent : {prev compared : ℕ} → prev ≡ end_of 0 chain → map_of f n key ≡ none → Sees f n key chain (Missing prev compared)

live_some : (f : Table) (n s : ℕ) → Live f n s → (v : List ℕ) × (value_in (f s) ≡ some v)
unfolding value_in
live_some f n s (lives w k v e d) = (v, ap value_in e)

module _
    (l : ℕ) (image : List ℕ) (f : Table) (n b key : ℕ) (keys : (s : ℕ) → live f n s ≡ true → key_in (f s) ≡ slot_key l image s)
    (ch : ℕ → List ℕ) (cs : Chains f n (λ k. head_of k b) ch) where
  pub search_in_sees : (found : Found) → found ≡ search_in (slot_key l image) key 0 0 (ch (head_of key b)) → Sees f n key (ch (head_of key b)) found
  unfolding map_of
  search_in_sees (At old prev compared) e =
      let h = search_in_hit _ _ _ _ _ _ (sym e) in
      let a = chain_at l image f n b key keys ch cs old prev compared h in
      let v = live_some f n old (live_is f n old a.1) in
      sees_held h.before h.behind v.0 h.parts h.prev_is a.2 a.0 a.1
      (ap (value_at f) a.0 ∙ value-at f n old a.2 ∙ v.1) v.1
  search_in_sees (Missing prev compared) e =
      let h = search_in_missed _ _ _ _ _ (sym e) in
      sees_absent h.prev_is (chain_absent l image f n b key keys ch cs prev compared h)
  search_in_sees BadChain e = absurd (never_bad _ _ _ (sym e))

-- ---- in a sound world

starts_in : (xs : List ℕ) → Starts xs → (t : ℕ) × In t xs
starts_in xs (starts t rest e) = (t, rw e (inl refl))

module _ (l : ℕ) (w : World) (chains : Chain → List ℕ) (s : IndexConsistent l w chains) where
  -- THE REUSE CHAIN holds the slots that are not live
  pub sound_spares : Spares (table_of l w.image) (slots_in w.image) (chains reuse)
  sound_spares = sits_spares _ _ _ _ _ s.index

  -- THE HEADS' CHAINS hold the live slots
  pub sound_chains : Chains (table_of l w.image) (slots_in w.image) (λ key. head_of key (length w.index.heads)) (λ h. chains (head h))
  sound_chains = sits_chains _ _ _ _ _ s.index

  pub sound_search : (key : ℕ)
      → search l w.image w.index.heads w.index.next key
      ≡ search_in (slot_key l w.image) key 0 0 (chains (head (head_of key (length w.index.heads))))
  sound_search key =
      let t = starts_in (chains reuse) s.some_spare in
      formed_search l w.image _ _ chains key t.0 s.index.formed.disjoint s.index.next_size t.1

  -- THE SEARCH
  pub sound_sees : (key : ℕ)
      → Sees (table_of l w.image) (slots_in w.image) key (chains (head (head_of key (length w.index.heads))))
      (search l w.image w.index.heads w.index.next key)
  sound_sees key =
      search_in_sees l w.image (table_of l w.image) (slots_in w.image) (length w.index.heads) key
      (live_slot_key l w.image (slots_in w.image)) (λ h. chains (head h)) sound_chains _ (sound_search key)

  pub sound_answers : (key : ℕ)
      → Answers (table_of l w.image) (slots_in w.image) key (search l w.image w.index.heads w.index.next key)
  sound_answers key =
      search_in_answers l w.image (table_of l w.image) (slots_in w.image) (length w.index.heads) key
      (live_slot_key l w.image (slots_in w.image)) (λ h. chains (head h)) sound_chains _ (sound_search key)
