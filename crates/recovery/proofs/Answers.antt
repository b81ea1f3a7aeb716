-- A search along the chains of a table, and so along the recovered ones, finds what the map of the slots says. Assumes nothing.
use mathlib.Core.Path.{◌≡◌, refl, sym, ap, ◌∙◌, subst}
use mathlib.Core.Bool.{true, false}
use mathlib.Core.Option.{none}
use mathlib.Core.List.{List, ◌∷◌}
use mathlib.Core.Logic.{inl}
use Prim.Native.Nat.{ℕ, ◌+◌, ◌≤◌}
use lib.ListN.{length}
use Rattle.words.specs.Word.{word}
use Rattle.layout.specs.Size.{slots_in}
use Rattle.layout.specs.Line.{line_a, line_b}
use Rattle.layout.specs.Content.{content, Table, contents_of, size_fields_of}
use Rattle.table.specs.Complete.{table_of}
use Rattle.layout.specs.Header.{image_fault, lent_fault}
use Rattle.prelude.proofs.Refusals.{or_else_zero}
use Rattle.layout.proofs.Content.{put_at}
use Rattle.prelude.specs.Members.{In, Slot}
use Rattle.table.specs.Table.{key_in, decider, value_in, value_at, map_of, live, all_live}
use Rattle.table.specs.Order.{chain_of, reuse_of, first_with}
use Rattle.table.proofs.defs.Chains.{Chains}
use Rattle.table.proofs.OneSlot.{value-at, weight_key}
use Rattle.prelude.proofs.Count.{Gap, gap}
use Rattle.table.proofs.Held.{Held, held, unheld, held_or, holder_value}
use Rattle.prelude.proofs.Lists.{in_right}
use Rattle.table.proofs.LiveCount.{all_room, room_spare}
use Rattle.table.proofs.Map.{Live, lives, live_is, decider_weight}
use Rattle.table.proofs.Recovery.{recovery_chains, recovery_spares}
use Rattle.table.proofs.Search.{chain_decider, chain_has, first_with_holder}
use Rattle.index.specs.Index.{Index, reuse, head, head_of}
use Rattle.index.specs.Linked.{ChainsPartition}
use Rattle.index.specs.Walk.{slot_key, search}
use Rattle.index.proofs.defs.SearchIn.{search_in}
use Rattle.index.specs.declared.Found.{Found}
use Rattle.index.proofs.Searches.{formed_search, Hit, Missed, search_in_hit, search_in_missed, never_bad}
use Rattle.recovery.specs.Recover.{recover_fault, chains_of, place_of, recovered_index}
use Rattle.recovery.specs.Represents.{Answers}
use Rattle.recovery.proofs.Clear.{slots_clear}
use Rattle.recovery.proofs.Void.{settled_put}
use Rattle.recovery.proofs.Represents.{recovered_sits}
use Rattle.layout.proofs.Lents.{index_sized}

-- the map by the key's chain
pub recovered_first_with : (f : Table) (n b key : ℕ) → value_at f (first_with f key (chains_of f n b (head (head_of key b)))) ≡ map_of f n key
unfolding chains_of
recovered_first_with f n b key =
    ap (value_at f) (first_with_holder f n (λ k. head_of k b) (chain_of f n (λ k. head_of k b)) (recovery_chains f n (λ k. head_of k b)) key)
    ∙ holder_value f n key

-- ---- what a recovery that is not refused has passed

pub passed_heads : (l : ℕ) (image : List ℕ) (heads next : ℕ) → recover_fault l image heads next ≡ 0 → 1 ≤ heads
unfolding recover_fault lent_fault
passed_heads l image heads next z =
    (index_sized (slots_in image) heads next (or_else_zero (image_fault l image) _ (or_else_zero _ _ z).0).1).0

pub passed_room : (l : ℕ) (image : List ℕ) (heads next : ℕ) → recover_fault l image heads next ≡ 0
    → all_live (table_of l image) (slots_in image) ≡ false
unfolding recover_fault
passed_room l image heads next z =
    (slots_clear l (word image) (slots_in image) (or_else_zero (lent_fault l image heads next) _ z).1).room

-- with room the reuse chain has a slot
some_spare : (f : Table) (n b : ℕ) → all_live f n ≡ false → (s : ℕ) × In s (chains_of f n b reuse)
unfolding chains_of
some_spare f n b e = go (room_spare f n (all_room f n e))
  where
    go : Gap (live f n) n → (s : ℕ) × In s (reuse_of f n)
    go (gap s i d) = (s, (recovery_spares f n).all s i d)

-- ---- a live slot's key, by line A alone

pub live_slot_key : (l : ℕ) (image : List ℕ) (n s : ℕ) → live (table_of l image) n s ≡ true
    → key_in (table_of l image s) ≡ slot_key l image s
unfolding key_in content
live_slot_key l image n s e = go (live_is (table_of l image) n s e)
  where
    go : Live (table_of l image) n s → key_in (table_of l image s) ≡ slot_key l image s
    go (lives w k v d b) =
        ap key_in d
        ∙ sym (put_at l (line_a (word image) s) (line_b (word image) s) w k v
        (settled_put (contents_of l image) (size_fields_of l image) (slots_in image) s w k v d)).key

-- ---- the search

-- f's chains are ch, in any order; keys gives a live slot's key by line A alone
module _
    (l : ℕ) (image : List ℕ) (f : Table) (n b key : ℕ) (keys : (s : ℕ) → live f n s ≡ true → key_in (f s) ≡ slot_key l image s)
    (ch : ℕ → List ℕ) (cs : Chains f n (λ k. head_of k b) ch) where
  -- the slot that was found decides the key
  pub chain_at : (s prev count : ℕ) → Hit (slot_key l image) key (ch (head_of key b)) s prev count
      → (decider f n key ≡ s) × (live f n s ≡ true) × Slot n s
  chain_at s prev count h =
      let m : In s (ch (head_of key b)) =
      subst (λ (t : List ℕ). In s t) (sym h.parts) (in_right s h.before (s ∷ h.behind) (inl refl)) in
      let e : live f n s ≡ true = cs.alive (head_of key b) s m in
      (chain_decider f n (λ k. head_of k b) ch cs key s (head_of key b) m (keys s e ∙ h.key_is), e, cs.slot (head_of key b) s m)

  chain_holds : (s prev count : ℕ) → Hit (slot_key l image) key (ch (head_of key b)) s prev count
      → (map_of f n key ≡ value_in (f s)) × (live f n s ≡ true) × Slot n s
  unfolding map_of
  chain_holds s prev count h =
      let a = chain_at s prev count h in (ap (value_at f) a.0 ∙ value-at f n s a.2, a.1, a.2)

  pub chain_absent : (prev count : ℕ) → Missed (slot_key l image) key (ch (head_of key b)) prev count → map_of f n key ≡ none
  chain_absent prev count h = go (held_or f n key)
    where
      go : Held f n key → map_of f n key ≡ none
      go (held v i e m) =
          absurd (h.none (decider f n key) (chain_has f n (λ k. head_of k b) ch cs key i e)
          (sym (keys (decider f n key) e) ∙ weight_key key (f (decider f n key)) (decider_weight f n key (decider f n key) i refl)))
      go (unheld a m) = m

  pub search_in_answers : (found : Found) → found ≡ search_in (slot_key l image) key 0 0 (ch (head_of key b)) → Answers f n key found
  search_in_answers found e =
      record {
        holds = λ slot prev compared q. chain_holds slot prev compared (search_in_hit _ _ _ _ _ _ (sym e ∙ q));
        absent = λ prev compared q. chain_absent prev compared (search_in_missed _ _ _ _ _ (sym e ∙ q));
        no_bad_chain = λ q. never_bad _ _ _ (sym e ∙ q);
      }

-- recovery's chains hold the live slots
chains_hold : (f : Table) (n b : ℕ) → Chains f n (λ k. head_of k b) (λ h. chains_of f n b (head h))
unfolding chains_of
chains_hold f n b = recovery_chains f n (λ k. head_of k b)

searched : (l : ℕ) (image : List ℕ) (f : Table) (n b key : ℕ) (i : Index) → slots_in image ≡ n → ChainsPartition n b (place_of f n b) i (chains_of f n b)
    → all_live f n ≡ false
    → search l image i.heads i.next key ≡ search_in (slot_key l image) key 0 0 (chains_of f n b (head (head_of key b)))
searched l image f n b key i size g e =
    let s = some_spare f n b e in
    formed_search l image i _ (chains_of f n b) key s.0 g.formed.disjoint (g.next_size ∙ ap (λ (k : ℕ). k + 1) (sym size)) s.1
    ∙ ap (λ (w : ℕ). search_in (slot_key l image) key 0 0 (chains_of f n b (head (head_of key w)))) g.heads_size

-- THE SEARCH of the recovered index: the map of the slots
pub recovered_search : (l : ℕ) (image heads next : List ℕ) → recover_fault l image (length heads) (length next) ≡ 0 → (key : ℕ)
    → Answers (table_of l image) (slots_in image) key
    (search l image (recovered_index (table_of l image) (slots_in image) (length heads)).heads
    (recovered_index (table_of l image) (slots_in image) (length heads)).next key)
recovered_search l image heads next z key =
    search_in_answers l image (table_of l image) (slots_in image) (length heads) key
    (live_slot_key l image (slots_in image)) (λ h. chains_of (table_of l image) (slots_in image) (length heads) (head h))
    (chains_hold (table_of l image) (slots_in image) (length heads)) _
    (searched l image (table_of l image) (slots_in image) (length heads) key
    (recovered_index (table_of l image) (slots_in image) (length heads)) refl
    (recovered_sits (table_of l image) (slots_in image) (length heads) (passed_heads l image (length heads) (length next) z))
    (passed_room l image (length heads) (length next) z))
