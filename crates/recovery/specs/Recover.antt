-- Recovery. Document 01, "The index" and "What each operation may say no to", Recover; document 02, A.5: "Recovery
-- shall name the lowest slot at fault and what in it"; A.6: "25 when more than one slot is broken"; A.7: "A void slot
-- stands with the broken ones, in the reuse chain and in A.6's limit, now eight together".
use Rattle.std.specs.Prelude.{cond, List, [], ◌∷◌, ℕ, length}
use Rattle.words.specs.Word.{word}
use Rattle.prelude.specs.Refusal.{refuse_if, or_else, unless_refused}
use Rattle.prelude.specs.Answer.{Answer, gives, refused}
use Rattle.prelude.specs.Range.{any_of, lowest, at_lowest}
use Rattle.prelude.specs.Members.{slot_numbers}
use Rattle.layout.specs.Size.{slots_in}
use Rattle.layout.specs.Content.{content, size_field_in, Table}
use Rattle.layout.specs.Header.{lent_fault}
use Rattle.layout.specs.Fault.{mark_fault, record_fault}
use Rattle.table.specs.Table.{key_in, live, live_count, next_version, many_broken, all_live}
use Rattle.table.specs.Complete.{settled, table_of}
use Rattle.table.specs.Shared.{sharers_fault}
use Rattle.table.specs.Order.{ordered, chain_of, reuse_of}
use Rattle.index.specs.Index.{Index, index_of, no_state, Chain, reuse, head, head_of}
use Rattle.index.specs.Chained.{last_of, chained}
use Rattle.index.specs.declared.State.{State}
use Rattle.stores.specs.Store.{Store}
use Rattle.stores.specs.Invalidation.{invalidating_stores}
use Rattle.recovery.specs.Invalidation.{void_slots, invalidations_of}
use Rattle.recovery.specs.declared.Invalidations.{Invalidations}
use Rattle.recovery.specs.declared.Recovered.{Recovered}
use Rattle.recovery.specs.declared.Recovered.TheVariants.{Rebuilt, Refused}

-- what recovery leaves: its answer, the slot that a refusal names (0 for none), the invalidating stores (one for each
-- void record), and the index
pub record Recovery : Type 0 where
  pub answer : Answer
  pub slot : ℕ
  pub invalidations : Invalidations
  pub index : Index

-- the answer's values: first, last, live count, next version
abbrev pub state_values : State → List ℕ
state_values s = s.first ∷ s.last ∷ s.live ∷ s.version ∷ []

-- a rebuilt index names no slot
abbrev pub rebuilt_result : Invalidations → Index → Recovery
rebuilt_result invalidations i = record { answer = gives (state_values i.state); slot = 0; invalidations = invalidations; index = i }

-- a refusal has a number and the slot that it names; there is no state, and zeros stand for it
abbrev pub refused_result : (number slot : ℕ) → Invalidations → (heads next : List ℕ) → Recovery
refused_result number slot invalidations heads next =
    record { answer = refused number; slot = slot; invalidations = invalidations; index = index_of heads next no_state }

-- what a call of recover with this answer and these stores left
unfoldable pub recover_end : Recovered → Invalidations → (heads next : List ℕ) → Recovery
recover_end (Rebuilt s) invalidations heads next = rebuilt_result invalidations (index_of heads next s)
recover_end (Refused number slot) invalidations heads next = refused_result number slot invalidations heads next

-- 25, and then 8, by the settled table f
unfoldable pub settled_fault : Table → (n : ℕ) → ℕ
settled_fault f n = refuse_if (many_broken f n) 25 (refuse_if (all_live f n) 8 0)

-- 5; then "the lowest slot at fault and what in it": 6, 22, 23 or 24; then 7, 25 ("after 7 and before 8"), 8. Each over
-- all slots before the next
unfoldable pub slots_fault : (l : ℕ) → (m : ℕ → ℕ) → (n : ℕ) → ℕ
slots_fault l m n =
    refuse_if (any_of (mark_fault m) 1 n) 5
    (or_else (at_lowest (record_fault l m) n)
    (refuse_if (sharers_fault (content l m) (size_field_in l m) n) 7 (settled_fault (settled (content l m) (size_field_in l m) n) n)))

-- the slot that these name: the lowest one at fault, where 5 does not come first; 5, 7, 25 and 8 name none
unfoldable pub slots_named : (l : ℕ) → (m : ℕ → ℕ) → (n : ℕ) → ℕ
slots_named l m n = refuse_if (any_of (mark_fault m) 1 n) 0 (lowest (record_fault l m) n)

-- 1 to 4, and then those of the slots
unfoldable pub recover_fault : (l : ℕ) → (image : List ℕ) → (heads next : ℕ) → ℕ
recover_fault l image heads next =
    or_else (lent_fault l image heads next) (slots_fault l (word image) (slots_in image))

-- the slot that a refusal names; 1 to 4 name none
unfoldable pub recover_slot : (l : ℕ) → (image : List ℕ) → (heads next : ℕ) → ℕ
recover_slot l image heads next =
    unless_refused (lent_fault l image heads next) (slots_named l (word image) (slots_in image)) 0

-- "Each live slot is in its head's chain, each spare slot in the one reuse chain": the chains, and the chain of each
-- slot
unfoldable pub chains_of : Table → (n b : ℕ) → Chain → List ℕ
chains_of f n b reuse = reuse_of f n
chains_of f n b (head h) = chain_of f n (λ key. head_of key b) h

unfoldable pub place_of : Table → (n b : ℕ) → ℕ → Chain
place_of f n b s = cond (live f n s) (head (head_of (key_in (f s)) b)) reuse

-- a slot of the highest valid version, where any slot is valid: the last of all slots in recovery's order
unfoldable pub newest_slot : Table → (n : ℕ) → ℕ
newest_slot f n = last_of (ordered f (slot_numbers n))

-- the index that recovery leaves: the chains, and the state with "the reuse chain's first and last slot, the live count
-- and the next version" and the newest slot; f is the settled table
unfoldable pub recovered_index : Table → (n b : ℕ) → Index
recovered_index f n b = chained n b (chains_of f n b) (place_of f n b) (live_count f n) (next_version f n) (newest_slot f n)

-- f is the settled table, and stores are those that invalidate the void slots
unfoldable pub recovered : Table → (n b : ℕ) → (stores : List Store) → Recovery
recovered f n b stores = rebuilt_result (invalidations_of stores) (recovered_index f n b)

-- what recovery answers and leaves; a refused one leaves heads and next as they were lent, and has no stores
unfoldable pub recover_result : (l : ℕ) → (image heads next : List ℕ) → Recovery
recover_result l image heads next =
    unless_refused (recover_fault l image (length heads) (length next))
    (recovered (table_of l image) (slots_in image) (length heads) (invalidating_stores (word image) (void_slots l (word image) (slots_in image))))
    (refused_result (recover_fault l image (length heads) (length next)) (recover_slot l image (length heads) (length next)) (invalidations_of []) heads next)
