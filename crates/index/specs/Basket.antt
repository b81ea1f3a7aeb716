-- What a basket writes to the index. Document 02, A.7: "A basket takes all its slots before any other index change,
-- then links and appends key by key; with an index not the image's own, only refusals are fixed".
use Rattle.std.specs.Prelude.{cond, List, [], ◌∷◌, ℕ, zero, suc, eqb, ltb, get_or}
use Rattle.index.specs.Index.{Index, reuse, set_last, link}
use Rattle.index.specs.Change.{insert_at, replace_at, remove_at}
use Rattle.index.specs.Allocation.{Taken}
use Rattle.index.specs.declared.Action.{Action}
use Rattle.index.specs.declared.Action.TheVariants.{Write, Remove}
use Rattle.index.specs.declared.Mode.TheVariants.{Insert, Replace}

-- ---- "takes all its slots"

-- one slot: the link to it becomes its next; where it was the last slot of reuse, the slot before it is, 0 for none
unfoldable pub take_slot : Index → Taken → Index
take_slot i t =
    set_last (link i reuse t.prev (get_or i.next t.slot 0)) (cond (eqb i.state.last t.slot) t.prev i.state.last)

-- all, in order
unfoldable pub all_taken_of : Index → List Taken → Index
all_taken_of i [] = i
all_taken_of i (t ∷ ts) = all_taken_of (take_slot i t) ts

-- the slots alone: "It answers its version and slots"
unfoldable pub taken_slots : List Taken → List ℕ
taken_slots [] = []
taken_slots (t ∷ ts) = t.slot ∷ taken_slots ts

-- ---- "links and appends key by key"

-- the slot from which a link leads to `target`, which is 0 for a chain's end: from the link `at` on, with `prev` before
-- it and `left` links that may still be followed. A link that is 0 or above n ends it too, so that it is some slot of
-- any index
unfoldable pub slot_before : (next : List ℕ) → (n left target prev at : ℕ) → ℕ
slot_before next n zero target prev at = prev
slot_before next n (suc left) target prev at =
    cond (eqb at target) prev
    (cond (eqb at 0) prev
    (cond (ltb n at) prev
    (slot_before next n left target at (get_or next at 0))))

-- in the chain of head h; 0 is the head
unfoldable pub before_in : Index → (n h target : ℕ) → ℕ
before_in i n h target = slot_before i.next n n target 0 (get_or i.heads h 0)

-- one of a basket's keys: what is asked, the key's head, the slot of its old record (0 for an insert) and the slot
-- taken for its new one
pub record Item : Type 0 where
  pub action : Action
  pub key_head : ℕ
  pub old : ℕ
  pub slot : ℕ

-- its change of the index; the slot before it is looked for by slot number, in the index that the keys before it left
unfoldable pub link_by : (n : ℕ) → Index → Action → (h old s : ℕ) → Index
link_by n i (Write Insert) h old s = insert_at i h (before_in i n h 0) s
link_by n i (Write Replace) h old s = replace_at i h (before_in i n h old) old s
link_by n i Remove h old s = remove_at i h (before_in i n h old) old s

unfoldable pub link_item : (n : ℕ) → Index → Item → Index
link_item n i k = link_by n i k.action k.key_head k.old k.slot

-- all, in order
unfoldable pub link_all : (n : ℕ) → Index → List Item → Index
link_all n i [] = i
link_all n i (k ∷ ks) = link_all n (link_item n i k) ks

-- the index of n slots after a basket that takes these slots for these keys
unfoldable pub basket_index : (n : ℕ) → Index → List Taken → List Item → Index
basket_index n i ts ks = link_all n (all_taken_of i ts) ks
