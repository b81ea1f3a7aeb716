-- Insert, replace and remove. Document 01, "How a call writes", "The index" and "What each operation may say no to";
-- document 02, A.2: "Put is split in two: insert for a key not held, replace for one that is", and A.7: 28 "in place of
-- 12". None of them writes to the image. Each is of one of two families: calls for any index, and calls for the owner
-- of an index, which are ours. The taking rule, which says what slots may be taken, is table/specs/Takeable `may_take`.
use Rattle.std.specs.Prelude.{Bool, false, List, [], ◌∷◌, ℕ, ◌+◌, ◌-◌, ltb, length, get_or}
use Rattle.words.specs.Word.{word}
use Rattle.prelude.specs.Refusal.{refuse_if, or_else, unless_refused}
use Rattle.prelude.specs.Answer.{Answer, gives, absent, refused}
use Rattle.layout.specs.Size.{slots_in}
use Rattle.layout.specs.Record.{limit}
use Rattle.layout.specs.Header.{lent_fault}
use Rattle.layout.specs.Line.{version_fault}
use Rattle.stores.specs.Store.{Store, zipped}
use Rattle.stores.specs.Written.{record_stores}
use Rattle.index.specs.Index.{Index, index_of, with_counts, head_of}
use Rattle.index.specs.Walk.{search, chain_fault}
use Rattle.index.specs.Change.{take_first, insert_at, replace_at, remove_at, key_fault, inserts_of, is_found}
use Rattle.index.specs.Allocation.{Taken, Allocation, taken, too_few, bad_link, reuse_fault, room_fault}
use Rattle.index.specs.Basket.{take_slot}
use Rattle.allocation.specs.Allocation.{allocation_by_rule, allocation_by}
use Rattle.index.specs.declared.State.{State}
use Rattle.index.specs.declared.Mode.{Mode}
use Rattle.index.specs.declared.Found.{Found}
use Rattle.index.specs.declared.Found.TheVariants.{At, Missing, BadChain}
use Rattle.calls.specs.Result.{CallResult, unchanged}
use Rattle.calls.specs.Compared.{compared_after, key_compared}
use Rattle.calls.specs.declared.Change.{Change}
use Rattle.calls.specs.declared.Outcome.{Outcome}
use Rattle.calls.specs.declared.Outcome.TheVariants.{Stored, Absent, Refused}

-- "Both answer the slot taken and the version"
unfoldable pub change_says : Outcome → Answer
change_says (Stored slot version) = gives (slot ∷ version ∷ [])
change_says Absent = absent
change_says (Refused number) = refused number

-- what a call with this answer left; at and value are the stores lent to it
abbrev pub change_end : Change → (at value heads next : List ℕ) → CallResult
change_end r at value heads next =
    record {
      answer = change_says r.outcome;
      out = [];
      stores = zipped at value;
      index = index_of heads next r.state;
      compared = r.compared;
    }

-- the sixteen lent stores after a call that hands out these, sixteen or none: where it hands out none they stay
unfoldable pub stores_after : (stores lent : List Store) → List Store
stores_after [] lent = lent
stores_after (s ∷ ss) lent = s ∷ ss

-- what a call with this result leaves, lent these stores
unfoldable pub buffers_after : (lent : List Store) → CallResult → CallResult
buffers_after lent r =
    record {
      answer = r.answer;
      out = r.out;
      stores = stores_after r.stores lent;
      index = r.index;
      compared = r.compared;
    }

-- ---- the slot that is taken

-- the refusals of a call that takes these slots, inserts and removes so many keys and is not refused for its keys: "11
-- (reuse, or fewer live than are removed) now stands whole before 28", 28 "before 9"
unfoldable pub store_fault : Allocation → (n : ℕ) → State → (inserts removes : ℕ) → ℕ
store_fault taking n s inserts removes =
    or_else (reuse_fault taking n s.first s.last s.live removes)
    (or_else (room_fault taking n s.live inserts removes) (version_fault s.version))

-- the one slot that the taking rule gives; where it gives none a call that would write is refused, and these zeros are
-- not used
unfoldable pub one_taken : Allocation → Taken
one_taken (taken ts) = get_or ts 0 (record { slot = 0; prev = 0 })
one_taken too_few = record { slot = 0; prev = 0 }
one_taken bad_link = record { slot = 0; prev = 0 }

-- that of a single call: "No call, single ones included, takes .. ; it takes the first others in the reuse chain"
abbrev pub slot_by_rule : (l : ℕ) → (image : List ℕ) → Index → Taken
slot_by_rule l image i = one_taken (allocation_by_rule l image i.next (slots_in image) i.state.first 1)

-- a record of this kind is written into slot t: s is the state at entry, and i the index at exit but for its counts. "a
-- single record .. has 0" for its number; "each call that stores makes the next version one higher"
unfoldable pub changed : (l : ℕ) → (image : List ℕ) → State → (t key kind : ℕ) → List ℕ → Index → (live compared : ℕ) → CallResult
changed l image s t key kind value i live compared =
    record {
      answer = gives (t ∷ s.version ∷ []);
      out = [];
      stores = record_stores l (word image) t key kind 0 value s.version;
      index = with_counts i live (s.version + 1) t;
      compared = compared;
    }

-- ---- insert and replace: one definition, with what is asked of the key as `mode`

-- "Put. 1, 2, 3, 4 as above; 10 when the value exceeds 80 bytes": by what is lent, before the key's chain is followed
unfoldable pub write_lent_fault : (l : ℕ) → (image : List ℕ) → (heads next size : ℕ) → ℕ
write_lent_fault l image heads next size = or_else (lent_fault l image heads next) (refuse_if (ltb (limit l) size) 10 0)

-- the refusals after these: 11 (chain); 20 or 21, "each straight after the chain check"; 11 (reuse); 28; 9
unfoldable pub write_later_fault : Mode → Found → Allocation → (n : ℕ) → State → ℕ
write_later_fault mode found taking n s =
    or_else (chain_fault found) (or_else (key_fault mode (is_found found)) (store_fault taking n s (inserts_of mode) 0))

-- of a call of either family: `own` tells whether it is for the owner of its index
unfoldable pub write_fault_by : (own : Bool) → (l : ℕ) → (image : List ℕ) → Index → Mode → (key size : ℕ) → ℕ
write_fault_by own l image i mode key size =
    or_else (write_lent_fault l image (length i.heads) (length i.next) size)
    (write_later_fault mode (search l image i.heads i.next key)
    (allocation_by own l image i.next (slots_in image) i.state.first i.state.newest 1) (slots_in image) i.state)

abbrev pub write_fault : (l : ℕ) → (image : List ℕ) → Index → Mode → (key size : ℕ) → ℕ
write_fault l image i mode key size = write_fault_by false l image i mode key size

-- the slots compared: 10 too comes before the chain
unfoldable pub write_compared : (l : ℕ) → (image : List ℕ) → Index → (key size : ℕ) → ℕ
write_compared l image i key size =
    compared_after (write_lent_fault l image (length i.heads) (length i.next) size) (search l image i.heads i.next key)

-- "A put of a new key takes the first reuse slot and links it at the end of its head's chain", "of a held key ..
-- replaces the old slot in its chain": slot t, with the index `rest` that taking it leaves. "A put of a new key raises
-- the live count by one"
unfoldable pub write_done : (l : ℕ) → (image : List ℕ) → Index → (key : ℕ) → List ℕ → (t : ℕ) → (rest : Index) → (compared : ℕ) → Found → CallResult
write_done l image i key value t rest compared (At old prev count) =
    changed l image i.state t key 1 value (replace_at rest (head_of key (length i.heads)) prev old t) i.state.live compared
write_done l image i key value t rest compared (Missing prev count) =
    changed l image i.state t key 1 value (insert_at rest (head_of key (length i.heads)) prev t) (i.state.live + 1) compared
write_done l image i key value t rest compared BadChain = unchanged (refused 11) i compared

-- a write into slot t, unless `fault` refuses it
unfoldable pub write_unless : (fault : ℕ) → (l : ℕ) → (image : List ℕ) → Index → (key : ℕ) → List ℕ → (t : ℕ) → (rest : Index) → CallResult
write_unless fault l image i key value t rest =
    unless_refused fault
    (write_done l image i key value t rest (write_compared l image i key (length value)) (search l image i.heads i.next key))
    (unchanged (refused fault) i (write_compared l image i key (length value)))

-- "with an index not the image's own, only refusals are fixed, of single calls too". Where `own` is false the refusals
-- are those of the taking rule, where it is true those of `own_allocation`. The slot is the first of reuse; with an
-- index that is the image's own it is the rule's too: cut_rule/specs/AllocationRule says so of `write_by_rule`
unfoldable pub write_result_by : (own : Bool) → (l : ℕ) → (image : List ℕ) → Index → Mode → (key : ℕ) → List ℕ → CallResult
write_result_by own l image i mode key value =
    write_unless (write_fault_by own l image i mode key (length value)) l image i key value i.state.first (take_first i)

abbrev pub write_result : (l : ℕ) → (image : List ℕ) → Index → Mode → (key : ℕ) → List ℕ → CallResult
write_result l image i mode key value = write_result_by false l image i mode key value

unfoldable pub write_by_rule : (l : ℕ) → (image : List ℕ) → Index → Mode → (key : ℕ) → List ℕ → CallResult
write_by_rule l image i mode key value =
    write_unless (write_fault l image i mode key (length value)) l image i key value (slot_by_rule l image i).slot (take_slot i (slot_by_rule l image i))

-- ---- remove

-- the refusals after 1, 2, 3 and 4: 11 (chain); "then, if the key is not held, the plain answer absent"; 11 (reuse, or
-- a live count of zero); 28; 9
unfoldable pub remove_later_fault : Found → Allocation → (n : ℕ) → State → ℕ
remove_later_fault (At old prev compared) taking n s = store_fault taking n s 0 1
remove_later_fault (Missing prev compared) taking n s = 0
remove_later_fault BadChain taking n s = 11

unfoldable pub remove_fault_by : (own : Bool) → (l : ℕ) → (image : List ℕ) → Index → (key : ℕ) → ℕ
remove_fault_by own l image i key =
    or_else (lent_fault l image (length i.heads) (length i.next))
    (remove_later_fault (search l image i.heads i.next key)
    (allocation_by own l image i.next (slots_in image) i.state.first i.state.newest 1) (slots_in image) i.state)

abbrev pub remove_fault : (l : ℕ) → (image : List ℕ) → Index → (key : ℕ) → ℕ
remove_fault l image i key = remove_fault_by false l image i key

-- "A remove takes the first reuse slot, unlinks the old slot, and appends to the reuse chain the old slot and then the
-- slot just taken": slot t, as above; "a remove lowers it by one"; "the plain answer absent with no stores and no
-- change"
unfoldable pub remove_done : (l : ℕ) → (image : List ℕ) → Index → (key t : ℕ) → (rest : Index) → (compared : ℕ) → Found → CallResult
remove_done l image i key t rest compared (At old prev count) =
    changed l image i.state t key 2 [] (remove_at rest (head_of key (length i.heads)) prev old t) (i.state.live - 1) compared
remove_done l image i key t rest compared (Missing prev count) = unchanged absent i compared
remove_done l image i key t rest compared BadChain = unchanged (refused 11) i compared

unfoldable pub remove_unless : (fault : ℕ) → (l : ℕ) → (image : List ℕ) → Index → (key t : ℕ) → (rest : Index) → CallResult
remove_unless fault l image i key t rest =
    unless_refused fault
    (remove_done l image i key t rest (key_compared l image i.heads i.next key) (search l image i.heads i.next key))
    (unchanged (refused fault) i (key_compared l image i.heads i.next key))

-- into the first slot of reuse
unfoldable pub remove_result_by : (own : Bool) → (l : ℕ) → (image : List ℕ) → Index → (key : ℕ) → CallResult
remove_result_by own l image i key = remove_unless (remove_fault_by own l image i key) l image i key i.state.first (take_first i)

abbrev pub remove_result : (l : ℕ) → (image : List ℕ) → Index → (key : ℕ) → CallResult
remove_result l image i key = remove_result_by false l image i key

-- into the slot of the taking rule
unfoldable pub remove_by_rule : (l : ℕ) → (image : List ℕ) → Index → (key : ℕ) → CallResult
remove_by_rule l image i key =
    remove_unless (remove_fault l image i key) l image i key (slot_by_rule l image i).slot (take_slot i (slot_by_rule l image i))
