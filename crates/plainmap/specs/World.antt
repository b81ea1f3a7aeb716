-- The lent image and index with the state beside them, and what calls and recovery make of them: nothing but the
-- definitions that the contracts of the public calls cite.
use Rattle.std.specs.Prelude.{Bool, List, [], ◌∷◌, ℕ, length}
use Rattle.prelude.specs.Refusal.{or_else}
use Rattle.stores.specs.Store.{played, standing}
use Rattle.index.specs.Index.{Index, Lists}
use Rattle.index.specs.Walk.{search, chain_fault}
use Rattle.index.specs.declared.Mode.{Mode}
use Rattle.recovery.specs.Invalidation.{stores_in}
use Rattle.recovery.specs.Recover.{Recovery, recover_result}
use Rattle.calls.specs.Result.{CallResult, ReadOnlyResult}
use Rattle.calls.specs.Change.{write_lent_fault, write_result, write_result_by, write_by_rule, remove_result, remove_result_by, remove_by_rule}
use Rattle.calls.specs.Get.{get_result}
use Rattle.calls.specs.Locate.{locate_fault, locate_result}

-- "Each call gets the image with all stores played so far and the index and state the last one left"
pub record World : Type 0 where
  pub image : List ℕ
  pub index : Index

-- ---- calls

-- an insert or a replace, by its mode; a remove; a get; and a locate, which tells where a key is held. "Its value or
-- output is its own"
pub data Call : Type 0 where
  write : Mode → (key : ℕ) → (value : List ℕ) → Call
  remove : (key : ℕ) → Call
  get : (key : ℕ) → (out : List ℕ) → Call
  locate : (key : ℕ) → Call

-- the output that a call is lent; a get alone has one
unfoldable pub out_of : Call → List ℕ
out_of (write mode key value) = []
out_of (remove key) = []
out_of (get key out) = out
out_of (locate key) = []

-- a get and a locate have no stores and leave the index as it was
unfoldable pub reads_only : World → ReadOnlyResult → CallResult
reads_only w r = record { answer = r.answer; out = r.out; stores = []; index = w.index; compared = r.compared }

-- what a call answers and leaves, its stores not yet played, by its contract
unfoldable pub call_result : (l : ℕ) → World → Call → CallResult
call_result l w (write mode key value) = write_result l w.image w.index mode key value
call_result l w (remove key) = remove_result l w.image w.index key
call_result l w (get key out) = reads_only w (get_result l w.image w.index.heads w.index.next key out)
call_result l w (locate key) = reads_only w (locate_result l w.image w.index.heads w.index.next key)

-- the same by a call of either family, for the owner of its index or not; a get and a locate take no slot, and there is
-- one of each
unfoldable pub call_result_by : (own : Bool) → (l : ℕ) → World → Call → CallResult
call_result_by own l w (write mode key value) = write_result_by own l w.image w.index mode key value
call_result_by own l w (remove key) = remove_result_by own l w.image w.index key
call_result_by own l w (get key out) = call_result l w (get key out)
call_result_by own l w (locate key) = call_result l w (locate key)

-- and by the taking rule of document 02, A.7; a get and a locate take no slot
unfoldable pub call_result_by_rule : (l : ℕ) → World → Call → CallResult
call_result_by_rule l w (write mode key value) = write_by_rule l w.image w.index mode key value
call_result_by_rule l w (remove key) = remove_by_rule l w.image w.index key
call_result_by_rule l w (get key out) = call_result l w (get key out)
call_result_by_rule l w (locate key) = call_result l w (locate key)

-- the key of a call
unfoldable pub call_key : Call → ℕ
call_key (write mode key value) = key
call_key (remove key) = key
call_key (get key out) = key
call_key (locate key) = key

-- its refusal before or by the chain check: 1, 2, 3 and 4, of an insert and a replace 10, and 11 by the chain
unfoldable pub chain_refusal : (l : ℕ) → World → Call → ℕ
chain_refusal l w (write mode key value) =
    or_else (write_lent_fault l w.image (length w.index.heads) (length w.index.next) (length value))
    (chain_fault (search l w.image w.index.heads w.index.next key))
chain_refusal l w (remove key) = locate_fault l w.image w.index.heads w.index.next key
chain_refusal l w (get key out) = locate_fault l w.image w.index.heads w.index.next key
chain_refusal l w (locate key) = locate_fault l w.image w.index.heads w.index.next key

-- a call and then all its stores
unfoldable pub finished : (l : ℕ) → World → Call → World
finished l w call = record { image = played (call_result l w call).stores w.image; index = (call_result l w call).index }

-- ---- recovery

-- what recovery with this result leaves of an image: the image "with the index and state it leaves"
unfoldable pub world_after : (image : List ℕ) → Recovery → World
world_after image r = record { image = image; index = r.index }

-- the same by recovery itself, with heads and next lent to it; where it refuses they stay, and the state is zeros
unfoldable pub recovered_world : (l : ℕ) → (image heads next : List ℕ) → World
recovered_world l image heads next = world_after image (recover_result l image heads next)

-- ---- recovery's invalidating stores

-- document 02, A.7: "these are played and fenced before any other call, and a cut among them is covered": a recovery
-- with heads and next lent to it, and a cut among its invalidating stores: line n holds its first `counts n`
pub record Round : Type 0 where
  pub lent : Lists
  pub counts : ℕ → ℕ

-- the image that it leaves
unfoldable pub after_round : (l : ℕ) → (image : List ℕ) → Round → List ℕ
after_round l image r = played (standing r.counts (stores_in (recover_result l image r.lent.heads r.lent.next).invalidations)) image

-- "If power fails there, recovery runs again": some rounds, and then a recovery with heads and next lent to it, whose
-- invalidating stores are all played
pub record Restart : Type 0 where
  pub rounds : List Round
  pub lent : Lists

unfoldable pub after_rounds : (l : ℕ) → (image : List ℕ) → List Round → List ℕ
after_rounds l image [] = image
after_rounds l image (r ∷ rs) = after_rounds l (after_round l image r) rs

-- recovery of an image and all its invalidating stores
unfoldable pub invalidated_world : (l : ℕ) → (image heads next : List ℕ) → World
invalidated_world l image heads next =
    world_after (played (stores_in (recover_result l image heads next).invalidations) image) (recover_result l image heads next)

-- the set after a restart from an image
unfoldable pub restarted : (l : ℕ) → (image : List ℕ) → Restart → World
restarted l image r = invalidated_world l (after_rounds l image r.rounds) r.lent.heads r.lent.next
