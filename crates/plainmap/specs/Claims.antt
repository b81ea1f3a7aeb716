-- What it means that the calls are a plain map: what the statements of this crate's laws are made of. All that is asked
-- of a call is that its fields are numbers of their size.
use Rattle.std.specs.Prelude.{◌≡◌, List, [], ℕ, ◌^◌, ◌≤◌, ◌<◌, length, get_or}
use Rattle.words.specs.Word.{AreBytes}
use Rattle.prelude.specs.Answer.{Answer, absent, refusal_in, refuses}
use Rattle.layout.specs.Record.{limit}
use Rattle.prelude.specs.Keys.{Keys, sharing}
use Rattle.index.specs.Index.{head_of}
use Rattle.index.specs.Linked.{Linked}
use Rattle.index.specs.Walk.{slot_key, search, compared_in, Counted}
use Rattle.table.specs.Table.{map_of, holder, live_count, next_version}
use Rattle.table.specs.Takeable.{takeable_count}
use Rattle.index.specs.declared.Mode.{Mode}
use Rattle.calls.specs.Get.{get_result}
use Rattle.calls.specs.Result.{CallResult}
use Rattle.plainmap.specs.World.{World, Call, write, remove, get, locate, out_of, call_result, call_key, chain_refusal}
use Rattle.layout.specs.Size.{slots_in}
use Rattle.table.specs.Complete.{table_of}
use Rattle.plainmap.specs.Plain.{PlainMap, Room, updates, plain_step, rule_fault, length_answer, filled, plain_answer, plain_out}

-- the key of a call that writes has l words, and its value is bytes; of a get and a locate nothing is asked
pub data Typed (l : ℕ) : Call → Type 0 where
  write_typed : {mode : Mode} {key : ℕ} {value : List ℕ} → key < (2 ^ 64) ^ l → AreBytes value → Typed l (write mode key value)
  remove_typed : {key : ℕ} → key < (2 ^ 64) ^ l → Typed l (remove key)
  get_typed : {key : ℕ} {out : List ℕ} → Typed l (get key out)
  locate_typed : {key : ℕ} → Typed l (locate key)

-- the map of the slots
abbrev pub slots_map : (l : ℕ) → (image : List ℕ) → PlainMap
slots_map l image k = map_of (table_of l image) (slots_in image) k

-- ---- one call

-- the room of a set, by what its image holds
abbrev pub room_of : (l : ℕ) → (image : List ℕ) → Room
room_of l image =
    record {
      slots = slots_in image;
      held = live_count (table_of l image) (slots_in image);
      takeable = takeable_count (table_of l image) (slots_in image);
      version = next_version (table_of l image) (slots_in image);
    }

-- the rules' number for a call, by the plain map m and by what the image holds
abbrev pub expected_refusal : (l : ℕ) → World → PlainMap → Call → ℕ
expected_refusal l w m call = rule_fault l (room_of l w.image) m call

-- what the rules have it answer where they do not refuse it
abbrev pub expected_answer : (l : ℕ) → World → PlainMap → Call → Answer
expected_answer l w m call =
    plain_answer w.index.state.first (next_version (table_of l w.image) (slots_in w.image))
    (holder (table_of l w.image) (slots_in w.image)) m call

-- the call changes nothing: neither the output that it is lent, nor the index, and it has no stores
pub record Unchanged (w : World) (out : List ℕ) (r : CallResult) : Type 0 where
  pub out_kept : r.out ≡ out
  pub no_stores : r.stores ≡ []
  pub index_kept : r.index ≡ w.index

-- document 02, A.4: the count of slots compared "is never above the number of live keys that share the head", of b
-- heads: `sharers` are those keys, each once
pub record FewCompared (m : PlainMap) (b key compared : ℕ) : Type 0 where
  pub sharers : List ℕ
  pub share : Keys (sharing (λ k. head_of k b) (head_of key b) m) sharers
  pub at_most : compared ≤ length sharers

-- document 02, A.4: "The count of slots compared equals the place of the key in its chain, or the chain's whole length
-- when it is absent": `chain` is what the links of the lent index give from the key's head on, and zero ends it. "A
-- call refused before or by the chain check reports 0"
pub record CountsPlace (l : ℕ) (w : World) (call : Call) : Type 0 where
  pub chain : List ℕ
  pub linked : Linked w.index.next (get_or w.index.heads (head_of (call_key call) (length w.index.heads)) 0) chain
  pub counted : Counted (slot_key l w.image) (call_key call) chain (search l w.image w.index.heads w.index.next (call_key call))
  pub reported : chain_refusal l w call ≡ 0
      → (call_result l w call).compared ≡ compared_in (search l w.image w.index.heads w.index.next (call_key call))
  pub none_reported : (chain_refusal l w call ≡ 0 → ⊥) → (call_result l w call).compared ≡ 0

-- the answer is right: refused exactly where the rules refuse it, and otherwise as the plain map m answers
pub record CallCorrect (l : ℕ) (w : World) (m : PlainMap) (call : Call) : Type 0 where
  pub refusal : refusal_in (call_result l w call).answer ≡ expected_refusal l w m call
  pub answer : expected_refusal l w m call ≡ 0 → (call_result l w call).answer ≡ expected_answer l w m call
  pub out : expected_refusal l w m call ≡ 0 → (call_result l w call).out ≡ plain_out m call
  -- "A refused call changes no lent byte, index number or state", nor does one that answers absent
  pub refused_still : (expected_refusal l w m call ≡ 0 → ⊥) → Unchanged w (out_of call) (call_result l w call)
  pub absent_still : (call_result l w call).answer ≡ absent → Unchanged w (out_of call) (call_result l w call)
  pub few : FewCompared m (length w.index.heads) (call_key call) (call_result l w call).compared
  pub place : CountsPlace l w call

-- ---- between calls

-- a get with room for any value gives what m has
abbrev pub Reads : (l : ℕ) → World → PlainMap → Type 0
Reads l w m =
    (key : ℕ) (out : List ℕ) → limit l ≤ length out
    → ((get_result l w.image w.index.heads w.index.next key out).answer ≡ length_answer (m key))
    × ((get_result l w.image w.index.heads w.index.next key out).out ≡ filled (m key) out)

-- ---- every list of calls, without cuts

-- the plain map after a call with all its stores played: it is told "whether these rules refuse it"
abbrev pub map_after_call : (l : ℕ) → World → PlainMap → Call → PlainMap
map_after_call l w m call = plain_step (updates call) (refuses (expected_refusal l w m call)) m
