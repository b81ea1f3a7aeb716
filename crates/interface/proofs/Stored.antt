-- A call answers at most two values, and hands out stores where it answers a slot; a call that writes and is neither
-- refused nor absent has stores; a refused call changes nothing. Assumes nothing.
use mathlib.Core.Path.{◌≡◌, refl, sym, ap, ◌∙◌}
use mathlib.Core.Bool.{true≢false}
use mathlib.Core.List.{List, [], ◌∷◌}
use Prim.Native.Nat.{ℕ, ◌≤◌}
use native.Mathlib.Omega.{arith}
use lib.ListN.{length}
use Rattle.words.specs.Word.{word}
use Rattle.prelude.specs.Members.{Slot}
use Rattle.prelude.proofs.Refusals.{by_refusal}
use Rattle.prelude.specs.Answer.{Answer, gives, absent, refused}
use Rattle.prelude.proofs.defs.Answer.{is_refusal}
use Rattle.layout.specs.Size.{slots_in}
use Rattle.stores.specs.Store.{Store}
use Rattle.stores.specs.Written.{run, line_stores, record_stores}
use Rattle.index.specs.Index.{Index, reuse}
use Rattle.index.specs.declared.Found.{Found}
use Rattle.index.specs.declared.Found.TheVariants.{At, Missing, BadChain}
use Rattle.index.proofs.Sits.{sits_first}
use Rattle.calls.specs.Change.{stores_after, changed, write_done, write_unless, remove_done, remove_unless, remove_result_by, write_result_by}
use Rattle.calls.specs.Result.{CallResult, unchanged, ReadOnlyResult}
use Rattle.calls.specs.Get.{get_done, get_result}
use Rattle.calls.specs.Locate.{locate_done, locate_answer}
use Rattle.plainmap.specs.World.{World, Call, write, remove, get, locate, call_result, reads_only, out_of}
use Rattle.plainmap.specs.Plain.{PlainMap}
use Rattle.plainmap.specs.Claims.{CallCorrect, Unchanged}
use Rattle.plainmap.proofs.Rights.{plain_given}
use Rattle.plainmap.specs.Consistency.{Starts, starts, Refines}
use Rattle.interface.specs.Laws.{Writes, write_writes, remove_writes}

-- how many values an answer gives
abbrev value_count : Answer → ℕ
value_count (gives given) = length given
value_count absent = 0
value_count (refused number) = 0

-- 0 where it gives values, 1 for absent, 2 for a refusal
abbrev answer_case : Answer → ℕ
answer_case (gives given) = 0
answer_case absent = 1
answer_case (refused number) = 2

-- at most two values
module _ (l : ℕ) (w : World) where
  write_few : (key : ℕ) (value : List ℕ) (t : ℕ) (rest : Index) (count : ℕ) (found : Found)
      → value_count (write_done l w.image w.index key value t rest count found).answer ≤ 2
  unfolding write_done changed unchanged
  write_few key value t rest count (At old prev compared) = omega arith
  write_few key value t rest count (Missing prev compared) = omega arith
  write_few key value t rest count BadChain = omega arith

  remove_few : (key t : ℕ) (rest : Index) (count : ℕ) (found : Found) → value_count (remove_done l w.image w.index key t rest count found).answer ≤ 2
  unfolding remove_done changed unchanged
  remove_few key t rest count (At old prev compared) = omega arith
  remove_few key t rest count (Missing prev compared) = omega arith
  remove_few key t rest count BadChain = omega arith

  get_few : (out : List ℕ) (count : ℕ) (found : Found) → value_count (get_done l w.image out count found).answer ≤ 2
  unfolding get_done
  get_few out count (At slot prev compared) = omega arith
  get_few out count (Missing prev compared) = omega arith
  get_few out count BadChain = omega arith

  locate_few : (found : Found) → value_count (locate_done w.image found) ≤ 2
  unfolding locate_done
  locate_few (At slot prev compared) = omega arith
  locate_few (Missing prev compared) = omega arith
  locate_few BadChain = omega arith

  called_few : (call : Call) → value_count (call_result l w call).answer ≤ 2
  unfolding call_result reads_only write_result_by write_unless remove_result_by remove_unless get_result locate_answer unchanged
  called_few (write mode key value) = by_refusal (λ (c : CallResult). value_count c.answer ≤ 2) _ _ _ (write_few key value _ _ _ _) (omega arith)
  called_few (remove key) = by_refusal (λ (c : CallResult). value_count c.answer ≤ 2) _ _ _ (remove_few key _ _ _ _) (omega arith)
  called_few (get key out) = by_refusal (λ (c : ReadOnlyResult). value_count c.answer ≤ 2) _ _ _ (get_few out _ _) (omega arith)
  called_few (locate key) = by_refusal (λ (a : Answer). value_count a ≤ 2) _ _ _ (locate_few _) (omega arith)

  pub few_given : (call : Call) (given : List ℕ) → (call_result l w call).answer ≡ gives given → length given ≤ 2
  few_given call given e = omega (arith, called_few call, ap value_count e)

-- what is handed out where a slot is answered
module _ (l : ℕ) (w : World) (lent : List Store) where
  HandsOut : CallResult → Type 0
  HandsOut c = (given : List ℕ) → c.answer ≡ gives given → stores_after c.stores lent ≡ c.stores

  none_out : (c : CallResult) → (answer_case c.answer ≡ 0 → ⊥) → HandsOut c
  unfolding HandsOut
  none_out c ne given e = absurd (ne (ap answer_case e))

  refused_out : (number count : ℕ) → HandsOut (unchanged (refused number) w.index count)
  unfolding unchanged
  refused_out number count = none_out (unchanged (refused number) w.index count) (λ z. omega arith)

  write_out : (key : ℕ) (value : List ℕ) (t : ℕ) (rest : Index) (count : ℕ) (found : Found)
      → HandsOut (write_done l w.image w.index key value t rest count found)
  unfolding HandsOut write_done changed unchanged stores_after record_stores line_stores run
  write_out key value t rest count (At old prev compared) = λ given e. refl
  write_out key value t rest count (Missing prev compared) = λ given e. refl
  write_out key value t rest count BadChain = none_out (write_done l w.image w.index key value t rest count BadChain) (λ z. omega arith)

  remove_out : (key t : ℕ) (rest : Index) (count : ℕ) (found : Found) → HandsOut (remove_done l w.image w.index key t rest count found)
  unfolding HandsOut remove_done changed unchanged stores_after record_stores line_stores run
  remove_out key t rest count (At old prev compared) = λ given e. refl
  remove_out key t rest count (Missing prev compared) =
      none_out (remove_done l w.image w.index key t rest count (Missing prev compared)) (λ z. omega arith)
  remove_out key t rest count BadChain = none_out (remove_done l w.image w.index key t rest count BadChain) (λ z. omega arith)

  pub hands_out : (call : Call) → Writes call → (given : List ℕ) → (call_result l w call).answer ≡ gives given
      → stores_after (call_result l w call).stores lent ≡ (call_result l w call).stores
  unfolding HandsOut call_result write_result_by write_unless remove_result_by remove_unless
  hands_out (locate key) x'' = elim x'' [ ]
  hands_out (get key out) x' = elim x' [ ]
  hands_out (write mode key value) write_writes = by_refusal HandsOut _ _ _ (write_out key value _ _ _ _) (refused_out _ _)
  hands_out (remove key) remove_writes = by_refusal HandsOut _ _ _ (remove_out key _ _ _ _) (refused_out _ _)

-- a call that writes and answers a slot has stores
pub some_stores : (l : ℕ) (w : World) (call : Call) → Writes call → (given : List ℕ) → (call_result l w call).answer ≡ gives given
    → (call_result l w call).stores ≡ [] → ⊥
unfolding stores_after
some_stores l w call writes given e z =
    omega (arith, ap (λ (ss : List Store). length ss) (sym z ∙ sym (hands_out l w lent call writes given e) ∙ ap (λ (ss : List Store). stores_after ss lent) z))
  where
    lent : List Store
    lent = record { word = 0; value = 0 } ∷ []

-- the stores of a call: none, or those of one record for the first slot of reuse
pub data OneStored (l : ℕ) (w : World) : List Store → Type 0 where
  none_stored : {ss : List Store} → ss ≡ [] → OneStored l w ss
  one_stored : {ss : List Store} (key kind : ℕ) (value : List ℕ)
      → ss ≡ record_stores l (word w.image) w.index.state.first key kind 0 value w.index.state.version
      → Slot (slots_in w.image) w.index.state.first
      → OneStored l w ss

module _ (l : ℕ) (w : World) (m : PlainMap) (g : Refines l w m) where
  first_in : Starts (g.chains reuse) → Slot (slots_in w.image) w.index.state.first
  first_in (starts t rest e) = let q = sits_first _ _ _ _ _ g.consistent.index t rest e in (omega (arith, q.1), q.2)

  write_stored : (key : ℕ) (value : List ℕ) (rest : Index) (count : ℕ) (found : Found)
      → OneStored l w (write_done l w.image w.index key value w.index.state.first rest count found).stores
  unfolding write_done changed unchanged
  write_stored key value rest count (At old prev compared) = one_stored key 1 value refl (first_in g.consistent.some_spare)
  write_stored key value rest count (Missing prev compared) = one_stored key 1 value refl (first_in g.consistent.some_spare)
  write_stored key value rest count BadChain = none_stored refl

  remove_stored : (key : ℕ) (rest : Index) (count : ℕ) (found : Found)
      → OneStored l w (remove_done l w.image w.index key w.index.state.first rest count found).stores
  unfolding remove_done changed unchanged
  remove_stored key rest count (At old prev compared) = one_stored key 2 [] refl (first_in g.consistent.some_spare)
  remove_stored key rest count (Missing prev compared) = none_stored refl
  remove_stored key rest count BadChain = none_stored refl

  pub stored_one : (call : Call) → OneStored l w (call_result l w call).stores
  unfolding call_result reads_only write_result_by write_unless remove_result_by remove_unless unchanged
  stored_one (write mode key value) =
      by_refusal (λ (c : CallResult). OneStored l w c.stores) _ _ _ (write_stored key value _ _ _) (none_stored refl)
  stored_one (remove key) = by_refusal (λ (c : CallResult). OneStored l w c.stores) _ _ _ (remove_stored key _ _ _) (none_stored refl)
  stored_one (get key out) = none_stored refl
  stored_one (locate key) = none_stored refl

-- a call that answers a refusal is one that the rules refuse
pub refusal_still : (l : ℕ) (w : World) (m : PlainMap) (call : Call) → CallCorrect l w m call → (number : ℕ) → (call_result l w call).answer ≡ refused number
    → Unchanged w (out_of call) (call_result l w call)
unfolding is_refusal
refusal_still l w m call right number e =
    right.refused_still (λ z. true≢false (ap is_refusal (sym e ∙ right.answer z) ∙ plain_given _ _ _ m call))
