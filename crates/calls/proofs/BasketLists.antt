-- A basket whose stores are made in arrays of 128 numbers and go to a lent list of records. Assumes nothing.
use mathlib.Core.Path.{◌≡◌, refl, sym, ap, ap₂, ◌∙◌}
use mathlib.Core.Bool.{Bool, cond, false, true}
use mathlib.Core.List.{List, [], ◌∷◌, ◌++◌}
use Prim.Native.Nat.{ℕ, zero, suc, ◌+◌, ◌*◌, ◌≤◌, ◌<◌, min}
use native.Mathlib.Omega.{arith}
use borrow.Author.Tests.{lt-ltb, le-ltb, ltb-false}
use lib.Dec.{ltb}
use lib.ListN.{length, take, drop}
use Rattle.prelude.specs.Answer.{Answer, gives, absent, refused}
use Rattle.prelude.specs.Refusal.{refuse_if, or_else, unless_refused}
use Rattle.prelude.proofs.Refusals.{or_else_zero, refuse_if_zero}
use Rattle.prelude.proofs.Choice.{pick_true, pick_false, lesser_short}
use Rattle.layout.specs.Size.{slots_in}
use Rattle.words.specs.Word.{word}
use Rattle.table.specs.Complete.{size_field_for}
use Rattle.stores.specs.Store.{Store, zipped}
use Rattle.stores.specs.Play.{word_numbers, values}
use Rattle.stores.specs.Basket.{BasketRecord, basket_stores}
use Rattle.stores.specs.Written.{record_stores, line_stores, run}
use Rattle.stores.proofs.ListPut.{zipped-length, front_stores}
use Rattle.index.specs.Allocation.{Taken, Allocation, taken, too_few, bad_link}
use Rattle.index.specs.declared.State.{State}
use Rattle.allocation.proofs.Own.{chosen_inside}
use Rattle.allocation.specs.Allocation.{allocation_chosen_by}
use Rattle.calls.specs.Result.{CallResult, unchanged}
use Rattle.calls.specs.BasketItems.{KeyChange, changes_of}
use Rattle.calls.specs.BasketRefusals.{key_count_fault, any_twice, lists_fault, given_fault, basket_fault_by}
use Rattle.calls.specs.BasketBuffers.{basket_says, BasketBuffers, basket_end, at_front, buffers_after_lists}
use Rattle.calls.specs.BasketList.{BasketListBuffers, basket_list_end, left_with, buffers_after_list}
use Rattle.calls.specs.Basket.{records_for, basket_made, basket_done, basket_unless, basket_result_by}
use Rattle.calls.specs.inner.Basket.{stores_by, basket_store_count, MadeOf}
use Rattle.calls.specs.declared.BasketItem.{BasketItem}
use Rattle.calls.specs.declared.BasketAnswer.{BasketAnswer}
use Rattle.calls.specs.declared.BasketMade.{BasketMade}
use Rattle.calls.specs.declared.BasketOutcome.{BasketOutcome}
use Rattle.calls.specs.declared.BasketOutcome.TheVariants.{Stored, Refused}
use Rattle.calls.proofs.BasketChecks.{so_many, count_few}
use Rattle.index.specs.Index.{index_of, Index}

-- ---- arrays of 128 numbers hold what eight keys ask for: 13 comes by the list's length

given_room : (changes : List KeyChange) (room : ℕ) → given_fault changes (min 128 room) (min 128 room) ≡ given_fault changes room room
unfolding given_fault lists_fault or_else
given_room changes room = go (key_count_fault (length changes)) refl
  where
    tested : Bool → ℕ
    tested t = refuse_if (any_twice changes) 27 (refuse_if t 13 (refuse_if t 13 0))

    go : (k : ℕ) → key_count_fault (length changes) ≡ k → or_else k (tested (ltb (min 128 room) (16 * length changes)))
        ≡ or_else k (tested (ltb room (16 * length changes)))
    go zero e = ap tested (lesser_short (16 * length changes) 128 room (omega (arith, (count_few (length changes) _ refl e).1)))
    go (suc k) e = refl

pub result_room : (own : Bool) (l : ℕ) (image heads next : List ℕ) (s : State) (changes : List KeyChange) (room : ℕ)
    → basket_result_by own l image (index_of heads next s) changes (min 128 room) (min 128 room)
    ≡ basket_result_by own l image (index_of heads next s) changes room room
unfolding basket_result_by basket_unless basket_fault_by
result_room own l image heads next s changes room = rw (given_room changes room) refl

-- ---- how many stores there are

pub too-many : (outcome : BasketOutcome) (count : ℕ) → 8 < count → (0 ≡ basket_store_count outcome count) × (0 ≤ 128)
unfolding basket_store_count
too-many outcome count h = (sym (pick_true (ltb 8 count) _ _ (lt-ltb 8 count h)), omega arith)

pub all_stored : (outcome : BasketOutcome) (count version : ℕ) → outcome ≡ Stored version → count ≤ 8
    → (16 * count ≡ basket_store_count outcome count) × (16 * count ≤ 128)
unfolding basket_store_count stores_by
all_stored outcome count version e h =
    (ap (λ (o : BasketOutcome). stores_by o count) (sym e) ∙ sym (pick_false (ltb 8 count) _ _ (le-ltb 8 count h)), omega arith)

pub none_stored : (outcome : BasketOutcome) (count number : ℕ) → outcome ≡ Refused number → count ≤ 8 → (0 ≡ basket_store_count outcome count) × (0 ≤ 128)
unfolding basket_store_count stores_by
none_stored outcome count number e h =
    (ap (λ (o : BasketOutcome). stores_by o count) (sym e) ∙ sym (pick_false (ltb 8 count) _ _ (le-ltb 8 count h)), omega arith)

-- as the answer says
count_in : Answer → ℕ → ℕ
count_in (gives given) count = 16 * count
count_in absent count = 0
count_in (refused number) count = 0

says_count : (slots : List ℕ) (outcome : BasketOutcome) (count : ℕ) → stores_by outcome count ≡ count_in (basket_says slots outcome) count
unfolding stores_by basket_says count_in
says_count slots (Stored version) count = refl
says_count slots (Refused number) count = refl

sixteen : (l : ℕ) (m : ℕ → ℕ) (number version : ℕ) (e : BasketRecord) (rest : List Store)
    → length (record_stores l m e.slot e.key e.kind number e.value version ++ rest) ≡ 16 + length rest
unfolding record_stores line_stores run
sixteen l m number version e rest = omega arith

stores_length : (l : ℕ) (m : ℕ → ℕ) (number version : ℕ) (es : List BasketRecord) → length (basket_stores l m number version es) ≡ 16 * length es
unfolding basket_stores
stores_length l m number version [] = refl
stores_length l m number version (e ∷ es) =
    sixteen l m number version e (basket_stores l m number version es) ∙ omega (arith, stores_length l m number version es)

records_length : (cs : List KeyChange) (ts : List Taken) → length ts ≡ length cs → length (records_for cs ts) ≡ length cs
unfolding records_for
records_length [] ts e = refl
records_length (c ∷ cs) [] e = absurd (omega arith)
records_length (c ∷ cs) (t ∷ ts) e = omega (arith, records_length cs ts (omega arith))

-- the stores of a result are as many as its answer says, and a list with this room holds them
record StoresCounted (count room : ℕ) (r : CallResult) : Type 0 where
  number : cond (ltb 8 count) 0 (count_in r.answer count) ≡ length r.stores
  in_room : length r.stores ≤ room

none_handed : (count room number : ℕ) (i : Index) → StoresCounted count room (unchanged (refused number) i 0)
unfolding unchanged count_in
none_handed count room number i = record { number = same (ltb 8 count); in_room = omega arith }
  where
    same : (b : Bool) → ◌≡◌ {A = ℕ} (cond b 0 0) 0
    same true = refl
    same false = refl

module _ (own : Bool) (l : ℕ) (image heads next : List ℕ) (s : State) (count : ℕ) (items : List BasketItem) (bytes : List ℕ) (room : ℕ) where
  abbrev changes : List KeyChange
  changes = changes_of l count items bytes

  few : given_fault changes room room ≡ 0 → (count ≤ 8) × (16 * count ≤ room)
  unfolding given_fault lists_fault
  few z =
      let a = or_else_zero _ _ z in
      let b = refuse_if_zero _ _ _ a.1 (omega arith) in
      let c = refuse_if_zero _ _ _ b.1 (omega arith) in (
        omega (arith, (count_few (length changes) _ refl a.0).1, so_many l items bytes count),
        omega (arith, ltb-false room (16 * length changes) c.0, so_many l items bytes count),
      )

  all_handed : (count ≤ 8) × (16 * count ≤ room) → (t : Allocation)
      → allocation_chosen_by own l image next (slots_in image) s.first s.newest (length changes) ≡ t
      → StoresCounted count room (basket_done l image (index_of heads next s) changes t)
  unfolding basket_done basket_made count_in
  all_handed h (taken ts) e =
      record {
        number = pick_false (ltb 8 count) _ _ (le-ltb 8 count h.0) ∙ sym size;
        in_room = omega (arith, size, h.1);
      }
    where
      size : length (basket_stores l (word image) (size_field_for (length changes)) s.version (records_for changes ts)) ≡ 16 * count
      size =
          stores_length l (word image) (size_field_for (length changes)) s.version (records_for changes ts)
          ∙ ap (λ (n : ℕ). 16 * n) (records_length changes ts (chosen_inside l image next (slots_in image) s.first s.newest (length changes) own ts e).1
          ∙ so_many l items bytes count)
  all_handed h too_few e = none_handed count room 28 (index_of heads next s)
  all_handed h bad_link e = none_handed count room 11 (index_of heads next s)

  abbrev result : CallResult
  result = basket_result_by own l image (index_of heads next s) changes room room

  counted : StoresCounted count room result
  unfolding basket_result_by basket_unless basket_fault_by unless_refused
  counted = go (basket_fault_by own l image (index_of heads next s) changes room room) refl
    where
      go : (k : ℕ) → basket_fault_by own l image (index_of heads next s) changes room room ≡ k
          → StoresCounted count room
          (unless_refused k (basket_done l image (index_of heads next s) changes
          (allocation_chosen_by own l image next (slots_in image) s.first s.newest (length changes)))
          (unchanged (refused k) (index_of heads next s) 0))
      go zero e = all_handed (few (or_else_zero _ _ e).0) _ refl
      go (suc k) e = none_handed count room (suc k) (index_of heads next s)

  -- ---- what the call that makes the stores in arrays leaves

  made-by : BasketBuffers → List Store → BasketListBuffers
  made-by b list = record { answer = b.answer; slots = b.slots; list = list; index = b.index }

  module _ (a : BasketAnswer) (at₀ words₀ at₁ words₁ heads₁ next₁ : List ℕ) (stored : ℕ) (rest rest' : List ℕ) (en : length at₀ ≡ min 128 room)
      (em : length words₀ ≡ min 128 room)
      (es : stored ≡ basket_store_count a.outcome count)
      (e : basket_end count a at₁ words₁ heads₁ next₁ ≡ buffers_after_lists at₀ words₀
      (basket_result_by own l image (index_of heads next s) changes (length at₀) (length words₀))) where
    left-by : basket_end count a at₁ words₁ heads₁ next₁ ≡ buffers_after_lists at₀ words₀ result
    left-by =
        e
        ∙ ap (buffers_after_lists at₀ words₀)
        (ap₂ (basket_result_by own l image (index_of heads next s) changes) en em ∙ result_room own l image heads next s changes room)

    as_many : stored ≡ length result.stores
    unfolding basket_store_count buffers_after_lists
    as_many =
        es
        ∙ ap (λ (n : ℕ). cond (ltb 8 count) 0 n)
        (says_count (take count a.slots) a.outcome count ∙ ap (λ (x : Answer). count_in x count) (ap (λ (b : BasketBuffers). b.answer) left-by))
        ∙ counted.number

    stores_are : zipped (take stored (at₁ ++ rest)) (take stored (words₁ ++ rest')) ≡ result.stores
    unfolding buffers_after_lists at_front
    stores_are =
        ap₂ (λ (n : ℕ) (b : BasketBuffers). zipped (take n (b.at ++ rest)) (take n (b.words ++ rest'))) as_many left-by
        ∙ front_stores result.stores (drop (length (word_numbers result.stores)) at₀) rest (drop (length (values result.stores)) words₀) rest'

    pub made : stored ≤ 128
        → MadeOf result room count (record { answer = a; stored = stored; at = at₁ ++ rest; words = words₁ ++ rest' }) heads₁ next₁
    unfolding buffers_after_lists left_with made-by
    made h = record { left = ap₂ made-by left-by stores_are; in_room = omega (arith, as_many, counted.in_room); in_arrays = h }

-- ---- what the call that puts them into a list leaves

pub in_list : (r : CallResult) (room count : ℕ) (m : BasketMade) (heads next : List ℕ) → MadeOf r room count m heads next
    → m.stored ≤ length m.at → m.stored ≤ length m.words → (list : List Store)
    → basket_list_end count m.answer (zipped (take m.stored m.at) (take m.stored m.words) ++ drop m.stored list) heads next
    ≡ buffers_after_list list r
unfolding buffers_after_list left_with at_front
in_list r room count m heads next made h k list =
    ap (λ (n : ℕ). basket_list_end count m.answer (zipped (take m.stored m.at) (take m.stored m.words) ++ drop n list) heads next)
    (sym (zipped-length m.at m.words m.stored h k))
    ∙ ap (λ (b : BasketListBuffers). record { answer = b.answer; slots = b.slots; list = b.list ++ drop (length b.list) list; index = b.index })
    made.left
