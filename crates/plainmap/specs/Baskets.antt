-- Baskets and the plain map. Document 02, A.7: "Brokers send up to eight linked orders and want all or none after a
-- cut".
use Rattle.std.specs.Prelude.{◌≡◌, Bool, List, [], ◌∷◌, ℕ, ◌^◌, ◌<◌, length}
use Rattle.words.specs.Word.{AreBytes}
use Rattle.prelude.specs.Refusal.{or_else}
use Rattle.prelude.specs.Answer.{Answer, gives, refusal_in}
use Rattle.layout.specs.Size.{slots_in}
use Rattle.table.specs.Table.{is_held, next_version}
use Rattle.table.specs.Complete.{table_of}
use Rattle.index.specs.Allocation.{Allocation, taken, too_few, bad_link}
use Rattle.index.specs.Basket.{taken_slots}
use Rattle.index.specs.declared.Action.{Action}
use Rattle.index.specs.declared.Action.TheVariants.{Write, Remove}
use Rattle.index.specs.declared.Mode.TheVariants.{Insert, Replace}
use Rattle.allocation.specs.Allocation.{allocation_by_rule}
use Rattle.calls.specs.declared.BasketItem.{BasketItem}
use Rattle.calls.specs.Basket.{basket_result, basket_result_by, basket_by_rule}
use Rattle.calls.specs.BasketItems.{KeyChange}
use Rattle.calls.specs.BasketRefusals.{given_fault, first_fault, value_fault, action_fault, inserts_by, removes_by, sum_over}
use Rattle.calls.specs.Result.{CallResult}
use Rattle.plainmap.specs.World.{World}
use Rattle.plainmap.specs.Plain.{PlainMap, Update, giving, dropping, Room, room_rule}
use Rattle.plainmap.specs.Claims.{room_of, Unchanged}

-- a basket: what it asks for its keys, and the lengths of the two lists that it is lent for its stores
pub record Basket : Type 0 where
  pub changes : List KeyChange
  pub at : ℕ
  pub words : ℕ

-- the basket by its contract
unfoldable pub basket_call_result : (l : ℕ) → World → Basket → CallResult
basket_call_result l w b = basket_result l w.image w.index b.changes b.at b.words

-- by the call of either family, for the owner of its index or not
unfoldable pub basket_call_result_by : (own : Bool) → (l : ℕ) → World → Basket → CallResult
basket_call_result_by own l w b = basket_result_by own l w.image w.index b.changes b.at b.words

-- and by the taking rule
unfoldable pub basket_call_result_by_rule : (l : ℕ) → World → Basket → CallResult
basket_call_result_by_rule l w b = basket_by_rule l w.image w.index b.changes b.at b.words

-- what it makes of the plain map where it is not refused: each of its keys in turn
unfoldable pub key_update : Action → (key : ℕ) → (value : List ℕ) → Update
key_update (Write mode) key value = giving key value
key_update Remove key value = dropping key

unfoldable pub basket_updates : List KeyChange → List Update
basket_updates [] = []
basket_updates (c ∷ cs) = key_update c.action c.key c.value ∷ basket_updates cs

-- where the rules refuse it on an image with its own index: 26, 27, 13; 10; 20 or 21 of the first key that is not as
-- asked; 28, 9
unfoldable pub basket_rule : (l : ℕ) → Room → PlainMap → Basket → ℕ
basket_rule l r m b =
    or_else (given_fault b.changes b.at b.words)
    (or_else (first_fault (λ c. value_fault l c.action (length c.value)) b.changes)
    (or_else (first_fault (λ c. action_fault c.action (is_held (m c.key))) b.changes)
    (room_rule r (length b.changes) (sum_over inserts_by b.changes) (sum_over removes_by b.changes))))

abbrev pub expected_basket_refusal : (l : ℕ) → World → PlainMap → Basket → ℕ
expected_basket_refusal l w m b = basket_rule l (room_of l w.image) m b

-- "It answers its version and slots": those that the taking rule names
unfoldable pub slots_taken : Allocation → List ℕ
slots_taken (taken ts) = taken_slots ts
slots_taken too_few = []
slots_taken bad_link = []

abbrev pub expected_basket_answer : (l : ℕ) → World → Basket → Answer
expected_basket_answer l w b =
    gives
    (next_version (table_of l w.image) (slots_in w.image)
    ∷ slots_taken (allocation_by_rule l w.image w.index.next (slots_in w.image) w.index.state.first (length b.changes)))

-- the answer is right: refused exactly where the rules refuse it, which changes nothing, and otherwise the version and
-- the slots that the taking rule names
pub record BasketCorrect (l : ℕ) (w : World) (m : PlainMap) (b : Basket) : Type 0 where
  pub refusal : refusal_in (basket_call_result l w b).answer ≡ expected_basket_refusal l w m b
  pub answer : expected_basket_refusal l w m b ≡ 0 → (basket_call_result l w b).answer ≡ expected_basket_answer l w b
  pub refused_still : (expected_basket_refusal l w m b ≡ 0 → ⊥) → Unchanged w [] (basket_call_result l w b)

-- the key of a change has l words, and its value is bytes
pub record TypedChange (l : ℕ) (c : KeyChange) : Type 0 where
  pub key_fits : c.key < (2 ^ 64) ^ l
  pub bytes : AreBytes c.value

-- the two words of an item's key are words, as its type has it
pub record TypedItem (k : BasketItem) : Type 0 where
  pub low_word : k.low < 2 ^ 64
  pub high_word : k.high < 2 ^ 64
