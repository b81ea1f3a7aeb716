-- A history on four slots: one power cut tears a basket, a second one strikes among recovery's invalidating stores, and
-- other calls follow. Document 02, A.7: "with fewer valid records than it says, all of them are void"; "these are
-- played and fenced before any other call, and a cut among them is covered".
use Rattle.std.specs.Prelude.{true, false, cond, List, [], ◌∷◌, ◌++◌, ℕ, eqb, length, replicate}
use Rattle.prelude.specs.Answer.{Answer, gives, absent, refused}
use Rattle.recovery.specs.Recover.{recover_result}
use Rattle.recovery.specs.Invalidation.{stores_in}
use Rattle.index.specs.declared.Action.{Action}
use Rattle.index.specs.declared.Action.TheVariants.{Write}
use Rattle.index.specs.declared.Mode.TheVariants.{Insert, Replace}
use Rattle.calls.specs.Format.{formatted}
use Rattle.calls.specs.BasketItems.{changes_of}
use Rattle.calls.specs.declared.BasketItem.{BasketItem}
use Rattle.plainmap.specs.World.{World, write, get, call_result_by, Round, after_round, Restart, restarted}
use Rattle.plainmap.specs.Baskets.{Basket, basket_call_result_by}
use Rattle.interface.specs.Event.{Cut, Event, done, struck, image_cut, request_of}
use Rattle.book.specs.Steps.{BookAnswer, taken, already, declined, booked_by}
use Rattle.cut_rule.specs.Request.{Request, a_call, a_basket, a_step, request_effects, world_after_request}
use Rattle.examples.specs.Trial.{small, one_head, recovering}

-- the book's answer as an answer of the set
unfoldable pub book_answer_as : BookAnswer → Answer
book_answer_as (taken values) = gives values
book_answer_as (already values) = gives values
book_answer_as (declined number) = refused number

-- what a request answers
unfoldable pub answer_to : World → Request → Answer
answer_to w (a_call own call) = (call_result_by own 1 w call).answer
answer_to w (a_basket own b) = (basket_call_result_by own 1 w b).answer
answer_to w (a_step own step) = book_answer_as (booked_by own 1 w step).answer

-- what each request of a list answers
unfoldable pub answers_to : World → List (Event Request) → List Answer
answers_to w [] = []
answers_to w (event ∷ events) = answer_to w (request_of event) ∷ answers_to (world_after_request 1 w event) events

-- ---- baskets, as the function takes them: eight items, of which the first ones count, and 640 bytes

-- an item with a value of 8 bytes
unfoldable pub item : Action → (key : ℕ) → BasketItem
item action key = record { action = action; low = key; high = 0; length = 8 }

-- the 8 bytes of a small number, at the front of an item's 80
unfoldable pub eighty_bytes : ℕ → List ℕ
eighty_bytes n = small n ++ replicate 72 0

-- the values 1, 2 and 3
unfoldable pub basket_bytes : List ℕ
basket_bytes = eighty_bytes 1 ++ (eighty_bytes 2 ++ (eighty_bytes 3 ++ replicate 400 0))

unfoldable pub basket_given : (count : ℕ) → List BasketItem → Basket
basket_given count items = record { changes = changes_of 1 count items basket_bytes; at = 128; words = 128 }

-- keys 7, 8 and 9 are inserted
unfoldable pub three_items : List BasketItem
three_items = item (Write Insert) 7 ∷ item (Write Insert) 8 ∷ item (Write Insert) 9 ∷ replicate 5 (item (Write Insert) 0)

-- key 8 is replaced, and key 7 inserted
unfoldable pub two_items : List BasketItem
two_items = item (Write Replace) 8 ∷ item (Write Insert) 7 ∷ replicate 6 (item (Write Insert) 0)

-- ---- the history

-- next for four slots, with anything in it
unfoldable pub four_slots : List ℕ
four_slots = 9 ∷ 9 ∷ 9 ∷ 9 ∷ 9 ∷ []

-- of the basket's lines, those of slots 1, 2 and 3, all stores stand but of the last one's: the records in slots 1 and
-- 2 are whole, that in slot 3 is broken
unfoldable pub tearing : ℕ → ℕ
tearing n = cond (eqb n 7) 3 8

-- recovery hands out a store for slot 1 and one for slot 2; a cut leaves the first
unfoldable pub invalidation_cut : Round
invalidation_cut = record { lent = record { heads = one_head; next = four_slots }; counts = λ n. cond (eqb n 2) 1 0 }

-- and recovery runs again
unfoldable pub two_cuts : Cut
two_cuts = record { counts = tearing; restart = record { rounds = invalidation_cut ∷ []; lent = record { heads = one_head; next = four_slots } } }

-- an empty set of four slots
unfoldable pub empty_four : World
empty_four = restarted 1 (formatted 1 640) (recovering four_slots)

-- key 7 is asked for; key 8 is inserted, by the call for the owner of the index; the basket of two keys is done, by the
-- call for any index; keys 7 and 9 are asked for
unfoldable pub after_tearing : List (Event Request)
after_tearing =
    done (a_call false (get 7 (replicate 8 0))) ∷ done (a_call true (write Insert 8 (small 5))) ∷ done (a_basket false (basket_given 2 two_items))
    ∷ done (a_call false (get 7 (replicate 8 0))) ∷ done (a_call false (get 9 (replicate 8 0))) ∷ []

-- all of it after the basket of three keys is torn, a call for the owner
unfoldable pub torn_history : List (Event Request)
torn_history = struck (a_basket true (basket_given 3 three_items)) two_cuts ∷ after_tearing

-- the torn basket answered version 1 and slots 1, 2 and 3, and nothing of it is there; the insert takes slot 1 and
-- version 2; the basket takes slots 2 and 3 and version 3
unfoldable pub torn_answers : List Answer
torn_answers = gives (1 ∷ 1 ∷ 2 ∷ 3 ∷ []) ∷ absent ∷ gives (1 ∷ 2 ∷ []) ∷ gives (3 ∷ 2 ∷ 3 ∷ []) ∷ gives (8 ∷ []) ∷ absent ∷ []

-- ---- recovery on the way

-- the image that the first cut leaves
unfoldable pub torn_image : List ℕ
torn_image = image_cut empty_four (request_effects 1 empty_four (a_basket true (basket_given 3 three_items))) two_cuts

-- how many stores recovery hands out, one for each void record
unfoldable pub void_count : (image : List ℕ) → ℕ
void_count image = length (stores_in (recover_result 1 image one_head four_slots).invalidations)
