-- THE INTERFACE OF THE SET: the laws by which a layer above knows it. What holds of the calls whatever the set is in
-- CallLaws and in Numbers.
use Rattle.std.specs.Prelude.{◌≡◌, Bool, List, [], ℕ, ◌+◌, ◌*◌, ◌≤◌, length}
use Rattle.std.proofs.Math.Option.{none}
use Rattle.words.specs.Word.{AreBytes}
use Rattle.prelude.specs.Answer.{gives, refusal_in}
use Rattle.prelude.specs.Members.{All}
use Rattle.layout.specs.Size.{slots_of, slots_in}
use Rattle.layout.specs.Header.{index_fault}
use Rattle.stores.specs.Play.{word_numbers, play_fault, playing, half_counts}
use Rattle.recovery.specs.Recover.{state_values, recover_fault, recover_result}
use Rattle.stores.specs.Store.{Store, played, standing}
use Rattle.calls.specs.Change.{stores_after, write_fault, write_result, remove_fault, remove_result}
use Rattle.calls.specs.Basket.{basket_result}
use Rattle.calls.specs.BasketItems.{KeyChange, changes_of}
use Rattle.calls.specs.BasketRefusals.{basket_fault}
use Rattle.calls.specs.declared.BasketItem.{BasketItem}
use Rattle.calls.specs.Format.{formatted}
use Rattle.plainmap.specs.World.{World, Call, write, remove, call_result, Restart, invalidated_world, restarted, recovered_world, call_result_by}
use Rattle.plainmap.specs.World.{call_result_by_rule}
use Rattle.index.specs.declared.Mode.{Mode}
use Rattle.index.specs.Index.{Index}
use Rattle.plainmap.specs.Plain.{PlainMap}
use Rattle.plainmap.specs.Accepted.{Accepted, RightSize}
use Rattle.plainmap.specs.Claims.{Typed, slots_map, CallCorrect, Reads}
use Rattle.plainmap.specs.Baskets.{Basket, BasketCorrect, TypedChange, TypedItem, basket_call_result, basket_call_result_by, basket_call_result_by_rule}
use Rattle.interface.specs.Event.{Cut, Event, struck, effects_of, image_cut, step, map_after_event, RestartFits, FitsBy, Fits, TypedBasket, basket_effects}
use Rattle.interface.specs.Event.{basket_step, map_after_basket}
use Rattle.interface.specs.Plays.{PlaysSingle, PlaysList}
use Rattle.interface.specs.Recovers.{Recovers, RecoversAlways}

-- an insert, a replace or a remove
pub data Writes : Call → Type 0 where
  write_writes : {mode : Mode} {key : ℕ} {value : List ℕ} → Writes (write mode key value)
  remove_writes : {key : ℕ} → Writes (remove key)

-- the lengths of a set's image and index
pub record Lengths (w : World) : Type 0 where
  pub image-size : length w.image ≡ 128 * (slots_in w.image + 1)
  pub next_size : length w.index.next ≡ slots_in w.image + 1
  pub index : RightSize w.image w.index.heads w.index.next

-- what holds of the calls in layout l whatever the set
pub record CallLaws (l : ℕ) : Type 0 where
  -- an accepted recovery answers the state that it leaves
  pub answers_state : (image heads next : List ℕ) → refusal_in (recover_result l image heads next).answer ≡ 0
      → (recover_result l image heads next).answer ≡ gives (state_values (recover_result l image heads next).index.state)
  -- a call answers at most two values
  pub few_values : (w : World) (call : Call) (given : List ℕ) → (call_result l w call).answer ≡ gives given → length given ≤ 2
  -- a call that writes and answers a slot hands out stores, which take the place of those lent to it
  pub hands_out : (w : World) (call : Call) → Writes call → (given : List ℕ) → (call_result l w call).answer ≡ gives given
      → (lent : List Store) → stores_after (call_result l w call).stores lent ≡ (call_result l w call).stores
  -- an insert, a replace, a remove and a basket are refused with the rules' number, whatever index they are given:
  -- "with an index not the image's own, only refusals are fixed, of single calls too"
  pub write_refusal : (image : List ℕ) (i : Index) (mode : Mode) (key : ℕ) (value : List ℕ)
      → refusal_in (write_result l image i mode key value).answer ≡ write_fault l image i mode key (length value)
  pub remove_refusal : (image : List ℕ) (i : Index) (key : ℕ) → refusal_in (remove_result l image i key).answer ≡ remove_fault l image i key
  pub basket_refusal : (image : List ℕ) (i : Index) (changes : List KeyChange) (at words : ℕ)
      → refusal_in (basket_result l image i changes at words).answer ≡ basket_fault l image i changes at words
  -- what the items and the values that a basket takes ask is typed: the cut rule speaks of every basket as its function
  -- takes it
  pub changes_typed : (items : List BasketItem) (bytes : List ℕ) → All TypedItem items → AreBytes bytes
      → (count : ℕ) → All (TypedChange l) (changes_of l count items bytes)
  -- a call and recovery leave as many heads as they were lent
  pub call-heads : (w : World) (call : Call) → length (call_result l w call).index.heads ≡ length w.index.heads
  pub recovery_heads : (image heads next : List ℕ) → length (recovered_world l image heads next).index.heads ≡ length heads
  -- an image that recovery does not refuse is an accepted one; and an accepted one it refuses with no index of the
  -- right size, which every index has with which it refuses nothing
  pub accepted : (image : List ℕ) (heads next : ℕ) → recover_fault l image heads next ≡ 0 → Accepted l image
  pub accepts_with : (image : List ℕ) (heads next : ℕ) → Accepted l image → index_fault (slots_in image) heads next ≡ 0
      → recover_fault l image heads next ≡ 0
  pub accepted_index : (image : List ℕ) (heads next : ℕ) → recover_fault l image heads next ≡ 0 → index_fault (slots_in image) heads next ≡ 0
  -- a restart keeps the number of slots
  pub restart_slots : (image : List ℕ) (r : Restart) → slots_in (restarted l image r).image ≡ slots_in image
  -- stores keep an image's length, and no stores change no byte
  pub plays_length : (ss : List Store) (image : List ℕ) → length (played ss image) ≡ length image
  pub plays_nothing : (image : List ℕ) → played [] image ≡ image
  -- the number of slots by an image's length; format keeps that length
  pub slots-of : (n : ℕ) → 2 ≤ n → n ≤ 65535 → slots_of (128 * (n + 1)) ≡ n
  pub formatted-length : (len : ℕ) → length (formatted l len) ≡ len

-- the laws of a set in layout l, for an invariant Inv of the world and the plain map beside it of which nothing else is
-- known
pub record SetLaws (l : ℕ) (Inv : World → PlainMap → Type 0) : Type 0 where
  -- ---- where the invariant holds

  -- recovery of an accepted image establishes it, with the map of the slots, once its invalidating stores are played,
  -- with any cuts among them
  pub after-recovery : (image : List ℕ) (r : Restart) → Accepted l image → RestartFits (slots_in image) r
      → Inv (restarted l image r) (slots_map l image)
  -- and recovery gives that map, however often it is struck
  pub always : (image : List ℕ) → Accepted l image → RecoversAlways l image (slots_map l image)
  -- a formatted image is accepted, and its map is empty
  pub fresh : (len : ℕ) (heads next : List ℕ) → (slots_of len ≡ 0 → ⊥) → index_fault (slots_of len) (length heads) (length next) ≡ 0
      → Accepted l (formatted l len) × Inv (invalidated_world l (formatted l len) heads next) (λ k. none)
  -- every event, struck or not, keeps it, with the plain map's next map
  pub keeps : (w : World) (m : PlainMap) → Inv w m → (event : Event Call) → Fits l (slots_in w.image) event
      → Inv (step l w event) (map_after_event l w m event)
  -- and after a cut recovery gives that map, however often it is struck
  pub keeps_always : (w : World) (m : PlainMap) → Inv w m → (call : Call) (cut : Cut) → Fits l (slots_in w.image) (struck call cut)
      → RecoversAlways l (image_cut w (effects_of (call_result l w call)) cut) (map_after_event l w m (struck call cut))
  -- ---- what it says

  -- recovery refuses nothing and gives the plain map; so does get with the present index
  pub recovers : (w : World) (m : PlainMap) → Inv w m → Recovers l w.image m
  pub reads : (w : World) (m : PlainMap) → Inv w m → Reads l w m
  -- and image and index have the lengths that belong to the number of slots
  pub lengths : (w : World) (m : PlainMap) → Inv w m → Lengths w
  -- every call is refused exactly where the rules refuse it, and otherwise answers as the plain map does
  pub answers : (w : World) (m : PlainMap) → Inv w m → (call : Call) → Typed l call → CallCorrect l w m call
  -- a call that writes and is neither refused nor absent has stores
  pub some_stores : (w : World) (m : PlainMap) → Inv w m → (call : Call) → Typed l call → Writes call → (given : List ℕ)
      → (call_result l w call).answer ≡ gives given → (call_result l w call).stores ≡ [] → ⊥
  -- play takes the stores of a call, if it has any, with any counts up to 8
  pub plays : (w : World) (m : PlainMap) → Inv w m → (call : Call) → Typed l call → ((call_result l w call).stores ≡ [] → ⊥)
      → (a b : ℕ) → a ≤ 8 → b ≤ 8 → play_fault (length w.image) (word_numbers (call_result l w call).stores) a b ≡ 0
  -- and leaves what a cut with these counts leaves
  pub plays_cut : (w : World) (m : PlainMap) → Inv w m → (call : Call) → Typed l call → (a b : ℕ) → a ≤ 8 → b ≤ 8
      → playing w.image (call_result l w call).stores a b ≡
      played (standing (half_counts (call_result l w call).stores a b) (call_result l w call).stores) w.image
  -- play makes of an event's stores the image that the next request or recovery gets, whatever the counts
  pub plays_event : (w : World) (m : PlainMap) → Inv w m → (event : Event Call) → Fits l (slots_in w.image) event
      → PlaysSingle l (λ v call. effects_of (call_result l v call)) w event
  -- the image is accepted
  pub accepts : (w : World) (m : PlainMap) → Inv w m → Accepted l w.image
  -- an event keeps the number of slots
  pub keeps_slots : (w : World) (m : PlainMap) → Inv w m → (event : Event Call) → Fits l (slots_in w.image) event
      → slots_in (step l w event).image ≡ slots_in w.image
  -- ---- calls for the owner of an index, which are no calls of document 01

  -- they are the calls for any index: answer, stores, index and state
  pub either_call : (w : World) (m : PlainMap) → Inv w m → (own : Bool) (call : Call) → call_result_by own l w call ≡ call_result l w call
  pub either_basket : (w : World) (m : PlainMap) → Inv w m → (own : Bool) (b : Basket) → basket_call_result_by own l w b ≡ basket_call_result l w b
  -- ---- the slots that are taken

  -- the whole call, and the whole basket, is that of the taking rule: slots, stores and index
  pub call_by_rule : (w : World) (m : PlainMap) → Inv w m → (call : Call) → call_result l w call ≡ call_result_by_rule l w call
  pub basket-by-rule : (w : World) (m : PlainMap) → Inv w m → (b : Basket) → basket_call_result l w b ≡ basket_call_result_by_rule l w b
  -- ---- baskets

  -- a basket is refused exactly where the rules refuse it, and otherwise answers its version and slots
  pub answers_basket : (w : World) (m : PlainMap) → Inv w m → (b : Basket) → TypedBasket l b → BasketCorrect l w m b
  -- every event of a basket, struck or not, keeps the invariant, with all of its changes or none, and recovery gives
  -- that map of each image on the way
  pub keeps_basket : (w : World) (m : PlainMap) → Inv w m → (event : Event Basket) → FitsBy (TypedBasket l) (slots_in w.image) event
      → Inv (basket_step l w event) (map_after_basket l w m event)
  pub keeps_basket_always : (w : World) (m : PlainMap) → Inv w m → (b : Basket) (cut : Cut) → FitsBy (TypedBasket l) (slots_in w.image) (struck b cut)
      → RecoversAlways l (image_cut w (basket_effects l w b) cut) (map_after_basket l w m (struck b cut))
  pub keeps_basket_slots : (w : World) (m : PlainMap) → Inv w m → (event : Event Basket) → FitsBy (TypedBasket l) (slots_in w.image) event
      → slots_in (basket_step l w event).image ≡ slots_in w.image
  -- the play of a list makes the stores of an event, all of them or those that stand
  pub plays_basket : (w : World) (m : PlainMap) → Inv w m → (event : Event Basket) → FitsBy (TypedBasket l) (slots_in w.image) event
      → PlaysList l (basket_effects l) w event
