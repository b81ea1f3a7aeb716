-- DEMAND 2 as one statement: together the calls are a plain map from key to value, for every history without cuts.
use Rattle.std.specs.Prelude.{◌≡◌, Bool, List, [], ◌∷◌, ℕ, ◌<◌, length}
use Rattle.std.proofs.Math.Option.{none}
use Rattle.layout.specs.Size.{slots_of, slots_in}
use Rattle.table.specs.Takeable.{taken_of, takeable_count}
use Rattle.index.specs.Index.{Chain, reuse, head, head_of}
use Rattle.index.specs.Walk.{slot_key, search, Counted}
use Rattle.recovery.specs.Recover.{chains_of}
use Rattle.recovery.specs.Represents.{Answers}
use Rattle.calls.specs.Format.{formatted}
use Rattle.plainmap.specs.World.{World, Call, finished, recovered_world, call_result, call_result_by, call_result_by_rule, Restart, restarted}
use Rattle.layout.specs.Content.{contents_of}
use Rattle.table.specs.Complete.{table_of}
use Rattle.plainmap.specs.Plain.{PlainMap}
use Rattle.plainmap.specs.Accepted.{Accepted, RightSize, RestartFits}
use Rattle.plainmap.specs.Consistency.{IndexConsistent, Refines}
use Rattle.plainmap.specs.Claims.{Typed, slots_map, CallCorrect, Reads, map_after_call}
use Rattle.plainmap.specs.Baskets.{Basket, basket_call_result, basket_call_result_by, basket_call_result_by_rule}
use Rattle.plainmap.specs.Room.{InsertsNew, RoomCorrect}
use Rattle.prelude.specs.Answer.{refusal_in}
use Rattle.prelude.specs.Members.{All}
use Rattle.prelude.specs.History.{Throughout}
use Rattle.stores.specs.Play.{play_end, play_list_result, word_numbers, values}

-- at each call the set is the plain map, by its slots and by get, and the call answers right; so it is at the end
abbrev pub PlainRule : (l : ℕ) → World → PlainMap → List Call → Type 0
PlainRule l = Throughout (finished l) (map_after_call l) (λ w m. Refines l w m × Reads l w m) (CallCorrect l)

-- the same, and document 02, A.7: "A single insert on a set grown from a formatted image meets 28 only when one slot is
-- left that holds no open key": a call is refused with 28 exactly where it inserts a key, which neither 10 nor 20
-- refuses, and one slot is left
abbrev pub GrownRule : (l : ℕ) → World → PlainMap → List Call → Type 0
GrownRule l =
    Throughout (finished l) (map_after_call l) (λ w m. Refines l w m × Reads l w m)
    (λ w m call. CallCorrect l w m call × RoomCorrect l w (InsertsNew l m call) (refusal_in (call_result l w call).answer))

-- together the calls are a plain map, for layout l
pub record IsMap (l : ℕ) : Type 0 where
  -- recovery of an accepted image leaves an index that is its own
  pub recovers : (image heads next : List ℕ) → Accepted l image → RightSize image heads next
      → IndexConsistent l (recovered_world l image heads next) (chains_of (table_of l image) (slots_in image) (length heads))
  -- in such an index a search finds a slot exactly for the keys that the map of the slots holds, that slot is the live
  -- one, and no chain gives 11
  pub finds : (w : World) (chains : Chain → List ℕ) → IndexConsistent l w chains → (key : ℕ)
      → Answers (table_of l w.image) (slots_in w.image) key (search l w.image w.index.heads w.index.next key)
  -- the count of slots compared is the place of the key in its chain, from 1, or the chain's whole length where it is
  -- absent
  pub counts : (w : World) (chains : Chain → List ℕ) → IndexConsistent l w chains → (key : ℕ)
      → Counted (slot_key l w.image) key (chains (head (head_of key (length w.index.heads)))) (search l w.image w.index.heads w.index.next key)
  -- every call is refused exactly where the rules refuse it, and otherwise answers as the plain map does; a refused
  -- call and an absent one change nothing
  pub answers : (w : World) (m : PlainMap) → Refines l w m → (call : Call) → Typed l call → CallCorrect l w m call
  -- with its stores played it leaves an accepted image, an index that is its own, and the plain map's next map
  pub keeps : (w : World) (m : PlainMap) → Refines l w m → (call : Call) → Typed l call → Refines l (finished l w call) (map_after_call l w m call)
  -- the play of a list of its stores leaves that image too
  pub list_plays : (w : World) (m : PlainMap) → Refines l w m → (call : Call) → Typed l call
      → play_list_result w.image (word_numbers (call_result l w call).stores) (values (call_result l w call).stores) ≡ play_end 0 (finished l w call).image
  -- a call that takes a slot takes the one that the taking rule names: the first that may be taken
  pub takes : (w : World) (m : PlainMap) (agrees : Refines l w m) → (0 < takeable_count (table_of l w.image) (slots_in w.image))
      → taken_of (contents_of l w.image) (slots_in w.image) 1 (agrees.chains reuse) ≡ w.index.state.first ∷ []
  -- the whole call, and the whole basket, is that of the taking rule: slots, stores and index. Document 02, A.7: "with
  -- an index not the image's own, only refusals are fixed, of single calls too"
  pub call_by_rule : (w : World) (m : PlainMap) → Refines l w m → (call : Call) → call_result l w call ≡ call_result_by_rule l w call
  pub basket-by-rule : (w : World) (m : PlainMap) → Refines l w m → (b : Basket) → basket_call_result l w b ≡ basket_call_result_by_rule l w b
  -- the calls for the owner of an index, which are no calls of document 01, are the calls for any index: answer,
  -- stores, index and state. So all that is said of calls and baskets holds of both families, and a list may use either
  -- at each step
  pub either_call : (w : World) (m : PlainMap) → Refines l w m → (own : Bool) (call : Call) → call_result_by own l w call ≡ call_result l w call
  pub either_basket : (w : World) (m : PlainMap) → Refines l w m → (own : Bool) (b : Basket) → basket_call_result_by own l w b ≡ basket_call_result l w b
  -- get with the recovered index gives the map that the slots of an accepted image give
  pub reads : (image heads next : List ℕ) → Accepted l image → RightSize image heads next → Reads l (recovered_world l image heads next) (slots_map l image)
  -- a formatted image's map is empty
  pub empty : (len : ℕ) → (slots_of len ≡ 0 → ⊥) → (key : ℕ) → slots_map l (formatted l len) key ≡ none
  -- every list of calls answers as the plain map does
  pub lists : (w : World) (m : PlainMap) (calls : List Call) → Refines l w m → All (Typed l) calls → PlainRule l w m calls
  -- and so does every list from an accepted image, with the index and state that recovery leaves and its invalidating
  -- stores played, with any cuts among them; the plain map "starts as the accepted image's slots give it"
  pub recovered_lists : (image : List ℕ) (start : Restart) → Accepted l image → RestartFits (slots_in image) start
      → (calls : List Call) → All (Typed l) calls → PlainRule l (restarted l image start) (slots_map l image) calls
  -- on a set grown from a formatted image, whose plain map starts empty, room is right too
  pub grown_lists : (len : ℕ) (start : Restart) → (slots_of len ≡ 0 → ⊥) → RestartFits (slots_of len) start
      → (calls : List Call) → All (Typed l) calls → GrownRule l (restarted l (formatted l len) start) (λ k. none) calls
