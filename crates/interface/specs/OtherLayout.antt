-- The set's calls on an image of the other layout. Document 02, A.11: "Each layout has its own calls, book and baskets
-- included, which give 3 on the other's images".
use Rattle.std.specs.Prelude.{◌≡◌, List, [], ℕ, length, replicate}
use Rattle.prelude.specs.Answer.{refused}
use Rattle.stores.specs.Store.{Store}
use Rattle.recovery.specs.Invalidation.{invalidations_of}
use Rattle.recovery.specs.Recover.{refused_result, recover_result}
use Rattle.slot_counts.specs.Count.{count_result}
use Rattle.cut_counts.specs.CutCount.{cut_count_result}
use Rattle.calls.specs.Basket.{basket_result}
use Rattle.calls.specs.BasketItems.{KeyChange}
use Rattle.calls.specs.BasketRefusals.{given_fault}
use Rattle.calls.specs.BasketList.{buffers_after_list}
use Rattle.plainmap.specs.World.{World, Call, out_of, call_result}
use Rattle.plainmap.specs.Claims.{Unchanged}
use Rattle.plainmap.specs.Baskets.{Basket, basket_call_result}

-- what the calls of layout l answer and leave on the set w: 3, and nothing changes. "1, 2" stand before it, and an
-- image with a header of another layout meets neither
pub record CallsGive3 (l : ℕ) (w : World) : Type 0 where
  pub recover : recover_result l w.image w.index.heads w.index.next ≡ refused_result 3 0 (invalidations_of []) w.index.heads w.index.next
  -- insert, replace, remove, get and locate
  pub call : (c : Call) → (call_result l w c).answer ≡ refused 3
  pub call_still : (c : Call) → Unchanged w (out_of c) (call_result l w c)
  -- A.4: "A call refused before or by the chain check reports 0"
  pub call_compares : (c : Call) → (call_result l w c).compared ≡ 0
  -- a basket, where 26, 27 and 13, which stand before "1, 2, 3", are not due
  pub basket : (b : Basket) → given_fault b.changes b.at b.words ≡ 0 → (basket_call_result l w b).answer ≡ refused 3
  pub basket_still : (b : Basket) → given_fault b.changes b.at b.words ≡ 0 → Unchanged w [] (basket_call_result l w b)
  -- a basket whose stores fill a lent list, which stays as it was
  pub basket_list : (changes : List KeyChange) (list : List Store) → given_fault changes (length list) (length list) ≡ 0
      → buffers_after_list list (basket_result l w.image w.index changes (length list) (length list))
      ≡ record { answer = refused 3; slots = replicate 8 0; list = list; index = w.index }
  pub count_slots : count_result l w.image w.index.heads w.index.next
      ≡ record { answer = refused 3; slot = 0; lists = record { heads = w.index.heads; next = w.index.next } }
  pub count_cuts : (at value copy later : List ℕ) → cut_count_result l w.image at value copy later ≡ record { answer = refused 3; copy = copy; later = later }
