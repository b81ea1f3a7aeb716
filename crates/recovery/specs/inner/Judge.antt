-- What recovery finds before it writes anything, and what it leaves.
use Rattle.std.specs.Prelude.{◌≡◌, Bool, true, cond, List, [], ℕ, suc, ◌+◌, ◌-◌, ◌*◌, ◌^◌, ◌≤◌, ◌<◌, eqb, ltb, length, get_or, set, replicate}
use Rattle.prelude.specs.Refusal.{refuse_if, or_else}
use Rattle.prelude.specs.Range.{any_of}
use Rattle.prelude.specs.Filter.{filter}
use Rattle.layout.specs.Content.{content, size_field_in, Table}
use Rattle.layout.specs.Header.{lent_fault}
use Rattle.layout.specs.Record.{Layout}
use Rattle.layout.specs.inner.Sized.{Sized}
use Rattle.index.specs.Index.{index_of, with_counts}
use Rattle.index.specs.Chained.{last_of}
use Rattle.index.specs.inner.Build.{build, place_in, unbuilt}
use Rattle.index.specs.declared.State.{State}
use Rattle.prelude.specs.Members.{slot_numbers}
use Rattle.table.specs.Table.{broken_limit, live_count, next_version}
use Rattle.table.specs.Order.{ordered}
use Rattle.table.specs.Complete.{SizeFields, settled}
use Rattle.sorting.specs.Sorted.{sorted}
use Rattle.recovery.specs.Recover.{slots_fault, slots_named}
use Rattle.stores.specs.Store.{Store}
use Rattle.stores.specs.Invalidation.{invalidating_stores}
use Rattle.recovery.specs.Invalidation.{void_slots, invalidations_of}
use Rattle.recovery.specs.inner.Scan.{key_at, Classed}
use Rattle.recovery.specs.inner.Decide.{run_fault, key_twice, live_place, Cleared, Within}
use Rattle.recovery.specs.declared.Invalidations.{Invalidations}
use Rattle.recovery.specs.declared.Judged.{Judged}
use Rattle.recovery.specs.declared.RecoverAnswer.{RecoverAnswer}
use Rattle.recovery.specs.declared.Recovered.TheVariants.{Rebuilt, Refused}

-- the order of the slots 1 to n by rank, and that order by key
pub record InOrder (ranks lows highs : List ℕ) (n : ℕ) (order by_key : List ℕ) : Type 0 where
  pub by_rank : order ≡ sorted (λ x. get_or ranks x 0) (slot_numbers n)
  pub keyed : by_key ≡ sorted (key_at lows highs) order

-- the image has n slots, there are b heads, and the scratch lists have their sizes: in layout 1 highs has no entry
pub record Judgeable (image : List ℕ) (l : ℕ) (ranks lows highs places order by_key scratch : List ℕ) (n b : ℕ) : Type 0 where
  pub layout : Layout l
  pub image-size : length image ≡ 128 * (n + 1)
  pub ranks_size : length ranks ≡ n + 1
  pub lows_size : length lows ≡ n + 1
  pub highs_size : length highs ≡ (l - 1) * (n + 1)
  pub places_size : length places ≡ n + 1
  pub order_size : length order ≡ n
  pub by_key_size : length by_key ≡ n
  pub scratch_size : length scratch ≡ n
  pub some_slots : 1 ≤ n
  pub few : n ≤ 65535
  pub heads_low : 1 ≤ b
  pub heads_high : b ≤ 65536

-- the image has n slots, and the order has n positions of them
pub record OrderNumbered (image : List ℕ) (l : ℕ) (order : List ℕ) (n : ℕ) : Type 0 where
  pub layout : Layout l
  pub image-size : length image ≡ 128 * (n + 1)
  pub order_size : length order ≡ n
  pub within : Within order n
  pub few : n ≤ 65535

-- the lists have their sizes, as in Judgeable
pub record Comparable (image : List ℕ) (l n : ℕ) (ranks lows highs order by_key scratch : List ℕ) : Type 0 where
  pub layout : Layout l
  pub image-size : length image ≡ 128 * (n + 1)
  pub ranks_size : length ranks ≡ n + 1
  pub lows_size : length lows ≡ n + 1
  pub highs_size : length highs ≡ (l - 1) * (n + 1)
  pub order_size : length order ≡ n
  pub by_key_size : length by_key ≡ n
  pub scratch_size : length scratch ≡ n
  pub some_slots : 1 ≤ n
  pub few : n ≤ 65535

-- the lists have their sizes, and the slots are in order
pub record Settleable (image : List ℕ) (n : ℕ) (ranks lows highs places order by_key scratch : List ℕ) : Type 0 where
  pub image-size : length image ≡ 128 * (n + 1)
  pub ranks_size : length ranks ≡ n + 1
  pub places_size : length places ≡ n + 1
  pub order_size : length order ≡ n
  pub by_key_size : length by_key ≡ n
  pub scratch_size : length scratch ≡ n
  pub some_slots : 1 ≤ n
  pub few : n ≤ 65535
  pub in_order : InOrder ranks lows highs n order by_key

-- what is lent has no fault of 1 to 4, and the image has n slots
pub record Ready (image : List ℕ) (l : ℕ) (heads next : List ℕ) (n : ℕ) : Type 0 where
  pub layout : Layout l
  pub lent : lent_fault l image (length heads) (length next) ≡ 0
  pub sized : Sized image heads next n
  pub heads_high : length heads ≤ 65536
  pub some_slots : 1 ≤ n

-- each scratch list has more than n entries
pub record Roomy (ranks lows highs places order by_key scratch : List ℕ) (n : ℕ) : Type 0 where
  pub ranks_room : n < length ranks
  pub lows_room : n < length lows
  pub highs_room : n < length highs
  pub places_room : n < length places
  pub order_room : n < length order
  pub by_key_room : n < length by_key
  pub scratch_room : n < length scratch

-- these orders, and whether 7 is found along them
pub record Compared (num : SizeFields) (ranks lows highs : List ℕ) (n : ℕ) (order by_key : List ℕ) (shared : Bool) : Type 0 where
  pub in_order : InOrder ranks lows highs n order by_key
  pub shared_is : shared
      ≡ cond (any_of (run_fault num ranks order) 0 (n - 1)) true (any_of (key_twice (key_at lows highs) ranks by_key) 0 (n - 1))

-- the slots of a rank above the limit lost rank and place, the lists are in order again, and the stores that open those
-- slots
pub record Settled (m : ℕ → ℕ) (limit n : ℕ) (ranks lows highs places ranks' places' order by_key : List ℕ) (opened : Invalidations) : Type 0 where
  pub cleared : Cleared limit n ranks places ranks' places'
  pub in_order : InOrder ranks' lows highs n order by_key
  pub opened_is : opened ≡ invalidations_of (invalidating_stores m (filter (λ s. ltb limit (get_or ranks s 0)) (slot_numbers n)))

-- the refusal of the slots from what was found: 5, the fault of the lowest slot at fault, 7, 25, 8; `broken` counts
-- void slots too
unfoldable pub found_fault : (mark : Bool) → (fault : ℕ) → (shared : Bool) → (broken live n : ℕ) → ℕ
found_fault mark fault shared broken live n =
    refuse_if mark 5 (or_else fault (refuse_if shared 7 (refuse_if (ltb broken_limit broken) 25 (refuse_if (eqb live n) 8 0))))

-- the slot that it names
unfoldable pub found_slot : (mark : Bool) → (slot : ℕ) → ℕ
found_slot mark slot = refuse_if mark 0 slot

-- of the settled table f of an accepted image: the order of all slots, the chain of each as a number, the live count
-- and the highest version
pub record Arranged (f : Table) (n b : ℕ) (order places : List ℕ) (live top : ℕ) : Type 0 where
  pub order_is : order ≡ ordered f (slot_numbers n)
  pub place_is : (s : ℕ) → 0 < s → s ≤ n → get_or places s 0 ≡ live_place f n b s
  pub live_is : live ≡ live_count f n
  pub top_is : suc top ≡ next_version f n
  pub top_fits : top < 2 ^ 63

-- what judging answers: the refusal, the classes of the slots, and of an accepted image the arranged slots of its
-- settled table and the stores that open its void slots
pub record Judgement (l : ℕ) (m : ℕ → ℕ) (n b : ℕ) (order places : List ℕ) (r : Judged) : Type 0 where
  pub fault_is : r.fault ≡ slots_fault l m n
  pub slot_is : r.slot ≡ slots_named l m n
  pub arranged : r.fault ≡ 0 → Arranged (settled (content l m) (size_field_in l m) n) n b order places r.live r.top
  pub classed : Classed (content l m) n r.classes
  pub invalidations_are : r.fault ≡ 0 → r.invalidations ≡ invalidations_of (invalidating_stores m (void_slots l m n))

-- what is left of the lent heads and next: the chains of the order and the state r beside them, or with a refusal what
-- was lent
pub record Left (fault : ℕ) (heads next order places : List ℕ) (live top : ℕ) (heads' next' : List ℕ) (r : State) : Type 0 where
  pub rebuilt : fault ≡ 0
      → index_of heads' next' r
      ≡ with_counts (build (place_in places) (unbuilt (replicate (length heads) 0) (replicate (length next) 0)) order) live (top + 1) (last_of order)
  pub kept : (fault ≡ 0 → ⊥) → (heads' ≡ heads) × (next' ≡ next)

-- invalidating stores with one more of them; past the eighth it is only counted
unfoldable pub with_store : Invalidations → Store → Invalidations
with_store o s =
    record { count = o.count + 1; at = set o.at o.count s.word; value = set o.value o.count s.value }

-- the state and the invalidating stores, or the refusal and no stores
unfoldable pub answer_by : (fault slot : ℕ) → State → Invalidations → RecoverAnswer
answer_by fault slot state invalidations =
    cond (eqb fault 0) (record { recovered = Rebuilt state; invalidations = invalidations })
    (record { recovered = Refused fault slot; invalidations = invalidations_of [] })
