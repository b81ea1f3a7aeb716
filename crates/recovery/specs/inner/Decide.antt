-- How recovery finds 7, the void slots and 8: runs of one rank in the order by rank, and the last slot of each key in
-- the order by key and rank.
use Rattle.std.specs.Prelude.{◌≡◌, Bool, true, false, cond, not, ◌&&◌, List, ℕ, zero, suc, ◌+◌, ◌-◌, ◌≤◌, ◌<◌, eqb, ltb, leb, length, get_or, set}
use Rattle.layout.specs.Content.{Table}
use Rattle.table.specs.Table.{key_in, live}
use Rattle.table.specs.Complete.{SizeFields, basket_size}
use Rattle.prelude.specs.Range.{count}
use Rattle.index.specs.Index.{head_of}

-- the entry of a list for the slot at position i of an order
abbrev pub entry_at : (list order : List ℕ) → ℕ → ℕ
entry_at list order i = get_or list (get_or order i 0) 0

-- the slots at positions i and i + 1 of the order have one rank, and count (a rank of 2 or more): they share a version
unfoldable pub equal_neighbours : (ranks order : List ℕ) → ℕ → Bool
equal_neighbours ranks order i =
    cond (ltb (entry_at ranks order i) 2) false (eqb (entry_at ranks order i) (entry_at ranks order (i + 1)))

-- from position i on the run of its rank goes on for more slots than the number of slot i says
unfoldable pub too_many : SizeFields → (ranks order : List ℕ) → ℕ → Bool
too_many num ranks order i =
    ltb (i + basket_size (num (get_or order i 0))) (length order)
    && eqb (entry_at ranks order (i + basket_size (num (get_or order i 0)))) (entry_at ranks order i)

-- the slots at positions i and i + 1 share a version, and their numbers differ or their run is too long
unfoldable pub run_fault : SizeFields → (ranks order : List ℕ) → ℕ → Bool
run_fault num ranks order i =
    equal_neighbours ranks order i
    && cond (eqb (num (get_or order i 0)) (num (get_or order (i + 1) 0))) (too_many num ranks order i) true

-- up to position i the run of its rank is as long as the number of slot i says
unfoldable pub full_run : SizeFields → (ranks order : List ℕ) → ℕ → Bool
full_run num ranks order i =
    leb (basket_size (num (get_or order i 0))) (i + 1)
    && eqb (entry_at ranks order (i + 1 - basket_size (num (get_or order i 0)))) (entry_at ranks order i)

-- judging from position i − 1 down: the rank of the first slot whose run is as long as its number says, 2 where no
-- record is left
unfoldable pub judged_rank : SizeFields → (ranks order : List ℕ) → (i : ℕ) → ℕ
judged_rank num ranks order zero = 2
judged_rank num ranks order (suc i) =
    cond (ltb (entry_at ranks order i) 2) 2
    (cond (full_run num ranks order i) (entry_at ranks order i) (judged_rank num ranks order i))

-- slots of a rank above the limit lose rank and place: ranks and places before, ranks' and places' after
pub record Cleared (limit n : ℕ) (ranks places ranks' places' : List ℕ) : Type 0 where
  pub ranks_size : length ranks' ≡ length ranks
  pub places_size : length places' ≡ length places
  pub rank_at : (s : ℕ) → 0 < s → s ≤ n → get_or ranks' s 0 ≡ cond (ltb limit (get_or ranks s 0)) 0 (get_or ranks s 0)
  pub place_at : (s : ℕ) → 0 < s → s ≤ n → get_or places' s 0 ≡ cond (ltb limit (get_or ranks s 0)) 0 (get_or places s 0)

-- the slot at position i of the order is followed by one with the same key; `key` gives the key of a slot
unfoldable pub followed : (key : ℕ → ℕ) → (order : List ℕ) → ℕ → Bool
followed key order i = cond (ltb (i + 1) (length order)) (eqb (key (get_or order i 0)) (key (get_or order (i + 1) 0))) false

-- the slots at positions i and i + 1 of the order by key have one key and share a version
unfoldable pub key_twice : (key : ℕ → ℕ) → (ranks order : List ℕ) → ℕ → Bool
key_twice key ranks order i = followed key order i && equal_neighbours ranks order i

-- the places after the first i slots of the order: a slot that is followed by one of its key goes to reuse
unfoldable pub decided : (key : ℕ → ℕ) → (order : List ℕ) → (i : ℕ) → (places : List ℕ) → List ℕ
decided key order zero places = places
decided key order (suc i) places =
    cond (followed key order i) (set (decided key order i places) (get_or order i 0) 0) (decided key order i places)

-- how many of the slots 1 to n have a place that is not reuse
unfoldable pub placed_count : (places : List ℕ) → (n : ℕ) → ℕ
placed_count places n = count (λ s. not (eqb (get_or places s 0) 0)) n

-- the chain of slot s as a number: a live slot's is that of its key's head
unfoldable pub live_place : Table → (n b s : ℕ) → ℕ
live_place f n b s = cond (live f n s) (head_of (key_in (f s)) b + 1) 0

-- every element of the order is a slot 1 to n
abbrev pub Within : (order : List ℕ) → (n : ℕ) → Type 0
Within order n = (i : ℕ) → i < length order → (0 < get_or order i 0) × (get_or order i 0 ≤ n)

-- the list of high words has no entry, or one for each slot and entry 0
abbrev pub NoneOrAll : (highs : List ℕ) → (n : ℕ) → Type 0
NoneOrAll highs n = 0 < length highs → n < length highs
