-- What a basket is refused for. Document 02, A.7.
use Rattle.std.specs.Prelude.{Bool, true, false, cond, not, List, [], ◌∷◌, ℕ, ◌+◌, ◌*◌, eqb, ltb, length}
use Rattle.prelude.specs.Refusal.{refuse_if, or_else}
use Rattle.layout.specs.Size.{slots_in}
use Rattle.layout.specs.Record.{limit}
use Rattle.layout.specs.Header.{lent_fault}
use Rattle.index.specs.Walk.{search, chain_fault}
use Rattle.index.specs.declared.Action.{Action}
use Rattle.index.specs.declared.Action.TheVariants.{Write, Remove}
use Rattle.index.specs.declared.Found.{Found}
use Rattle.allocation.specs.Allocation.{allocation_by}
use Rattle.index.specs.Change.{is_found, key_fault, inserts_of}
use Rattle.index.specs.Index.{Index}
use Rattle.calls.specs.Change.{store_fault}
use Rattle.calls.specs.BasketItems.{KeyChange}

-- "26 when the basket has 0 or more than 8 keys, first of all"
unfoldable pub key_count_fault : (m : ℕ) → ℕ
key_count_fault m = refuse_if (eqb m 0) 26 (refuse_if (ltb 8 m) 26 0)

-- "27 when a key comes twice, next"
unfoldable pub among : ℕ → List KeyChange → Bool
among key [] = false
among key (c ∷ cs) = cond (eqb c.key key) true (among key cs)

unfoldable pub any_twice : List KeyChange → Bool
any_twice [] = false
any_twice (c ∷ cs) = cond (among c.key cs) true (any_twice cs)

-- "13 when the lent list is too short follows 27"; "sixteen for each key". The list is two lists of numbers, and their
-- lengths are at and words
unfoldable pub lists_fault : (m at words : ℕ) → ℕ
lists_fault m at words = refuse_if (ltb at (16 * m)) 13 (refuse_if (ltb words (16 * m)) 13 0)

-- by what is given, before the image and the index are read
unfoldable pub given_fault : List KeyChange → (at words : ℕ) → ℕ
given_fault changes at words =
    or_else (key_count_fault (length changes)) (refuse_if (any_twice changes) 27 (lists_fault (length changes) at words))

-- "Each later check goes over all keys before the next": the refusal of the first key that has one
unfoldable pub first_fault : (KeyChange → ℕ) → List KeyChange → ℕ
first_fault fault [] = 0
first_fault fault (c ∷ cs) = or_else (fault c) (first_fault fault cs)

-- "10 when the value exceeds 80 bytes"; a remove has no value
unfoldable pub value_fault : (l : ℕ) → Action → (size : ℕ) → ℕ
value_fault l (Write mode) size = refuse_if (ltb (limit l) size) 10 0
value_fault l Remove size = 0

-- "20 and 21 being one"; "In a basket, removing an unheld key gives 21"
unfoldable pub action_fault : Action → (held : Bool) → ℕ
action_fault (Write mode) held = key_fault mode held
action_fault Remove held = refuse_if (not held) 21 0

-- 1, 2, 3, 4 and 10
unfoldable pub basket_lent_fault : (l : ℕ) → (image : List ℕ) → (heads next : ℕ) → List KeyChange → ℕ
basket_lent_fault l image heads next changes =
    or_else (lent_fault l image heads next) (first_fault (λ c. value_fault l c.action (length c.value)) changes)

-- 11 by the chains of all keys; then 20 or 21. `found` gives what following a key's chain finds
unfoldable pub keys_fault : (found : ℕ → Found) → List KeyChange → ℕ
keys_fault found changes =
    or_else (first_fault (λ c. chain_fault (found c.key)) changes)
    (first_fault (λ c. action_fault c.action (is_found (found c.key))) changes)

-- how many keys are inserted, and how many are removed
unfoldable pub inserts_by : Action → ℕ
inserts_by (Write mode) = inserts_of mode
inserts_by Remove = 0

unfoldable pub removes_by : Action → ℕ
removes_by (Write mode) = 0
removes_by Remove = 1

unfoldable pub sum_over : (Action → ℕ) → List KeyChange → ℕ
sum_over by [] = 0
sum_over by (c ∷ cs) = by c.action + sum_over by cs

-- the refusals in the order written: 26, 27, 13; 1, 2, 3, 4, 10; 11 (chain); 20 or 21; 11 (reuse), 28, 9
unfoldable pub basket_fault_by : (own : Bool) → (l : ℕ) → (image : List ℕ) → Index → List KeyChange → (at words : ℕ) → ℕ
basket_fault_by own l image i changes at words =
    or_else (given_fault changes at words)
    (or_else (basket_lent_fault l image (length i.heads) (length i.next) changes)
    (or_else (keys_fault (search l image i.heads i.next) changes)
    (store_fault (allocation_by own l image i.next (slots_in image) i.state.first i.state.newest (length changes)) (slots_in image) i.state
    (sum_over inserts_by changes) (sum_over removes_by changes))))

abbrev pub basket_fault : (l : ℕ) → (image : List ℕ) → Index → List KeyChange → (at words : ℕ) → ℕ
basket_fault l image i changes at words = basket_fault_by false l image i changes at words
