-- The slots that a call takes from the reuse chain, by the links. Document 02, A.7: "it takes the first others in the
-- reuse chain"; "11 .. covers a link above N met from the chain's first through the last slot taken, that slot's own
-- included, or a nonzero one after N slots; a slot met twice counts twice".
use Rattle.std.specs.Prelude.{Bool, cond, List, [], ◌∷◌, ℕ, zero, suc, ◌+◌, ◌-◌, eqb, ltb, leb, get_or}
use Rattle.prelude.specs.Refusal.{refuse_if, or_else}

-- a slot that is taken, and the slot before it that stays in the chain, 0 for none
pub record Taken : Type 0 where
  pub slot : ℕ
  pub prev : ℕ

-- what following the chain gives: as many slots as wanted, in order; too few, at the chain's end; or a link that no
-- chain has
pub data Allocation : Type 0 where
  taken : List Taken → Allocation
  too_few : Allocation
  bad_link : Allocation

-- one slot more, before the others
unfoldable pub with_taken : (slot prev : ℕ) → Allocation → Allocation
with_taken slot prev (taken ts) = taken (record { slot = slot; prev = prev } ∷ ts)
with_taken slot prev too_few = too_few
with_taken slot prev bad_link = bad_link

-- at the end of the chain
unfoldable pub at_end : (wanted : ℕ) → Allocation
at_end wanted = cond (eqb wanted 0) (taken []) too_few

-- from the link `at` on, with `prev` before it that stays, `wanted` slots to be taken, `left` that may still be met and
-- `chosen` taken so far, the last one first; `may` tells which slots may be taken after those
unfoldable pub allocation_walk : (may : List ℕ → ℕ → Bool) → (next : List ℕ) → (n left wanted prev at : ℕ) → (chosen : List ℕ) → Allocation
allocation_walk may next n zero wanted prev at chosen = cond (eqb at 0) (at_end wanted) bad_link
allocation_walk may next n (suc left) wanted prev at chosen =
    cond (eqb at 0) (at_end wanted)
    (cond (ltb n at) bad_link
    (cond (eqb wanted 0) (taken [])
    (cond (may chosen at) (with_taken at prev (allocation_walk may next n left (wanted - 1) prev (get_or next at 0) (at ∷ chosen)))
    (allocation_walk may next n left wanted at (get_or next at 0) chosen))))

-- the first `wanted` slots of the reuse chain that may be taken
unfoldable pub allocate_from : (may : List ℕ → ℕ → Bool) → (next : List ℕ) → (n first wanted : ℕ) → Allocation
allocate_from may next n first wanted = allocation_walk may next n n wanted 0 first []

-- ---- refusals

-- "11 when the reuse chain's first or last slot is zero or above N"
unfoldable pub ends_fault : (n first last : ℕ) → ℕ
ends_fault n first last = refuse_if (eqb first 0) 11 (refuse_if (ltb n first) 11 (refuse_if (eqb last 0) 11 (refuse_if (ltb n last) 11 0)))

-- 11 by the links
unfoldable pub link_fault : Allocation → ℕ
link_fault (taken ts) = 0
link_fault too_few = 0
link_fault bad_link = 11

-- "28 when too few slots may be taken"
unfoldable pub few_fault : Allocation → ℕ
few_fault (taken ts) = 0
few_fault too_few = 28
few_fault bad_link = 0

-- "11 (reuse, or fewer live than are removed) now stands whole before 28"
unfoldable pub reuse_fault : Allocation → (n first last live removes : ℕ) → ℕ
reuse_fault taking n first last live removes =
    or_else (ends_fault n first last) (or_else (refuse_if (ltb live removes) 11 0) (link_fault taking))

-- "28 when too few slots may be taken or, by the live count, no spare slot would be left"
unfoldable pub room_fault : Allocation → (n live inserts removes : ℕ) → ℕ
room_fault taking n live inserts removes = or_else (few_fault taking) (refuse_if (leb (n + removes) (live + inserts)) 28 0)
