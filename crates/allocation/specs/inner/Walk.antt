-- The refusal of a call by the links and by a test that tells which slots may be taken; 0 for none.
use Rattle.std.specs.Prelude.{Bool, true, false, cond, List, ℕ, zero, suc, ◌-◌, eqb, ltb, get_or}
use Rattle.prelude.specs.Refusal.{refuse_if, or_else}
use Rattle.index.specs.Allocation.{Allocation, link_fault, few_fault}

-- 11 by the links, then 28 by the slots that may be taken
unfoldable pub take_fault : Allocation → ℕ
take_fault t = or_else (link_fault t) (few_fault t)

-- by the link of the last slot that is taken, where `left` slots may still be met
unfoldable pub end_fault : (n left link : ℕ) → ℕ
end_fault n left link = refuse_if (eqb link 0) 0 (refuse_if (ltb n link) 11 (refuse_if (eqb left 0) 11 0))

-- from the link `at` on, where `wanted` slots are to be taken, one or more
unfoldable pub walk_fault : (may : ℕ → Bool) → (next : List ℕ) → (n left wanted at : ℕ) → ℕ
walk_fault may next n zero wanted at = refuse_if (eqb at 0) 28 11
walk_fault may next n (suc left) wanted at =
    refuse_if (eqb at 0) 28
    (refuse_if (ltb n at) 11
    (cond (may at) (cond (eqb wanted 1) (end_fault n left (get_or next at 0)) (walk_fault may next n left (wanted - 1) (get_or next at 0)))
    (walk_fault may next n left wanted (get_or next at 0))))

-- the chain from the link `at` on has its end within `left` slots, and no link above n before it
unfoldable pub ends_well : (next : List ℕ) → (n left at : ℕ) → Bool
ends_well next n zero at = eqb at 0
ends_well next n (suc left) at = cond (eqb at 0) true (cond (ltb n at) false (ends_well next n left (get_or next at 0)))
