-- On any index, the image's own or not, the numbers by which a basket writes lie inside it. Assumes nothing.
use mathlib.Core.Path.{◌≡◌, refl, subst}
use mathlib.Core.Bool.{Bool, true, false, cond}
use mathlib.Core.List.{List, [], ◌∷◌}
use Prim.Native.Nat.{ℕ, zero, suc, ◌-◌, ◌≤◌, ◌<◌}
use native.Mathlib.Omega.{arith}
use lib.Dec.{eqb, ltb}
use lib.ListN.{length, get_or}
use borrow.Author.Tests.{eqb-true, eqb-false, ltb-false}
use Rattle.prelude.specs.Members.{All, none_left, one_more}
use Rattle.index.specs.Index.{Index, set_last}
use Rattle.index.specs.Change.{append, link_new, insert_at, replace_at, remove_at}
use Rattle.index.specs.Allocation.{Taken, Allocation, taken, too_few, bad_link, with_taken, at_end, allocation_walk, allocate_from}
use Rattle.index.specs.Basket.{slot_before, Item, link_by, link_item}
use Rattle.index.specs.declared.Action.{Action}
use Rattle.index.specs.declared.Action.TheVariants.{Write, Remove}
use Rattle.index.specs.declared.Mode.TheVariants.{Insert, Replace}
use Rattle.index.proofs.Links.{link-last, set-last}

-- ---- the slots taken

-- a slot that is taken and the slot before it lie inside an index of n slots
pub record TakenInside (n : ℕ) (t : Taken) : Type 0 where
  pub slot_low : 0 < t.slot
  pub slot_high : t.slot ≤ n
  pub prev_high : t.prev ≤ n

-- what is taken is inside, and as many as are wanted
abbrev TakingWithin : (n wanted : ℕ) → Allocation → Type 0
TakingWithin n wanted (taken ts) = All (TakenInside n) ts × (length ts ≡ wanted)
TakingWithin n wanted too_few = Unit
TakingWithin n wanted bad_link = Unit

either_way : (n wanted : ℕ) (b : Bool) (x y : Allocation) → (b ≡ true → TakingWithin n wanted x) → (b ≡ false → TakingWithin n wanted y)
    → TakingWithin n wanted (cond b x y)
either_way n wanted true x y f g = f refl
either_way n wanted false x y f g = g refl

end_within : (n wanted : ℕ) → TakingWithin n wanted (at_end wanted)
unfolding at_end
end_within n wanted = either_way n wanted (eqb wanted 0) _ _ (λ e. (none_left, omega (arith, eqb-true wanted 0 e))) (λ e. tt)

with_within : (n wanted at prev : ℕ) (rest : Allocation) → 0 < at → at ≤ n → prev ≤ n → 0 < wanted → TakingWithin n (wanted - 1) rest
    → TakingWithin n wanted (with_taken at prev rest)
unfolding with_taken
with_within n wanted at prev (taken ts) l m p w r =
    (one_more (record { slot_low = l; slot_high = m; prev_high = p }) r.0, omega (arith, r.1))
with_within n wanted at prev too_few l m p w r = tt
with_within n wanted at prev bad_link l m p w r = tt

walk_within : (may : List ℕ → ℕ → Bool) (next : List ℕ) (n left wanted prev at : ℕ) (chosen : List ℕ) → prev ≤ n
    → TakingWithin n wanted (allocation_walk may next n left wanted prev at chosen)
unfolding allocation_walk
walk_within may next n zero wanted prev at chosen p = either_way n wanted (eqb at 0) _ _ (λ e. end_within n wanted) (λ e. tt)
walk_within may next n (suc left) wanted prev at chosen p =
    either_way n wanted (eqb at 0) _ _ (λ e. end_within n wanted)
    (λ z.
    either_way n wanted (ltb n at) _ _ (λ e. tt)
    (λ e.
    let low : 0 < at = omega (arith, eqb-false at 0 z) in
    let high : at ≤ n = ltb-false n at e in
    either_way n wanted (eqb wanted 0) _ _ (λ k. (none_left, omega (arith, eqb-true wanted 0 k)))
    (λ k.
    either_way n wanted (may chosen at) _ _
    (λ t.
    with_within n wanted at prev (allocation_walk may next n left (wanted - 1) prev (get_or next at 0) (at ∷ chosen)) low high p
    (omega (arith, eqb-false wanted 0 k))
    (walk_within may next n left (wanted - 1) prev (get_or next at 0) (at ∷ chosen) p))
    (λ t. walk_within may next n left wanted at (get_or next at 0) chosen high))))

pub taking_inside : (may : List ℕ → ℕ → Bool) (next : List ℕ) (n first wanted : ℕ) (ts : List Taken) → allocate_from may next n first wanted ≡ taken ts
    → All (TakenInside n) ts × (length ts ≡ wanted)
unfolding allocate_from
taking_inside may next n first wanted ts e = subst (TakingWithin n wanted) e (walk_within may next n n wanted 0 first [] (omega arith))

-- ---- the last slot of reuse

choose_high : (n : ℕ) (b : Bool) (x y : ℕ) → x ≤ n → y ≤ n → cond b x y ≤ n
choose_high n true x y a c = a
choose_high n false x y a c = c

link_by_last : (n : ℕ) (i : Index) (a : Action) (h old s : ℕ) → i.state.last ≤ n → old ≤ n → s ≤ n → (link_by n i a h old s).state.last ≤ n
unfolding link_by insert_at replace_at remove_at append link_new set_last
link_by_last n i (Write Insert) h old s l o k = rw (link-last, set-last) l
link_by_last n i (Write Replace) h old s l o k = omega arith
link_by_last n i Remove h old s l o k = omega arith

pub link_item_last : (n : ℕ) (i : Index) (k : Item) → i.state.last ≤ n → k.old ≤ n → k.slot ≤ n → (link_item n i k).state.last ≤ n
unfolding link_item
link_item_last n i k l o s = link_by_last n i k.action k.key_head k.old k.slot l o s

-- ---- the slot before a target

pub before_high : (next : List ℕ) (n left target prev at : ℕ) → prev ≤ n → slot_before next n left target prev at ≤ n
unfolding slot_before
before_high next n zero target prev at p = p
before_high next n (suc left) target prev at p =
    choose_high n (eqb at target) _ _ p (choose_high n (eqb at 0) _ _ p (go (ltb n at) refl (before_high next n left target at (get_or next at 0))))
  where
    go : (b : Bool) → ltb n at ≡ b → (at ≤ n → slot_before next n left target at (get_or next at 0) ≤ n)
        → cond b prev (slot_before next n left target at (get_or next at 0)) ≤ n
    go true e ih = p
    go false e ih = ih (ltb-false n at e)
