-- The slots of a call for the owner of its index: what the state's newest slot tells, and that with an index that is the image's own they are those of the
-- rule. Assumes nothing.
use mathlib.Core.Path.{◌≡◌, refl, sym, ap, ap₂, ◌∙◌, subst}
use mathlib.Core.Bool.{Bool, true, false, cond, not, ◌&&◌}
use mathlib.Core.Logic.{inl, inr}
use mathlib.Core.List.{List, [], ◌∷◌}
use Prim.Native.Nat.{ℕ, ◌+◌, ◌-◌, ◌*◌, ◌/◌, ◌≤◌, ◌<◌}
use native.Mathlib.Omega.{arith}
use lib.Dec.{ltb}
use lib.ListN.{length, get_or}
use borrow.Author.Tests.{lt-ltb, le-ltb}
use Rattle.words.specs.Word.{word}
use Rattle.prelude.specs.Filter.{any_in}
use Rattle.prelude.specs.Members.{All, In, Slot}
use Rattle.prelude.proofs.Choice.{pick_true, pick_false, true-false}
use Rattle.prelude.proofs.Most.{greatest_above}
use Rattle.layout.specs.Line.{line_a, line_b, version_of}
use Rattle.layout.specs.Content.{Table, highest_whole_in, content, contents_of}
use Rattle.layout.proofs.Content.{Reading, reads_broken, reads_empty, reads_put, reads_remove, reading}
use Rattle.table.specs.Table.{is_record}
use Rattle.table.specs.Takeable.{valid_version, highest_valid, IsNewest, is_remove, older, may_take_after, takeable_if}
use Rattle.table.specs.Reuse.{OlderFirst}
use Rattle.table.proofs.defs.Reuse.{Spares}
use Rattle.index.specs.Index.{Chain, reuse, index_of}
use Rattle.index.specs.Linked.{ChainsPartition}
use Rattle.index.specs.Allocation.{Taken, taken, allocate_from}
use Rattle.index.proofs.BasketInside.{TakenInside, taking_inside}
use Rattle.index.specs.declared.State.{State}
use Rattle.index.proofs.Allocations.{AgreeAlong, sits_alike}
use Rattle.allocation.specs.Allocation.{allocation_by_rule, allocation_chosen, may_take_below, named_version, own_allocation, allocation_by}
use Rattle.allocation.specs.Allocation.{allocation_chosen_by}
use Rattle.allocation.specs.inner.Walk.{take_fault}
use Rattle.allocation.specs.inner.Choice.{Chosen}
use Rattle.allocation.specs.declared.Choice.{Choice}
use Rattle.allocation.proofs.Walks.{take_turn, with_fault, end-fault, end_good}
use Rattle.allocation.proofs.Takes.{choice_fine}
use Rattle.allocation.proofs.Choices.{choice_own}

-- ---- a valid slot's version is that on its line A

line_version : (l : ℕ) (image : List ℕ) (s : ℕ) → is_record (contents_of l image s) ≡ true
    → (highest_whole_in (contents_of l image s) ≡ version_of (line_a (word image) s 7)) × (0 < highest_whole_in (contents_of l image s))
unfolding content is_record highest_whole_in
line_version l image s r = go (reading l (line_a (word image) s) (line_b (word image) s))
  where
    go : Reading l (line_a (word image) s) (line_b (word image) s)
        → (highest_whole_in (contents_of l image s) ≡ version_of (line_a (word image) s 7)) × (0 < highest_whole_in (contents_of l image s))
    go (reads_broken p e) = absurd (true-false r (ap is_record e))
    go (reads_empty p z e) = absurd (true-false r (ap is_record e))
    go (reads_put at e) = (ap highest_whole_in e, omega (arith, ap highest_whole_in e, at.valid.positive))
    go (reads_remove at e) = (ap highest_whole_in e, omega (arith, ap highest_whole_in e, at.valid.positive))

module _ (l : ℕ) (image : List ℕ) (n newest : ℕ) (right : IsNewest (contents_of l image) n newest) where
  abbrev f : Table
  f = contents_of l image

  -- THE NEWEST SLOT HAS THE HIGHEST VALID VERSION
  named_highest : 0 < highest_valid f n → named_version image n newest ≡ highest_valid f n
  unfolding named_version valid_version
  named_highest some = go (is_record (f newest)) refl (right some).1
    where
      go : (b : Bool) → is_record (f newest) ≡ b → cond b (highest_whole_in (f newest)) 0 ≡ highest_valid f n → named_version image n newest ≡ highest_valid f n
      go true r e = pick_false (ltb n newest) _ _ (le-ltb n newest (right some).0.1) ∙ sym (line_version l image newest r).0 ∙ e
      go false r e = absurd (omega (arith, e))

  -- so it tells of each slot as the highest version does
  below_same : (chosen : List ℕ) (s : ℕ) → Slot n s → may_take_below l image (named_version image n newest) chosen s ≡ may_take_after f n chosen s
  unfolding may_take_below may_take_after takeable_if valid_version highest_valid
  below_same chosen s i = go (is_record (f s)) refl
    where
      go : (b : Bool) → is_record (f s) ≡ b → may_take_below l image (named_version image n newest) chosen s ≡ may_take_after f n chosen s
      go true r =
          ap (λ (v : ℕ). takeable_if v (any_in (older f s) chosen) (f s))
          (named_highest (omega (arith, (line_version l image s r).1, greatest_above (λ t. valid_version (f t)) n s i, version r)))
        where
          version : is_record (f s) ≡ true → valid_version (f s) ≡ highest_whole_in (f s)
          version q = pick_true (is_record (f s)) _ _ q
      go false r = pick_false (is_record (f s)) _ _ r ∙ sym (pick_false (is_record (f s)) _ _ r)

-- ---- what the functions test

module _ (image : List ℕ) (n newest : ℕ) where
  pub named_above : n < newest → 0 ≡ named_version image n newest
  unfolding named_version
  named_above h = sym (pick_true (ltb n newest) _ _ (lt-ltb n newest h))

  pub named_read : newest ≤ n → (x : ℕ) → x ≡ word image (16 * newest + 7) → x / 2 ≡ named_version image n newest
  unfolding named_version
  named_read h x e = ap version_of (e ∙ ap (word image) (omega arith)) ∙ sym (pick_false (ltb n newest) _ _ (le-ltb n newest h))

module _ (l : ℕ) (image next : List ℕ) (n first newest : ℕ) (top : ℕ) (named : top ≡ named_version image n newest) where
  abbrev may : List ℕ → ℕ → Bool
  may = may_take_below l image (named_version image n newest)

  -- below that version by its line A, the first slot may be taken, valid or not
  first-may : (x : ℕ) → x ≡ word image (16 * first + 7) → x / 2 < top → may [] first ≡ true
  unfolding may_take_below takeable_if any_in
  first-may x e h = go (is_record (contents_of l image first)) refl (is_remove (contents_of l image first))
    where
      version : version_of (line_a (word image) first 7) ≡ x / 2
      version = sym (ap version_of (e ∙ ap (word image) (omega arith)))

      go : (b : Bool) → is_record (contents_of l image first) ≡ b → (c : Bool)
          → cond b (ltb (highest_whole_in (contents_of l image first)) (named_version image n newest) && not (c && false)) true ≡ true
      go true r c =
          ap₂ (λ (x y : Bool). x && not y)
          (lt-ltb (highest_whole_in (contents_of l image first)) (named_version image n newest)
          (omega (arith, (line_version l image first r).0, version, named)))
          (none c)
        where
          none : (b : Bool) → b && false ≡ false
          none true = refl
          none false = refl
      go false r c = refl

  pub own_first : 2 ≤ n → 0 < first → first ≤ n → get_or next first 0 ≤ n → (x : ℕ) → x ≡ word image (16 * first + 7) → x / 2 < top
      → 0 ≡ take_fault (own_allocation l image next n first newest 1)
  unfolding own_allocation allocate_from
  own_first some low high link x e h =
      sym
      (ap take_fault (take_turn may next n n 1 0 first [] (omega arith) low high (omega arith) ∙ pick_true (may [] first) _ _ (first-may x e h))
      ∙ with_fault first 0 _ ∙ end-fault may next n (n - 1) 0 (get_or next first 0) (first ∷ []) ∙ end_good n (n - 1) (get_or next first 0) (omega arith) link)

  -- or the choice by that version tells
  pub own_chosen : (wanted : ℕ) (r : Choice)
      → Chosen (allocate_from (may_take_below l image top) next n first wanted) (allocate_from (may_take_below l image top) next n first wanted) wanted r
      → Chosen (own_allocation l image next n first newest wanted) (own_allocation l image next n first newest wanted) wanted r
  unfolding own_allocation
  own_chosen wanted r h =
      subst (λ (v : ℕ). Chosen (allocate_from (may_take_below l image v) next n first wanted) (allocate_from (may_take_below l image v) next n first wanted)
      wanted r)
      named h

-- tests that agree on the slots of a list
agree_along : (p q : List ℕ → ℕ → Bool) (xs chosen : List ℕ) → ((c : List ℕ) (x : ℕ) → In x xs → p c x ≡ q c x) → AgreeAlong p q chosen xs
agree_along p q [] chosen same = tt
agree_along p q (x ∷ xs) chosen same = (same chosen x (inl refl), agree_along p q xs _ (λ c y i. same c y (inr i)))

-- THE SLOTS of a call for the owner of its index are those of the rule
pub own_taken : (l : ℕ) (image heads next : List ℕ) (s : State) (n b : ℕ) (place : ℕ → Chain) (chains : Chain → List ℕ) (wanted : ℕ)
    → ChainsPartition n b place (index_of heads next s) chains → Spares (contents_of l image) n (chains reuse) → OlderFirst (contents_of l image) (chains reuse)
    → IsNewest (contents_of l image) n s.newest
    → own_allocation l image next n s.first s.newest wanted ≡ allocation_by_rule l image next n s.first wanted
unfolding own_allocation allocation_chosen
own_taken l image heads next s n b place chains wanted g sp o right =
    sits_alike n b place (index_of heads next s) chains g (may_take_below l image (named_version image n s.newest)) (may_take_after (contents_of l image) n)
    wanted
    (agree_along _ _ (chains reuse) [] (λ c x i. below_same l image n s.newest right c x (sp.slot x i)))
    ∙ choice_own l image heads next s n b place chains wanted g sp o

-- ---- of a call of either family

module _ (l : ℕ) (image next : List ℕ) (n first newest wanted : ℕ) where
  -- the slots that a basket takes are slots, as many as are wanted
  pub chosen_inside : (own : Bool) (ts : List Taken) → allocation_chosen_by own l image next n first newest wanted ≡ taken ts
      → All (TakenInside n) ts × (length ts ≡ wanted)
  unfolding allocation_chosen_by allocation_chosen own_allocation
  chosen_inside false ts e = taking_inside _ next n first wanted ts e
  chosen_inside true ts e = taking_inside _ next n first wanted ts e

  -- and there are such where it is not refused
  pub choice_fine_by : (own : Bool) → 0 < wanted → take_fault (allocation_by own l image next n first newest wanted) ≡ 0
      → take_fault (allocation_chosen_by own l image next n first newest wanted) ≡ 0
  unfolding allocation_by allocation_chosen_by
  choice_fine_by false some z = choice_fine l image next n first wanted some z
  choice_fine_by true some z = z
