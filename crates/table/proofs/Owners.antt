-- In which chain each slot stands after a call that is done. Assumes nothing.
use mathlib.Core.Path.{◌≡◌, refl, sym, ap, ap₂, ◌∙◌}
use mathlib.Core.Bool.{Bool, true, false, cond}
use mathlib.Core.Logic.{◌⊎◌, inl, inr}
use mathlib.Core.List.{List, [], ◌∷◌}
use Prim.Native.Nat.{ℕ, ◌≤◌, ◌<◌}
use native.Mathlib.Omega.{arith}
use lib.Dec.{eqb}
use borrow.Author.Tests.{ne_eqb, eq-eqb, eqb-false}
use Rattle.layout.specs.Content.{Table, Content}
use Rattle.prelude.specs.Members.{In, Once, Slot}
use Rattle.prelude.proofs.defs.Among.{member}
use Rattle.prelude.proofs.Among.{member_in, not_member}
use Rattle.prelude.proofs.Choice.{pick_false, pick_true, true-false}
use Rattle.table.specs.Complete.{SizeFields}
use Rattle.table.specs.Table.{key_in, rank_for_key, live}
use Rattle.table.proofs.defs.Basket.{Basket}
use Rattle.table.proofs.defs.Owners.{moved, owner_in}
use Rattle.table.proofs.defs.Struck.{Struck, Finished}
use Rattle.table.proofs.defs.Write.{holder}
use Rattle.table.specs.Class.{is_put}
use Rattle.table.proofs.Finished.{finished_own, finished_over, finished_kept}
use Rattle.table.proofs.Held.{is_holder, Holder, holder_is, live-holder}
use Rattle.table.proofs.Joins.{holder-live}
use Rattle.table.proofs.LiveAfter.{overwritten_or, Overwriting, written_by, written_by_none}
use Rattle.table.proofs.Struck.{not_taken}

module _ {A : Type 0} (f : Table) (n : ℕ) (chain : ℕ → A) (reuse : A) (new : Table) where
  -- the chain of one record's slot, and the owners after its move
  abbrev own_chain : ℕ → A
  own_chain s = cond (is_put (new s)) (chain (key_in (new s))) reuse

  abbrev move : ℕ → (ℕ → A) → ℕ → A
  move s owner x = cond (eqb x s) (own_chain s) (cond (eqb x (holder f n (key_in (new s)))) reuse (owner x))

  move_other : (s : ℕ) (owner : ℕ → A) (t : ℕ) → (t ≡ s → ⊥) → (holder f n (key_in (new s)) ≡ t → ⊥) → move s owner t ≡ owner t
  move_other s owner t ne h =
      pick_false (eqb t s) (own_chain s) _ (ne_eqb t s ne) ∙ pick_false (eqb t (holder f n (key_in (new s)))) reuse (owner t)
      (ne_eqb t (holder f n (key_in (new s))) (λ q. h (sym q)))

  -- a slot that is neither taken nor an old slot
  moved_kept : (l : List ℕ) (owner : ℕ → A) (t : ℕ) → (In t l → ⊥) → ((s : ℕ) → In s l → holder f n (key_in (new s)) ≡ t → ⊥)
      → moved f n chain reuse l new owner t ≡ owner t
  unfolding moved
  moved_kept [] owner t out h = refl
  moved_kept (x ∷ l) owner t out h =
      moved_kept l (move x owner) t (λ j. out (inr j)) (λ s j. h s (inr j)) ∙ move_other x owner t (λ q. out (inl q)) (h x (inl refl))

  -- a slot taken, which is no old slot
  moved_own : (l : List ℕ) (owner : ℕ → A) (t : ℕ) → Once l → In t l → ((s : ℕ) → In s l → holder f n (key_in (new s)) ≡ t → ⊥)
      → moved f n chain reuse l new owner t ≡ own_chain t
  unfolding moved
  moved_own [] owner t o i h = absurd i
  moved_own (x ∷ l) owner t o (inl e) h =
      moved_kept l (move x owner) t (λ j. o.0 (at j)) (λ s j. h s (inr j)) ∙ pick_true (eqb t x) (own_chain x) _ (eq-eqb t x e) ∙ ap own_chain (sym e)
    where
      at : In t l → In x l
      at j = rw e at j
  moved_own (x ∷ l) owner t o (inr j) h = moved_own l (move x owner) t o.1 j (λ s k. h s (inr k))

  -- an old slot, or one that stood in reuse
  moved-old : (l : List ℕ) (owner : ℕ → A) (t : ℕ) → (In t l → ⊥) → (owner t ≡ reuse) ⊎ ((s : ℕ) × In s l × (holder f n (key_in (new s)) ≡ t))
      → moved f n chain reuse l new owner t ≡ reuse
  unfolding moved
  moved-old [] owner t out (inl e) = e
  moved-old [] owner t out (inr a) = absurd a.1
  moved-old (x ∷ l) owner t out a = moved-old l (move x owner) t (λ j. out (inr j)) (go (eqb t (holder f n (key_in (new x)))) refl a)
    where
      off : eqb t x ≡ false
      off = ne_eqb t x (λ q. out (inl q))

      go : (b : Bool) → eqb t (holder f n (key_in (new x))) ≡ b → (owner t ≡ reuse) ⊎ ((s : ℕ) × In s (x ∷ l) × (holder f n (key_in (new s)) ≡ t))
          → (move x owner t ≡ reuse) ⊎ ((s : ℕ) × In s l × (holder f n (key_in (new s)) ≡ t))
      go true e c = inl (pick_false (eqb t x) (own_chain x) _ off ∙ pick_true (eqb t (holder f n (key_in (new x)))) reuse (owner t) e)
      go false e (inl q) = inl (pick_false (eqb t x) (own_chain x) _ off ∙ pick_false (eqb t (holder f n (key_in (new x)))) reuse (owner t) e ∙ q)
      go false e (inr c) = at c.0 c.1 c.2
        where
          at : (s : ℕ) → In s (x ∷ l) → holder f n (key_in (new s)) ≡ t → (move x owner t ≡ reuse) ⊎ ((s : ℕ) × In s l × (holder f n (key_in (new s)) ≡ t))
          at s (inl q) d = absurd (eqb-false t (holder f n (key_in (new x))) e (sym d ∙ ap (λ (y : ℕ). holder f n (key_in (new y))) q))
          at s (inr j) d = inr (s, j, d)

-- EACH SLOT STANDS WHERE THE MOVES KEY BY KEY PUT IT
module _ {A : Type 0} {f f' : Table} {num num' : SizeFields} {n w : ℕ} {taken : List ℕ} {new : Table}
    (b : Basket f num n w taken new) (st : Struck f f' num num' n taken new) (z : Finished f' num' taken new) (chain : ℕ → A) (reuse : A) where
  holder_weight : (s t : ℕ) → 1 ≤ t → holder f n (key_in (new s)) ≡ t → 0 < rank_for_key (key_in (new s)) (f t)
  holder_weight s t p e = go (is_holder f n (key_in (new s)) (omega arith))
    where
      go : Holder f n (key_in (new s)) → 0 < rank_for_key (key_in (new s)) (f t)
      go (holder_is i a x) = omega (arith, ap (λ (y : ℕ). rank_for_key (key_in (new s)) (f y)) e)

  -- from any owners that are those of the table but for the slots taken: "A basket takes all its slots before any other index change"
  pub finished_owner : (owner : ℕ → A) → ((t : ℕ) → Slot n t → (In t taken → ⊥) → owner t ≡ owner_in f n chain reuse t)
      → (t : ℕ) → Slot n t → owner_in f' n chain reuse t ≡ moved f n chain reuse taken new owner t
  unfolding owner_in
  finished_owner owner was t i = go (member taken t) refl (overwritten_or f new taken t)
    where
      go : (x : Bool) → member taken t ≡ x → Overwriting f new taken t → owner_in f' n chain reuse t ≡ moved f n chain reuse taken new owner t
      go true m o =
          let j = member_in taken t m in
          ap₂ (λ (q : Bool) (c : Content). cond q (chain (key_in c)) reuse) (finished_own b st z t j) (z t j).0
          ∙ sym (moved_own f n chain reuse new taken owner t b.once j (λ s k e. true-false (holder-live f n new s t (omega arith) e) (b.spare t j)))
      go false m (written_by s j p) =
          let out = not_member taken t m in
          pick_false (live f' n t) _ reuse (finished_over b st z t s i out j p)
          ∙ sym (moved-old f n chain reuse new taken owner t out (by (live f n t) refl))
        where
          by : (y : Bool) → live f n t ≡ y → (owner t ≡ reuse) ⊎ ((s : ℕ) × In s taken × (holder f n (key_in (new s)) ≡ t))
          by true l = inr (s, j, live-holder f n (key_in (new s)) t i l p)
          by false l = inl (was t i (not_member taken t m) ∙ pick_false (live f n t) _ reuse l)
      go false m (written_by_none h) =
          let out = not_member taken t m in
          ap₂ (λ (q : Bool) (c : Content). cond q (chain (key_in c)) reuse) (finished_kept b st z t i out h)
          (not_taken b st t i out).0
          ∙ sym (moved_kept f n chain reuse new taken owner t out (λ s k e. omega (arith, h s k, holder_weight s t i.0 e)) ∙ was t i out)
