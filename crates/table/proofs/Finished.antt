-- A basket of which all records are written: all of it is there. Assumes nothing.
use mathlib.Core.Path.{◌≡◌, refl, sym, ap, ◌∙◌}
use mathlib.Core.Bool.{Bool, true, false}
use mathlib.Core.Logic.{◌⊎◌, inl, inr, ⊎_elim}
use mathlib.Core.List.{List, [], ◌∷◌}
use Prim.Native.Nat.{ℕ, suc, ◌≤◌, ◌<◌}
use native.Mathlib.Omega.{arith}
use lib.ListN.{length}
use borrow.Author.Tests.{eq-eqb}
use Rattle.layout.specs.Content.{Table, highest_whole_in}
use Rattle.prelude.specs.Members.{In, Slot}
use Rattle.prelude.proofs.defs.Among.{member}
use Rattle.prelude.proofs.Among.{in_member, member_in, count-member, not_member, out_member}
use Rattle.prelude.proofs.Choice.{true-false, same_test, pick_true}
use Rattle.prelude.proofs.Count.{count_same}
use Rattle.prelude.proofs.Lists.{some_element}
use Rattle.prelude.proofs.Most.{greatest_above, greatest_least}
use Rattle.table.specs.Complete.{SizeFields, size_field_for, has_version, sharers, complete, basket_size, highest_complete, NoneVoid, settled}
use Rattle.table.specs.Table.{is_record, key_in, rank_for_key, decider, map_of, value_in, live, next_version}
use Rattle.table.specs.Takeable.{valid_version, highest_valid, IsNewest}
use Rattle.table.proofs.defs.Basket.{Basket, changes}
use Rattle.table.proofs.defs.Struck.{Struck, Finished, Unfinished, SlotAfter, kept, unfinished, lost, done}
use Rattle.table.proofs.defs.Write.{Outside, Free}
use Rattle.table.specs.Class.{is_put}
use Rattle.table.proofs.Changes.{key_sought, Keyed, keyed, changes_hit, unkeyed, changes_miss}
use Rattle.table.proofs.Complete.{complete_is, said_for, highest_complete_above, highest_complete_least, complete_record, not_void, settled_same}
use Rattle.table.proofs.Map.{newest, set_new, map_kept, live_put, live_remove, other_idle, live_kept}
use Rattle.table.proofs.OneSlot.{says, Says, puts, removes, weight_put}
use Rattle.table.proofs.Alike.{alike_map}
use Rattle.table.proofs.Struck.{new_is, new_version, version_most, not_taken, taken_free}
use Rattle.table.proofs.Takeable.{highest_valid_above, highest_valid_least}

module _ {f f' : Table} {num num' : SizeFields} {n w : ℕ} {taken : List ℕ} {new : Table}
    (b : Basket f num n w taken new) (st : Struck f f' num num' n taken new) where
  -- the basket is finished or it is not
  pub finished_or : Finished f' num' taken new ⊎ Unfinished f' taken new
  unfolding is_record
  finished_or = all taken (λ t i. i)
    where
      All : List ℕ → Type 0
      All l = ((t : ℕ) → In t l → (f' t ≡ new t) × (num' t ≡ size_field_for (length taken))) ⊎ Unfinished f' taken new

      at : (x : ℕ) (l : List ℕ) → In x taken → SlotAfter (f x) (new x) (f' x) (num x) (size_field_for (length taken)) (num' x) → All l → All (x ∷ l)
      at x l j q (inr u) = inr u
      at x l j (kept e d) (inl h) =
          inr (unfinished x j (λ p. omega (arith, ap highest_whole_in (sym e ∙ p), b.above x (b.slot x j), (b.records x j).tops)))
      at x l j (lost y e) (inl h) = inr (unfinished x j (λ p. true-false (b.records x j).counted (ap is_record (sym p ∙ e))))
      at x l j (done e d) (inl h) = inl (λ t i. ⊎_elim (λ q. (rw q e, rw q d)) (h t) i)

      all : (l : List ℕ) → ((t : ℕ) → In t l → In t taken) → All l
      all [] h = inl (λ t i. absurd i)
      all (x ∷ l) h = at x l (h x (inl refl)) (st.after x (h x (inl refl))) (all l (λ t i. h t (inr i)))

module _ {f f' : Table} {num num' : SizeFields} {n w : ℕ} {taken : List ℕ} {new : Table}
    (b : Basket f num n w taken new) (st : Struck f f' num num' n taken new) (z : Finished f' num' taken new) where
  finished_version : (t : ℕ) → Slot n t → has_version f' w t ≡ member taken t
  finished_version t i =
      same_test _ _ (λ e. in_member taken t (new_is b st t i e).0)
      (λ e. let j = member_in taken t e in new_version b st t j (z t j).0)

  finished_sharers : sharers f' n w ≡ length taken
  unfolding sharers
  finished_sharers = count_same (has_version f' w) (member taken) n finished_version ∙ count-member taken n b.once b.slot

  pub new_top : (t : ℕ) → In t taken → highest_whole_in (f' t) ≡ w
  new_top t j = ap highest_whole_in (z t j).0 ∙ (b.records t j).tops

  -- THE BASKET IS COMPLETE
  pub finished_complete : (t : ℕ) → In t taken → complete f' num' n t ≡ true
  finished_complete t j =
      complete_is f' num' n t (ap is_record (z t j).0 ∙ (b.records t j).counted)
      (omega (arith, ap (sharers f' n) (new_top t j), finished_sharers, ap basket_size (z t j).1, said_for (length taken) b.some))

  pub finished_highest_complete : highest_complete f' num' n ≡ w
  finished_highest_complete =
      let s = some_element taken b.some in
      omega (
        arith,
        highest_complete_above f' num' n s.0 (b.slot s.0 s.1) (finished_complete s.0 s.1),
        new_top s.0 s.1,
        highest_complete_least f' num' n w (λ t i c. version_most b st t i (complete_record f' num' n t c)),
      )

  -- NO SLOT IS VOID
  pub finished_none_void : NoneVoid f' num' n
  finished_none_void t i = not_void f' num' n t (λ c. omega (arith, finished_highest_complete, version_most b st t i c))

  pub finished_settled : (t : ℕ) → Slot n t → settled f' num' n t ≡ f' t
  finished_settled t i = settled_same f' num' n t (finished_none_void t i)

  all_outside : Outside f f' n (member taken)
  all_outside t i e = (not_taken b st t i (not_member taken t e)).0

  all_free : Free f n (member taken)
  all_free = taken_free b st (member taken) (λ t e. e)

  -- a record of the basket says nothing of another key
  new_none : (k t : ℕ) → In t taken → (key_in (new t) ≡ k → ⊥) → rank_for_key k (f' t) ≡ 0
  new_none k t j h = ap (rank_for_key k) (z t j).0 ∙ (b.records t j).other k h

  new_own : (k s : ℕ) → In s taken → key_in (new s) ≡ k → rank_for_key k (f' s) ≡ suc w
  new_own k s j e = ap (rank_for_key k) (z s j).0 ∙ ap (λ (x : ℕ). rank_for_key x (new s)) (sym e) ∙ (b.records s j).own

  others_none : (k s : ℕ) → In s taken → key_in (new s) ≡ k → (t : ℕ) → Slot n t → member taken t ≡ true → (t ≡ s → ⊥) → rank_for_key k (f' t) ≡ 0
  others_none k s j e t i c ne = let a = member_in taken t c in new_none k t a (λ q. ne (b.keys t s a j (q ∙ sym e)))

  -- each new record decides its key
  pub finished_decider : (k s : ℕ) → In s taken → key_in (new s) ≡ k → decider f' n k ≡ s
  finished_decider k s j e =
      newest f f' n (member taken) all_outside w b.above k s (b.slot s j) (in_member taken s j) (new_own k s j e) (others_none k s j e)

  table_map : (k : ℕ) → map_of f' n k ≡ changes taken new (map_of f n) k
  table_map k = go (key_sought taken new k)
    where
      go : Keyed taken new k → map_of f' n k ≡ changes taken new (map_of f n) k
      go (keyed s j e) =
          set_new f f' n (member taken) all_outside w b.above k s (b.slot s j) (in_member taken s j) (new_own k s j e) (others_none k s j e)
          ∙ ap value_in (z s j).0 ∙ sym (changes_hit taken new (map_of f n) k s j e (λ t i q. b.keys t s i j (q ∙ sym e)))
      go (unkeyed h) =
          map_kept f f' n (member taken) all_free all_outside k (λ t i c. new_none k t (member_in taken t c) (h t (member_in taken t c)))
          ∙ sym (changes_miss taken new (map_of f n) k h)

  -- THE MAP HAS ALL THE CHANGES
  pub finished_map : (k : ℕ) → map_of (settled f' num' n) n k ≡ changes taken new (map_of f n) k
  finished_map k = alike_map f' (settled f' num' n) n finished_settled k ∙ table_map k

  -- which slots are live: those of the basket's puts,
  pub finished_own : (s : ℕ) → In s taken → live f' n s ≡ is_put (new s)
  unfolding is_put
  finished_own s j = go (says (key_in (new s)) (new s) (omega (arith, (b.records s j).own)))
    where
      go : Says (key_in (new s)) (new s) → live f' n s ≡ is_put (new s)
      go (puts u v e) =
          live_put f' n s u (key_in (new s)) v ((z s j).0 ∙ e) ∙ eq-eqb (decider f' n (key_in (new s))) s (finished_decider (key_in (new s)) s j refl)
          ∙ sym (ap is_put e)
      go (removes u e) = live_remove f' n s u (key_in (new s)) ((z s j).0 ∙ e) ∙ sym (ap is_put e)

  -- no other record of one of its keys,
  pub finished_over : (t s : ℕ) → Slot n t → (In t taken → ⊥) → In s taken → 0 < rank_for_key (key_in (new s)) (f t) → live f' n t ≡ false
  finished_over t s i h j p =
      other_idle f' n (key_in (new s)) s t (finished_decider (key_in (new s)) s j refl) (λ e. h (rw e j))
      (omega (arith, ap (rank_for_key (key_in (new s))) (not_taken b st t i h).0))

  -- and the slots of other keys as before
  pub finished_kept : (t : ℕ) → Slot n t → (In t taken → ⊥) → ((s : ℕ) → In s taken → rank_for_key (key_in (new s)) (f t) ≡ 0) → live f' n t ≡ live f n t
  finished_kept t i h other =
      live_kept f f' n (member taken) all_free all_outside t i (out_member taken t h)
      (λ u k v e s j c. new_none k s (member_in taken s c)
      (λ q. omega (arith, other s (member_in taken s c), ap (λ (x : ℕ). rank_for_key x (f t)) q, ap (rank_for_key k) e, weight_put u k v)))

  pub finished_next : next_version f' n ≡ suc w
  unfolding next_version
  finished_next =
      let s = some_element taken b.some in
      omega (
        arith,
        greatest_above (λ t. highest_whole_in (f' t)) n s.0 (b.slot s.0 s.1),
        new_top s.0 s.1,
        greatest_least (λ t. highest_whole_in (f' t)) n w (λ t i. most t i (member taken t) refl),
      )
    where
      most : (t : ℕ) → Slot n t → (x : Bool) → member taken t ≡ x → highest_whole_in (f' t) ≤ w
      most t i true e = omega (arith, new_top t (member_in taken t e))
      most t i false e = omega (arith, ap highest_whole_in (all_outside t i e), b.above t i)

  -- the highest valid version is the basket's
  pub finished_highest_valid : highest_valid f' n ≡ w
  finished_highest_valid =
      let s = some_element taken b.some in
      omega (
        arith,
        highest_valid_above f' n s.0 (b.slot s.0 s.1) (ap is_record (z s.0 s.1).0 ∙ (b.records s.0 s.1).counted),
        new_top s.0 s.1,
        highest_valid_least f' n w (version_most b st),
      )

  -- and so is that of each of its slots
  pub finished_newest : (t : ℕ) → In t taken → IsNewest f' n t
  unfolding valid_version
  finished_newest t j some = (
    b.slot t j,
    pick_true (is_record (f' t)) (highest_whole_in (f' t)) 0 (ap is_record (z t j).0 ∙ (b.records t j).counted) ∙ new_top t j ∙ sym finished_highest_valid,
  )
