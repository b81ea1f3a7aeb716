-- The slots that a basket takes leave the reuse chain, and the other chains stay. Assumes nothing.
use mathlib.Core.Path.{◌≡◌, refl, sym, ap, ◌∙◌, subst, fun_ext}
use mathlib.Core.Bool.{Bool, true, false, cond, not}
use mathlib.Core.Logic.{inl, inr}
use mathlib.Core.List.{List, [], ◌∷◌, ◌++◌, append-nil, append_assoc}
use Prim.Native.Nat.{ℕ, zero, suc}
use native.Mathlib.Omega.{arith}
use lib.Dec.{eqb}
use lib.ListN.{get_or}
use borrow.Author.Tests.{eq-eqb, ne_eqb}
use Rattle.prelude.specs.Filter.{filter}
use Rattle.prelude.specs.Members.{In, Once, Slot}
use Rattle.prelude.proofs.defs.Among.{is_one, member}
use Rattle.prelude.proofs.Among.{out_member, member_none, member_head, member_tail}
use Rattle.prelude.proofs.Choice.{pick_true, pick_false}
use Rattle.prelude.proofs.Lists.{in_right, filter_all}
use Rattle.index.specs.Index.{Chain, reuse, Index, ahead, set_start, set_last, link}
use Rattle.index.specs.Linked.{end_of, Owner, free, Entry, WellFormed, placed, ChainsPartition}
use Rattle.index.specs.Allocation.{Taken}
use Rattle.index.specs.Change.{take_first}
use Rattle.index.specs.Basket.{take_slot, all_taken_of, taken_slots}
use Rattle.index.proofs.defs.Linked.{give, with_chain}
use Rattle.index.proofs.defs.TakenIn.{takes_in, left_in}
use Rattle.index.proofs.defs.Items.{freed}
use Rattle.prelude.proofs.Paths.{end_in, end_snoc, stands_once}
use Rattle.prelude.proofs.Lists.{filter_alike}
use Rattle.index.proofs.Owners.{Which, that, other, which, with_same, with_other, with_twice}
use Rattle.index.proofs.Links.{ahead-next}
use Rattle.index.proofs.Relinks.{part_pos, part_run, disjoint_last, disjoint_unlink}
use Rattle.index.proofs.CallWrites.{slot_of, formed_alike, first_ends}
use Rattle.index.proofs.Sits.{sits_in, sits_once}

-- ---- one slot

end_after : (a : ℕ) (xs : List ℕ) (y : ℕ) (ys : List ℕ) → end_of a (xs ++ y ∷ ys) ≡ end_of y ys
end_after a [] y ys = refl
end_after a (x ∷ xs) y ys = end_after x xs y ys

-- the last slot after s is gone
last-after : (last s : ℕ) (xs ys : List ℕ) → last ≡ end_of 0 (xs ++ s ∷ ys) → (In s (xs ++ ys) → ⊥)
    → cond (eqb last s) (end_of 0 xs) last ≡ end_of 0 (xs ++ ys)
last-after last s xs [] e alone = rw (eq-eqb last s (e ∙ end_snoc 0 xs s), append-nil)
last-after last s xs (y ∷ ys) e alone =
    let d : last ≡ end_of y ys = e ∙ end_after 0 xs s (y ∷ ys) in
    rw (ne_eqb last s (λ q. alone (in_right s xs (y ∷ ys) (subst (λ (w : ℕ). In w (y ∷ ys)) (sym d ∙ q) (end_in y ys))))) (d ∙ sym (end_after 0 xs y ys))

formed_take_slot : (i : Index) (owner : ℕ → Owner) (chains : Chain → List ℕ) (xs : List ℕ) (s : ℕ) (ys : List ℕ) (prev : ℕ)
    → WellFormed i owner chains → chains reuse ≡ xs ++ s ∷ ys → prev ≡ end_of 0 xs
    → WellFormed (take_slot i (record { slot = s; prev = prev })) (give owner s free) (with_chain chains reuse (xs ++ ys))
unfolding take_slot set_last
formed_take_slot i owner chains xs s ys prev g e p =
    let w = g.disjoint in
    let t : Entry i s = slot_of _ _ _ reuse xs s ys w e in
    record {
      disjoint = disjoint_last (link i reuse prev (get_or i.next s 0)) _ _ _
          (rw (p, ← ahead-next i reuse s t.low) (disjoint_unlink _ _ _ reuse xs s ys w e));
      ends =
          rw (with_same, p) (last-after i.state.last s xs ys (g.ends ∙ ap (end_of 0) e)
          (stands_once (ahead i reuse) 0 xs s ys (part_pos _ _ _ w reuse xs (s ∷ ys) e) (part_run _ _ _ w reuse xs (s ∷ ys) e)));
    }

-- the first slot is taken as a single call takes it
pub take-first : (i : Index) (owner : ℕ → Owner) (chains : Chain → List ℕ) (rest : List ℕ) → WellFormed i owner chains → chains reuse ≡ i.state.first ∷ rest
    → take_slot i (record { slot = i.state.first; prev = 0 }) ≡ take_first i
unfolding take_slot take_first set_last link
take-first i owner chains rest g e =
    ap (set_last (set_start i reuse (get_or i.next i.state.first 0)))
    ((formed_take_slot i owner chains [] i.state.first rest 0 g e refl).ends ∙ ap (end_of 0) (with_same chains reuse rest)
    ∙ sym (first_ends i owner chains i.state.first rest g e))

-- ---- the first of a list that may be taken

with_idle : (chains : Chain → List ℕ) (c : Chain) (xs : List ℕ) → chains c ≡ xs → chains ≡ with_chain chains c xs
with_idle chains c xs e = fun_ext (λ k. go k (which k c))
  where
    go : (k : Chain) → Which k c → chains k ≡ with_chain chains c xs k
    go k (that t d) = ap chains d ∙ e ∙ sym (ap (with_chain chains c xs) d ∙ with_same chains c xs)
    go k (other t n) = sym (with_other chains c xs k n)

freed_more : (owner : ℕ → Owner) (s : ℕ) (ss : List ℕ) → freed (give owner s free) ss ≡ freed owner (s ∷ ss)
unfolding freed give member
freed_more owner s ss = fun_ext (λ x. go x (eqb x s) (is_one x ss))
  where
    go : (x : ℕ) (a b : Bool) → cond b free (cond a free (owner x)) ≡ cond (cond a true b) free (owner x)
    go x true true = refl
    go x true false = refl
    go x false true = refl
    go x false false = refl

formed_takes : (may : ℕ → Bool) (wanted : ℕ) (xs ys : List ℕ) (prev : ℕ) (i : Index) (owner : ℕ → Owner) (chains : Chain → List ℕ)
    → WellFormed i owner chains → chains reuse ≡ ys ++ xs → prev ≡ end_of 0 ys
    → WellFormed (all_taken_of i (takes_in may prev wanted xs)) (freed owner (taken_slots (takes_in may prev wanted xs)))
    (with_chain chains reuse (ys ++ left_in may wanted xs))
unfolding takes_in left_in all_taken_of taken_slots freed member
formed_takes may zero xs ys prev i owner chains g e p = formed_alike i _ _ _ _ refl (with_idle chains reuse (ys ++ xs) e) g
formed_takes may (suc wanted) [] ys prev i owner chains g e p = formed_alike i _ _ _ _ refl (with_idle chains reuse (ys ++ []) e) g
formed_takes may (suc wanted) (x ∷ xs) ys prev i owner chains g e p =
    go (may x)
    (formed_takes may wanted xs ys prev (take_slot i (record { slot = x; prev = prev })) (give owner x free) (with_chain chains reuse (ys ++ xs))
    (formed_take_slot i owner chains ys x xs prev g e p) (with_same chains reuse (ys ++ xs)) p)
    (formed_takes may (suc wanted) xs (ys ++ x ∷ []) x i owner chains g (e ∙ sym (append_assoc ys (x ∷ []) xs)) (sym (end_snoc 0 ys x)))
  where
    here : List Taken
    here = record { slot = x; prev = prev } ∷ takes_in may prev wanted xs

    later : List Taken
    later = takes_in may x (suc wanted) xs

    go : (b : Bool)
        → WellFormed (all_taken_of i here) (freed (give owner x free) (taken_slots (takes_in may prev wanted xs)))
        (with_chain (with_chain chains reuse (ys ++ xs)) reuse (ys ++ left_in may wanted xs))
        → WellFormed (all_taken_of i later) (freed owner (taken_slots later)) (with_chain chains reuse ((ys ++ x ∷ []) ++ left_in may (suc wanted) xs))
        → WellFormed (all_taken_of i (cond b here later)) (freed owner (taken_slots (cond b here later)))
        (with_chain chains reuse (ys ++ cond b (left_in may wanted xs) (x ∷ left_in may (suc wanted) xs)))
    go true a c =
        formed_alike (all_taken_of i here) _ _ _ _ (freed_more owner x (taken_slots (takes_in may prev wanted xs)))
        (with_twice chains reuse (ys ++ xs) (ys ++ left_in may wanted xs)) a
    go false a c =
        formed_alike (all_taken_of i later) _ _ _ _ refl
        (ap (λ (l : List ℕ). with_chain chains reuse l) (append_assoc ys (x ∷ []) (left_in may (suc wanted) xs))) c

-- ---- what is taken and what is left

takes-in : (may : ℕ → Bool) (prev wanted : ℕ) (xs : List ℕ) (x : ℕ) → In x (taken_slots (takes_in may prev wanted xs)) → In x xs
unfolding takes_in taken_slots
takes-in may prev zero xs x m = absurd m
takes-in may prev (suc wanted) [] x m = absurd m
takes-in may prev (suc wanted) (y ∷ xs) x m = go (may y) m (takes-in may prev wanted xs x) (takes-in may y (suc wanted) xs x)
  where
    go : (b : Bool) → In x (taken_slots (cond b (record { slot = y; prev = prev } ∷ takes_in may prev wanted xs) (takes_in may y (suc wanted) xs)))
        → (In x (taken_slots (takes_in may prev wanted xs)) → In x xs) → (In x (taken_slots (takes_in may y (suc wanted) xs)) → In x xs) → In x (y ∷ xs)
    go true (inl e) a c = inl e
    go true (inr k) a c = inr (a k)
    go false k a c = inr (c k)

takes_once : (may : ℕ → Bool) (prev wanted : ℕ) (xs : List ℕ) → Once xs → Once (taken_slots (takes_in may prev wanted xs))
unfolding takes_in taken_slots
takes_once may prev zero xs o = tt
takes_once may prev (suc wanted) [] o = tt
takes_once may prev (suc wanted) (y ∷ xs) o =
    go (may y) (λ m. o.0 (takes-in may prev wanted xs y m)) (takes_once may prev wanted xs o.1) (takes_once may y (suc wanted) xs o.1)
  where
    go : (b : Bool) → (In y (taken_slots (takes_in may prev wanted xs)) → ⊥) → Once (taken_slots (takes_in may prev wanted xs))
        → Once (taken_slots (takes_in may y (suc wanted) xs))
        → Once (taken_slots (cond b (record { slot = y; prev = prev } ∷ takes_in may prev wanted xs) (takes_in may y (suc wanted) xs)))
    go true n a c = (n, a)
    go false n a c = c

left_is : (may : ℕ → Bool) (prev wanted : ℕ) (xs : List ℕ) → Once xs
    → left_in may wanted xs ≡ filter (λ t. not (member (taken_slots (takes_in may prev wanted xs)) t)) xs
unfolding takes_in taken_slots left_in
left_is may prev zero xs o = sym (filter_all (λ t. not (member [] t)) xs (λ t m. ap not (member_none t)))
left_is may prev (suc wanted) [] o = unfold filter in refl
left_is may prev (suc wanted) (x ∷ xs) o = go (may x) (left_is may prev wanted xs o.1) (left_is may x (suc wanted) xs o.1)
  where
    here : List ℕ
    here = taken_slots (takes_in may prev wanted xs)

    later : List ℕ
    later = taken_slots (takes_in may x (suc wanted) xs)

    go : (b : Bool) → left_in may wanted xs ≡ filter (λ t. not (member here t)) xs
        → left_in may (suc wanted) xs ≡ filter (λ t. not (member later t)) xs
        → cond b (left_in may wanted xs) (x ∷ left_in may (suc wanted) xs)
        ≡ filter (λ t. not (member (taken_slots (cond b (record { slot = x; prev = prev } ∷ takes_in may prev wanted xs) (takes_in may x (suc wanted) xs))) t))
        (x ∷ xs)
    go true a c =
        a ∙ filter_alike _ _ xs (λ t m. ap not (sym (member_tail x t here (λ e. o.0 (rw e at m)))))
        ∙ sym (unfold filter in pick_false _ _ _ (ap not (member_head x here)))
    go false a c =
        ap (λ (l : List ℕ). x ∷ l) c
        ∙ sym (unfold filter in pick_true _ _ _ (ap not (out_member later x (λ m. o.0 (takes-in may x (suc wanted) xs x m)))))

-- THE TAKING of a basket's slots: they are nobody's, the reuse chain is what is left, and the heads' chains stay
module _ (n b : ℕ) (place : ℕ → Chain) (i : Index) (chains : Chain → List ℕ) (g : ChainsPartition n b place i chains) (may : ℕ → Bool) (wanted : ℕ) where
  pub sits_takes : WellFormed (all_taken_of i (takes_in may 0 wanted (chains reuse)))
      (freed (placed n place) (taken_slots (takes_in may 0 wanted (chains reuse))))
      (with_chain chains reuse (filter (λ t. not (member (taken_slots (takes_in may 0 wanted (chains reuse))) t)) (chains reuse)))
  sits_takes =
      rw (← left_is may 0 wanted (chains reuse) (sits_once n b place i chains g reuse))
      (formed_takes may wanted (chains reuse) [] 0 i (placed n place) chains g.formed refl refl)

  pub sits_taken : (x : ℕ) → In x (taken_slots (takes_in may 0 wanted (chains reuse))) → Slot n x × (place x ≡ reuse)
  sits_taken x m =
      let q = sits_in n b place i chains g reuse x (takes-in may 0 wanted (chains reuse) x m) in
      ((omega (arith, q.0), q.1), q.2)

  pub sits_taken_once : Once (taken_slots (takes_in may 0 wanted (chains reuse)))
  sits_taken_once = takes_once may 0 wanted (chains reuse) (sits_once n b place i chains g reuse)
