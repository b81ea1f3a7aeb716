-- The changes of a well-formed index: a slot leaves a chain, takes another's place, or joins; a free slot's next is nobody's. Assumes nothing.
use mathlib.Core.Path.{◌≡◌, refl, sym, ap, ◌∙◌}
use mathlib.Core.Logic.{◌⊎◌, inl, inr, by_cases}
use mathlib.Core.List.{List, [], ◌∷◌, ◌++◌}
use Prim.Native.Nat.{ℕ, ◌<◌, ◌≤◌}
use native.Mathlib.Decide.{dec_lt}
use native.Mathlib.Omega.{arith}
use lib.ListN.{length, get_or-eq_default}
use Rattle.index.specs.Index.{Chain, reuse, head, Index, start, ahead, set_next, set_last, link}
use Rattle.prelude.specs.Members.{In}
use Rattle.index.specs.Linked.{Run, end_of, Owner, free, of, Entry, Disjoint}
use Rattle.index.proofs.defs.Linked.{give, with_chain, Room}
use Rattle.prelude.proofs.Paths.{Pos, stands_once, mid_in, end_in, run_alike, run_unlink, run_replace, run_insert}
use Rattle.prelude.proofs.Lists.{in_left}
use Rattle.index.proofs.Owners.{Told, is, isnt, told, free_of, of-of, give_same, give_other, with_same, with-all, with_twice, owned_add, owned_drop}
use Rattle.index.proofs.Links.{set_else, link_here, link_else, link_start, last_same, link_size, set_size, slot_size}

slot_give : (i j : Index) (owner : ℕ → Owner) (s : ℕ) (o : Owner) → length j.next ≡ length i.next
    → ((k : Chain) (x : ℕ) → owner x ≡ of k → Entry i x) → ((k : Chain) → o ≡ of k → Entry i s)
    → (k : Chain) (x : ℕ) → give owner s o x ≡ of k → Entry j x
slot_give i j owner s o e h n k x p = go (told x s)
  where
    go : Told x s → Entry j x
    go (is t d) = slot_size i j x e (rw d (n k (sym (give_same owner s o x d) ∙ p)))
    go (isnt t u) = slot_size i j x e (h k x (sym (give_other owner s o x u) ∙ p))

zero_start : (i : Index) (h : ℕ) → length i.heads ≤ h → ahead i (head h) 0 ≡ 0
unfolding ahead start
zero_start i h k = get_or-eq_default i.heads 0 k

-- a chain with a slot in it has its head
pub room-of : (i : Index) (owner : ℕ → Owner) (chains : Chain → List ℕ) (c : Chain) (x : ℕ) → Disjoint i owner chains → In x (chains c)
    → Room i c
room-of i owner chains reuse x w m = tt
room-of i owner chains (head h) x w m =
    by_cases (dec_lt h (length i.heads)) (λ k. k) (λ k. absurd (go (chains (head h)) refl (omega arith)))
  where
    go : (l : List ℕ) → chains (head h) ≡ l → length i.heads ≤ h → ⊥
    go [] e k = rw e at m
    go (y ∷ l) e k =
        let r : Run (ahead i (head h)) (ahead i (head h) 0) (y ∷ l) 0 = rw e at (w.runs (head h)) in
        let o : owner y ≡ of (head h) = w.owned.mine (head h) y (rw e (inl refl)) in
        omega (arith, zero_start i h k, r.0, (w.slot (head h) y o).low)

-- the owner of a slot that stands in a part of a chain
module _
    (i : Index) (owner : ℕ → Owner) (chains : Chain → List ℕ) (w : Disjoint i owner chains) (c : Chain) (xs ys : List ℕ)
    (e : chains c ≡ xs ++ ys) where
  pub part_of : (x : ℕ) → In x (xs ++ ys) → owner x ≡ of c
  part_of x m = w.owned.mine c x (rw e m)

  pub part_pos : Pos (xs ++ ys)
  part_pos y m = (w.slot c y (part_of y m)).low

  pub part_run : Run (ahead i c) (ahead i c 0) (xs ++ ys) 0
  part_run = rw e at (w.runs c)

  end_cases : (end_of 0 xs ≡ 0) ⊎ (owner (end_of 0 xs) ≡ of c)
  end_cases = go (end_in 0 xs)
    where
      go : In (end_of 0 xs) (0 ∷ xs) → (end_of 0 xs ≡ 0) ⊎ (owner (end_of 0 xs) ≡ of c)
      go (inl d) = inl d
      go (inr m) = inr (part_of (end_of 0 xs) (in_left (end_of 0 xs) xs ys m))

  pub end_size : 0 < end_of 0 xs → end_of 0 xs < length i.next
  end_size h = go end_cases
    where
      go : (end_of 0 xs ≡ 0) ⊎ (owner (end_of 0 xs) ≡ of c) → end_of 0 xs < length i.next
      go (inl d) = absurd (omega arith)
      go (inr o) = (w.slot c (end_of 0 xs) o).high

  -- a slot that is not this chain's is not its last
  pub not_end : (x : ℕ) → 0 < x → (owner x ≡ of c → ⊥) → x ≡ end_of 0 xs → ⊥
  not_end x h n d = go end_cases
    where
      go : (end_of 0 xs ≡ 0) ⊎ (owner (end_of 0 xs) ≡ of c) → ⊥
      go (inl z) = omega arith
      go (inr o) = n (ap owner d ∙ o)

  -- a link of this chain is no link of another
  pub others : (v : ℕ) (k : Chain) → (k ≡ c → ⊥)
      → Run (ahead (link i c (end_of 0 xs) v) k) (ahead (link i c (end_of 0 xs) v) k 0) (chains k) 0
  others v k n =
      run_alike (ahead i k) (ahead (link i c (end_of 0 xs) v) k) (chains k) _ _ 0 (sym (link_start i c (end_of 0 xs) v k n))
      (λ y m. let o = w.owned.mine k y m in sym
      (link_else i c (end_of 0 xs) v k y (not_end y (w.slot k y o).low (λ p. n (of-of k c (sym o ∙ p))))))
      (w.runs k)

-- the next of a slot that nobody has is nobody's
pub disjoint_set : (i : Index) (owner : ℕ → Owner) (chains : Chain → List ℕ) (s v : ℕ) → Disjoint i owner chains → 0 < s → owner s ≡ free
    → Disjoint (set_next i s v) owner chains
disjoint_set i owner chains s v w h f = record {
  runs =
      λ c. run_alike (ahead i c) (ahead (set_next i s v) c) (chains c) _ _ 0 (sym (set_else i s v c 0 (λ d. omega arith)))
      (λ y m. sym (set_else i s v c y (λ d. free_of c (sym f ∙ ap owner (sym d) ∙ w.owned.mine c y m)))) (w.runs c);
  owned = w.owned;
  slot = λ c x o. slot_size i (set_next i s v) x (set_size i s v) (w.slot c x o);
}

-- the last slot is no part of what is disjoint
pub disjoint_last : (i : Index) (owner : ℕ → Owner) (chains : Chain → List ℕ) (v : ℕ) → Disjoint i owner chains → Disjoint (set_last i v) owner chains
unfolding set_last
disjoint_last i owner chains v w = record {
  runs =
      λ c. run_alike (ahead i c) (ahead (set_last i v) c) (chains c) _ _ 0 (sym (last_same i v c 0)) (λ y m. sym (last_same i v c y))
      (w.runs c);
  owned = w.owned;
  slot = λ c x o. record { low = (w.slot c x o).low; high = (w.slot c x o).high };
}

-- old leaves its chain
pub disjoint_unlink : (i : Index) (owner : ℕ → Owner) (chains : Chain → List ℕ) (c : Chain) (xs : List ℕ) (old : ℕ) (ys : List ℕ)
    → Disjoint i owner chains
    → chains c ≡ xs ++ old ∷ ys → Disjoint (link i c (end_of 0 xs) (ahead i c old)) (give owner old free) (with_chain chains c (xs ++ ys))
disjoint_unlink i owner chains c xs old ys w e =
    let p : Pos (xs ++ old ∷ ys) = part_pos _ _ _ w c xs (old ∷ ys) e in
    let r : Run (ahead i c) (ahead i c 0) (xs ++ old ∷ ys) 0 = part_run _ _ _ w c xs (old ∷ ys) e in
    let m : In old (xs ++ old ∷ ys) = mid_in old old xs ys (inl refl) in
    let a : Room i c = room-of _ _ _ c old w (rw e m) in
    record {
      runs =
          with-all (λ k l. Run (ahead (link i c (end_of 0 xs) (ahead i c old)) k)
          (ahead (link i c (end_of 0 xs) (ahead i c old)) k 0) l 0) chains c (xs ++ ys)
          (run_unlink (ahead i c) (ahead (link i c (end_of 0 xs) (ahead i c old)) c) 0 xs
          (link_else i c (end_of 0 xs) (ahead i c old) c) old ys p r
          (link_here i c (end_of 0 xs) (ahead i c old) a (end_size _ _ _ w c xs (old ∷ ys) e)))
          (others _ _ _ w c xs (old ∷ ys) e (ahead i c old));
      owned = owned_drop owner chains c old xs ys w.owned e (stands_once (ahead i c) 0 xs old ys p r);
      slot =
          slot_give i (link i c (end_of 0 xs) (ahead i c old)) owner old free (link_size i c (end_of 0 xs) (ahead i c old)) w.slot
          (λ k d. absurd (free_of k d));
    }

-- s, which nobody has, joins: its next is what followed the place
pub disjoint_insert : (i : Index) (owner : ℕ → Owner) (chains : Chain → List ℕ) (c : Chain) (xs : List ℕ) (s : ℕ) (ys : List ℕ)
    → Disjoint i owner chains
    → chains c ≡ xs ++ ys → Room i c → Entry i s → owner s ≡ free → ahead i c s ≡ ahead i c (end_of 0 xs)
    → Disjoint (link i c (end_of 0 xs) s) (give owner s (of c)) (with_chain chains c (xs ++ s ∷ ys))
disjoint_insert i owner chains c xs s ys w e a t f n =
    let u : owner s ≡ of c → ⊥ = λ o. free_of c (sym f ∙ o) in
    record {
      runs = with-all (λ k l. Run (ahead (link i c (end_of 0 xs) s) k) (ahead (link i c (end_of 0 xs) s) k 0) l 0) chains c (xs ++ s ∷ ys)
          (run_insert (ahead i c) (ahead (link i c (end_of 0 xs) s) c) 0 xs (link_else i c (end_of 0 xs) s c) s ys
          (part_pos _ _ _ w c xs ys e) (part_run _ _ _ w c xs ys e)
          (not_end _ _ _ w c xs ys e s t.low u) n (link_here i c (end_of 0 xs) s a (end_size _ _ _ w c xs ys e)))
          (others _ _ _ w c xs ys e s);
      owned = owned_add owner chains c s xs ys w.owned e f;
      slot = slot_give i (link i c (end_of 0 xs) s) owner s (of c) (link_size i c (end_of 0 xs) s) w.slot (λ k d. t);
    }

-- s, which nobody has, takes old's place: its next is old's
pub disjoint_replace : (i : Index) (owner : ℕ → Owner) (chains : Chain → List ℕ) (c : Chain) (xs : List ℕ) (old s : ℕ) (ys : List ℕ)
    → Disjoint i owner chains
    → chains c ≡ xs ++ old ∷ ys → Entry i s → owner s ≡ free → ahead i c s ≡ ahead i c old
    → Disjoint (link i c (end_of 0 xs) s) (give (give owner old free) s (of c)) (with_chain chains c (xs ++ s ∷ ys))
disjoint_replace i owner chains c xs old s ys w e t f n =
    let p : Pos (xs ++ old ∷ ys) = part_pos _ _ _ w c xs (old ∷ ys) e in
    let r : Run (ahead i c) (ahead i c 0) (xs ++ old ∷ ys) 0 = part_run _ _ _ w c xs (old ∷ ys) e in
    let m : In old (xs ++ old ∷ ys) = mid_in old old xs ys (inl refl) in
    let a : Room i c = room-of _ _ _ c old w (rw e m) in
    let u : owner s ≡ of c → ⊥ = λ o. free_of c (sym f ∙ o) in
    let ne : s ≡ old → ⊥ = λ d. u (ap owner d ∙ part_of _ _ _ w c xs (old ∷ ys) e old m) in
    record {
      runs = with-all (λ k l. Run (ahead (link i c (end_of 0 xs) s) k) (ahead (link i c (end_of 0 xs) s) k 0) l 0) chains c (xs ++ s ∷ ys)
          (run_replace (ahead i c) (ahead (link i c (end_of 0 xs) s) c) 0 xs (link_else i c (end_of 0 xs) s c) old s ys p r
          (not_end _ _ _ w c xs (old ∷ ys) e s t.low u) n
          (link_here i c (end_of 0 xs) s a (end_size _ _ _ w c xs (old ∷ ys) e)))
          (others _ _ _ w c xs (old ∷ ys) e s);
      owned =
          rw (with_twice chains c (xs ++ ys) (xs ++ s ∷ ys)) at
          (owned_add (give owner old free) (with_chain chains c (xs ++ ys)) c s xs ys
          (owned_drop owner chains c old xs ys w.owned e (stands_once (ahead i c) 0 xs old ys p r)) (with_same chains c (xs ++ ys))
          (give_other owner old free s ne ∙ f));
      slot =
          slot_give i (link i c (end_of 0 xs) s) (give owner old free) s (of c) (link_size i c (end_of 0 xs) s)
          (slot_give i i owner old free refl w.slot (λ k d. absurd (free_of k d))) (λ k d. t);
    }
