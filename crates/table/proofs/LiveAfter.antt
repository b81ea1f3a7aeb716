-- The live count after a basket that is done: more by its puts, fewer by its held keys. Assumes nothing.
use mathlib.Core.Path.{◌≡◌, refl, sym, ap, ◌∙◌}
use mathlib.Core.Bool.{Bool, true, false, cond, not, ◌&&◌}
use mathlib.Core.Logic.{inl, inr, ⊎_elim}
use mathlib.Core.Option.{Option}
use mathlib.Core.List.{List, [], ◌∷◌}
use Prim.Native.Nat.{ℕ, ◌+◌, ◌<◌}
use native.Mathlib.Omega.{arith}
use lib.Dec.{ltb, eqb}
use borrow.Author.Tests.{lt-ltb, ltb-true, ltb-false, le-ltb, eqb-true, eqb-false, eq-eqb, ne_eqb}
use Rattle.layout.specs.Content.{Table}
use Rattle.prelude.specs.Members.{In, Slot, Once}
use Rattle.prelude.specs.Range.{count}
use Rattle.prelude.proofs.defs.Among.{member}
use Rattle.prelude.proofs.Among.{out_member, member_head, member_tail, member_in, not_member}
use Rattle.prelude.proofs.Choice.{pick_true, pick_false, is_false, true-false}
use Rattle.prelude.proofs.Count.{count_more, count_same}
use Rattle.table.specs.Complete.{SizeFields}
use Rattle.table.specs.Table.{rank_for_key, key_in, live, is_held, map_of, decider, live_count}
use Rattle.table.proofs.defs.Basket.{one_if, held_in, puts_in, HeldRemoved, removes_in, inserts_in, Basket}
use Rattle.table.proofs.defs.Struck.{Struck, Finished}
use Rattle.table.specs.Class.{is_put}
use Rattle.table.proofs.Finished.{finished_own, finished_over, finished_kept}
use Rattle.table.proofs.Held.{Held, held, held_or, unheld}
use Rattle.table.proofs.Map.{live_is, Live, lives, decider_weight, other_idle}
use Rattle.table.proofs.OneSlot.{one-key, weight_put}

-- slot t has a record of the key of one of these records
unfoldable overwritten : (f new : Table) → List ℕ → (t : ℕ) → Bool
overwritten f new [] t = false
overwritten f new (s ∷ l) t = cond (ltb 0 (rank_for_key (key_in (new s)) (f t))) true (overwritten f new l t)

overwritten_is : (f new : Table) (l : List ℕ) (t s : ℕ) → In s l → 0 < rank_for_key (key_in (new s)) (f t) → overwritten f new l t ≡ true
unfolding overwritten
overwritten_is f new [] t s i p = absurd i
overwritten_is f new (x ∷ l) t s (inl e) p = pick_true (ltb 0 (rank_for_key (key_in (new x)) (f t))) _ _ (lt-ltb 0 (rank_for_key (key_in (new x)) (f t)) (at e))
  where
    at : s ≡ x → 0 < rank_for_key (key_in (new x)) (f t)
    at q = rw q at p
overwritten_is f new (x ∷ l) t s (inr i) p = either (ltb 0 (rank_for_key (key_in (new x)) (f t))) (overwritten_is f new l t s i p)
  where
    either : (b : Bool) → overwritten f new l t ≡ true → cond b true (overwritten f new l t) ≡ true
    either true e = refl
    either false e = e

-- such a record, or none
pub data Overwriting (f new : Table) (l : List ℕ) (t : ℕ) : Type 0 where
  written_by : (s : ℕ) → In s l → 0 < rank_for_key (key_in (new s)) (f t) → Overwriting f new l t
  written_by_none : ((s : ℕ) → In s l → rank_for_key (key_in (new s)) (f t) ≡ 0) → Overwriting f new l t

pub overwritten_or : (f new : Table) (l : List ℕ) (t : ℕ) → Overwriting f new l t
overwritten_or f new [] t = written_by_none (λ s i. absurd i)
overwritten_or f new (x ∷ l) t = go (ltb 0 (rank_for_key (key_in (new x)) (f t))) refl (overwritten_or f new l t)
  where
    go : (b : Bool) → ltb 0 (rank_for_key (key_in (new x)) (f t)) ≡ b → Overwriting f new l t → Overwriting f new (x ∷ l) t
    go true e ih = written_by x (inl refl) (ltb-true 0 (rank_for_key (key_in (new x)) (f t)) e)
    go false e (written_by s i p) = written_by s (inr i) p
    go false e (written_by_none h) = written_by_none (λ s i. ⊎_elim (λ q. rw q (omega (arith, ltb-false 0 (rank_for_key (key_in (new x)) (f t)) e))) (h s) i)

overwritten_none : (f new : Table) (l : List ℕ) (t : ℕ) → ((s : ℕ) → In s l → rank_for_key (key_in (new s)) (f t) ≡ 0) → overwritten f new l t ≡ false
unfolding overwritten
overwritten_none f new [] t h = refl
overwritten_none f new (x ∷ l) t h =
    pick_false (ltb 0 (rank_for_key (key_in (new x)) (f t))) _ _ (le-ltb 0 (rank_for_key (key_in (new x)) (f t)) (omega (arith, h x (inl refl))))
    ∙ overwritten_none f new l t (λ s i. h s (inr i))

-- the live slots once the records of the slots l are written
unfoldable live_after : (f : Table) → (n : ℕ) → (new : Table) → List ℕ → (t : ℕ) → Bool
live_after f n new l t = cond (member l t) (is_put (new t)) (cond (overwritten f new l t) false (live f n t))

module _ (f : Table) (n : ℕ) (new : Table) where
  live_after_in : (l : List ℕ) (t : ℕ) → member l t ≡ true → live_after f n new l t ≡ is_put (new t)
  unfolding live_after
  live_after_in l t e = pick_true (member l t) _ _ e

  live_after_out : (l : List ℕ) (t : ℕ) → member l t ≡ false → live_after f n new l t ≡ cond (overwritten f new l t) false (live f n t)
  unfolding live_after
  live_after_out l t e = pick_false (member l t) _ _ e

  idle_after : (l : List ℕ) (t : ℕ) → member l t ≡ false → live f n t ≡ false → live_after f n new l t ≡ false
  idle_after l t e d = live_after_out l t e ∙ go (overwritten f new l t)
    where
      go : (b : Bool) → cond b false (live f n t) ≡ false
      go true = refl
      go false = d

  -- one record more: x is a spare slot, and its key is no other's
  module _ (x : ℕ) (l : List ℕ) (i : Slot n x) (idle : live f n x ≡ false) (out : In x l → ⊥) (spares : (s : ℕ) → In s l → live f n s ≡ false)
      (apart : (s : ℕ) → In s l → key_in (new s) ≡ key_in (new x) → ⊥) where
    off : member l x ≡ false
    off = out_member l x out

    own : live_after f n new (x ∷ l) x ≡ is_put (new x)
    own = live_after_in (x ∷ l) x (member_head x l)

    -- from what is live without the old slot of x's key to what is live with x
    add : (mid : ℕ → Bool) → mid x ≡ false → ((t : ℕ) → Slot n t → (t ≡ x → ⊥) → live_after f n new (x ∷ l) t ≡ mid t)
        → count (live_after f n new (x ∷ l)) n ≡ one_if (is_put (new x)) + count mid n
    add mid e h = go (is_put (new x)) refl
      where
        each : is_put (new x) ≡ false → (t : ℕ) → Slot n t → (b : Bool) → eqb t x ≡ b → live_after f n new (x ∷ l) t ≡ mid t
        each p t j true q = ap (live_after f n new (x ∷ l)) (eqb-true t x q) ∙ own ∙ p ∙ sym (ap mid (eqb-true t x q) ∙ e)
        each p t j false q = h t j (eqb-false t x q)

        go : (b : Bool) → is_put (new x) ≡ b → count (live_after f n new (x ∷ l)) n ≡ one_if b + count mid n
        go true p = omega (arith, count_more mid (live_after f n new (x ∷ l)) n x i e (own ∙ p) h)
        go false p = omega (arith, count_same (live_after f n new (x ∷ l)) mid n (λ t j. each p t j (eqb t x) refl))

    -- another slot, which is not the old slot of x's key, is live as before
    same : (t : ℕ) → (t ≡ x → ⊥) → (0 < rank_for_key (key_in (new x)) (f t) → live f n t ≡ false) → live_after f n new (x ∷ l) t ≡ live_after f n new l t
    unfolding overwritten
    same t ne h = go (member l t) refl (ltb 0 (rank_for_key (key_in (new x)) (f t))) refl
      where
        go : (b : Bool) → member l t ≡ b → (c : Bool) → ltb 0 (rank_for_key (key_in (new x)) (f t)) ≡ c → live_after f n new (x ∷ l) t ≡ live_after f n new l t
        go true e c q = live_after_in (x ∷ l) t (member_tail x t l ne ∙ e) ∙ sym (live_after_in l t e)
        go false e true q =
            idle_after (x ∷ l) t (member_tail x t l ne ∙ e) (h (ltb-true 0 (rank_for_key (key_in (new x)) (f t)) q))
            ∙ sym (idle_after l t e (h (ltb-true 0 (rank_for_key (key_in (new x)) (f t)) q)))
        go false e false q =
            live_after_out (x ∷ l) t (member_tail x t l ne ∙ e)
            ∙ ap (λ (y : Bool). cond y false (live f n t)) (pick_false (ltb 0 (rank_for_key (key_in (new x)) (f t))) true (overwritten f new l t) q)
            ∙ sym (live_after_out l t e)

    live_after_more : count (live_after f n new (x ∷ l)) n + one_if (is_held (map_of f n (key_in (new x))))
        ≡ one_if (is_put (new x)) + count (live_after f n new l) n
    unfolding is_held
    live_after_more = go (held_or f n (key_in (new x)))
      where
        one-if : (b : Bool) → is_held (map_of f n (key_in (new x))) ≡ b → one_if (is_held (map_of f n (key_in (new x)))) ≡ one_if b
        one-if b e = ap one_if e

        go : Held f n (key_in (new x)) → count (live_after f n new (x ∷ l)) n + one_if (is_held (map_of f n (key_in (new x))))
            ≡ one_if (is_put (new x)) + count (live_after f n new l) n
        go (unheld h m) =
            omega (
              arith,
              one-if false (ap is_held m),
              add (live_after f n new l) (idle_after l x off idle)
                  (λ t j ne. same t ne (λ p. is_false (live f n t) (λ e. true-false e (lone t j p (live_is f n t e))))),
            )
          where
            lone : (t : ℕ) → Slot n t → 0 < rank_for_key (key_in (new x)) (f t) → Live f n t → live f n t ≡ false
            lone t j p (lives u c v q d) =
                h t j (ap (decider f n) (sym (one-key c (key_in (new x)) (f t) (omega (arith, ap (rank_for_key c) q, weight_put u c v)) p)) ∙ d)
        go (held v j e m) =
            omega (
              arith,
              one-if true (ap is_held m),
              add mid mid-x mid_same,
              count_more mid (live_after f n new l) n d j mid-d old_live
                  (λ t a ne. sym (mid_else t ne)),
            )
          where
            d : ℕ
            d = decider f n (key_in (new x))

            mid : ℕ → Bool
            mid t = cond (eqb t (decider f n (key_in (new x)))) false (live_after f n new l t)

            mid-d : mid d ≡ false
            mid-d = pick_true (eqb d d) false _ (eq-eqb d d refl)

            mid_else : (t : ℕ) → (t ≡ d → ⊥) → mid t ≡ live_after f n new l t
            mid_else t ne = pick_false (eqb t d) false (live_after f n new l t) (ne_eqb t d ne)

            has : 0 < rank_for_key (key_in (new x)) (f d)
            has = decider_weight f n (key_in (new x)) d j refl

            not_in : member l d ≡ false
            not_in = is_false (member l d) (λ q. true-false e (spares d (member_in l d q)))

            old_live : live_after f n new l d ≡ true
            old_live =
                live_after_out l d not_in ∙ ap (λ (y : Bool). cond y false (live f n d)) (overwritten_none f new l d
                (λ s a. zero_by s a)) ∙ e
              where
                zero_by : (s : ℕ) → In s l → rank_for_key (key_in (new s)) (f d) ≡ 0
                zero_by s a = is_zero (ltb 0 (rank_for_key (key_in (new s)) (f d))) refl
                  where
                    is_zero : (y : Bool) → ltb 0 (rank_for_key (key_in (new s)) (f d)) ≡ y → rank_for_key (key_in (new s)) (f d) ≡ 0
                    is_zero true q =
                        absurd (apart s a (one-key (key_in (new s)) (key_in (new x)) (f d) (ltb-true 0 (rank_for_key (key_in (new s)) (f d)) q) has))
                    is_zero false q = omega (arith, ltb-false 0 (rank_for_key (key_in (new s)) (f d)) q)

            mid-x : mid x ≡ false
            mid-x = mid_else x (λ q. true-false (ap (live f n) q ∙ e) idle) ∙ idle_after l x off idle

            mid_same : (t : ℕ) → Slot n t → (t ≡ x → ⊥) → live_after f n new (x ∷ l) t ≡ mid t
            mid_same t a ne = at (eqb t d) refl
              where
                at : (y : Bool) → eqb t d ≡ y → live_after f n new (x ∷ l) t ≡ mid t
                at false q =
                    same t ne (λ p. other_idle f n (key_in (new x)) d t refl (eqb-false t d q) p) ∙ sym (mid_else t (eqb-false t d q))
                at true q =
                    let z = eqb-true t d q in
                    ap (live_after f n new (x ∷ l)) z
                    ∙ live_after_out (x ∷ l) d (member_tail x d l (λ r. ne (z ∙ r)) ∙ not_in)
                    ∙ ap (λ (y : Bool). cond y false (live f n d)) (overwritten_is f new (x ∷ l) d x (inl refl) has)
                    ∙ sym (ap mid z ∙ mid-d)

  live_after_all : (l : List ℕ) → Once l → ((s : ℕ) → In s l → Slot n s) → ((s : ℕ) → In s l → live f n s ≡ false)
      → ((s t : ℕ) → In s l → In t l → key_in (new s) ≡ key_in (new t) → s ≡ t)
      → count (live_after f n new l) n + held_in l new (map_of f n) ≡ count (live f n) n + puts_in l new
  unfolding held_in puts_in live_after overwritten member
  live_after_all [] o i h k = omega arith
  live_after_all (x ∷ l) o i h k =
      omega (
        arith,
        live_after_more x l (i x (inl refl)) (h x (inl refl)) o.0 (λ s j. h s (inr j)) apart,
        live_after_all l o.1 (λ s j. i s (inr j)) (λ s j. h s (inr j)) (λ s t a c. k s t (inr a) (inr c)),
      )
    where
      apart : (s : ℕ) → In s l → key_in (new s) ≡ key_in (new x) → ⊥
      apart s j e = o.0 (rw (sym (k s x (inr j) (inl refl) e)) j)

-- where only held keys are removed, puts and removes are held keys and inserts
pub puts_held : (l : List ℕ) (new : Table) (m : ℕ → Option (List ℕ)) → HeldRemoved l new m
    → puts_in l new + removes_in l new ≡ held_in l new m + inserts_in l new m
unfolding puts_in removes_in held_in inserts_in
puts_held [] new m h = refl
puts_held (x ∷ l) new m h = go (is_put (new x)) (is_held (m (key_in (new x)))) (h x (inl refl)) (puts_held l new m (λ t i. h t (inr i)))
  where
    go : (p q : Bool) → (p ≡ false → q ≡ true) → puts_in l new + removes_in l new ≡ held_in l new m + inserts_in l new m
        → one_if p + puts_in l new + (one_if (not p) + removes_in l new) ≡ one_if q + held_in l new m + (one_if (p && not q) + inserts_in l new m)
    go true true g ih = omega arith
    go true false g ih = omega arith
    go false true g ih = omega arith
    go false false g ih = absurd (true-false (g refl) refl)

-- by the live count a spare slot is left
pub spare_by : (f : Table) (n : ℕ) (l : List ℕ) (new : Table) → HeldRemoved l new (map_of f n)
    → live_count f n + inserts_in l new (map_of f n) < n + removes_in l new → live_count f n + puts_in l new < n + held_in l new (map_of f n)
spare_by f n l new h e = omega (arith, puts_held l new (map_of f n) h)

-- THE LIVE COUNT: more by its puts, fewer by the keys that were held
module _ {f f' : Table} {num num' : SizeFields} {n w : ℕ} {taken : List ℕ} {new : Table}
    (b : Basket f num n w taken new) (st : Struck f f' num num' n taken new) (z : Finished f' num' taken new) where
  pub finished_count : live_count f' n + held_in taken new (map_of f n) ≡ live_count f n + puts_in taken new
  unfolding live_count
  finished_count =
      omega (
        arith,
        count_same (live f' n) (live_after f n new taken) n (λ t i. each t i (member taken t) refl (overwritten_or f new taken t)),
        live_after_all f n new taken b.once b.slot b.spare b.keys,
      )
    where
      each : (t : ℕ) → Slot n t → (x : Bool) → member taken t ≡ x → Overwriting f new taken t → live f' n t ≡ live_after f n new taken t
      each t i true e o = finished_own b st z t (member_in taken t e) ∙ sym (live_after_in f n new taken t e)
      each t i false e (written_by s j p) =
          finished_over b st z t s i (not_member taken t e) j p
          ∙ sym (live_after_out f n new taken t e ∙ ap (λ (y : Bool). cond y false (live f n t)) (overwritten_is f new taken t s j p))
      each t i false e (written_by_none h) =
          finished_kept b st z t i (not_member taken t e) h
          ∙ sym (live_after_out f n new taken t e ∙ ap (λ (y : Bool). cond y false (live f n t)) (overwritten_none f new taken t h))

  -- live + inserts − removes, where only held keys are removed
  pub finished_live_count : HeldRemoved taken new (map_of f n) → live_count f' n + removes_in taken new ≡ live_count f n + inserts_in taken new (map_of f n)
  finished_live_count h = omega (arith, finished_count, puts_held taken new (map_of f n) h)
