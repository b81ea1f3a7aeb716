-- Who decides a key, what it takes to lose a set of slots, and what the newest record of a key does. Assumes nothing.
use mathlib.Core.Path.{◌≡◌, refl, sym, ap, ◌∙◌}
use mathlib.Core.Bool.{Bool, true, false}
use mathlib.Core.Option.{none}
use mathlib.Core.List.{List}
use Prim.Native.Nat.{ℕ, zero, suc, ◌≤◌, ◌<◌}
use native.Mathlib.Omega.{arith}
use lib.Dec.{eqb}
use borrow.Author.Tests.{eqb-true, eqb-false, eq-eqb, ne_eqb}
use Rattle.layout.specs.Content.{Content, broken, empty, put_record, remove_record, Table}
use Rattle.table.specs.Table.{is_record, key_in, rank_for_key, decider, value_in, value_at, map_of, deciding_put, live}
use Rattle.prelude.specs.Members.{Slot}
use Rattle.table.proofs.defs.Write.{Above, ApartByKey, Free, Outside, NoRecord}
use Rattle.table.proofs.OneSlot.{puts, one-key, Says, weight_put, weight_top, removes, value-at, says}
use Rattle.prelude.proofs.Choice.{true-false}
use Rattle.prelude.proofs.Most.{nowhere, first_is, there, first_eq, First}

nearer : (x y : ℕ) → 0 < y → x ≤ y → (0 < x → x ≡ y → ⊥) → x < y
nearer zero y p l a = p
nearer (suc x) y p l a = omega (arith, a (omega arith))

-- who decides

-- key k is decided by slot s: it says something of k, and no slot says more; or it is 0 and none says anything
abbrev pub Decided : Table → ℕ → ℕ → ℕ → Type 0
Decided f n k s = First (λ t. rank_for_key k (f t)) n s

pub decider_is : (f : Table) (n k : ℕ) → Decided f n k (decider f n k)
unfolding decider
decider_is f n k = first_is (λ t. rank_for_key k (f t)) n

pub decider_eq : (f : Table) (n k s : ℕ) → Decided f n k s → decider f n k ≡ s
unfolding decider
decider_eq f n k s h = first_eq (λ t. rank_for_key k (f t)) n s h

-- the slot that says strictly more of k than each other decides k
pub decider_only : (f : Table) (n k s : ℕ) → Slot n s → 0 < rank_for_key k (f s)
    → ((t : ℕ) → Slot n t → (t ≡ s → ⊥) → rank_for_key k (f t) < rank_for_key k (f s))
    → decider f n k ≡ s
decider_only f n k s i p h = decider_eq f n k s (there i p (λ t j. most t j (eqb t s) refl) (λ t j l. h t j (λ e. omega arith)))
  where
    most : (t : ℕ) → Slot n t → (b : Bool) → eqb t s ≡ b → rank_for_key k (f t) ≤ rank_for_key k (f s)
    most t j true e = omega (arith, ap (λ (x : ℕ). rank_for_key k (f x)) (eqb-true t s e))
    most t j false e = omega (arith, h t j (eqb-false t s e))

pub decider_none : (f : Table) (n k : ℕ) → ((t : ℕ) → Slot n t → rank_for_key k (f t) ≡ 0) → decider f n k ≡ 0
decider_none f n k h = decider_eq f n k 0 (nowhere refl h)

-- a slot that decides k holds a record of k
pub decider_weight : (f : Table) (n k s : ℕ) → Slot n s → decider f n k ≡ s → 0 < rank_for_key k (f s)
decider_weight f n k s i e = go (decider_is f n k)
  where
    go : Decided f n k (decider f n k) → 0 < rank_for_key k (f s)
    go (nowhere z h) = absurd (omega arith)
    go (there j p h b) = rw e at p

-- where versions are apart every other record of the key is older than the deciding one
pub decider_newest : (f : Table) (n k s t : ℕ) → ApartByKey f n → Slot n s → Slot n t → decider f n k ≡ s → (t ≡ s → ⊥)
    → rank_for_key k (f t) < rank_for_key k (f s)
decider_newest f n k s t d i j e ne = go (decider_is f n k)
  where
    go : Decided f n k (decider f n k) → rank_for_key k (f t) < rank_for_key k (f s)
    go (nowhere z h) = absurd (omega arith)
    go (there _ p h b) =
        let most = h t j in
        nearer (rank_for_key k (f t)) (rank_for_key k (f s)) (decider_weight f n k s i e) (rw e at most) (λ q z. d k t s j i ne q z)

-- and the deciding slot is the only one than which no slot says more
pub decider_unique : (f : Table) (n k s : ℕ) → ApartByKey f n → Slot n s → 0 < rank_for_key k (f s)
    → ((t : ℕ) → Slot n t → rank_for_key k (f t) ≤ rank_for_key k (f s)) → decider f n k ≡ s
decider_unique f n k s d i p h = decider_only f n k s i p (λ t j ne. nearer (rank_for_key k (f t)) (rank_for_key k (f s)) p (h t j) (λ q z. d k t s j i ne q z))

-- a live slot is a put that decides its key, and such a put is live
pub data Live (f : Table) (n s : ℕ) : Type 0 where
  lives : (w k : ℕ) (v : List ℕ) → f s ≡ put_record w k v → decider f n k ≡ s → Live f n s

pub live_put : (f : Table) (n s w k : ℕ) (v : List ℕ) → f s ≡ put_record w k v → live f n s ≡ eqb (decider f n k) s
unfolding live deciding_put
live_put f n s w k v e = ap (deciding_put f n s) e

pub live_remove : (f : Table) (n s w k : ℕ) → f s ≡ remove_record w k → live f n s ≡ false
unfolding live deciding_put
live_remove f n s w k e = ap (deciding_put f n s) e

pub live-broken : (f : Table) (n s t : ℕ) → f s ≡ broken t → live f n s ≡ false
unfolding live deciding_put
live-broken f n s t e = ap (deciding_put f n s) e

pub live_is : (f : Table) (n s : ℕ) → live f n s ≡ true → Live f n s
unfolding live deciding_put
live_is f n s h = go (f s) refl h
  where
    go : (c : Content) → f s ≡ c → deciding_put f n s c ≡ true → Live f n s
    go (broken t) e l = absurd (true-false l refl)
    go empty e l = absurd (true-false l refl)
    go (put_record w k v) e l = lives w k v e (eqb-true (decider f n k) s l)
    go (remove_record w k) e l = absurd (true-false l refl)

pub is_live : (f : Table) (n s : ℕ) → Live f n s → live f n s ≡ true
is_live f n s (lives w k v e b) = live_put f n s w k v e ∙ eq-eqb (decider f n k) s b

-- a live slot has a record
pub live_record : (f : Table) (n s : ℕ) → live f n s ≡ true → is_record (f s) ≡ true
unfolding is_record
live_record f n s e = go (live_is f n s e)
  where
    go : Live f n s → is_record (f s) ≡ true
    go (lives w k v q d) = ap is_record q

-- a record of a key that another slot decides is not live
pub other_idle : (f : Table) (n k s t : ℕ) → decider f n k ≡ s → (t ≡ s → ⊥) → 0 < rank_for_key k (f t) → live f n t ≡ false
other_idle f n k s t b ne p = go (live f n t) refl
  where
    other : Live f n t → live f n t ≡ false
    other (lives w j v q d) =
        absurd (ne (sym d ∙ ap (decider f n) (one-key j k (f t) (omega (arith, ap (rank_for_key j) q, weight_put w j v)) p) ∙ b))

    go : (x : Bool) → live f n t ≡ x → live f n t ≡ false
    go false e = e
    go true e = other (live_is f n t e)

-- losing slots

-- what becomes of the slot b that decides a key when the slots of C are lost and none of C gets a record of that key
pub data Turn (n : ℕ) (C : ℕ → Bool) (b b' : ℕ) : Type 0 where
  nobody : b ≡ 0 → b' ≡ 0 → Turn n C b b'
  same : Slot n b → C b ≡ false → b' ≡ b → Turn n C b b'
  lost : Slot n b → C b ≡ true → b' ≡ 0 → Turn n C b b'

module _ (f f' : Table) (n : ℕ) (C : ℕ → Bool) (free : Free f n C) (out : Outside f f' n C) (k : ℕ)
    (quiet : NoRecord f' n C k) where
  at_most : (t : ℕ) → Slot n t → rank_for_key k (f' t) ≤ rank_for_key k (f t)
  at_most t i = go (C t) refl
    where
      go : (x : Bool) → C t ≡ x → rank_for_key k (f' t) ≤ rank_for_key k (f t)
      go true e = omega (arith, quiet t i e)
      go false e = omega (arith, ap (rank_for_key k) (out t i e))

  all_gone : C (decider f n k) ≡ true → (t : ℕ) → Slot n t → rank_for_key k (f' t) ≡ 0
  all_gone b t i = go (C t) refl
    where
      go : (x : Bool) → C t ≡ x → rank_for_key k (f' t) ≡ 0
      go true e = quiet t i e
      go false e = ap (rank_for_key k) (out t i e) ∙ free.alone k t b i e

  pub turn : Turn n C (decider f n k) (decider f' n k)
  turn = go (decider_is f n k)
    where
      kept : Decided f n k (decider f n k) → (x : Bool) → C (decider f n k) ≡ x → Slot n (decider f n k) → Turn n C (decider f n k) (decider f' n k)
      kept d true e i = lost i e (decider_none f' n k (all_gone e))
      kept (nowhere z h) false e i = absurd (omega arith)
      kept (there _ p h b) false e i =
          let q = ap (rank_for_key k) (out (decider f n k) i e) in
          same i e (decider_eq f' n k (decider f n k) (there i (omega arith)
          (λ t j. omega (arith, at_most t j, h t j)) (λ t j l. omega (arith, at_most t j, b t j l))))

      go : Decided f n k (decider f n k) → Turn n C (decider f n k) (decider f' n k)
      go (nowhere z h) = nobody z (decider_none f' n k (λ t i. omega (arith, at_most t i, h t i)))
      go (there i p h b) = kept (there i p h b) (C (decider f n k)) refl i

  -- a deciding slot of C is a remove
  no_value : Slot n (decider f n k) → C (decider f n k) ≡ true → value_in (f (decider f n k)) ≡ none
  unfolding value_in
  no_value i e = go (says k (f (decider f n k)) (decider_weight f n k (decider f n k) i refl))
    where
      go : Says k (f (decider f n k)) → value_in (f (decider f n k)) ≡ none
      go (puts w v q) =
          absurd (true-false (is_live f n (decider f n k) (lives w k v q refl)) (free.spare (decider f n k) i e))
      go (removes w q) = ap value_in q

  -- THE MAP KEPT: losing free slots, and giving them records of other keys, changes nothing at key k
  pub map_kept : map_of f' n k ≡ map_of f n k
  unfolding map_of value_at
  map_kept = go turn
    where
      go : Turn n C (decider f n k) (decider f' n k) → value_at f' (decider f' n k) ≡ value_at f (decider f n k)
      go (nobody z y) = ap (value_at f') y ∙ sym (ap (value_at f) z)
      go (same i e y) =
          ap (value_at f') y ∙ value-at f' n (decider f n k) i ∙ ap value_in (out (decider f n k) i e) ∙ sym (value-at f n (decider f n k) i)
      go (lost i e y) = ap (value_at f') y ∙ sym (value-at f n (decider f n k) i ∙ no_value i e)

  -- outside C the slots that decide k are the same
  pub decider_kept : (t : ℕ) → Slot n t → C t ≡ false → eqb (decider f' n k) t ≡ eqb (decider f n k) t
  decider_kept t i c = go turn
    where
      go : Turn n C (decider f n k) (decider f' n k) → eqb (decider f' n k) t ≡ eqb (decider f n k) t
      go (nobody z y) = ap (λ (x : ℕ). eqb x t) (y ∙ sym z)
      go (same j e y) = ap (λ (x : ℕ). eqb x t) y
      go (lost j e y) =
          ne_eqb (decider f' n k) t (λ q. omega arith)
          ∙ sym (ne_eqb (decider f n k) t (λ q. true-false e (ap C q ∙ c)))

-- outside C a slot whose key gets no new record in C is live as before
pub live_kept : (f f' : Table) (n : ℕ) (C : ℕ → Bool) → Free f n C → Outside f f' n C
    → (t : ℕ) → Slot n t → C t ≡ false → ((w k : ℕ) (v : List ℕ) → f t ≡ put_record w k v → NoRecord f' n C k) → live f' n t ≡ live f n t
unfolding live deciding_put
live_kept f f' n C free out t i c quiet = ap (deciding_put f' n t) (out t i c) ∙ go (f t) refl
  where
    go : (x : Content) → f t ≡ x → deciding_put f' n t x ≡ deciding_put f n t x
    go (broken b) e = refl
    go empty e = refl
    go (put_record w k v) e = decider_kept f f' n C free out k (quiet w k v e) t i c
    go (remove_record w k) e = refl

-- adding records

-- a record above all versions decides its key, where the other slots of C have no record of that key
pub newest : (f f' : Table) (n : ℕ) (C : ℕ → Bool) → Outside f f' n C → (w : ℕ) → Above f n w
    → (k s : ℕ) → Slot n s → C s ≡ true → rank_for_key k (f' s) ≡ suc w → ((t : ℕ) → Slot n t → C t ≡ true → (t ≡ s → ⊥) → rank_for_key k (f' t) ≡ 0)
    → decider f' n k ≡ s
newest f f' n C out w above k s i c e quiet = decider_only f' n k s i (omega arith) (λ t j h. less t j h (C t) refl)
  where
    less : (t : ℕ) → Slot n t → (t ≡ s → ⊥) → (x : Bool) → C t ≡ x → rank_for_key k (f' t) < rank_for_key k (f' s)
    less t j h true d = omega (arith, quiet t j d h)
    less t j h false d = omega (arith, ap (rank_for_key k) (out t j d), weight_top k (f t), above t j)

-- a live slot decides the key that it holds
pub live_key : (f : Table) (n t : ℕ) → live f n t ≡ true → decider f n (key_in (f t)) ≡ t
unfolding key_in
live_key f n t e = go (live_is f n t e)
  where
    go : Live f n t → decider f n (key_in (f t)) ≡ t
    go (lives w k v q b) = ap (λ (c : Content). decider f n (key_in c)) q ∙ b

-- records of version w in a set of slots, no two of one key: each key that gets one has its value, the others theirs as before
pub set_new : (f f' : Table) (n : ℕ) (C : ℕ → Bool) → Outside f f' n C → (w : ℕ) → Above f n w
    → (k s : ℕ) → Slot n s → C s ≡ true → rank_for_key k (f' s) ≡ suc w → ((t : ℕ) → Slot n t → C t ≡ true → (t ≡ s → ⊥) → rank_for_key k (f' t) ≡ 0)
    → map_of f' n k ≡ value_in (f' s)
unfolding map_of
set_new f f' n C out w above k s i c e quiet = ap (value_at f') (newest f f' n C out w above k s i c e quiet) ∙ value-at f' n s i
