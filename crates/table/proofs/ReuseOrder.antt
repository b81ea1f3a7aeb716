-- The order of the reuse chain in which a single call takes its first slot or none. Assumes nothing.
use mathlib.Core.Path.{◌≡◌, refl, sym, ap, ◌∙◌}
use mathlib.Core.Bool.{Bool, true, false, cond}
use mathlib.Core.Logic.{inl, inr, ⊎_elim}
use mathlib.Core.List.{List, [], ◌∷◌, ◌++◌}
use Prim.Native.Nat.{ℕ, ◌<◌}
use native.Mathlib.Omega.{arith}
use lib.ListN.{length, take}
use Rattle.layout.specs.Content.{Content, broken, empty, put_record, remove_record, Table, highest_whole_in}
use Rattle.prelude.specs.Filter.{filter}
use Rattle.prelude.specs.Members.{In, Slot}
use Rattle.prelude.proofs.defs.Members.{Rising}
use Rattle.prelude.proofs.Choice.{true-false}
use Rattle.prelude.proofs.Lists.{in_append, filter_none}
use Rattle.sorting.proofs.Order.{filter_in}
use Rattle.table.specs.Order.{rank_of, reuse_of}
use Rattle.table.specs.Reuse.{OlderFirst, HighestLast}
use Rattle.table.specs.Table.{is_record}
use Rattle.table.specs.Takeable.{is_remove, older, highest_valid, taken_of, may_take}
use Rattle.table.proofs.defs.Reuse.{Spares}
use Rattle.table.proofs.Ranks.{record_rank, low_rank}
use Rattle.table.proofs.Recovery.{recovery_rising, recovery_spares}
use Rattle.table.proofs.Takeable.{older_record, older_below, highest_valid_above, older_same, highest_barred, barred, Barred, of_highest, has_older}
use Rattle.table.proofs.Takeable.{older_idle}

-- ---- recovery's reuse chain

pub remove_is_record : (c : Content) → is_remove c ≡ true → is_record c ≡ true
unfolding is_remove is_record
remove_is_record (broken top) e = absurd (true-false e refl)
remove_is_record empty e = absurd (true-false e refl)
remove_is_record (put_record version key value) e = refl
remove_is_record (remove_record version key) e = refl

-- by rising rank no older record of its key stands after a remove record
rising_older : (f : Table) (l : List ℕ) → Rising (λ t. rank_of (f t)) l → OlderFirst f l
rising_older f [] r = tt
rising_older f (x ∷ l) r = (first, rising_older f l r.1)
  where
    first : (t : ℕ) → In t l → is_remove (f x) ≡ true → older f x t ≡ true → ⊥
    first t i e o =
        omega (
          arith,
          r.0 t i,
          record_rank (f x) (remove_is_record (f x) e),
          record_rank (f t) (older_record f x t o),
          older_below f x t o,
        )

pub recovery_older : (f : Table) (n : ℕ) → OlderFirst f (reuse_of f n)
recovery_older f n = rising_older f (reuse_of f n) (recovery_rising f n)

-- and the slots of the highest valid version are the last ones
rising_highest_last : (f : Table) (n : ℕ) (l : List ℕ) → ((t : ℕ) → In t l → Slot n t) → Rising (λ t. rank_of (f t)) l → HighestLast f n l
rising_highest_last f n [] s r = tt
rising_highest_last f n (x ∷ l) s r = λ e top t i. go e top t i (is_record (f t)) refl
  where
    go : is_record (f x) ≡ true → highest_whole_in (f x) ≡ highest_valid f n → (t : ℕ) → In t l → (b : Bool) → is_record (f t) ≡ b
        → (is_record (f t) ≡ true) × (highest_whole_in (f t) ≡ highest_valid f n)
    go e top t i true d =
        (d, omega (arith, r.0 t i, record_rank (f x) e, record_rank (f t) d, highest_valid_above f n t (s t (inr i)) d))
    go e top t i false d = absurd (omega (arith, r.0 t i, record_rank (f x) e, low_rank (f t) d))

pub recovery_highest_last : (f : Table) (n : ℕ) → HighestLast f n (reuse_of f n)
recovery_highest_last f n = rising_highest_last f n (reuse_of f n) (λ t i. (recovery_spares f n).slot t i) (recovery_rising f n)

-- ---- older records first, in lists put together

pub older_append : (f : Table) (l m : List ℕ) → OlderFirst f l → OlderFirst f m
    → ((x t : ℕ) → In x l → In t m → is_remove (f x) ≡ true → older f x t ≡ true → ⊥) → OlderFirst f (l ++ m)
older_append f [] m a c h = c
older_append f (x ∷ l) m a c h = (
  (λ t i e o. ⊎_elim (λ p. a.0 t p e o) (λ q. h x t (inl refl) q e o) (in_append t l m i)),
  older_append f l m a.1 c (λ y t i j. h y t (inr i) j),
)

-- a part of the list
pub older_filter : (f : Table) (p : ℕ → Bool) (l : List ℕ) → OlderFirst f l → OlderFirst f (filter p l)
unfolding filter
older_filter f p [] a = tt
older_filter f p (x ∷ l) a = go (p x) (older_filter f p l a.1)
  where
    go : (c : Bool) → OlderFirst f (filter p l) → OlderFirst f (cond c (x ∷ filter p l) (filter p l))
    go true ih = ((λ t i e o. a.0 t (filter_in p t l i) e o), ih)
    go false ih = ih

-- a table that is the same at these slots
pub older_carry : (f f' : Table) (l : List ℕ) → ((x : ℕ) → In x l → f' x ≡ f x) → OlderFirst f l → OlderFirst f' l
older_carry f f' [] h a = tt
older_carry f f' (x ∷ l) h a = (
  (λ t i e o. a.0 t i (sym (ap is_remove (h x (inl refl))) ∙ e) (sym (older_same f f' x t (h x (inl refl)) (h t (inr i))) ∙ o)),
  older_carry f f' l (λ t i. h t (inr i)) a.1,
)

-- ---- a single call

-- it takes the first slot of the reuse chain where any slot of it may be taken
pub single_first_of_list : (f : Table) (n s : ℕ) (l : List ℕ) → Spares f n (s ∷ l) → OlderFirst f (s ∷ l) → HighestLast f n (s ∷ l)
    → 0 < length (filter (may_take f n) (s ∷ l)) → may_take f n s ≡ true
single_first_of_list f n s l sp older-first last some = go (may_take f n s) refl
  where
    none : highest_whole_in (f s) ≡ highest_valid f n → is_record (f s) ≡ true → (t : ℕ) → In t (s ∷ l) → may_take f n t ≡ false
    none top e t (inl q) = ap (may_take f n) q ∙ highest_barred f n s e top
    none top e t (inr i) = highest_barred f n t (last e top t i).0 (last e top t i).1

    -- an older record of its key is spare and stands before it
    hiding : is_record (f s) ≡ true → is_remove (f s) ≡ true → (t : ℕ) → older f s t ≡ true → In t (s ∷ l) → ⊥
    hiding e m t o (inl q) = omega (arith, older_below f s t o, ap (λ (x : ℕ). highest_whole_in (f x)) q)
    hiding e m t o (inr i) = older-first.0 t i m o

    by : Barred f n s → ⊥
    by (of_highest e top) = omega (arith, ap (λ (c : List ℕ). length c) (filter_none (may_take f n) (s ∷ l) (none top e)), some)
    by (has_older e m t i o) = hiding e m t o (sp.all t i (older_idle f n s t (sp.slot s (inl refl)) e o))

    go : (b : Bool) → may_take f n s ≡ b → may_take f n s ≡ true
    go true e = e
    go false e = absurd (by (barred f n s (sp.slot s (inl refl)) e))

-- what a single call takes of a chain: nothing, or its first slot, which may be taken
pub data SingleTaken (f : Table) (n : ℕ) (chain : List ℕ) : Type 0 where
  takes_none : taken_of f n 1 chain ≡ [] → SingleTaken f n chain
  takes_first : (s : ℕ) (rest : List ℕ) → chain ≡ s ∷ rest → may_take f n s ≡ true → SingleTaken f n chain

-- A SINGLE CALL TAKES THE FIRST SLOT OF THE REUSE CHAIN OR NONE
pub single_first : (f : Table) (n : ℕ) (reuse : List ℕ) → Spares f n reuse → OlderFirst f reuse → HighestLast f n reuse → SingleTaken f n reuse
unfolding taken_of filter
single_first f n [] sp older-first last = takes_none refl
single_first f n (s ∷ l) sp older-first last = go (filter (may_take f n) (s ∷ l)) refl
  where
    go : (k : List ℕ) → filter (may_take f n) (s ∷ l) ≡ k → SingleTaken f n (s ∷ l)
    go [] e = takes_none (ap (λ (c : List ℕ). take 1 c) e)
    go (x ∷ k) e =
        takes_first s l refl
        (single_first_of_list f n s l sp older-first last
        (omega (arith, ap (λ (c : List ℕ). length c) e, let q : 0 < length (x ∷ k) = omega arith in q)))
