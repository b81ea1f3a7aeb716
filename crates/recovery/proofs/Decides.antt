-- The pass over the slots by key and rank leaves each live slot the chain of its key's head and every other slot the reuse chain. Assumes nothing.
use mathlib.Core.Path.{◌≡◌, refl, sym, ap, ◌∙◌}
use mathlib.Core.Bool.{Bool, true, false, cond, not, true≢false}
use mathlib.Core.List.{List}
use Prim.Native.Nat.{ℕ, zero, suc, ◌+◌, ◌≤◌, ◌<◌}
use native.Mathlib.Omega.{arith}
use borrow.Author.Tests.{eqb-true, eq-eqb, ne_eqb, ltb-true, lt-ltb}
use lib.Dec.{eqb, ltb}
use lib.ListN.{length, get_or, set, length-set}
use lib.Seq.{get_or-set_same, get_or-set_other}
use Rattle.layout.specs.Content.{Content, broken, empty, put_record, remove_record, Table}
use Rattle.sorting.specs.Sorted.{sorted}
use Rattle.prelude.proofs.defs.Members.{Rising}
use Rattle.prelude.specs.Members.{Once, slot_numbers, Slot}
use Rattle.sorting.proofs.Order.{Compared, low, high, compared, at_in, rising_sorted}
use Rattle.table.specs.Table.{key_in, rank_for_key, decider, deciding_put, live, live_count}
use Rattle.table.specs.Order.{rank_of, ordered}
use Rattle.table.proofs.defs.Write.{ApartByKey}
use Rattle.table.proofs.OneSlot.{weight_put, weight_key}
use Rattle.prelude.proofs.Count.{count_same}
use Rattle.prelude.proofs.Lists.{AllSlots, whole_slots}
use Rattle.sorting.proofs.Whole.{whole_sorted}
use Rattle.table.proofs.Map.{decider_newest, decider_unique}
use Rattle.index.specs.Index.{head_of}
use Rattle.recovery.specs.inner.Scan.{put_place, key_at, Listed}
use Rattle.recovery.specs.inner.Decide.{followed, decided, placed_count, live_place}
use Rattle.sorting.proofs.Positions.{Stands, stands, once_at, RisingByKey, by_key_at, sorted_by_key}
use Rattle.sorting.proofs.Runs.{rank_between}
use Rattle.table.proofs.Recovery.{rank_weight}

-- a position that is followed, and one that is not

pub followed_inside : (key : ℕ → ℕ) (l : List ℕ) (i : ℕ) → followed key l i ≡ true → i + 1 < length l
unfolding followed
followed_inside key l i e = go (ltb (i + 1) (length l)) refl e
  where
    go : (b : Bool) → ltb (i + 1) (length l) ≡ b → cond b (eqb (key (get_or l i 0)) (key (get_or l (i + 1) 0))) false ≡ true
        → i + 1 < length l
    go true d q = ltb-true (i + 1) (length l) d
    go false d q = absurd (true≢false (sym q))

pub followed-key : (key : ℕ → ℕ) (l : List ℕ) (i : ℕ) → followed key l i ≡ true → key (get_or l i 0) ≡ key (get_or l (i + 1) 0)
unfolding followed
followed-key key l i e = go (ltb (i + 1) (length l)) refl e
  where
    go : (b : Bool) → ltb (i + 1) (length l) ≡ b → cond b (eqb (key (get_or l i 0)) (key (get_or l (i + 1) 0))) false ≡ true
        → key (get_or l i 0) ≡ key (get_or l (i + 1) 0)
    go true d q = eqb-true (key (get_or l i 0)) (key (get_or l (i + 1) 0)) q
    go false d q = absurd (true≢false (sym q))

pub is_followed : (key : ℕ → ℕ) (l : List ℕ) (i : ℕ) → i + 1 < length l → key (get_or l i 0) ≡ key (get_or l (i + 1) 0)
    → followed key l i ≡ true
unfolding followed
is_followed key l i h e = rw (lt-ltb (i + 1) (length l) h) (eq-eqb (key (get_or l i 0)) (key (get_or l (i + 1) 0)) e)

-- what the pass over the order leaves at each slot

pub length-decided : (key : ℕ → ℕ) (l : List ℕ) (i : ℕ) (p : List ℕ) → length (decided key l i p) ≡ length p
unfolding decided
length-decided key l zero p = refl
length-decided key l (suc i) p = go (followed key l i) (length-decided key l i p)
  where
    go : (b : Bool) → length (decided key l i p) ≡ length p
        → length (cond b (set (decided key l i p) (get_or l i 0) 0) (decided key l i p)) ≡ length p
    go true ih = simp length-set ih
    go false ih = ih

-- a slot that the pass has not met is as it was
decided_other : (key : ℕ → ℕ) (l : List ℕ) (i : ℕ) (p : List ℕ) (s : ℕ) → ((j : ℕ) → j < i → get_or l j 0 ≡ s → ⊥)
    → get_or (decided key l i p) s 0 ≡ get_or p s 0
unfolding decided
decided_other key l zero p s h = refl
decided_other key l (suc i) p s h = go (followed key l i) (decided_other key l i p s (λ j u. h j (omega arith)))
  where
    go : (b : Bool) → get_or (decided key l i p) s 0 ≡ get_or p s 0
        → get_or (cond b (set (decided key l i p) (get_or l i 0) 0) (decided key l i p)) s 0 ≡ get_or p s 0
    go true ih = get_or-set_other (decided key l i p) (get_or l i 0) s 0 0 (λ e. h i (omega arith) (sym e)) ∙ ih
    go false ih = ih

-- and one that it has met is 0 where its position is followed
pub decided_at : (key : ℕ → ℕ) (l : List ℕ) (i : ℕ) (p : List ℕ) (j : ℕ) → Once l → i ≤ length l → j < i → get_or l j 0 < length p
    → get_or (decided key l i p) (get_or l j 0) 0 ≡ cond (followed key l j) 0 (get_or p (get_or l j 0) 0)
unfolding decided
decided_at key l zero p j o h k u = absurd (omega arith)
decided_at key l (suc i) p j o h k u = go (compared i j) (λ v. decided_at key l i p j o (omega arith) v u)
  where
    now : i ≡ j → (b : Bool) → get_or (cond b (set (decided key l i p) (get_or l i 0) 0) (decided key l i p)) (get_or l j 0) 0
        ≡ cond b 0 (get_or p (get_or l j 0) 0)
    now q true =
        ap (λ (x : ℕ). get_or (set (decided key l i p) (get_or l x 0) 0) (get_or l j 0) 0) q
        ∙ get_or-set_same (decided key l i p) (get_or l j 0) 0 0 (omega (arith, length-decided key l i p))
    now q false = decided_other key l i p (get_or l j 0) (λ m v e. omega (arith, once_at l m j o (omega arith) (omega arith) e))

    past : j < i → (b : Bool) → get_or (cond b (set (decided key l i p) (get_or l i 0) 0) (decided key l i p)) (get_or l j 0) 0
        ≡ get_or (decided key l i p) (get_or l j 0) 0
    past v true =
        get_or-set_other (decided key l i p) (get_or l i 0) (get_or l j 0) 0 0 (λ e. omega (arith, once_at l j i o (omega arith) (omega arith) e))
    past v false = refl

    go : Compared i j → (j < i → get_or (decided key l i p) (get_or l j 0) 0 ≡ cond (followed key l j) 0 (get_or p (get_or l j 0) 0))
        → get_or (cond (followed key l i) (set (decided key l i p) (get_or l i 0) 0) (decided key l i p)) (get_or l j 0) 0
        ≡ cond (followed key l j) 0 (get_or p (get_or l j 0) 0)
    go (low a v) ih =
        let q : i ≡ j = omega arith in
        now q (followed key l i) ∙ ap (λ (x : ℕ). cond (followed key l x) 0 (get_or p (get_or l j 0) 0)) q
    go (high a v) ih = past v (followed key l i) ∙ ih v

-- rank and weight

weight_rank : (k : ℕ) (c : Content) → 2 ≤ rank_of c → key_in c ≡ k → suc (rank_for_key k c) ≡ rank_of c
unfolding rank_of rank_for_key key_in
weight_rank k (broken t) h e = absurd (omega arith)
weight_rank k empty h e = absurd (omega arith)
weight_rank k (put_record w j v) h e = ap (λ (b : Bool). suc (cond b (suc w) 0)) (eq-eqb j k e) ∙ omega arith
weight_rank k (remove_record w j) h e = ap (λ (b : Bool). suc (cond b (suc w) 0)) (eq-eqb j k e) ∙ omega arith

-- l has each slot 1 to n once, by key, and those of one key by rank; key gives the keys of records
pub record ByKey (f : Table) (n : ℕ) (key : ℕ → ℕ) (l : List ℕ) : Type 0 where
  pub whole : AllSlots n l
  pub key_is : (t : ℕ) → Slot n t → 2 ≤ rank_of (f t) → key t ≡ key_in (f t)
  pub rising : Rising key l
  pub by_rank : RisingByKey key (λ x. rank_of (f x)) l

pub by_key_is : (f : Table) (n : ℕ) (key : ℕ → ℕ) (order by_key : List ℕ) → ((s : ℕ) → 0 < s → s ≤ n → 2 ≤ rank_of (f s) → key s ≡ key_in (f s))
    → order ≡ ordered f (slot_numbers n) → by_key ≡ sorted key order → ByKey f n key by_key
unfolding ordered
by_key_is f n key order by_key h e d = rw (d, e) both
  where
    rank : ℕ → ℕ
    rank x = rank_of (f x)

    both : ByKey f n key (sorted key (sorted (λ x. rank_of (f x)) (slot_numbers n)))
    both =
        record {
          whole = whole_sorted key n (sorted rank (slot_numbers n)) (whole_sorted rank n (slot_numbers n) (whole_slots n));
          key_is = λ t i r. h t i.0 i.1 r;
          rising = rising_sorted key (sorted rank (slot_numbers n));
          by_rank = sorted_by_key key rank (sorted rank (slot_numbers n)) (rising_sorted rank (slot_numbers n));
        }

-- a put at position j: followed, another slot has a record of its key that is no older
followed_idle : (f : Table) (n : ℕ) (key : ℕ → ℕ) (l : List ℕ) (j w k : ℕ) (v : List ℕ) → ByKey f n key l → ApartByKey f n → j < length l
    → f (get_or l j 0) ≡ put_record w k v → followed key l j ≡ true → decider f n k ≡ get_or l j 0 → ⊥
unfolding rank_of key_in
followed_idle f n key l j w k v h a u e q d =
    omega (arith, older, weight_rank k (f t) many same, ap rank_of e, ap (rank_for_key k) e ∙ weight_put w k v, later)
  where
    s : ℕ
    s = get_or l j 0

    t : ℕ
    t = get_or l (j + 1) 0

    next : j + 1 < length l
    next = followed_inside key l j q

    slot_s : Slot n s
    slot_s = h.whole.within s (at_in l j u)

    slot_t : Slot n t
    slot_t = h.whole.within t (at_in l (j + 1) next)

    other : t ≡ s → ⊥
    other z = omega (arith, once_at l (j + 1) j h.whole.once next u z)

    later : rank_of (f s) ≤ rank_of (f t)
    later = by_key_at key (λ x. rank_of (f x)) l j (j + 1) h.by_rank (omega arith) next (followed-key key l j q)

    many : 2 ≤ rank_of (f t)
    many = omega (arith, later, ap rank_of e)

    same : key_in (f t) ≡ k
    same = sym (h.key_is t slot_t many) ∙ sym (followed-key key l j q) ∙ h.key_is s slot_s (omega (arith, ap rank_of e)) ∙ ap key_in e

    older : rank_for_key k (f t) < rank_for_key k (f s)
    older = decider_newest f n k s t a slot_s slot_t d other

-- not followed, it decides its key
last_decides : (f : Table) (n : ℕ) (key : ℕ → ℕ) (l : List ℕ) (j w k : ℕ) (v : List ℕ) → ByKey f n key l → ApartByKey f n → j < length l
    → f (get_or l j 0) ≡ put_record w k v → followed key l j ≡ false → decider f n k ≡ get_or l j 0
unfolding key_in rank_of
last_decides f n key l j w k v h a u e q =
    decider_unique f n k s a slot_s (omega (arith, heavy)) (λ t i. most t i (stands l t (h.whole.all t i)) (rank_for_key k (f t)) refl)
  where
    s : ℕ
    s = get_or l j 0

    slot_s : Slot n s
    slot_s = h.whole.within s (at_in l j u)

    heavy : rank_for_key k (f s) ≡ suc w
    heavy = ap (rank_for_key k) e ∙ weight_put w k v

    key-s : key s ≡ k
    key-s = h.key_is s slot_s (omega (arith, ap rank_of e)) ∙ ap key_in e

    -- a slot of this key does not stand later
    none_later : (i : ℕ) → j < i → i < length l → key (get_or l i 0) ≡ k → ⊥
    none_later i b c z =
        true≢false (sym (is_followed key l j (omega arith)
        (rank_between key 0 l h.rising j (j + 1) i (omega arith) (omega arith) c (omega arith, key-s ∙ sym z)).0.1) ∙ q)

    most : (t : ℕ) → Slot n t → Stands l t → (m : ℕ) → rank_for_key k (f t) ≡ m → rank_for_key k (f t) ≤ rank_for_key k (f s)
    most t i p zero z = omega arith
    most t i p (suc m) z = go (compared p.spot j)
      where
        says_k : 0 < rank_for_key k (f t)
        says_k = omega arith

        key_t : key (get_or l p.spot 0) ≡ k
        key_t = ap key p.here ∙ h.key_is t i (omega (arith, rank_weight k (f t) says_k)) ∙ weight_key k (f t) says_k

        go : Compared p.spot j → rank_for_key k (f t) ≤ rank_for_key k (f s)
        go (low x y) =
            omega (
              arith,
              ap (λ (d : ℕ). rank_of (f d)) p.here,
              by_key_at key (λ d. rank_of (f d)) l p.spot j h.by_rank y u (key_t ∙ sym key-s),
              rank_weight k (f t) says_k,
              rank_weight k (f s) (omega (arith, heavy)),
            )
        go (high x y) = absurd (none_later p.spot y p.inside key_t)

-- the chain of the slot at position j
place_live : (f : Table) (n b : ℕ) (key : ℕ → ℕ) (l : List ℕ) (j : ℕ) → ByKey f n key l → ApartByKey f n → j < length l
    → cond (followed key l j) 0 (put_place b (f (get_or l j 0))) ≡ live_place f n b (get_or l j 0)
unfolding live_place live deciding_put put_place key_in
place_live f n b key l j h a u = go (f (get_or l j 0)) refl (followed key l j) refl
  where
    s : ℕ
    s = get_or l j 0

    go : (c : Content) → f s ≡ c → (q : Bool) → followed key l j ≡ q
        → cond q 0 (put_place b c) ≡ cond (deciding_put f n s c) (head_of (key_in c) b + 1) 0
    go (broken t) e true q = refl
    go (broken t) e false q = refl
    go empty e true q = refl
    go empty e false q = refl
    go (remove_record w k) e true q = refl
    go (remove_record w k) e false q = refl
    go (put_record w k v) e true q =
        sym (ap (λ (x : Bool). cond x (head_of k b + 1) 0) (ne_eqb (decider f n k) s (followed_idle f n key l j w k v h a u e q)))
    go (put_record w k v) e false q =
        sym (ap (λ (x : Bool). cond x (head_of k b + 1) 0) (eq-eqb (decider f n k) s (last_decides f n key l j w k v h a u e q)))

pub decided_live : (f : Table) (n b : ℕ) (ranks lows highs places order by_key : List ℕ)
    → Listed f n b ranks lows highs places → length places ≡ n + 1 → ApartByKey f n
    → order ≡ ordered f (slot_numbers n) → by_key ≡ sorted (key_at lows highs) order
    → (s : ℕ) → 0 < s → s ≤ n → get_or (decided (key_at lows highs) by_key n places) s 0 ≡ live_place f n b s
decided_live f n b ranks lows highs places order by_key h size d e c s low-s high-s =
    go (by_key_is f n (key_at lows highs) order by_key h.key-at e c)
  where
    go : ByKey f n (key_at lows highs) by_key → get_or (decided (key_at lows highs) by_key n places) s 0 ≡ live_place f n b s
    go w = at (stands by_key s (w.whole.all s (low-s, high-s)))
      where
        at : Stands by_key s → get_or (decided (key_at lows highs) by_key n places) s 0 ≡ live_place f n b s
        at p =
            let z : get_or by_key p.spot 0 ≡ s = p.here in
            ap (λ (x : ℕ). get_or (decided (key_at lows highs) by_key n places) x 0) (sym z)
            ∙ decided_at (key_at lows highs) by_key n places p.spot w.whole.once (omega (arith, w.whole.size))
            (omega (arith, w.whole.size, p.inside))
            (omega (arith, z))
            ∙ ap (λ (x : ℕ). cond (followed (key_at lows highs) by_key p.spot) 0 x)
            (ap (λ (x : ℕ). get_or places x 0) z ∙ h.place_at s low-s high-s ∙ sym (ap (λ (x : ℕ). put_place b (f x)) z))
            ∙ place_live f n b (key_at lows highs) by_key p.spot w d p.inside
            ∙ ap (live_place f n b) z

placed_live : (f : Table) (n b s : ℕ) → not (eqb (live_place f n b s) 0) ≡ live f n s
unfolding live_place
placed_live f n b s = go (live f n s)
  where
    go : (q : Bool) → not (eqb (cond q (head_of (key_in (f s)) b + 1) 0) 0) ≡ q
    go true = ap not (ne_eqb (head_of (key_in (f s)) b + 1) 0 (λ e. omega arith))
    go false = refl

pub counted_live : (f : Table) (n b : ℕ) (ranks lows highs places order by_key : List ℕ)
    → Listed f n b ranks lows highs places → length places ≡ n + 1 → ApartByKey f n
    → order ≡ ordered f (slot_numbers n) → by_key ≡ sorted (key_at lows highs) order
    → placed_count (decided (key_at lows highs) by_key n places) n ≡ live_count f n
unfolding placed_count live_count
counted_live f n b ranks lows highs places order by_key h size d e c =
    count_same (λ s. not (eqb (get_or (decided (key_at lows highs) by_key n places) s 0) 0)) (live f n) n
    (λ t i. ap (λ (x : ℕ). not (eqb x 0)) (decided_live f n b ranks lows highs places order by_key h size d e c t i.0 i.1)
    ∙ placed_live f n b t)
