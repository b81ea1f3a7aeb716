-- The lookups of the calls: the refusals in order, what the chain has, and what the writes need. Assumes nothing.
use mathlib.Core.Path.{◌≡◌, refl, sym, ap, ap₂, ◌∙◌, subst}
use mathlib.Core.Bool.{Bool, true, false}
use mathlib.Core.List.{List}
use Prim.Native.Nat.{ℕ, zero, suc, ◌+◌, ◌%◌, ◌^◌, ◌≤◌, ◌<◌}
use native.Mathlib.Nat.{mod-lt}
use native.Mathlib.Omega.{arith}
use lib.Dec.{ltb, leb}
use lib.ListN.{length}
use borrow.Author.Tests.{lt-ltb, le-ltb, ltb-false}
use Rattle.prelude.specs.Refusal.{refuse_if, or_else, unless_refused}
use Rattle.prelude.proofs.Refusals.{refuse_if-true, refuse_if-false, refuse_if_zero, or_else_first, or_else_later, or_else_zero, taken_leaves, refused_keeps}
use Rattle.layout.specs.Size.{slots_in}
use Rattle.layout.specs.Record.{Layout, limit}
use Rattle.layout.specs.Header.{lent_fault}
use Rattle.layout.specs.Line.{version_fault}
use Rattle.layout.specs.inner.Sized.{Sized}
use Rattle.layout.proofs.Lents.{version_fine, lent_sized, lent_slots}
use Rattle.index.specs.Walk.{search, chain_fault}
use Rattle.index.specs.Change.{inserts_of, key_fault, is_found}
use Rattle.index.specs.Allocation.{Allocation, ends_fault, link_fault, few_fault, reuse_fault, room_fault}
use Rattle.allocation.specs.Allocation.{allocation_by}
use Rattle.allocation.specs.inner.Walk.{take_fault}
use Rattle.allocation.specs.inner.Takeable.{Walkable}
use Rattle.index.specs.declared.State.{State}
use Rattle.index.specs.declared.Mode.{Mode}
use Rattle.index.specs.declared.Mode.TheVariants.{Insert, Replace}
use Rattle.index.specs.declared.Place.{Place}
use Rattle.index.specs.declared.Place.TheVariants.{Held, NotHeld}
use Rattle.index.specs.declared.Lookup.{Lookup}
use Rattle.index.specs.declared.Lookup.TheVariants.{Refused, Accepted}
use Rattle.index.specs.declared.Found.{Found}
use Rattle.index.specs.declared.Found.TheVariants.{At, Missing, BadChain}
use Rattle.index.proofs.Walks.{at_inside, absent_inside}
use Rattle.index.proofs.LookedUp.{held_by_fault, not_held_by_fault, not_held_taken}
use Rattle.index.proofs.Faults.{reuse_ends, reuse_live, room_fine}
use Rattle.calls.specs.Change.{write_lent_fault, store_fault, write_later_fault, write_fault_by, remove_later_fault, remove_fault_by}
use Rattle.calls.specs.Get.{slot_length, length_fault, get_later_fault, get_fault}
use Rattle.index.specs.Index.{head_of, index_of}
use Rattle.index.specs.inner.Parts.{PlaceInside}
use Rattle.index.specs.inner.Lookup.{lookup_by}
use Rattle.calls.specs.inner.Lookup.{lookup_of, LooksUp, Writable, AcceptedAt, WriteReady, WriteLookup, RemoveReady, RemoveLookup, FoundInside, GetReady}
use Rattle.calls.specs.inner.Lookup.{GetLookup}

-- ---- refusals in order: the first refusal is what the whole row says, or it is none and the rest says it

pub said : {a f : ℕ} (later : ℕ) → f ≡ a → (f ≡ 0 → ⊥) → f ≡ or_else a later
said later e ne = e ∙ sym (or_else_first _ later (λ z. ne (e ∙ z)))

pub passed : {a f later g : ℕ} → f ≡ a → f ≡ 0 → g ≡ later → g ≡ or_else a later
passed e z q = q ∙ sym (or_else_later _ _ (sym e ∙ z))

-- the refusals of a call that stores, as one row
store_row : (taking : Allocation) (n : ℕ) (s : State) (inserts removes : ℕ)
    → or_else (ends_fault n s.first s.last)
    (or_else (refuse_if (ltb s.live removes) 11 0)
    (or_else (take_fault taking) (or_else (refuse_if (leb (n + removes) (s.live + inserts)) 28 0) (version_fault s.version))))
    ≡ store_fault taking n s inserts removes
unfolding store_fault reuse_fault room_fault take_fault or_else
store_row taking n s inserts removes =
    go (ends_fault n s.first s.last) (refuse_if (ltb s.live removes) 11 0) (link_fault taking) (few_fault taking)
    (refuse_if (leb (n + removes) (s.live + inserts)) 28 0) (version_fault s.version)
  where
    go : (a b c d x y : ℕ) → or_else a (or_else b (or_else (or_else c d) (or_else x y))) ≡ or_else (or_else a (or_else b c)) (or_else (or_else d x) y)
    go (suc a) b c d x y = refl
    go zero (suc b) c d x y = refl
    go zero zero (suc c) d x y = refl
    go zero zero zero (suc d) x y = refl
    go zero zero zero zero x y = refl

-- store_fault: its tests in order
module _ (taking : Allocation) (n : ℕ) (s : State) (inserts removes a : ℕ) (e : a ≡ ends_fault n s.first s.last) where
  pub store_ends : (a ≡ 0 → ⊥) → a ≡ store_fault taking n s inserts removes
  store_ends ne = said _ e ne ∙ store_row taking n s inserts removes

  module _ (z : a ≡ 0) where
    pub store_live : s.live < removes → 11 ≡ store_fault taking n s inserts removes
    store_live h =
        passed e z (said _ (sym (refuse_if-true _ _ _ (lt-ltb s.live removes h))) (λ q. omega arith)) ∙ store_row taking n s inserts removes

    module _ (h : removes ≤ s.live) (t : ℕ) (f : t ≡ take_fault taking) where
      after_live : {g later : ℕ} → g ≡ later → g ≡ or_else (refuse_if (ltb s.live removes) 11 0) later
      after_live q = passed (sym (refuse_if-false _ _ _ (le-ltb s.live removes h))) refl q

      pub store_take : (t ≡ 0 → ⊥) → t ≡ store_fault taking n s inserts removes
      store_take ne = passed e z (after_live (said _ f ne)) ∙ store_row taking n s inserts removes

      module _ (y : t ≡ 0) (r : ℕ) (g : r ≡ refuse_if (leb (n + removes) (s.live + inserts)) 28 0) where
        pub store_room : (r ≡ 0 → ⊥) → r ≡ store_fault taking n s inserts removes
        store_room ne = passed e z (after_live (passed f y (said _ g ne))) ∙ store_row taking n s inserts removes

        pub store_version : r ≡ 0 → (v : ℕ) → v ≡ version_fault s.version → v ≡ store_fault taking n s inserts removes
        store_version x v k = passed e z (after_live (passed f y (passed g x k))) ∙ store_row taking n s inserts removes

-- the refusals of a value by its length: m is the greatest length that the layout has
module _ (l size m : ℕ) (e : m ≡ limit l) where
  pub value_too_long : m < size → 10 ≡ refuse_if (ltb (limit l) size) 10 0
  value_too_long h = sym (refuse_if-true _ _ _ (lt-ltb (limit l) size (omega arith)))

  pub value_fits : size ≤ m → 0 ≡ refuse_if (ltb (limit l) size) 10 0
  value_fits h = sym (refuse_if-false _ _ _ (le-ltb (limit l) size (omega arith)))

module _ (l n size m : ℕ) (e : m ≡ limit l) where
  pub too_long : m < n → 23 ≡ length_fault l n size
  unfolding length_fault
  too_long h = sym (refuse_if-true _ _ _ (lt-ltb (limit l) n (omega arith)))

  pub too_small : n ≤ m → size < n → 13 ≡ length_fault l n size
  unfolding length_fault
  too_small h k = sym (refuse_if-false _ _ _ (le-ltb (limit l) n (omega arith)) ∙ refuse_if-true _ _ _ (lt-ltb size n k))

  pub length_fits : n ≤ m → n ≤ size → 0 ≡ length_fault l n size
  unfolding length_fault
  length_fits h k = sym (refuse_if-false _ _ _ (le-ltb (limit l) n (omega arith)) ∙ refuse_if-false _ _ _ (le-ltb size n k))

-- the refusals after the chain is followed, by what was found
module _ (taking : Allocation) (n : ℕ) (s : State) (found : Found) where
  held_later : (slot prev compared r : ℕ) → found ≡ At slot prev compared → r ≡ store_fault taking n s 0 1 → r ≡ remove_later_fault found taking n s
  unfolding remove_later_fault
  held_later slot prev compared r e q = q ∙ sym (ap (λ (f : Found). remove_later_fault f taking n s) e)

  absent_later : (prev compared : ℕ) → found ≡ Missing prev compared → 0 ≡ remove_later_fault found taking n s
  unfolding remove_later_fault
  absent_later prev compared e = sym (ap (λ (f : Found). remove_later_fault f taking n s) e)

  bad_later : found ≡ BadChain → 11 ≡ remove_later_fault found taking n s
  unfolding remove_later_fault
  bad_later e = sym (ap (λ (f : Found). remove_later_fault f taking n s) e)

  module _ (mode : Mode) where
    held_write_later : (slot prev compared : ℕ) → found ≡ At slot prev compared
        → or_else (key_fault mode true) (store_fault taking n s (inserts_of mode) 0) ≡ write_later_fault mode found taking n s
    unfolding write_later_fault chain_fault is_found or_else
    held_write_later slot prev compared e = sym (ap (λ (f : Found). write_later_fault mode f taking n s) e)

    not_held_write_later : (prev compared : ℕ) → found ≡ Missing prev compared
        → or_else (key_fault mode false) (store_fault taking n s (inserts_of mode) 0) ≡ write_later_fault mode found taking n s
    unfolding write_later_fault chain_fault is_found or_else
    not_held_write_later prev compared e = sym (ap (λ (f : Found). write_later_fault mode f taking n s) e)

    bad_write_later : found ≡ BadChain → 11 ≡ write_later_fault mode found taking n s
    unfolding write_later_fault chain_fault or_else
    bad_write_later e = sym (ap (λ (f : Found). write_later_fault mode f taking n s) e)

-- a value is refused for its length
pub length_later : (l : ℕ) (image : List ℕ) (size : ℕ) (found : Found) (slot prev compared len r : ℕ) → found ≡ At slot prev compared
    → len ≡ slot_length l image slot → r ≡ length_fault l len size → r ≡ get_later_fault l image size found
unfolding get_later_fault
length_later l image size found slot prev compared len r e q h =
    h ∙ ap (λ (x : ℕ). length_fault l x size) q ∙ sym (ap (get_later_fault l image size) e)

-- ---- what the walks need

pub sized_walkable : (l : ℕ) (image heads next : List ℕ) (n : ℕ) → Sized image heads next n → 2 ≤ n → Layout l → Walkable image next l n
sized_walkable l image heads next n sized some lay =
    record { layout = lay; image-size = sized.image-size; next_size = sized.next_size; some = some; few = sized.few }

-- ---- what the writes need

module _ (l : ℕ) (image heads next : List ℕ) (key n : ℕ) (sized : Sized image heads next n) where
  found_inside : Layout l → (found : Found) → found ≡ search l image heads next key → FoundInside l image found
  found_inside lay (At slot prev compared) e =
      let i = at_inside l image heads next n key sized.slot_count slot prev compared (sym e) in
      record { layout = lay; room = omega (arith, sized.image-size, i.1) }
  found_inside lay (Missing prev compared) e = tt
  found_inside lay BadChain e = tt

  get_ready : Layout l → (size : ℕ) (found : Found) → found ≡ search l image heads next key → (k : ℕ) → k ≡ get_later_fault l image size found
      → GetReady l image size (lookup_by k found)
  unfolding lookup_by unless_refused get_later_fault length_fault
  get_ready lay size (At slot prev compared) e zero q =
      let a = refuse_if_zero _ _ _ (sym q) (omega arith) in
      let b = refuse_if_zero _ _ _ a.1 (omega arith) in
      (found_inside lay (At slot prev compared) e, ltb-false _ _ a.0, ltb-false _ _ b.0)
  get_ready lay size (At slot prev compared) e (suc k) q = tt
  get_ready lay size (Missing prev compared) e zero q = tt
  get_ready lay size (Missing prev compared) e (suc k) q = tt
  get_ready lay size BadChain e k q = tt

  module _ (s : State) where
    writable : (taking : Allocation) (inserts removes prev old : ℕ) → store_fault taking n s inserts removes ≡ 0 → prev ≤ n → old ≤ n
        → Writable image heads next s key prev old
    unfolding store_fault
    writable taking inserts removes prev old z p o =
        let a = or_else_zero _ _ z in
        let ends = reuse_ends taking n s.live removes s.first s.last a.0 in
        record {
          index =
              record {
                head_in = mod-lt (key % 2 ^ 64) sized.some_head;
                first_in = omega (arith, ends.first_high, sized.next_size);
                last_in = omega (arith, ends.last_high, sized.next_size);
                prev_in = omega (arith, sized.next_size);
                old-in = omega (arith, sized.next_size);
                few = omega (arith, sized.next_size, sized.few);
                version_fits = version_fine s.version (or_else_zero _ _ a.1).1;
              };
          slot_fits = omega (arith, ends.first_high, sized.few);
          slot_in = omega (arith, ends.first_high, sized.image-size);
        }

    allowed_at : (place : Place) (size : ℕ) → size ≤ limit l → {prev old : ℕ} → Writable image heads next s key prev old
        → PlaceInside heads next s (head_of key (length heads)) place → AcceptedAt l image heads next s key size place
    allowed_at place size h u p =
        record { inside = p; some_head = sized.some_head; recordable = (h, u.index.version_fits, u.slot_fits, u.slot_in) }

    -- a new key is counted
    counted : (taking : Allocation) → store_fault taking n s 1 0 ≡ 0 → s.live < 65535
    unfolding store_fault
    counted taking z = omega (arith, room_fine taking n s.live 0 1 (or_else_zero _ _ (or_else_zero _ _ z).1).0, sized.few)

    -- and a removed one was
    some_live : (taking : Allocation) → store_fault taking n s 0 1 ≡ 0 → 0 < s.live
    unfolding store_fault
    some_live taking z = omega (arith, reuse_live taking n s.live 1 s.first s.last (or_else_zero _ _ z).0)

    write_ready : (taking : Allocation) (mode : Mode) (size : ℕ) → size ≤ limit l → (found : Found) → found ≡ search l image heads next key → (k : ℕ)
        → k ≡ write_later_fault mode found taking n s → WriteReady l image heads next s key size (lookup_by k found)
    unfolding lookup_by unless_refused write_later_fault chain_fault key_fault is_found inserts_of refuse_if
    write_ready taking mode size h (At slot prev compared) e zero q =
        let z = (or_else_zero _ _ (or_else_zero _ _ (sym q)).1).1 in
        let i = at_inside l image heads next n key sized.slot_count slot prev compared (sym e) in
        let u = writable taking (inserts_of mode) 0 prev slot z i.2 i.1 in
        allowed_at (Held slot prev) size h u u.index
    write_ready taking mode size h (At slot prev compared) e (suc k) q = tt
    write_ready taking Insert size h (Missing prev compared) e zero q =
        let z = (or_else_zero _ _ (or_else_zero _ _ (sym q)).1).1 in
        let i = absent_inside l image heads next n key sized.slot_count prev compared (sym e) in
        let u = writable taking 1 0 prev prev z i i in
        allowed_at (NotHeld prev) size h u (u.index, counted taking z)
    write_ready taking Replace size h (Missing prev compared) e zero q =
        let z : ◌≡◌ {A = ℕ} 21 0 = (or_else_zero _ _ (or_else_zero _ _ (sym q)).1).0 in absurd (omega arith)
    write_ready taking mode size h (Missing prev compared) e (suc k) q = tt
    write_ready taking mode size h BadChain e k q = tt

    remove_ready : (taking : Allocation) (found : Found) → found ≡ search l image heads next key → (k : ℕ) → k ≡ remove_later_fault found taking n s
        → RemoveReady image heads next s key (lookup_by k found)
    unfolding lookup_by unless_refused remove_later_fault
    remove_ready taking (At slot prev compared) e zero q =
        let i = at_inside l image heads next n key sized.slot_count slot prev compared (sym e) in
        (writable taking 0 1 prev slot (sym q) i.2 i.1, some_live taking (sym q))
    remove_ready taking (At slot prev compared) e (suc k) q = tt
    remove_ready taking (Missing prev compared) e zero q = tt
    remove_ready taking (Missing prev compared) e (suc k) q = tt
    remove_ready taking BadChain e k q = tt

-- ---- the lookups: f is the refusal before the chain is followed

pub refused_early : {lent f : ℕ} (later : ℕ) {found : Found} {Ready : Lookup → Type 0} → f ≡ lent → (f ≡ 0 → ⊥) → Ready (Refused f 0)
    → LooksUp (or_else lent later) lent found Ready (Refused f 0)
unfolding lookup_of
refused_early later e ne ready =
    record {
      is = ap (λ (k : ℕ). Refused k 0) (said later e ne) ∙ sym (refused_keeps _ _ _ (λ z. ne (e ∙ z)));
      ready = ready;
    }

looks_up : {lent f later k : ℕ} {d found : Found} {Ready : Lookup → Type 0} {r : Lookup} → f ≡ lent → f ≡ 0 → k ≡ later → d ≡ found
    → r ≡ lookup_by k d → Ready (lookup_by k d) → LooksUp (or_else lent later) lent found Ready r
unfolding lookup_of
looks_up {Ready = Ready} e z q g h ready =
    record {
      is = h ∙ ap₂ lookup_by (passed e z q) g ∙ sym (taken_leaves _ _ _ (sym e ∙ z));
      ready = subst Ready (sym h) ready;
    }

-- n is the slots of the image, found what the key's chain has, and r the lookup by it
module _
    (l : ℕ) (image heads next : List ℕ) (f n : ℕ) (z : f ≡ 0) (en : n ≡ slots_in image)
    (ef : f ≡ lent_fault l image (length heads) (length next)) (key : ℕ) (found : Found) (ed : found ≡ search l image heads next key) where
  sized : Sized image heads next n
  sized = lent_sized l f image heads next ef z n en

  pub lent_walkable : Layout l → Walkable image next l n
  lent_walkable lay = sized_walkable l image heads next n sized (lent_slots l f image heads next ef z n en) lay

  pub lent_inside : Layout l → FoundInside l image found
  lent_inside lay = found_inside l image heads next key n sized lay found ed

  remove_looks : (own : Bool) (s : State) (k : ℕ) → k ≡ remove_later_fault found (allocation_by own l image next n s.first s.newest 1) n s → (r : Lookup)
      → r ≡ lookup_by k found
      → RemoveLookup own l image (index_of heads next s) key r
  unfolding remove_fault_by
  remove_looks own s k e r h =
      looks_up ef z (e ∙ ap₂ (λ (d : Found) (m : ℕ). remove_later_fault d (allocation_by own l image next m s.first s.newest 1) m s) ed en) ed h
      (remove_ready l image heads next key n sized s (allocation_by own l image next n s.first s.newest 1) found ed k e)

  pub remove_looks_held : (own : Bool) (s : State) (slot prev compared k : ℕ) → found ≡ At slot prev compared
      → k ≡ store_fault (allocation_by own l image next n s.first s.newest 1) n s 0 1 → (r : Lookup)
      → r ≡ unless_refused k (Accepted (Held slot prev) compared) (Refused k compared) → RemoveLookup own l image (index_of heads next s) key r
  remove_looks_held own s slot prev compared k e q r h =
      remove_looks own s k (held_later _ n s found slot prev compared k e q) r (h ∙ held_by_fault found slot prev compared k e)

  pub remove_looks_absent : (own : Bool) (s : State) (prev compared : ℕ) → found ≡ Missing prev compared
      → RemoveLookup own l image (index_of heads next s) key (Accepted (NotHeld prev) compared)
  remove_looks_absent own s prev compared e =
      remove_looks own s 0 (absent_later _ n s found prev compared e) _ (not_held_taken found prev compared 0 e refl)

  pub remove_looks_bad : (own : Bool) (s : State) → found ≡ BadChain → RemoveLookup own l image (index_of heads next s) key (Refused 11 0)
  unfolding lookup_by
  remove_looks_bad own s e = remove_looks own s 11 (bad_later _ n s found e) _ (sym (ap (lookup_by 11) e))

  pub get_looks : Layout l → (size k : ℕ) → k ≡ get_later_fault l image size found → (r : Lookup) → r ≡ lookup_by k found
      → GetLookup l image heads next key size r
  unfolding get_fault
  get_looks lay size k e r h =
      looks_up ef z (e ∙ ap (get_later_fault l image size) ed) ed h
      (get_ready l image heads next key n sized lay size found ed k e)

module _
    (l : ℕ) (image heads next : List ℕ) (size f n : ℕ) (z : f ≡ 0) (en : n ≡ slots_in image)
    (ef : f ≡ write_lent_fault l image (length heads) (length next) size) where
  write_passed : (lent_fault l image (length heads) (length next) ≡ 0) × (size ≤ limit l)
  unfolding write_lent_fault
  write_passed = let a = or_else_zero _ _ (sym ef ∙ z) in (a.0, ltb-false _ _ (refuse_if_zero _ _ _ a.1 (omega arith)).0)

  pub write_sized : Sized image heads next n
  write_sized = lent_sized l 0 image heads next (sym write_passed.0) refl n en

  pub write_walkable : Layout l → Walkable image next l n
  write_walkable lay =
      sized_walkable l image heads next n write_sized (lent_slots l 0 image heads next (sym write_passed.0) refl n en) lay

  module _ (own : Bool) (key : ℕ) (found : Found) (ed : found ≡ search l image heads next key) (s : State) (mode : Mode) where
    write_looks : (k : ℕ) → k ≡ write_later_fault mode found (allocation_by own l image next n s.first s.newest 1) n s → (r : Lookup) → r ≡ lookup_by k found
        → WriteLookup own l image (index_of heads next s) mode key size r
    unfolding write_fault_by
    write_looks k e r h =
        looks_up ef z (e ∙ ap₂ (λ (d : Found) (m : ℕ). write_later_fault mode d (allocation_by own l image next m s.first s.newest 1) m s) ed en) ed h
        (write_ready l image heads next key n write_sized s (allocation_by own l image next n s.first s.newest 1) mode size write_passed.1 found ed k e)

    write_looks_held : (slot prev compared k : ℕ) → found ≡ At slot prev compared
        → k ≡ or_else (key_fault mode true) (store_fault (allocation_by own l image next n s.first s.newest 1) n s (inserts_of mode) 0) → (r : Lookup)
        → r ≡ unless_refused k (Accepted (Held slot prev) compared) (Refused k compared) → WriteLookup own l image (index_of heads next s) mode key size r
    write_looks_held slot prev compared k e q r h =
        write_looks k (q ∙ held_write_later _ n s found mode slot prev compared e) r (h ∙ held_by_fault found slot prev compared k e)

    write_looks_absent : (prev compared k : ℕ) → found ≡ Missing prev compared
        → k ≡ or_else (key_fault mode false) (store_fault (allocation_by own l image next n s.first s.newest 1) n s (inserts_of mode) 0) → (r : Lookup)
        → r ≡ unless_refused k (Accepted (NotHeld prev) compared) (Refused k compared) → WriteLookup own l image (index_of heads next s) mode key size r
    write_looks_absent prev compared k e q r h =
        write_looks k (q ∙ not_held_write_later _ n s found mode prev compared e) r (h ∙ not_held_by_fault found prev compared k e)

    pub write_looks_bad : found ≡ BadChain → WriteLookup own l image (index_of heads next s) mode key size (Refused 11 0)
    unfolding lookup_by
    write_looks_bad e = write_looks 11 (bad_write_later _ n s found mode e) _ (sym (ap (lookup_by 11) e))

  -- by the mode: the key of an insert is refused where it is held, and that of a replace where it is not
  module _ (own : Bool) (key : ℕ) (found : Found) (ed : found ≡ search l image heads next key) (s : State) where
    pub insert_looks_held : (slot prev compared : ℕ) → found ≡ At slot prev compared
        → WriteLookup own l image (index_of heads next s) Insert key size (Refused 20 compared)
    unfolding key_fault refuse_if or_else unless_refused
    insert_looks_held slot prev compared e = write_looks_held own key found ed s Insert slot prev compared 20 e refl _ refl

    pub insert_looks : (prev compared k : ℕ) → found ≡ Missing prev compared
        → k ≡ store_fault (allocation_by own l image next n s.first s.newest 1) n s 1 0 → (r : Lookup)
        → r ≡ unless_refused k (Accepted (NotHeld prev) compared) (Refused k compared) → WriteLookup own l image (index_of heads next s) Insert key size r
    unfolding key_fault refuse_if or_else inserts_of
    insert_looks prev compared k e q r h = write_looks_absent own key found ed s Insert prev compared k e q r h

    pub replace_looks : (slot prev compared k : ℕ) → found ≡ At slot prev compared
        → k ≡ store_fault (allocation_by own l image next n s.first s.newest 1) n s 0 0 → (r : Lookup)
        → r ≡ unless_refused k (Accepted (Held slot prev) compared) (Refused k compared) → WriteLookup own l image (index_of heads next s) Replace key size r
    unfolding key_fault refuse_if or_else inserts_of
    replace_looks slot prev compared k e q r h = write_looks_held own key found ed s Replace slot prev compared k e q r h

    pub replace_looks_absent : (prev compared : ℕ) → found ≡ Missing prev compared
        → WriteLookup own l image (index_of heads next s) Replace key size (Refused 21 compared)
    unfolding key_fault refuse_if or_else unless_refused
    replace_looks_absent prev compared e = write_looks_absent own key found ed s Replace prev compared 21 e refl _ refl

-- ---- what a call that takes one slot finds, by its two clauses

pub found_by_fault : (k : ℕ) (r : Lookup) (place : Place) (compared : ℕ) → (k ≡ 0 → r ≡ Accepted place compared) → ((k ≡ 0 → ⊥) → r ≡ Refused k compared)
    → r ≡ unless_refused k (Accepted place compared) (Refused k compared)
unfolding unless_refused
found_by_fault zero r place compared a b = a refl
found_by_fault (suc k) r place compared a b = b (λ e. omega (arith, e))
