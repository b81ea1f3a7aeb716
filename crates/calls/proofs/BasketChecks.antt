-- The checks of a basket, key by key: each loop's rest answers for the whole. Assumes nothing.
use mathlib.Core.Path.{◌≡◌, refl, sym, ap, ap₂, ◌∙◌}
use mathlib.Core.Bool.{Bool, true, false, cond, not}
use mathlib.Core.Logic.{by_cases}
use mathlib.Core.List.{List, [], ◌∷◌}
use Prim.Native.Nat.{ℕ, zero, suc, ◌+◌, ◌-◌, ◌^◌, ◌≤◌, ◌<◌}
use native.Mathlib.Decide.{dec_lt}
use native.Mathlib.Omega.{arith}
use lib.Dec.{eqb}
use lib.ListN.{length, get_or, set, take, replicate, length-set}
use Rattle.std.specs.List.{list_any, range_with_len}
use Rattle.std.proofs.lemmas.List.{get_or-take, get_or_default, length-take}
use lib.Seq.{get_or-set_same, get_or-set_other}
use borrow.Author.Tests.{eq-eqb, ne_eqb, eqb-true, eqb-false, ltb-false, lt-ltb, le-ltb}
use Rattle.prelude.specs.Refusal.{refuse_if, or_else}
use Rattle.prelude.proofs.Refusals.{refuse_if-true, refuse_if-false, refuse_if_zero, or_else_first, or_else_later, or_else_zero}
use Rattle.prelude.proofs.Tabulate.{tabulate-length}
use Rattle.layout.specs.Record.{key_with, limit}
use Rattle.allocation.proofs.Tested.{either_is}
use Rattle.layout.proofs.KeyWords.{same_words}
use Rattle.index.specs.Walk.{chain_fault}
use Rattle.index.specs.Change.{is_found, inserts_of, key_fault}
use Rattle.index.specs.declared.Action.{Action}
use Rattle.index.specs.declared.Mode.{Mode}
use Rattle.index.specs.declared.Action.TheVariants.{Write, Remove}
use Rattle.index.specs.declared.Mode.TheVariants.{Insert, Replace}
use Rattle.index.specs.declared.Found.{Found}
use Rattle.calls.specs.Basket.{old_in}
use Rattle.calls.specs.BasketItems.{KeyChange, high_in, item_key, item_at, item_value, change_at, changes_from, changes_of}
use Rattle.calls.specs.BasketRefusals.{key_count_fault, among, any_twice, lists_fault, given_fault, first_fault, value_fault, action_fault, inserts_by}
use Rattle.calls.specs.BasketRefusals.{removes_by, sum_over}
use Rattle.calls.specs.inner.Basket.{item_key_at, size_by, size_at, OldsOf, ActionsFault, TotalsOf}
use Rattle.calls.specs.declared.BasketItem.{BasketItem}

-- ---- what is asked, from one item on

module _ (l : ℕ) (items : List BasketItem) (values : List ℕ) where
  pub changes_step : (count i : ℕ) → i < count
      → changes_from l items values i (count - i) ≡ change_at l items values i ∷ changes_from l items values (i + 1) (count - (i + 1))
  unfolding changes_from
  changes_step count i h =
      let d : count - i ≡ suc (count - (i + 1)) = omega arith in
      let e : suc i ≡ i + 1 = omega arith in
      ap (changes_from l items values i) d
      ∙ ap (λ (k : ℕ). change_at l items values i ∷ changes_from l items values k (count - (i + 1))) e

  pub changes_end : (count i : ℕ) → count ≤ i → changes_from l items values i (count - i) ≡ []
  unfolding changes_from
  changes_end count i h = let d : count - i ≡ 0 = omega arith in ap (changes_from l items values i) d

  pub changes_start : (count : ℕ) → changes_from l items values 0 (count - 0) ≡ changes_of l count items values
  unfolding changes_of
  changes_start count = let d : count - 0 ≡ count = omega arith in ap (changes_from l items values 0) d

  changes_length : (i n : ℕ) → length (changes_from l items values i n) ≡ n
  unfolding changes_from
  changes_length i zero = refl
  changes_length i (suc n) = ap suc (changes_length (suc i) n)

  pub so_many : (count : ℕ) → length (changes_of l count items values) ≡ count
  unfolding changes_of
  so_many count = changes_length 0 count

-- an item that a loop over the first of them gives
pub item_taken : (items : List BasketItem) (count k : ℕ) (d : BasketItem) → k < length (take count items) → get_or (take count items) k d ≡ item_at items k
unfolding item_at
item_taken items count k d h =
    let few : k < count = omega (arith, length-take count items) in
    let room : k < length items = omega (arith, length-take count items) in
    get_or-take count items k d few ∙ get_or_default items k d _ room

-- an item's key, by its words
pub key-at : (l : ℕ) (items : List BasketItem) (i high : ℕ) → high ≡ high_in l (item_at items i).high
    → key_with (item_at items i).low high ≡ item_key_at l items i
unfolding item_key
key-at l items i high e = ap (key_with (item_at items i).low) e

-- ---- a check of each key: the first that is refused

pub record Checking (fault : KeyChange → ℕ) (l : ℕ) (items : List BasketItem) (count i : ℕ) : Type 0 where
  pub rest : (values : List ℕ) → first_fault fault (changes_from l items values i (count - i)) ≡ first_fault fault (changes_of l count items values)

module _ (fault : KeyChange → ℕ) (l : ℕ) (items : List BasketItem) (count : ℕ) where
  pub check_starts : Checking fault l items count 0
  check_starts = record { rest = λ values. ap (first_fault fault) (changes_start l items values count) }

  module _ (i : ℕ) (w : Checking fault l items count i) where
    module _ (h : i < count) (k : ℕ) (e : (values : List ℕ) → k ≡ fault (change_at l items values i)) where
      turn : (values : List ℕ) → first_fault fault (changes_from l items values i (count - i))
          ≡ or_else (fault (change_at l items values i)) (first_fault fault (changes_from l items values (i + 1) (count - (i + 1))))
      unfolding first_fault
      turn values = ap (first_fault fault) (changes_step l items values count i h)

      pub check_stops : (k ≡ 0 → ⊥) → (values : List ℕ) → k ≡ first_fault fault (changes_of l count items values)
      check_stops ne values =
          e values ∙ sym (or_else_first (fault (change_at l items values i)) _ (λ z. ne (e values ∙ z))) ∙ sym (turn values) ∙ w.rest values

      pub check_on : k ≡ 0 → Checking fault l items count (i + 1)
      check_on z =
          record {
            rest = λ values. sym (or_else_later (fault (change_at l items values i)) _ (sym (e values) ∙ z)) ∙ sym (turn values) ∙ w.rest values;
          }

    pub check_ends : count ≤ i → (values : List ℕ) → 0 ≡ first_fault fault (changes_of l count items values)
    unfolding first_fault
    check_ends h values = sym (ap (first_fault fault) (changes_end l items values count i h)) ∙ w.rest values

-- no key is refused
module _ (fault : KeyChange → ℕ) (l : ℕ) (items : List BasketItem) (values : List ℕ) where
  none_from : (i n : ℕ) → first_fault fault (changes_from l items values i n) ≡ 0 → (j : ℕ) → i ≤ j → j < i + n → fault (change_at l items values j) ≡ 0
  unfolding changes_from first_fault
  none_from i zero e j low high = absurd (omega arith)
  none_from i (suc n) e j low high =
      let a = or_else_zero _ _ e in
      by_cases (dec_lt i j) (λ k. none_from (suc i) n a.1 j (omega arith) (omega arith))
      (λ k.
      let d : j ≡ i = omega arith in
      ap (λ (x : ℕ). fault (change_at l items values x)) d ∙ a.0)

  pub none_refused : (count : ℕ) → first_fault fault (changes_of l count items values) ≡ 0 → (j : ℕ) → j < count → fault (change_at l items values j) ≡ 0
  unfolding changes_of
  none_refused count e j h = none_from 0 count e j (omega arith) (omega arith)

-- ---- 10

pub size-at : (l : ℕ) (items : List BasketItem) (i k : ℕ) → k ≡ value_fault l (item_at items i).action (item_at items i).length
    → (values : List ℕ) → k ≡ value_fault l (change_at l items values i).action (length (change_at l items values i).value)
unfolding change_at item_value
size-at l items i k e values = e ∙ ap (value_fault l (item_at items i).action) (sym (tabulate-length _ 0 (item_at items i).length))

-- by what is asked; m is the greatest length that the layout has
module _ (l size : ℕ) (a : Action) where
  pub written_long : (mode : Mode) → a ≡ Write mode → (m : ℕ) → m ≡ limit l → m < size → 10 ≡ value_fault l a size
  unfolding value_fault
  written_long mode q m e h = sym (ap (λ (x : Action). value_fault l x size) q ∙ refuse_if-true _ _ _ (lt-ltb (limit l) size (omega arith)))

  pub written_fits : (mode : Mode) → a ≡ Write mode → (m : ℕ) → m ≡ limit l → size ≤ m → 0 ≡ value_fault l a size
  unfolding value_fault
  written_fits mode q m e h = sym (ap (λ (x : Action). value_fault l x size) q ∙ refuse_if-false _ _ _ (le-ltb (limit l) size (omega arith)))

  pub removed_fits : a ≡ Remove → 0 ≡ value_fault l a size
  unfolding value_fault
  removed_fits q = sym (ap (λ (x : Action). value_fault l x size) q)

fits_by : (l : ℕ) (a : Action) (size : ℕ) → value_fault l a size ≡ 0 → size_by a size ≤ limit l
unfolding value_fault size_by
fits_by l (Write mode) size e = ltb-false (limit l) size (refuse_if_zero _ _ _ e (omega arith)).0
fits_by l Remove size e = omega arith

pub sizes_fit : (l : ℕ) (items : List BasketItem) (count : ℕ) (values : List ℕ)
    → first_fault (λ c. value_fault l c.action (length c.value)) (changes_of l count items values) ≡ 0 → (j : ℕ) → j < count → size_at items j ≤ limit l
sizes_fit l items count values e j h =
    fits_by l (item_at items j).action (item_at items j).length
    (size-at l items j _ refl values ∙ none_refused (λ c. value_fault l c.action (length c.value)) l items values count e j h)

-- ---- 27

-- has_key
module _ (l : ℕ) (item : BasketItem) (low high : ℕ) (fits : item.low < 2 ^ 64) (small : low < 2 ^ 64) where
  pub other_item : (item.low ≡ low → ⊥) → false ≡ eqb (item_key l item) (key_with low high)
  unfolding item_key
  other_item ne = sym (ne_eqb _ _ (λ e. ne (same_words item.low (high_in l item.high) low high fits small e).0))

  pub same_item : (h : ℕ) → item.low ≡ low → h ≡ high_in l item.high → eqb h high ≡ eqb (item_key l item) (key_with low high)
  unfolding item_key
  same_item h e f = go (eqb h high) refl
    where
      go : (b : Bool) → eqb h high ≡ b → b ≡ eqb (item_key l item) (key_with low high)
      go true t = sym (eq-eqb _ _ (ap₂ key_with e (sym f ∙ eqb-true h high t)))
      go false t =
          sym (ne_eqb _ _ (λ q. eqb-false h high t (f ∙ (same_words item.low (high_in l item.high) low high fits small q).1)))

-- is_among
pub among_listed : (l : ℕ) (items : List BasketItem) (values : List ℕ) (key from n : ℕ)
    → list_any (λ (j : ℕ). eqb (item_key_at l items j) key) (range_with_len from n) ≡ among key (changes_from l items values from n)
unfolding among changes_from change_at
among_listed l items values key from zero = refl
among_listed l items values key from (suc n) =
    let next : from + 1 ≡ suc from = omega arith in
    either_is (eqb (item_key_at l items from) key) _
    ∙ ap (λ (b : Bool). cond (eqb (item_key_at l items from) key) true b)
    (among_listed l items values key (from + 1) n ∙ ap (λ (k : ℕ). among key (changes_from l items values k n)) next)

-- any_twice
pub twice_listed : (l : ℕ) (items : List BasketItem) (values : List ℕ) (count n i : ℕ) → i + n ≡ count
    → list_any (λ (k : ℕ). among (item_key_at l items k) (changes_from l items values (k + 1) (count - (k + 1)))) (range_with_len i n)
    ≡ any_twice (changes_from l items values i n)
unfolding any_twice changes_from change_at
twice_listed l items values count zero i e = refl
twice_listed l items values count (suc n) i e =
    let next : i + 1 ≡ suc i = omega arith in
    let left : count - (i + 1) ≡ n = omega arith in
    either_is (among (item_key_at l items i) (changes_from l items values (i + 1) (count - (i + 1)))) _
    ∙ ap₂ (λ (a b : Bool). cond a true b) (ap₂ (λ (x y : ℕ). among (item_key_at l items i) (changes_from l items values x y)) next left)
    (twice_listed l items values count n (i + 1) (omega arith) ∙ ap (λ (x : ℕ). any_twice (changes_from l items values x n)) next)

-- ---- 26, 27, 13

pub count_few : (count k : ℕ) → k ≡ key_count_fault count → k ≡ 0 → (0 < count) × (count ≤ 8)
unfolding key_count_fault
count_few count k e z =
    let a = refuse_if_zero _ _ _ (sym e ∙ z) (omega arith) in
    let b = refuse_if_zero _ _ _ a.1 (omega arith) in
    (omega (arith, eqb-false count 0 a.0), ltb-false 8 count b.0)

module _ (l : ℕ) (items : List BasketItem) (count at words k : ℕ) (e : k ≡ key_count_fault count) where
  given : (values : List ℕ) → or_else (key_count_fault count) (refuse_if (any_twice (changes_of l count items values)) 27 (lists_fault count at words))
      ≡ given_fault (changes_of l count items values) at words
  unfolding given_fault
  given values =
      ap (λ (m : ℕ). or_else (key_count_fault m) (refuse_if (any_twice (changes_of l count items values)) 27 (lists_fault m at words)))
      (sym (so_many l items values count))

  pub given_count : (k ≡ 0 → ⊥) → (values : List ℕ) → k ≡ given_fault (changes_of l count items values) at words
  given_count ne values = e ∙ sym (or_else_first (key_count_fault count) _ (λ z. ne (e ∙ z))) ∙ given values

  module _ (z : k ≡ 0) (b : Bool) (t : (values : List ℕ) → b ≡ any_twice (changes_of l count items values)) where
    pub given_twice : b ≡ true → (values : List ℕ) → 27 ≡ given_fault (changes_of l count items values) at words
    given_twice q values =
        sym (refuse_if-true (any_twice (changes_of l count items values)) _ _ (sym (t values) ∙ q)) ∙ sym (or_else_later (key_count_fault count) _ (sym e ∙ z))
        ∙ given values

    pub given_lists : b ≡ false → (r : ℕ) → r ≡ lists_fault count at words → (values : List ℕ) → r ≡ given_fault (changes_of l count items values) at words
    given_lists q r f values =
        f ∙ sym (refuse_if-false (any_twice (changes_of l count items values)) _ _ (sym (t values) ∙ q))
        ∙ sym (or_else_later (key_count_fault count) _ (sym e ∙ z))
        ∙ given values

-- ---- 11 by the chains, and the old records

pub record Finding (found : ℕ → Found) (l : ℕ) (items : List BasketItem) (count : ℕ) (slots : List ℕ) (i : ℕ) : Type 0 where
  pub size : length slots ≡ 8
  pub checking : Checking (λ c. chain_fault (found c.key)) l items count i
  pub olds : (j : ℕ) → j < i → get_or slots j 0 ≡ old_in (found (item_key_at l items j))

module _ (found : ℕ → Found) (l : ℕ) (items : List BasketItem) (count : ℕ) where
  abbrev chains : KeyChange → ℕ
  chains c = chain_fault (found c.key)

  pub finding_starts : Finding found l items count (replicate 8 0) 0
  finding_starts = record { size = refl; checking = check_starts chains l items count; olds = λ j h. absurd (omega arith) }

  module _ (slots : List ℕ) (i : ℕ) (w : Finding found l items count slots i) where
    module _ (h : i < count) (high : ℕ) (eh : high ≡ high_in l (item_at items i).high) (d : Found) (ed : d ≡ found (key_with (item_at items i).low high))
        (k : ℕ) (e : k ≡ chain_fault d) where
      met : d ≡ found (item_key_at l items i)
      met = ed ∙ ap found (key-at l items i high eh)

      by_chain : (values : List ℕ) → k ≡ chains (change_at l items values i)
      unfolding change_at
      by_chain values = e ∙ ap chain_fault met

      pub finding_stops : (k ≡ 0 → ⊥) → (s : List ℕ) → OldsOf found l count items (record { fault = k; slots = s })
      finding_stops ne s =
          record { fault_is = check_stops chains l items count i w.checking h k by_chain ne; slot_is = λ z. absurd (ne z) }

      pub finding_on : count ≤ 8 → k ≡ 0 → (s : ℕ) → s ≡ old_in d → Finding found l items count (set slots i s) (i + 1)
      finding_on few z s f =
          record {
            size = length-set slots i s ∙ w.size;
            checking = check_on chains l items count i w.checking h k by_chain z;
            olds = λ j q.
                by_cases (dec_lt j i)
                (λ p. get_or-set_other slots i j s 0 (λ x. omega arith) ∙ w.olds j p)
                (λ p.
                let y : j ≡ i = omega arith in
                ap (λ (x : ℕ). get_or (set slots i s) x 0) y ∙ get_or-set_same slots i s 0 (omega (arith, w.size)) ∙ f ∙ ap old_in met
                ∙ ap (λ (x : ℕ). old_in (found (item_key_at l items x))) (sym y));
          }

    pub finding_ends : count ≤ i → OldsOf found l count items (record { fault = 0; slots = slots })
    finding_ends h =
        record { fault_is = check_ends chains l items count i w.checking h; slot_is = λ z j q. w.olds j (omega arith) }

-- ---- 20 or 21

-- action_fault: by what is asked
module _ (a : Action) (old : ℕ) where
  pub write_by : (mode : Mode) → a ≡ Write mode → (k : ℕ) → k ≡ key_fault mode (not (eqb old 0)) → k ≡ action_fault a (not (eqb old 0))
  unfolding action_fault
  write_by mode q k e = e ∙ sym (ap (λ (x : Action). action_fault x (not (eqb old 0))) q)

  pub remove_new : a ≡ Remove → old ≡ 0 → 21 ≡ action_fault a (not (eqb old 0))
  unfolding action_fault refuse_if
  remove_new q z = sym (ap₂ action_fault q (ap not (eq-eqb old 0 z)))

  pub remove-held : a ≡ Remove → (old ≡ 0 → ⊥) → 0 ≡ action_fault a (not (eqb old 0))
  unfolding action_fault refuse_if
  remove-held q ne = sym (ap₂ action_fault q (ap not (ne_eqb old 0 ne)))

pub record Acting (items : List BasketItem) (count : ℕ) (olds : List ℕ) (i : ℕ) : Type 0 where
  pub checking : (l : ℕ) (found : ℕ → Found) → ((j : ℕ) → j < count → is_found (found (item_key_at l items j)) ≡ not (eqb (get_or olds j 0) 0))
      → Checking (λ c. action_fault c.action (is_found (found c.key))) l items count i

module _ (items : List BasketItem) (count : ℕ) (olds : List ℕ) where
  pub acting_starts : Acting items count olds 0
  acting_starts = record { checking = λ l found g. check_starts _ l items count }

  module _ (i : ℕ) (w : Acting items count olds i) where
    module _ (h : i < count) (k : ℕ) (e : k ≡ action_fault (item_at items i).action (not (eqb (get_or olds i 0) 0))) where
      by_action : (l : ℕ) (found : ℕ → Found) → ((j : ℕ) → j < count → is_found (found (item_key_at l items j)) ≡ not (eqb (get_or olds j 0) 0))
          → (values : List ℕ) → k ≡ action_fault (change_at l items values i).action (is_found (found (change_at l items values i).key))
      unfolding change_at
      by_action l found g values = e ∙ ap (action_fault (item_at items i).action) (sym (g i h))

      pub acting_stops : (k ≡ 0 → ⊥) → ActionsFault items count olds k
      acting_stops ne l found g = check_stops _ l items count i (w.checking l found g) h k (by_action l found g) ne

      pub acting_on : k ≡ 0 → Acting items count olds (i + 1)
      acting_on z = record { checking = λ l found g. check_on _ l items count i (w.checking l found g) h k (by_action l found g) z }

    pub acting_ends : count ≤ i → ActionsFault items count olds 0
    acting_ends h l found g = check_ends _ l items count i (w.checking l found g) h

-- ---- the counts of keys inserted and removed

by_inserts : (a : Action) → inserts_by a ≤ 1
unfolding inserts_by inserts_of
by_inserts (Write Insert) = omega arith
by_inserts (Write Replace) = omega arith
by_inserts Remove = omega arith

by_removes : (a : Action) → removes_by a ≤ 1
unfolding removes_by
by_removes (Write mode) = omega arith
by_removes Remove = omega arith

pub adds_one : (a : Action) (k : ℕ) → k ≡ inserts_by a → k ≤ 1
adds_one a k e = omega (arith, e, by_inserts a)

pub takes_one : (a : Action) (k : ℕ) → k ≡ removes_by a → k ≤ 1
takes_one a k e = omega (arith, e, by_removes a)

pub record Counting (items : List BasketItem) (count inserts removes i : ℕ) : Type 0 where
  pub position : i ≤ count
  pub inserts_few : inserts ≤ i
  pub removes_few : removes ≤ i
  pub inserts_rest : (l : ℕ) (values : List ℕ) → inserts + sum_over inserts_by (changes_from l items values i (count - i))
      ≡ sum_over inserts_by (changes_of l count items values)
  pub removes_rest : (l : ℕ) (values : List ℕ) → removes + sum_over removes_by (changes_from l items values i (count - i))
      ≡ sum_over removes_by (changes_of l count items values)

module _ (items : List BasketItem) (count : ℕ) where
  pub counting_starts : Counting items count 0 0 0
  counting_starts =
      record {
        position = omega arith;
        inserts_few = omega arith;
        removes_few = omega arith;
        inserts_rest = λ l values. from inserts_by l values;
        removes_rest = λ l values. from removes_by l values;
      }
    where
      from : (by : Action → ℕ) (l : ℕ) (values : List ℕ) → 0 + sum_over by (changes_from l items values 0 (count - 0))
          ≡ sum_over by (changes_of l count items values)
      from by l values =
          let z : 0 + sum_over by (changes_from l items values 0 (count - 0)) ≡ sum_over by (changes_from l items values 0 (count - 0)) = omega arith in
          z ∙ ap (sum_over by) (changes_start l items values count)

  module _ (inserts removes i : ℕ) (w : Counting items count inserts removes i) where
    one : (by : Action → ℕ) (l : ℕ) (values : List ℕ) → i < count → sum_over by (changes_from l items values i (count - i))
        ≡ by (item_at items i).action + sum_over by (changes_from l items values (i + 1) (count - (i + 1)))
    unfolding sum_over change_at
    one by l values h = ap (sum_over by) (changes_step l items values count i h)

    pub counting_on : i < count → (a b : ℕ) → a ≡ inserts_by (item_at items i).action → b ≡ removes_by (item_at items i).action
        → Counting items count (inserts + a) (removes + b) (i + 1)
    counting_on h a b p q =
        record {
          position = omega arith;
          inserts_few = omega (arith, w.inserts_few, p, by_inserts (item_at items i).action);
          removes_few = omega (arith, w.removes_few, q, by_removes (item_at items i).action);
          inserts_rest = λ l values. omega (arith, w.inserts_rest l values, one inserts_by l values h, p);
          removes_rest = λ l values. omega (arith, w.removes_rest l values, one removes_by l values h, q);
        }

    none_left : (by : Action → ℕ) (l : ℕ) (values : List ℕ) → count ≤ i → sum_over by (changes_from l items values i (count - i)) ≡ 0
    unfolding sum_over
    none_left by l values h = ap (sum_over by) (changes_end l items values count i h)

    pub counting_ends : count ≤ i → (l : ℕ) → TotalsOf l count items (record { inserts = inserts; removes = removes })
    counting_ends h l =
        record {
          inserts_are = λ values. omega (arith, w.inserts_rest l values, none_left inserts_by l values h);
          removes_are = λ values. omega (arith, w.removes_rest l values, none_left removes_by l values h);
          inserts_few = omega (arith, w.inserts_few, w.position);
          removes_few = omega (arith, w.removes_few, w.position);
        }
