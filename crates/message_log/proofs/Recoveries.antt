-- What the functions of recovery compute. Assumes nothing.
use mathlib.Core.Path.{◌≡◌, sym, ap, ap₂, ◌∙◌, subst}
use mathlib.Core.Bool.{Bool, true, false, ◌&&◌}
use mathlib.Core.Logic.{◌⊎◌, inl, inr}
use mathlib.Core.List.{List, [], ◌∷◌, ◌++◌}
use Prim.Native.Nat.{ℕ, suc, ◌+◌, ◌-◌, ◌*◌, ◌/◌, ◌%◌, ◌≤◌, ◌<◌}
use native.Mathlib.Numerals.{add-one}
use native.Mathlib.Omega.{arith}
use lib.ListN.{length, set, length-append}
use lib.Seq.{sets}
use lib.Dec.{ltb}
use borrow.Author.Tests.{eq-eqb, ne_eqb, ltb-false}
use Rattle.prelude.specs.Answer.{gives, refused}
use Rattle.prelude.proofs.Choice.{split}
use Rattle.prelude.proofs.Refusals.{refuse_if_zero, or_else_first, or_else_later}
use Rattle.words.specs.Word.{word}
use Rattle.layout.specs.Line.{version_of, first_word}
use Rattle.stores.specs.Store.{Store}
use Rattle.stores.specs.Play.{word_numbers, values}
use Rattle.message_log.specs.Area.{cells_in, area_fault, marked_line}
use Rattle.message_log.specs.Message.{highest}
use Rattle.message_log.specs.LogOutcome.{short_fault, log_end}
use Rattle.message_log.specs.Recover.{is_above, invalidation, invalidations, recovery_stores, log_recover_fault, log_recover_result}
use Rattle.message_log.specs.inner.Needs.{Filled, ListRoom, InvalidationsRoom}
use Rattle.message_log.proofs.Invalidations.{opens, passes}
use Rattle.message_log.proofs.Parts.{cells_by}
use Rattle.stores.proofs.Lists.{StoresFill, stores_begin, stores_on, stores_end, stores_room}
use Rattle.message_log.proofs.Fillings.{filled, hand_refused, hand_done}

-- ---- one cell

module _ (m : ℕ → ℕ) (top c mark stamp : ℕ) (a : mark ≡ m (8 * (7 * c))) (b : stamp ≡ m (8 * (7 * c) + 7)) where
  mark_is : mark ≡ marked_line m c 0
  mark_is = a ∙ ap m (let z : 8 * (7 * c) ≡ 8 * (7 * c) + 0 = omega arith in z)

  pub above_open : (mark ≡ stamp % 2 → ⊥) → false ≡ is_above m top c
  unfolding is_above
  above_open ne =
      sym
      (ap (λ (t : Bool). t && ltb top (version_of (marked_line m c 7)))
      (ne_eqb (marked_line m c 0) (marked_line m c 7 % 2)
      (λ (e : marked_line m c 0 ≡ marked_line m c 7 % 2). ne (mark_is ∙ e ∙ ap (λ (x : ℕ). x % 2) (sym b)))))

  pub above_whole : mark ≡ stamp % 2 → ltb top (stamp / 2) ≡ is_above m top c
  unfolding is_above
  above_whole e =
      ap (λ (x : ℕ). ltb top (x / 2)) b
      ∙ sym
      (ap (λ (t : Bool). t && ltb top (version_of (marked_line m c 7)))
      (eq-eqb (marked_line m c 0) (marked_line m c 7 % 2) (sym mark_is ∙ e ∙ ap (λ (x : ℕ). x % 2) b)))

-- ---- the store of one cell, and those of the rest

module _ (m : ℕ → ℕ) (top : ℕ) where
  single_open : (c : ℕ) → is_above m top c ≡ true → invalidations m top c 1 ≡ invalidation m c ∷ []
  unfolding invalidations
  single_open c e = opens m top c 0 e

  single_passed : (c : ℕ) → is_above m top c ≡ false → invalidations m top c 1 ≡ []
  unfolding invalidations
  single_passed c e = passes m top c 0 e

  one_first : (c n : ℕ) → invalidations m top c (suc n) ≡ invalidations m top c 1 ++ invalidations m top (suc c) n
  one_first c n = go (split (is_above m top c))
    where
      go : (is_above m top c ≡ true) ⊎ (is_above m top c ≡ false) → invalidations m top c (suc n) ≡ invalidations m top c 1 ++ invalidations m top (suc c) n
      go (inl e) = opens m top c n e ∙ sym (ap (λ (ss : List Store). ss ++ invalidations m top (suc c) n) (single_open c e))
      go (inr e) = passes m top c n e ∙ sym (ap (λ (ss : List Store). ss ++ invalidations m top (suc c) n) (single_passed c e))

  open_step : (c k : ℕ) → c < k → invalidations m top c (k - c) ≡ invalidations m top c 1 ++ invalidations m top (c + 1) (k - (c + 1))
  open_step c k h =
      ap (invalidations m top c) (let e : k - c ≡ suc (k - (c + 1)) = omega arith in e) ∙ one_first c (k - (c + 1))
      ∙ ap (λ (x : ℕ). invalidations m top c 1 ++ invalidations m top x (k - (c + 1))) (sym (add-one c))

  rest_length : (c k : ℕ) → c < k
      → length (invalidations m top c (k - c)) ≡ length (invalidations m top c 1) + length (invalidations m top (c + 1) (k - (c + 1)))
  rest_length c k h = ap length (open_step c k h) ∙ length-append (invalidations m top c 1) (invalidations m top (c + 1) (k - (c + 1)))

  none_open : (c k : ℕ) → k ≤ c → invalidations m top c (k - c) ≡ []
  unfolding invalidations
  none_open c k h = ap (invalidations m top c) (let e : k - c ≡ 0 = omega arith in e)

  -- ---- the count: that of the cells before c is done

  pub record Counting (k count c : ℕ) : Type 0 where
    pub done : c ≤ k
    pub few : count ≤ c
    pub left : count + length (invalidations m top c (k - c)) ≡ length (invalidations m top 0 k)

  pub count_start : (k : ℕ) → Counting k 0 0
  count_start k =
      record {
        done = omega arith;
        few = omega arith;
        left = omega (arith, ap (λ (n : ℕ). length (invalidations m top 0 n)) (let e : k - 0 ≡ k = omega arith in e));
      }

  count_more : (k count c extra : ℕ) → Counting k count c → c < k → extra ≤ 1 → length (invalidations m top c 1) ≡ extra → Counting k (count + extra) (c + 1)
  count_more k count c extra g h l e =
      record { done = omega arith; few = omega (arith, g.few); left = omega (arith, g.left, rest_length c k h) }

  pub count_above : (k count c r : ℕ) (t : Bool) → Counting k count c → c < k → t ≡ is_above m top c → t ≡ true → r ≡ count + 1 → Counting k r (c + 1)
  count_above k count c r t g h e q p =
      subst (λ (x : ℕ). Counting k x (c + 1)) (sym p) (count_more k count c 1 g h (omega arith) (ap length (single_open c (sym e ∙ q))))

  pub count_passed : (k count c r : ℕ) (t : Bool) → Counting k count c → c < k → t ≡ is_above m top c → t ≡ false → r ≡ count → Counting k r (c + 1)
  count_passed k count c r t g h e q p =
      subst (λ (x : ℕ). Counting k x (c + 1)) (let z : count + 0 ≡ r = omega arith in z)
      (count_more k count c 0 g h (omega arith) (ap length (single_passed c (sym e ∙ q))))

  pub count-end : (k count c : ℕ) → Counting k count c → k ≤ c → count ≡ length (invalidations m top 0 k)
  count-end k count c g h = omega (arith, g.left, ap length (none_open c k h))

  -- ---- the filling of one

  pub open_taken : (at value at' value' : List ℕ) (n c : ℕ) (t : Bool) (w v : ℕ) → t ≡ is_above m top c → t ≡ true → w ≡ 8 * (7 * c)
      → v ≡ first_word (m (8 * (7 * c) + 7))
      → at' ≡ set at n w → value' ≡ set value n v
      → Filled at value at' value' n (invalidations m top c 1) × (n + 1 ≡ n + length (invalidations m top c 1))
  unfolding word_numbers values
  open_taken at value at' value' n c t w v e q p o x y = (
    record {
      ats = x ∙ ap (set at n) p ∙ sym (ap (λ (ss : List Store). sets at n (word_numbers ss)) here);
      vals = y ∙ ap (set value n) o ∙ sym (ap (λ (ss : List Store). sets value n (values ss)) here);
    },
    ap (λ (k : ℕ). n + k) (sym (ap length here)),
  )
    where
      here : invalidations m top c 1 ≡ invalidation m c ∷ []
      here = single_open c (sym e ∙ q)

  pub open_skipped : (at value : List ℕ) (n c : ℕ) (t : Bool) → t ≡ is_above m top c → t ≡ false
      → Filled at value at value n (invalidations m top c 1) × (n ≡ n + length (invalidations m top c 1))
  unfolding word_numbers values
  open_skipped at value n c t e q = (
    record {
      ats = sym (ap (λ (ss : List Store). sets at n (word_numbers ss)) here);
      vals = sym (ap (λ (ss : List Store). sets value n (values ss)) here);
    },
    omega (arith, ap length here),
  )
    where
      here : invalidations m top c 1 ≡ []
      here = single_passed c (sym e ∙ q)

  pub open_room : (ats vals n c : ℕ) (t : Bool) → t ≡ is_above m top c → t ≡ true → ListRoom ats vals n (length (invalidations m top c 1))
      → (n < ats) × (n < vals)
  open_room ats vals n c t e q r =
      (omega (arith, r.at_room, ap length (single_open c (sym e ∙ q))), omega (arith, r.value_room, ap length (single_open c (sym e ∙ q))))

  -- ---- and of all: the cells before c are done

  module _ (k : ℕ) (at₀ value₀ : List ℕ) where
    pub record Invalidation (at value : List ℕ) (n c : ℕ) : Type 0 where
      pub done : c ≤ k
      pub left : StoresFill at₀ value₀ 0 (invalidations m top 0 k) at value n (invalidations m top c (k - c))

    pub invalidating_start : Invalidation at₀ value₀ 0 0
    invalidating_start =
        record { done = omega arith; left = stores_begin (omega arith) (ap (invalidations m top 0) (let e : k - 0 ≡ k = omega arith in e)) }

    pub invalidating_next : (at value at' value' : List ℕ) (n n' c : ℕ) → Invalidation at value n c → c < k
        → Filled at value at' value' n (invalidations m top c 1) × (n' ≡ n + length (invalidations m top c 1)) → Invalidation at' value' n' (c + 1)
    invalidating_next at value at' value' n n' c g h f =
        record { done = omega arith; left = stores_on g.left (invalidations m top c 1) (open_step c k h) f.0.ats f.0.vals f.1 }

    pub invalidating_end : (at value : List ℕ) (n c : ℕ) → Invalidation at value n c → k ≤ c → Filled at₀ value₀ at value 0 (invalidations m top 0 k)
    invalidating_end at value n c g h = filled (stores_end g.left (none_open c k h))

    pub invalidating_room : (at value : List ℕ) (n c : ℕ) → Invalidation at value n c → c < k
        → ListRoom (length at₀) (length value₀) 0 (length (invalidations m top 0 k))
        → ListRoom (length at) (length value) n (length (invalidations m top c 1))
    invalidating_room at value n c g h r =
        record {
          at_room = omega (arith, r.at_room, stores_room g.left, g.left.ats.size, rest_length c k h);
          value_room = omega (arith, r.value_room, stores_room g.left, g.left.vals.size, rest_length c k h);
        }

-- ---- the call

module _ (area at value : List ℕ) where
  pub recover_no_area : (fault : ℕ) → fault ≡ area_fault area → (fault ≡ 0 → ⊥) → log_end (refused fault) at value ≡ log_recover_result area at value
  unfolding log_recover_result log_recover_fault
  recover_no_area fault u ne = hand_refused _ _ _ at value fault (u ∙ sym (or_else_first (area_fault area) _ (λ z. ne (u ∙ z)))) ne

  module _ (fine : 0 ≡ area_fault area) (k : ℕ) (e : k ≡ cells_in area) where
    module _ (top count : ℕ) (f : top ≡ highest k (word area)) (g : count ≡ length (invalidations (word area) top 0 k)) where
      top_is : top ≡ highest (cells_in area) (word area)
      top_is = f ∙ ap (λ (j : ℕ). highest j (word area)) e

      stores_are : invalidations (word area) top 0 k ≡ recovery_stores (cells_in area) (word area)
      unfolding recovery_stores
      stores_are = ap₂ (λ (x y : ℕ). invalidations (word area) x 0 y) top_is e

      fault_is : (fault : ℕ) → fault ≡ short_fault count (length at) (length value) → fault ≡ log_recover_fault area (length at) (length value)
      unfolding log_recover_fault
      fault_is fault r =
          r ∙ ap (λ (n : ℕ). short_fault n (length at) (length value)) (g ∙ ap length stores_are) ∙ sym (or_else_later (area_fault area) _ (sym fine))

      pub recover_short : (fault : ℕ) → fault ≡ short_fault count (length at) (length value) → (fault ≡ 0 → ⊥)
          → log_end (refused fault) at value ≡ log_recover_result area at value
      unfolding log_recover_result
      recover_short fault r ne = hand_refused _ _ _ at value fault (fault_is fault r) ne

      module _ (r : 0 ≡ short_fault count (length at) (length value)) where
        pub recover_room : InvalidationsRoom area (length at) (length value) k top
        unfolding short_fault
        recover_room =
            let one = refuse_if_zero (ltb (length at) count) _ _ (sym r) (omega arith) in
            let two = refuse_if_zero (ltb (length value) count) _ _ one.1 (omega arith) in
            record {
              all = cells_by area k e fine;
              room = record {
                at_room = omega (arith, g, ltb-false (length at) count one.0);
                value_room = omega (arith, g, ltb-false (length value) count two.0);
              };
            }

        pub recover_done : (at' value' : List ℕ) → Filled at value at' value' 0 (invalidations (word area) top 0 k)
            → log_end (gives (top ∷ count ∷ [])) at' value' ≡ log_recover_result area at value
        unfolding log_recover_result
        recover_done at' value' h =
            hand_done _ _ (recovery_stores (cells_in area) (word area)) at value at' value' top count (sym (fault_is 0 r)) top_is (g ∙ ap length stores_are)
            (subst (Filled at value at' value' 0) stores_are h) (omega (arith, recover_room.room.at_room, ap length stores_are))
            (omega (arith, recover_room.room.value_room, ap length stores_are))
