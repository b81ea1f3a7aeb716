-- The order that a seek finds: by the words of its bytes, and less of it is filled than was ordered. Assumes nothing.
use mathlib.Core.Path.{◌≡◌, refl, sym, ap, ap₂, ◌∙◌, subst}
use mathlib.Core.Bool.{Bool, true, false, cond, ◌&&◌}
use mathlib.Core.List.{List, [], ◌∷◌}
use Prim.Native.Nat.{ℕ, zero, suc, ◌-◌, ◌*◌, ◌≤◌, ◌<◌}
use native.Mathlib.Omega.{arith}
use lib.Dec.{eqb, ltb}
use lib.ListN.{length, take, replicate, length-take, length-replicate}
use borrow.Author.Tests.{ltb-true, lt-ltb, le-ltb, eq-eqb, ne_eqb}
use Rattle.words.specs.Word.{word}
use Rattle.words.proofs.Laws.{word-take}
use Rattle.prelude.proofs.Choice.{pick_true, pick_false, both, both_right}
use Rattle.prelude.specs.Answer.{Answer, gives, absent, refused}
use Rattle.interface.specs.Set.{Layout, get_result, limit, ReadOnlyResult}
use Rattle.book.specs.Orders.{is_state, is_order, order_of}
use Rattle.book.specs.Steps.{Sought, order, none_there, sought_in, sought_by, seek}
use Rattle.book.specs.inner.Courses.{sought_with}
use Rattle.book.specs.declared.Order.{Order}

-- ---- the order in the first n bytes of an output of more than 24 bytes

module _ (out : List ℕ) (n : ℕ) (long : 24 < length out) where
  pub no_order : (n ≡ 24 → ⊥) → none_there 18 ≡ sought_in out (gives (n ∷ []))
  unfolding sought_in is_order
  no_order ne =
      sym (ap (λ (b : Bool). cond (b && is_state (word (take n out) 0) && ltb (word (take n out) 2) (word (take n out) 1)) (order (order_of (take n out)))
      (none_there 18))
      (ne_eqb (length (take n out)) 24 (λ e. ne (omega (arith, length-take n out)))))

  pub order_words : n ≡ 24 → (state ordered filled : ℕ) → state ≡ word out 0 → ordered ≡ word out 1 → filled ≡ word out 2
      → sought_with state ordered filled ≡ sought_in out (gives (n ∷ []))
  unfolding sought_in sought_with is_order order_of
  order_words e state ordered filled p q r =
      ap (λ (x : ℕ). sought true x ordered filled) (p ∙ sym (word-take out n 0 (omega arith)))
      ∙ ap (λ (x : ℕ). sought true (word (take n out) 0) x filled) (q ∙ sym (word-take out n 1 (omega arith)))
      ∙ ap₂ (λ (b : Bool) (x : ℕ). sought b (word (take n out) 0) (word (take n out) 1) x)
      (sym (eq-eqb (length (take n out)) 24 (omega (arith, length-take n out)))) (r ∙ sym (word-take out n 2 (omega arith)))
    where
      sought : Bool → (state ordered filled : ℕ) → Sought
      sought b state ordered filled =
          cond (b && is_state state && ltb filled ordered) (order (record { state = state; ordered = ordered; filled = filled })) (none_there 18)

-- ---- the order with three words; b is the test of the state as the code has it

module _ (state ordered filled : ℕ) (b : Bool) (e : b ≡ is_state state) where
  pub no-state : b ≡ false → none_there 18 ≡ sought_with state ordered filled
  unfolding sought_with
  no-state q = sym (pick_false (is_state state && ltb filled ordered) _ _ (ap (λ (t : Bool). t && ltb filled ordered) (sym e ∙ q)))

  pub all_filled : b ≡ true → ordered ≤ filled → none_there 18 ≡ sought_with state ordered filled
  unfolding sought_with
  all_filled q h =
      sym (pick_false (is_state state && ltb filled ordered) _ _ (ap₂ (λ (t u : Bool). t && u) (sym e ∙ q) (le-ltb filled ordered h)))

  pub is-order : b ≡ true → filled < ordered
      → order (record { state = state; ordered = ordered; filled = filled }) ≡ sought_with state ordered filled
  unfolding sought_with
  is-order q h = sym (pick_true (is_state state && ltb filled ordered) _ _ (both _ _ (sym e ∙ q) (lt-ltb filled ordered h)))

-- ---- the order found is one

not_there : (o : Order) (number : ℕ) → order o ≡ none_there number → ⊥
not_there o number e = let z : ◌≡◌ {A = ℕ} 0 1 = cc in omega arith

found_sound : (bytes : List ℕ) (o : Order) (b : Bool) → b ≡ is_order bytes → order o ≡ cond b (order (order_of bytes)) (none_there 18)
    → o.filled < o.ordered
unfolding is_order order_of
found_sound bytes o true e q =
    let same : o ≡ order_of bytes = cc in
    subst (λ (x : Order). x.filled < x.ordered) (sym same) (ltb-true (word bytes 2) (word bytes 1)
    (both_right (eqb (length bytes) 24 && is_state (word bytes 0)) _ (sym e)))
found_sound bytes o false e q = absurd (not_there o 18 q)

sought_sound : (r : ReadOnlyResult) (o : Order) → order o ≡ sought_by r → o.filled < o.ordered
unfolding sought_by sought_in
sought_sound r o e = go r.answer e
  where
    go : (answer : Answer) → order o ≡ sought_in r.out answer → o.filled < o.ordered
    go (gives []) e = absurd (not_there o _ e)
    go (gives (size ∷ values)) e = found_sound (take size r.out) o (is_order (take size r.out)) refl e
    go absent e = absurd (not_there o _ e)
    go (refused number) e = absurd (not_there o _ e)

-- ---- the output of a seek

zeros_front : (n m : ℕ) → n ≤ m → take n (replicate {A = ℕ} m 0) ≡ replicate n 0
zeros_front zero m h = refl
zeros_front (suc n) zero h = absurd (omega arith)
zeros_front (suc n) (suc m) h = ap (λ (zs : List ℕ). 0 ∷ zs) (zeros_front n m (omega arith))

-- the front of 80 zeros that has room for any value
pub room_zeros : (l : ℕ) → Layout l → take (88 - 8 * l) (replicate {A = ℕ} 80 0) ≡ replicate (limit l) 0
room_zeros l lay = zeros_front (88 - 8 * l) 80 (omega (arith, lay.low))

-- what a get leaves of it is as long
pub room_left : (l : ℕ) → Layout l → (out : List ℕ) → out ≡ replicate (limit l) 0 → (size : ℕ) → size ≡ length out → 24 < size
room_left l lay out e size h = omega (arith, lay.high, h, ap length e, length-replicate {A = ℕ} (limit l) 0)

module _ (l : ℕ) (image heads next : List ℕ) (key : ℕ) where
  pub seek_sound : (o : Order) → order o ≡ seek l image heads next key → o.filled < o.ordered
  unfolding seek
  seek_sound o e = sought_sound (get_result l image heads next key (replicate (limit l) 0)) o e

  -- what a get answers and the output that it leaves
  seek_by : (r : ReadOnlyResult) → r ≡ get_result l image heads next key (replicate (limit l) 0) → (answer : Answer) → r.answer ≡ answer
      → sought_in r.out answer ≡ seek l image heads next key
  unfolding seek sought_by
  seek_by r e answer q = ap (sought_in r.out) (sym q) ∙ ap sought_by e

  -- the same of a get with such an output
  pub seek_given : (out : List ℕ) → out ≡ replicate (limit l) 0 → (r : ReadOnlyResult) → r ≡ get_result l image heads next key out → (answer : Answer)
      → r.answer ≡ answer → sought_in r.out answer ≡ seek l image heads next key
  seek_given out e r q answer p = seek_by r (q ∙ ap (get_result l image heads next key) e) answer p
