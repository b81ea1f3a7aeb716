-- What a basket reads before it writes: the refusals in order, and what the writes need. Assumes nothing.
use mathlib.Core.Path.{◌≡◌, refl, sym, ap, ap₂, ◌∙◌, subst}
use mathlib.Core.Bool.{Bool, not}
use mathlib.Core.List.{List, []}
use Prim.Native.Nat.{ℕ, ◌*◌, ◌≤◌, ◌<◌}
use native.Mathlib.Omega.{arith}
use lib.Dec.{eqb}
use lib.ListN.{length}
use borrow.Author.Tests.{ne_eqb, ltb-false}
use Rattle.prelude.specs.Refusal.{or_else}
use Rattle.prelude.proofs.Refusals.{refuse_if_zero, or_else_zero}
use Rattle.layout.specs.Size.{slots_in}
use Rattle.layout.specs.Header.{lent_fault}
use Rattle.layout.specs.inner.Sized.{Sized}
use Rattle.layout.proofs.Lents.{version_fine, lent_sized, lent_slots}
use Rattle.index.specs.Walk.{search}
use Rattle.index.specs.Change.{is_found}
use Rattle.index.specs.Allocation.{Allocation}
use Rattle.index.specs.declared.State.{State}
use Rattle.index.specs.declared.Found.{Found}
use Rattle.index.specs.declared.Found.TheVariants.{At, Missing, BadChain}
use Rattle.index.proofs.Walks.{at_inside}
use Rattle.index.proofs.Faults.{reuse_ends, reuse_live, room_fine}
use Rattle.allocation.specs.Allocation.{allocation_by, allocation_chosen_by}
use Rattle.allocation.specs.inner.Choice.{Chosen}
use Rattle.allocation.specs.declared.Choice.{Choice}
use Rattle.calls.specs.Change.{store_fault}
use Rattle.calls.specs.Basket.{old_in}
use Rattle.calls.specs.BasketItems.{KeyChange, changes_of}
use Rattle.calls.specs.BasketRefusals.{key_count_fault, lists_fault, given_fault, first_fault, value_fault, action_fault, basket_lent_fault, keys_fault}
use Rattle.calls.specs.BasketRefusals.{sum_over}
use Rattle.calls.specs.BasketRefusals.{inserts_by, removes_by, basket_fault_by}
use Rattle.calls.specs.inner.Basket.{item_key_at, OldsOf, ActionsFault, TotalsOf, StoreChoice, KeysPlanned, BasketReady, Planned}
use Rattle.calls.specs.declared.BasketItem.{BasketItem}
use Rattle.calls.specs.declared.Olds.{Olds}
use Rattle.calls.specs.declared.Totals.{Totals}
use Rattle.calls.specs.declared.Plan.{Plan}
use Rattle.calls.proofs.Lookups.{said, passed}
use Rattle.calls.proofs.BasketChecks.{so_many, sizes_fit, count_few}
use Rattle.index.specs.Index.{index_of}

-- ---- choose_slots

module _ (taking choice : Allocation) (n : ℕ) (s : State) (wanted inserts removes : ℕ) where
  pub no_choice : (c : Choice) (k : ℕ) → c.fault ≡ k → (k ≡ 0 → ⊥) → k ≡ store_fault taking n s inserts removes
      → StoreChoice taking choice n s wanted inserts removes c
  no_choice c k e ne f =
      record {
        fault_is = e ∙ f;
        slots_are = λ z. absurd (ne (sym e ∙ z));
        zeros = λ z. absurd (ne (sym e ∙ z));
      }

  pub a_choice : (c : Choice) → Chosen taking choice wanted c → c.fault ≡ 0 → (v : ℕ) → v ≡ 0 → v ≡ store_fault taking n s inserts removes
      → StoreChoice taking choice n s wanted inserts removes c
  a_choice c h z v y f = record { fault_is = z ∙ sym y ∙ f; slots_are = h.slots_are; zeros = h.zeros }

-- ---- plan_keys

-- a key is held where its old record stands in a slot
found_held : (l : ℕ) (image heads next : List ℕ) (n key : ℕ) → slots_in image ≡ n
    → is_found (search l image heads next key) ≡ not (eqb (old_in (search l image heads next key)) 0)
unfolding is_found old_in
found_held l image heads next n key e = go (search l image heads next key) refl
  where
    go : (d : Found) → search l image heads next key ≡ d → is_found d ≡ not (eqb (old_in d) 0)
    go (At slot prev compared) q =
        sym (ap not (ne_eqb slot 0 (λ z. omega (arith, (at_inside l image heads next n key e slot prev compared q).0, z))))
    go (Missing prev compared) q = refl
    go BadChain q = refl

module _ (own : Bool) (l : ℕ) (image heads next : List ℕ) (n : ℕ) (s : State) (count : ℕ) (items : List BasketItem) where
  abbrev asked : List ℕ → List KeyChange
  asked values = changes_of l count items values

  abbrev stores : List ℕ → ℕ
  stores values =
      store_fault (allocation_by own l image next n s.first s.newest count) n s (sum_over inserts_by (asked values)) (sum_over removes_by (asked values))

  keys_refused : (p : Plan) (k : ℕ) → p.fault ≡ k → (k ≡ 0 → ⊥)
      → ((values : List ℕ) → k ≡ or_else (keys_fault (search l image heads next) (asked values)) (stores values))
      → KeysPlanned own l image heads next n s count items p
  keys_refused p k e ne f =
      record {
        fault_is = λ values. e ∙ f values;
        olds_are = λ z. absurd (ne (sym e ∙ z));
        choice_is = λ z. absurd (ne (sym e ∙ z));
        zeros = λ z. absurd (ne (sym e ∙ z));
      }

  module _ (o : Olds) (w : OldsOf (search l image heads next) l count items o) where
    pub keys_chain : (p : Plan) → p.fault ≡ o.fault → (o.fault ≡ 0 → ⊥) → KeysPlanned own l image heads next n s count items p
    unfolding keys_fault
    keys_chain p e ne =
        keys_refused p o.fault e ne
        (λ values. let a = said _ (w.fault_is values) ne in said (stores values) a ne)

    module _ (z : o.fault ≡ 0) (sized : Sized image heads next n) (h : ℕ) (a : ActionsFault items count o.slots h) where
      acts : (values : List ℕ) → h ≡ first_fault (λ c. action_fault c.action (is_found (search l image heads next c.key))) (asked values)
      acts values =
          a l (search l image heads next)
          (λ j q.
          found_held l image heads next n (item_key_at l items j) sized.slot_count
          ∙ ap (λ (x : ℕ). not (eqb x 0)) (sym (w.slot_is z j q)))
          values

      held : (values : List ℕ) → h ≡ keys_fault (search l image heads next) (asked values)
      unfolding keys_fault
      held values = passed (w.fault_is values) z (acts values)

      pub keys_held : (p : Plan) → p.fault ≡ h → (h ≡ 0 → ⊥) → KeysPlanned own l image heads next n s count items p
      keys_held p e ne = keys_refused p h e ne (λ values. said (stores values) (held values) ne)

      pub keys_planned : h ≡ 0 → (t : Totals) → TotalsOf l count items t → (c : Choice)
          → StoreChoice (allocation_by own l image next n s.first s.newest count) (allocation_chosen_by own l image next n s.first s.newest count) n s
          count t.inserts t.removes c
          → KeysPlanned own l image heads next n s count items (record { fault = c.fault; olds = o.slots; slots = c.slots; prevs = c.prevs })
      keys_planned y t g c k =
          record {
            fault_is = λ values.
                passed (held values) y
                (k.fault_is
                ∙ ap₂ (λ (a b : ℕ). store_fault (allocation_by own l image next n s.first s.newest count) n s a b) (g.inserts_are values)
                (g.removes_are values));
            olds_are = λ q j x. w.slot_is z j x;
            choice_is = k.slots_are;
            zeros = k.zeros;
          }

-- ---- what is given is in order

module _ (l : ℕ) (items : List BasketItem) (count at words g : ℕ) (eg : (values : List ℕ) → g ≡ given_fault (changes_of l count items values) at words)
    (zg : g ≡ 0) where
  counted : (0 < count) × (count ≤ 8)
  unfolding given_fault
  counted =
      let a = or_else_zero _ _ (sym (eg []) ∙ zg) in count_few count (key_count_fault count) refl (ap key_count_fault (sym (so_many l items [] count)) ∙ a.0)

  pub given_some : 0 < count
  given_some = counted.0

  pub given_few : count ≤ 8
  given_few = counted.1

  roomy : (16 * count ≤ at) × (16 * count ≤ words)
  unfolding given_fault lists_fault
  roomy =
      let a = or_else_zero _ _ (sym (eg []) ∙ zg) in
      let b = refuse_if_zero _ _ _ a.1 (omega arith) in
      let c = refuse_if_zero _ _ _ b.1 (omega arith) in
      let d = refuse_if_zero _ _ _ c.1 (omega arith) in (
        omega (arith, ltb-false at (16 * length (changes_of l count items [])) c.0, so_many l items [] count),
        omega (arith, ltb-false words (16 * length (changes_of l count items [])) d.0, so_many l items [] count),
      )

-- ---- plan

module _ (own : Bool) (l : ℕ) (image heads next : List ℕ) (s : State) (count : ℕ) (items : List BasketItem) (at words : ℕ) where
  abbrev n : ℕ
  n = slots_in image

  abbrev wanted : List ℕ → List KeyChange
  wanted values = changes_of l count items values

  abbrev later : List ℕ → ℕ
  later values =
      or_else (keys_fault (search l image heads next) (wanted values))
      (store_fault (allocation_by own l image next n s.first s.newest count) n s (sum_over inserts_by (wanted values)) (sum_over removes_by (wanted values)))

  row : (values : List ℕ) → or_else (given_fault (wanted values) at words)
      (or_else (basket_lent_fault l image (length heads) (length next) (wanted values)) (later values))
      ≡ basket_fault_by own l image (index_of heads next s) (wanted values) at words
  unfolding basket_fault_by
  row values =
      ap (λ (m : ℕ).
      or_else (given_fault (wanted values) at words)
      (or_else (basket_lent_fault l image (length heads) (length next) (wanted values))
      (or_else (keys_fault (search l image heads next) (wanted values))
      (store_fault (allocation_by own l image next n s.first s.newest m) n s (sum_over inserts_by (wanted values)) (sum_over removes_by (wanted values))))))
      (sym (so_many l items values count))

  plan_refused : (p : Plan) (k : ℕ) → p.fault ≡ k → (k ≡ 0 → ⊥)
      → ((values : List ℕ) → k ≡ basket_fault_by own l image (index_of heads next s) (wanted values) at words)
      → Planned own l image heads next n s count items at words p
  plan_refused p k e ne f = record { fault_is = λ values. e ∙ f values; ready = λ z. absurd (ne (sym e ∙ z)) }

  module _ (g : ℕ) (eg : (values : List ℕ) → g ≡ given_fault (wanted values) at words) where
    pub plan_given : (p : Plan) → p.fault ≡ g → (g ≡ 0 → ⊥) → Planned own l image heads next n s count items at words p
    plan_given p e ne = plan_refused p g e ne (λ values. said _ (eg values) ne ∙ row values)

    module _ (zg : g ≡ 0) where
      module _ (f : ℕ) (ef : (values : List ℕ) → f ≡ basket_lent_fault l image (length heads) (length next) (wanted values)) where
        pub plan_lent : (p : Plan) → p.fault ≡ f → (f ≡ 0 → ⊥) → Planned own l image heads next n s count items at words p
        plan_lent p e ne = plan_refused p f e ne (λ values. passed (eg values) zg (said _ (ef values) ne) ∙ row values)

        module _ (zf : f ≡ 0) where
          lent_fine : (lent_fault l image (length heads) (length next) ≡ 0)
              × (first_fault (λ c. value_fault l c.action (length c.value)) (wanted []) ≡ 0)
          unfolding basket_lent_fault
          lent_fine = or_else_zero _ _ (sym (ef []) ∙ zf)

          pub plan_sized : (m : ℕ) → m ≡ n → Sized image heads next m
          plan_sized m e = lent_sized l 0 image heads next (sym lent_fine.0) refl m e

          pub plan_slots : (m : ℕ) → m ≡ n → 2 ≤ m
          plan_slots m e = lent_slots l 0 image heads next (sym lent_fine.0) refl m e

          module _ (p : Plan) (w : KeysPlanned own l image heads next n s count items p) where
            prepared : p.fault ≡ 0 → BasketReady own l image heads next n s count items at words p
            unfolding store_fault
            prepared z =
                let store : (values : List ℕ) → store_fault (allocation_by own l image next n s.first s.newest count) n s
                (sum_over inserts_by (wanted values)) (sum_over removes_by (wanted values)) ≡ 0 =
                λ values. (or_else_zero _ _ (sym (w.fault_is values) ∙ z)).1 in
                record {
                  sized = plan_sized n refl;
                  some = (counted l items count at words g eg zg).0;
                  few = (counted l items count at words g eg zg).1;
                  at_room = (roomy l items count at words g eg zg).0;
                  words_room = (roomy l items count at words g eg zg).1;
                  size_fits = sizes_fit l items count [] lent_fine.1;
                  olds_are = w.olds_are z;
                  choice_is = w.choice_is z;
                  zeros = w.zeros z;
                  last_in = (reuse_ends _ _ _ _ _ _ (or_else_zero _ _ (store [])).0).last_high;
                  version_fits = version_fine s.version (or_else_zero _ _ (or_else_zero _ _ (store [])).1).1;
                  live_room = λ values. room_fine _ _ _ _ _ (or_else_zero _ _ (or_else_zero _ _ (store values)).1).0;
                  live_left = λ values. reuse_live _ _ _ _ _ _ (or_else_zero _ _ (store values)).0;
                }

            planned : Planned own l image heads next n s count items at words p
            planned =
                record {
                  fault_is = λ values. passed (eg values) zg (passed (ef values) zf (w.fault_is values)) ∙ row values;
                  ready = prepared;
                }

          pub plan_keys : (m : ℕ) → m ≡ n → (p : Plan) → KeysPlanned own l image heads next m s count items p
              → Planned own l image heads next n s count items at words p
          plan_keys m e p w = planned p (subst (λ (x : ℕ). KeysPlanned own l image heads next x s count items p) e w)
