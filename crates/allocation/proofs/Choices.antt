-- The choice of several slots: what has to be known of the highest version, its loop, and that with an index that is
-- the image's own it is the rule's. Assumes nothing.
use mathlib.Core.Path.{◌≡◌, refl, sym, ap, ap₂, ◌∙◌, subst}
use mathlib.Core.Bool.{Bool, true, false, cond, not, ◌&&◌, true≢false}
use mathlib.Core.Logic.{◌⊎◌, inl, inr}
use mathlib.Core.List.{List, [], ◌∷◌, ◌++◌}
use Prim.Native.Nat.{ℕ, zero, suc, ◌+◌, ◌-◌, ◌^◌, ◌≤◌, ◌<◌}
use native.Mathlib.Omega.{arith}
use lib.Dec.{eqb, ltb}
use lib.ListN.{length, get_or, set, replicate, length-set}
use lib.Seq.{get_or-set_same, get_or-set_other}
use borrow.Author.Tests.{lt-ltb, eqb-true, eqb-false, ltb-true, ltb-false}
use Rattle.words.specs.Word.{word}
use Rattle.prelude.specs.Range.{greatest}
use Rattle.prelude.specs.Filter.{any_in}
use Rattle.prelude.specs.Members.{In, Slot}
use Rattle.prelude.specs.Refusal.{or_else}
use Rattle.prelude.proofs.Choice.{pick_true, pick_false}
use Rattle.prelude.proofs.Choice.{positive}
use Rattle.prelude.proofs.Fills as fills
use Rattle.layout.specs.Content.{Content, highest_whole_in, Table, contents_of}
use Rattle.index.specs.Index.{Chain, reuse, index_of}
use Rattle.index.specs.Linked.{ChainsPartition}
use Rattle.index.specs.Allocation.{link_fault, few_fault, Taken, Allocation, taken, too_few, bad_link, with_taken, at_end, allocation_walk, allocate_from}
use Rattle.index.specs.inner.Basket.{takens_from}
use Rattle.index.specs.declared.State.{State}
use Rattle.index.proofs.Takens.{takens_set}
use Rattle.index.proofs.Allocations.{AgreeAlong, sits_alike}
use Rattle.table.specs.Table.{is_record, live}
use Rattle.table.specs.Takeable.{highest_valid, is_remove, older, may_take, may_take_after, takeable_if}
use Rattle.table.specs.Reuse.{OlderFirst}
use Rattle.table.proofs.defs.Reuse.{Spares}
use Rattle.table.proofs.Takeable.{older_below, older_idle}
use Rattle.table.proofs.ReuseOrder.{remove_is_record}
use Rattle.table.proofs.TakeableAfter.{after_same}
use Rattle.allocation.specs.Allocation.{allocation_by_rule, allocation_chosen, may_take_below}
use Rattle.allocation.specs.inner.Walk.{take_fault, end_fault}
use Rattle.allocation.specs.inner.Takeable.{slot_version}
use Rattle.allocation.specs.inner.Choice.{KnownTop, Decided, chosen_of, Meetable, with_slot, past_slot, MetBy, met_below, Met, Chosen}
use Rattle.allocation.specs.declared.Progress.{Progress}
use Rattle.allocation.specs.declared.Choice.{Choice}
use Rattle.allocation.proofs.Contents.{Holds, holds_none, holds_put, holds_remove, slot_holds, if_none}
use Rattle.allocation.proofs.Walks.{take_ended, take_above, take_over, take_turn, with_fault, end-fault}
use Rattle.allocation.proofs.Takes.{highest_is}

-- ---- when a version tells

module _ (image : List ℕ) (n top s : ℕ) where
  -- the highest
  pub told_exactly : top ≡ greatest (slot_version (word image)) n → Decided image n top s
  told_exactly e l o = ap (λ (t : ℕ). takeable_if t o (contents_of l image s)) (e ∙ highest_is l (word image) n)

  module _ (v : ℕ) (e : v ≡ slot_version (word image) s) where
    -- any, of a slot that is not valid
    pub told_invalid : v ≡ 0 → Decided image n top s
    told_invalid z l o =
        let h = slot_holds l (word image) s in
        sym (if_none (contents_of l image) s _ _ _ h top o (sym e ∙ z)) ∙ if_none (contents_of l image) s _ _ _ h _ o (sym e ∙ z)

    -- one that is none above the highest, of a slot below it
    pub told_below : v < top → top ≤ greatest (slot_version (word image)) n → Decided image n top s
    unfolding takeable_if is_record highest_whole_in
    told_below h b l o = go (slot_holds l (word image) s)
      where
        T : ℕ
        T = highest_valid (contents_of l image) n

        below : slot_version (word image) s < T
        below = omega (arith, e, highest_is l (word image) n)

        both : (c : Content) → highest_whole_in c ≡ slot_version (word image) s → takeable_if top o c ≡ takeable_if T o c
        both c q =
            ap (λ (x : Bool). cond (is_record c) (x && not (is_remove c && o)) true)
            (lt-ltb (highest_whole_in c) top (omega (arith, q, e)) ∙ sym (lt-ltb (highest_whole_in c) T (omega (arith, q, below))))

        go : {kind key : ℕ} → Holds kind key (slot_version (word image) s) (contents_of l image s)
            → takeable_if top o (contents_of l image s) ≡ takeable_if T o (contents_of l image s)
        go (holds_none q r) = pick_false (is_record (contents_of l image s)) _ _ r ∙ sym (pick_false (is_record (contents_of l image s)) _ _ r)
        go (holds_put value ne k c) = both (contents_of l image s) (ap highest_whole_in c)
        go (holds_remove ne k c) = both (contents_of l image s) (ap highest_whole_in c)

-- the highest version is known
pub known_exactly : (image : List ℕ) (n top : ℕ) → top ≡ greatest (slot_version (word image)) n → KnownTop (word image) n top true
known_exactly image n top e = record { bounded = omega (arith, e); exactly = λ q. e }

-- a walk for no more slots that is not refused
take_none : (may : List ℕ → ℕ → Bool) (next : List ℕ) (n left prev at : ℕ) (chosen : List ℕ) → take_fault (allocation_walk may next n left 0 prev at chosen) ≡ 0
    → allocation_walk may next n left 0 prev at chosen ≡ taken []
unfolding allocation_walk at_end take_fault link_fault few_fault or_else
take_none may next n zero prev at chosen e = go (eqb at 0) e
  where
    go : (a : Bool) → take_fault (cond a (at_end 0) bad_link) ≡ 0 → cond a (at_end 0) bad_link ≡ taken []
    go true q = refl
    go false q = absurd (omega arith)
take_none may next n (suc left) prev at chosen e = go (eqb at 0) (ltb n at) e
  where
    go : (a b : Bool) → take_fault (cond a (at_end 0) (cond b bad_link (taken []))) ≡ 0 → cond a (at_end 0) (cond b bad_link (taken [])) ≡ taken []
    go true b q = refl
    go false true q = absurd (omega arith)
    go false false q = refl

-- ---- slots chosen so far, before what the rest of the walk gives

abbrev with_all : List Taken → Allocation → Allocation
with_all [] t = t
with_all (x ∷ xs) t = with_taken x.slot x.prev (with_all xs t)

all_more : (xs : List Taken) (x : Taken) (t : Allocation) → with_all (xs ++ (x ∷ [])) t ≡ with_all xs (with_taken x.slot x.prev t)
all_more [] x t = refl
all_more (y ∷ xs) x t = ap (with_taken y.slot y.prev) (all_more xs x t)

all_taken : (xs : List Taken) → with_all xs (taken []) ≡ taken xs
unfolding with_taken
all_taken [] = refl
all_taken (y ∷ xs) = ap (with_taken y.slot y.prev) (all_taken xs)

all_fault : (xs : List Taken) (t : Allocation) → take_fault (with_all xs t) ≡ take_fault t
all_fault [] t = refl
all_fault (y ∷ xs) t = with_fault y.slot y.prev (with_all xs t) ∙ all_fault xs t

-- ---- the slots chosen, as they stand in an array

-- entries behind them do not matter
chosen_same : (slots : List ℕ) (k i x : ℕ) → k ≤ i → chosen_of (set slots i x) k ≡ chosen_of slots k
unfolding chosen_of
chosen_same slots zero i x h = refl
chosen_same slots (suc k) i x h =
    ap₂ (λ (y : ℕ) (ys : List ℕ). y ∷ ys) (get_or-set_other slots i k x 0 (λ e. omega arith)) (chosen_same slots k i x (omega arith))

-- one more
chosen_more : (slots : List ℕ) (k x : ℕ) → k < length slots → chosen_of (set slots k x) (k + 1) ≡ x ∷ chosen_of slots k
unfolding chosen_of
chosen_more slots k x h =
    let e : k + 1 ≡ suc k = omega arith in
    ap (chosen_of (set slots k x)) e
    ∙ ap₂ (λ (y : ℕ) (ys : List ℕ). y ∷ ys) (get_or-set_same slots k x 0 h) (chosen_same slots k k x (omega arith))

-- ---- the loop: what is left of the walk answers for the whole

pub record Choosing (may : List ℕ → ℕ → Bool) (next : List ℕ) (n first wanted : ℕ) (p : Progress) : Type 0 where
  pub place : p.at < 2 ^ 32
  pub within : p.got ≤ wanted
  pub slots_size : length p.slots ≡ 8
  pub prevs_size : length p.prevs ≡ 8
  pub chosen_in : (j : ℕ) → j < p.got → Slot n (get_or p.slots j 0)
  pub rest : with_all (takens_from p.slots p.prevs 0 p.got)
      (allocation_walk may next n p.left (wanted - p.got) p.prev p.at (chosen_of p.slots p.got)) ≡ allocate_from may next n first wanted
  pub zeros : (j : ℕ) → p.got ≤ j → get_or p.slots j 0 ≡ 0

-- no choice
refused_choice : (t c : Allocation) (wanted : ℕ) (r : Choice) (k : ℕ) → r.fault ≡ k → (k ≡ 0 → ⊥) → k ≡ take_fault t → Chosen t c wanted r
refused_choice t c wanted r k e ne f =
    record { fault_is = e ∙ f; slots_are = λ z. absurd (ne (sym e ∙ z)); zeros = λ z. absurd (ne (sym e ∙ z)) }

module _ (may : List ℕ → ℕ → Bool) (next : List ℕ) (n first wanted : ℕ) where
  abbrev whole : Allocation
  whole = allocate_from may next n first wanted

  pub choosing_starts : (top : ℕ) (exact : Bool) → first < 2 ^ 32
      → Choosing may next n first wanted
      (record {
        at = first;
        prev = 0;
        left = n;
        got = 0;
        top = top;
        exact = exact;
        slots = replicate 8 0;
        prevs = replicate 8 0;
      })
  unfolding allocate_from takens_from chosen_of
  choosing_starts top exact h =
      let d : wanted - 0 ≡ wanted = omega arith in
      record {
        place = h;
        within = omega arith;
        slots_size = refl;
        prevs_size = refl;
        chosen_in = λ j q. absurd (omega arith);
        rest = ap (λ (k : ℕ). allocation_walk may next n n k 0 first []) d;
        zeros = λ j q. fills.zeros 8 j;
      }

  module _ (p : Progress) (w : Choosing may next n first wanted p) where
    abbrev taken_so_far : List Taken
    taken_so_far = takens_from p.slots p.prevs 0 p.got

    abbrev chosen : List ℕ
    chosen = chosen_of p.slots p.got

    -- the whole choice is not refused, so neither is what is left of it
    module _ (fine : take_fault whole ≡ 0) where
      left_fine : take_fault (allocation_walk may next n p.left (wanted - p.got) p.prev p.at chosen) ≡ 0
      left_fine = sym (all_fault taken_so_far _) ∙ ap take_fault w.rest ∙ fine

      refuses : (t : Allocation) → allocation_walk may next n p.left (wanted - p.got) p.prev p.at chosen ≡ t → take_fault t ≡ 0
      refuses t e = ap take_fault (sym e) ∙ left_fine

      -- a slot can be met
      pub meetable : wanted ≤ 8 → p.got < wanted → Meetable n p
      unfolding take_fault link_fault few_fault or_else
      meetable few more =
          record {
            low = positive p.at on_chain;
            high = high (ltb n p.at) refl;
            some = positive p.left (λ z. omega
                (arith, refuses bad_link (take_over may next n p.left (wanted - p.got) p.prev p.at chosen z on_chain)));
            few = omega arith;
            chosen_in = w.chosen_in;
          }
        where
          on_chain : p.at ≡ 0 → ⊥
          on_chain z = omega (arith, refuses too_few (take_ended may next n p.left (wanted - p.got) p.prev p.at chosen z (omega arith)))

          high : (b : Bool) → ltb n p.at ≡ b → p.at ≤ n
          high true q =
              absurd (omega (arith, refuses bad_link (take_above may next n p.left (wanted - p.got) p.prev p.at chosen (ltb-true n p.at q))))
          high false q = ltb-false n p.at q

      -- as many as are wanted
      pub choice_ends : (t : Allocation) → take_fault t ≡ 0 → wanted ≤ p.got
          → Chosen t whole wanted (record { fault = 0; slots = p.slots; prevs = p.prevs })
      choice_ends t z h =
          let d : wanted - p.got ≡ 0 = omega (arith, w.within) in
          let g : p.got ≡ wanted = omega (arith, w.within) in
          let last = ap (λ (x : ℕ). allocation_walk may next n p.left x p.prev p.at chosen) d in
          record {
            fault_is = sym z;
            slots_are =
                λ q.
                sym w.rest
                ∙ ap (with_all taken_so_far) (last ∙ take_none may next n p.left p.prev p.at chosen (ap take_fault (sym last) ∙ left_fine))
                ∙ all_taken taken_so_far
                ∙ ap (λ (x : ℕ). taken (takens_from p.slots p.prevs 0 x)) g;
            zeros = λ q j i. w.zeros j (omega (arith, g));
          }

    -- or the choice finds its refusal by itself
    left_says : (t : Allocation) → allocation_walk may next n p.left (wanted - p.got) p.prev p.at chosen ≡ t → take_fault t ≡ take_fault whole
    left_says t e = sym (all_fault taken_so_far t) ∙ ap (λ (x : Allocation). take_fault (with_all taken_so_far x)) (sym e) ∙ ap take_fault w.rest

    module _ (more : p.got < wanted) (r : Choice) where
      pub choice_at_end : p.at ≡ 0 → r.fault ≡ 28 → Chosen whole whole wanted r
      unfolding take_fault link_fault few_fault or_else
      choice_at_end z e =
          refused_choice whole whole wanted r 28 e (λ q. omega arith)
          (left_says too_few (take_ended may next n p.left (wanted - p.got) p.prev p.at chosen z (omega arith)))

      pub choice_above : n < p.at → r.fault ≡ 11 → Chosen whole whole wanted r
      unfolding take_fault link_fault few_fault or_else
      choice_above h e =
          refused_choice whole whole wanted r 11 e (λ q. omega arith)
          (left_says bad_link (take_above may next n p.left (wanted - p.got) p.prev p.at chosen h))

      pub choice_over : (p.at ≡ 0 → ⊥) → p.left ≡ 0 → r.fault ≡ 11 → Chosen whole whole wanted r
      unfolding take_fault link_fault few_fault or_else
      choice_over ne z e =
          refused_choice whole whole wanted r 11 e (λ q. omega arith)
          (left_says bad_link (take_over may next n p.left (wanted - p.got) p.prev p.at chosen z ne))

    pub meetable_here : wanted ≤ 8 → p.got < wanted → (p.at ≡ 0 → ⊥) → p.at ≤ n → (p.left ≡ 0 → ⊥) → Meetable n p
    meetable_here few more low high some =
        record { low = positive p.at low; high = high; some = positive p.left some; few = omega arith; chosen_in = w.chosen_in }

    module _ (h : wanted ≤ p.got) (k : ℕ) (e : k ≡ end_fault n p.left p.at) where
      got_all : wanted - p.got ≡ 0
      got_all = omega (arith, w.within)

      last : allocation_walk may next n p.left (wanted - p.got) p.prev p.at chosen ≡ allocation_walk may next n p.left 0 p.prev p.at chosen
      last = ap (λ (x : ℕ). allocation_walk may next n p.left x p.prev p.at chosen) got_all

      told : k ≡ take_fault whole
      told = e ∙ sym (end-fault may next n p.left p.prev p.at chosen) ∙ left_says _ last

      pub choice_end_refused : (r : Choice) → r.fault ≡ k → (k ≡ 0 → ⊥) → Chosen whole whole wanted r
      choice_end_refused r q ne = refused_choice whole whole wanted r k q ne told

      pub choice_done : k ≡ 0 → Chosen whole whole wanted (record { fault = 0; slots = p.slots; prevs = p.prevs })
      choice_done z = choice_ends (sym told ∙ z) whole (sym told ∙ z) h

    -- one slot was met
    module _ (few : wanted ≤ 8) (more : p.got < wanted) (m : Meetable n p) (fits : get_or next p.at 0 < 2 ^ 32) where
      turn : allocation_walk may next n p.left (wanted - p.got) p.prev p.at chosen
          ≡ cond (may chosen p.at) (with_taken p.at p.prev
          (allocation_walk may next n (p.left - 1) (wanted - p.got - 1) p.prev (get_or next p.at 0) (p.at ∷ chosen)))
          (allocation_walk may next n (p.left - 1) (wanted - p.got) p.at (get_or next p.at 0) chosen)
      turn = take_turn may next n p.left (wanted - p.got) p.prev p.at chosen m.some m.low m.high (omega arith)

      took : may chosen p.at ≡ true → (top : ℕ) (exact : Bool) → Choosing may next n first wanted (with_slot next p top exact)
      unfolding with_slot
      took b top exact =
          let d : wanted - p.got - 1 ≡ wanted - (p.got + 1) = omega arith in
          record {
            place = fits;
            within = omega arith;
            slots_size = length-set p.slots p.got p.at ∙ w.slots_size;
            prevs_size = length-set p.prevs p.got p.prev ∙ w.prevs_size;
            chosen_in = λ j q. slot_at j q (eqb j p.got) refl;
            rest =
                ap₂ with_all
                (takens_set p.slots p.prevs p.got p.at p.prev (omega (arith, w.slots_size)) (omega (arith, w.prevs_size)))
                (ap₂ (λ (x : ℕ) (c : List ℕ). allocation_walk may next n (p.left - 1) x p.prev (get_or next p.at 0) c) (sym d)
                (chosen_more p.slots p.got p.at (omega (arith, w.slots_size))))
                ∙ all_more taken_so_far (record { slot = p.at; prev = p.prev }) _
                ∙ ap (with_all taken_so_far) (sym (turn ∙ pick_true (may chosen p.at) _ _ b))
                ∙ w.rest;
            zeros = λ j q. get_or-set_other p.slots p.got j p.at 0 (λ e. omega arith) ∙ w.zeros j (omega arith);
          }
        where
          slot_at : (j : ℕ) → j < p.got + 1 → (b : Bool) → eqb j p.got ≡ b → Slot n (get_or (set p.slots p.got p.at) j 0)
          slot_at j q true e =
              subst (Slot n)
              (sym (ap (λ (i : ℕ). get_or (set p.slots p.got p.at) i 0) (eqb-true j p.got e)
              ∙ get_or-set_same p.slots p.got p.at 0 (omega (arith, w.slots_size))))
              (omega (arith, m.low), m.high)
          slot_at j q false e =
              let ne = eqb-false j p.got e in
              subst (Slot n) (sym (get_or-set_other p.slots p.got j p.at 0 (λ z. ne z))) (w.chosen_in j (omega (arith, ne)))

      passed : may chosen p.at ≡ false → (top : ℕ) (exact : Bool) → Choosing may next n first wanted (past_slot next p top exact)
      unfolding past_slot
      passed b top exact =
          record {
            place = fits;
            within = w.within;
            slots_size = w.slots_size;
            prevs_size = w.prevs_size;
            chosen_in = w.chosen_in;
            rest = ap (with_all taken_so_far) (sym (turn ∙ pick_false (may chosen p.at) _ _ b)) ∙ w.rest;
            zeros = w.zeros;
          }

      pub choosing_on : (r : Progress) → MetBy may next p r → Choosing may next n first wanted r
      choosing_on r t = subst (Choosing may next n first wanted) (sym t) (go (may chosen p.at) refl)
        where
          go : (b : Bool) → may chosen p.at ≡ b
              → Choosing may next n first wanted (cond b (with_slot next p r.top r.exact) (past_slot next p r.top r.exact))
          go true e = took e r.top r.exact
          go false e = passed e r.top r.exact

-- ---- one slot is met

-- b tells whether it may be taken by the version that p has
module _ (l : ℕ) (image next : List ℕ) (p : Progress) (b : Bool) (e : b ≡ may_take_below l image p.top (chosen_of p.slots p.got) p.at) where
  pub below_taken : b ≡ true → with_slot next p p.top p.exact ≡ met_below l image next p
  unfolding met_below
  below_taken q = sym (pick_true _ _ _ (sym e ∙ q))

  pub below_passed : b ≡ false → past_slot next p p.top p.exact ≡ met_below l image next p
  unfolding met_below
  below_passed q = sym (pick_false _ _ _ (sym e ∙ q))

-- what is known stays
module _ (l : ℕ) (image next : List ℕ) (p r : Progress) (e : r ≡ met_below l image next p) where
  same_known : (r.top ≡ p.top) × (r.exact ≡ p.exact)
  unfolding met_below with_slot past_slot
  same_known = (
    ap (λ (x : Progress). x.top) e ∙ tops (may_take_below l image p.top (chosen_of p.slots p.got) p.at),
    ap (λ (x : Progress). x.exact) e
        ∙ exacts (may_take_below l image p.top (chosen_of p.slots p.got) p.at),
  )
    where
      tops : (b : Bool) → (cond b (with_slot next p p.top p.exact) (past_slot next p p.top p.exact)).top ≡ p.top
      tops true = refl
      tops false = refl

      exacts : (b : Bool) → (cond b (with_slot next p p.top p.exact) (past_slot next p p.top p.exact)).exact ≡ p.exact
      exacts true = refl
      exacts false = refl

  pub below_met : MetBy (may_take_below l image p.top) next p r
  unfolding met_below
  below_met =
      e ∙ ap₂ (λ (top : ℕ) (exact : Bool). cond (may_take_below l image p.top (chosen_of p.slots p.got) p.at) (with_slot next p top exact)
      (past_slot next p top exact))
      (sym same_known.0) (sym same_known.1)

  pub below_top : r.top ≡ p.top
  below_top = same_known.0

-- p, of which this is known
abbrev knowing : Progress → (top : ℕ) → (exact : Bool) → Progress
knowing p top exact =
    record {
      at = p.at;
      prev = p.prev;
      left = p.left;
      got = p.got;
      top = top;
      exact = exact;
      slots = p.slots;
      prevs = p.prevs;
    }

-- the version tells as the highest does
module _ (l : ℕ) (image next : List ℕ) (n : ℕ) (p : Progress) (top : ℕ) (exact : Bool) (known : KnownTop (word image) n top exact)
    (told : Decided image n top p.at) where
  pub known_met : (r : Progress) → r ≡ met_below l image next (knowing p top exact) → Met l image next n p r
  unfolding may_take_after may_take_below with_slot past_slot
  known_met r e =
      record {
        known = rw (below_top l image next (knowing p top exact) r e, (same_known l image next (knowing p top exact) r e).1) known;
        is =
            below_met l image next (knowing p top exact) r e
            ∙ ap (λ (b : Bool). cond b (with_slot next p r.top r.exact) (past_slot next p r.top r.exact))
            (told l (any_in (older (contents_of l image) p.at) (chosen_of p.slots p.got)));
      }

pub met_left : (may : List ℕ → ℕ → Bool) (next : List ℕ) (p r : Progress) → MetBy may next p r → r.left ≡ p.left - 1
unfolding with_slot past_slot
met_left may next p r m = ap (λ (x : Progress). x.left) m ∙ go (may (chosen_of p.slots p.got) p.at)
  where
    go : (b : Bool) → (cond b (with_slot next p r.top r.exact) (past_slot next p r.top r.exact)).left ≡ p.left - 1
    go true = refl
    go false = refl

-- ---- the loop of a choice by one version

abbrev pub ChoosingBelow : (l : ℕ) → (image next : List ℕ) → (n first wanted top : ℕ) → Progress → Type 0
ChoosingBelow l image next n first wanted top p = Choosing (may_take_below l image top) next n first wanted p × (p.top ≡ top)

pub below_left : (l : ℕ) (image next : List ℕ) (p r : Progress) → r ≡ met_below l image next p → r.left ≡ p.left - 1
below_left l image next p r e = met_left (may_take_below l image p.top) next p r (below_met l image next p r e)

pub below_on : (l : ℕ) (image next : List ℕ) (n first wanted top : ℕ) (p : Progress) → ChoosingBelow l image next n first wanted top p → wanted ≤ 8
    → p.got < wanted → Meetable n p → get_or next p.at 0 < 2 ^ 32 → (r : Progress) → r ≡ met_below l image next p
    → ChoosingBelow l image next n first wanted top r
below_on l image next n first wanted top p w few more m fits r e = (
  choosing_on (may_take_below l image top) next n first wanted p w.0 few more m fits r
      (subst (λ (v : ℕ). MetBy (may_take_below l image v) next p r) w.1 (below_met l image next p r e)),
  below_top l image next p r e ∙ w.1,
)

-- ---- the slots of an index that is the image's own

module _ (f : Table) (n : ℕ) where
  -- each slot that may be taken is chosen or still in the list
  along : (xs chosen : List ℕ) → ((t : ℕ) → In t chosen → Slot n t) → ((t : ℕ) → In t xs → Slot n t)
      → ((t : ℕ) → Slot n t → live f n t ≡ false → may_take f n t ≡ true → In t chosen ⊎ In t xs) → OlderFirst f xs
      → AgreeAlong (may_take_after f n) (λ c. may_take f n) chosen xs
  along [] chosen in-chosen in_List either o = tt
  along (x ∷ xs) chosen in-chosen in_List either o = (
    after_same f n chosen x in-chosen (in_List x (inl refl)) covers,
    go (may_take f n x) refl
        (λ c a b. along xs c a (λ t i. in_List t (inr i)) b o.1),
  )
    where
      covers : (t : ℕ) → Slot n t → older f x t ≡ true → may_take f n t ≡ true → is_remove (f x) ≡ true → In t chosen
      covers t i q m r = pick (either t i (older_idle f n x t (in_List x (inl refl)) (remove_is_record (f x) r) q) m)
        where
          pick : In t chosen ⊎ In t (x ∷ xs) → In t chosen
          pick (inl j) = j
          pick (inr (inl e)) = absurd (omega (arith, older_below f x t q, ap (λ (y : ℕ). highest_whole_in (f y)) e))
          pick (inr (inr j)) = absurd (o.0 t j r q)

      go : (b : Bool) → may_take f n x ≡ b
          → ((c : List ℕ) → ((t : ℕ) → In t c → Slot n t) → ((t : ℕ) → Slot n t → live f n t ≡ false → may_take f n t ≡ true → In t c ⊎ In t xs)
          → AgreeAlong (may_take_after f n) (λ c. may_take f n) c xs)
          → AgreeAlong (may_take_after f n) (λ c. may_take f n) (cond b (x ∷ chosen) chosen) xs
      go true e ih = ih (x ∷ chosen) within (λ t i d m. move (either t i d m))
        where
          within : (t : ℕ) → In t (x ∷ chosen) → Slot n t
          within t (inl q) = rw q (in_List x (inl refl))
          within t (inr j) = in-chosen t j

          move : {t : ℕ} → In t chosen ⊎ In t (x ∷ xs) → In t (x ∷ chosen) ⊎ In t xs
          move (inl j) = inl (inr j)
          move (inr (inl q)) = inl (inl q)
          move (inr (inr j)) = inr j
      go false e ih = ih chosen in-chosen (λ t i d m. move t m (either t i d m))
        where
          move : (t : ℕ) → may_take f n t ≡ true → In t chosen ⊎ In t (x ∷ xs) → In t chosen ⊎ In t xs
          move t m (inl j) = inl j
          move t m (inr (inl q)) = absurd (true≢false (sym m ∙ ap (may_take f n) q ∙ e))
          move t m (inr (inr j)) = inr j

-- THE SLOTS that a basket takes are those of the rule
pub choice_own : (l : ℕ) (image heads next : List ℕ) (s : State) (n b : ℕ) (place : ℕ → Chain) (chains : Chain → List ℕ) (wanted : ℕ)
    → ChainsPartition n b place (index_of heads next s) chains → Spares (contents_of l image) n (chains reuse) → OlderFirst (contents_of l image) (chains reuse)
    → allocation_chosen l image next n s.first wanted ≡ allocation_by_rule l image next n s.first wanted
unfolding allocation_chosen allocation_by_rule
choice_own l image heads next s n b place chains wanted g sp o =
    sits_alike n b place (index_of heads next s) chains g (may_take_after (contents_of l image) n) (λ c. may_take (contents_of l image) n) wanted
    (along (contents_of l image) n (chains reuse) [] (λ t i. absurd i) sp.slot (λ t i d m. inr (sp.all t i d)) o)
