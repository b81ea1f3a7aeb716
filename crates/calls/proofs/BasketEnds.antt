-- What a basket leaves, refused or written. Assumes nothing.
use mathlib.Core.Path.{◌≡◌, refl, sym, ap, ap₂, ◌∙◌, subst}
use mathlib.Core.Bool.{Bool}
use mathlib.Core.List.{List, [], ◌∷◌, ◌++◌}
use Prim.Native.Nat.{ℕ, zero, suc, ◌+◌, ◌-◌, ◌^◌, ◌≤◌, ◌<◌}
use native.Mathlib.Omega.{arith}
use lib.ListN.{length, get_or, take, drop, replicate, length-drop, length-replicate, get_or-replicate, take-append-drop}
use lib.Seq.{length-take-le, drop-cons, get_or-take, get_or-drop, ext_get_or}
use Rattle.words.specs.Word.{word}
use Rattle.prelude.specs.Answer.{Answer, gives, refused}
use Rattle.prelude.specs.Members.{All}
use Rattle.prelude.proofs.Refusals.{taken_leaves, refused_keeps}
use Rattle.layout.specs.Record.{Layout}
use Rattle.layout.specs.Size.{slots_in}
use Rattle.stores.specs.Store.{Store}
use Rattle.stores.specs.Play.{word_numbers, values}
use Rattle.stores.specs.Basket.{BasketRecord, basket_stores}
use Rattle.table.specs.Complete.{size_field_for}
use Rattle.index.specs.Index.{Index, index_of, with_counts}
use Rattle.index.specs.Walk.{search}
use Rattle.index.specs.Allocation.{Taken, Allocation}
use Rattle.index.specs.Basket.{taken_slots, basket_index, Item}
use Rattle.index.specs.inner.Basket.{takens_from, TakensInside}
use Rattle.index.specs.declared.State.{State}
use Rattle.index.specs.declared.Found.{Found}
use Rattle.index.specs.declared.Found.TheVariants.{At, Missing, BadChain}
use Rattle.allocation.proofs.Own.{chosen_inside}
use Rattle.index.proofs.BasketInside.{TakenInside}
use Rattle.index.proofs.Takens.{takens_each}
use Rattle.index.proofs.Walks.{at_inside}
use Rattle.allocation.specs.Allocation.{allocation_chosen_by}
use Rattle.calls.specs.Result.{unchanged}
use Rattle.calls.specs.BasketItems.{KeyChange, changes_of}
use Rattle.calls.specs.BasketRefusals.{sum_over, inserts_by, removes_by, basket_fault_by}
use Rattle.calls.specs.BasketBuffers.{BasketBuffers, basket_says, basket_end, eight_slots, at_front, buffers_after_lists}
use Rattle.calls.specs.Basket.{records_for, old_in, index_after, basket_made, basket_done, basket_unless, basket_result_by}
use Rattle.calls.specs.inner.Basket.{item_key_at, items_from, records_from, TotalsOf, BasketReady, StoresInside, ItemsInside}
use Rattle.calls.specs.declared.BasketItem.{BasketItem}
use Rattle.calls.specs.declared.BasketOutcome.TheVariants.{Stored, Refused}
use Rattle.calls.specs.declared.Totals.{Totals}
use Rattle.calls.specs.declared.Plan.{Plan}
use Rattle.calls.proofs.BasketChecks.{so_many}
use Rattle.calls.proofs.BasketLinks.{items-found}
use Rattle.calls.proofs.BasketStores.{records_asked}

-- ---- the slots, as eight numbers

takens_slots : (slots prevs : List ℕ) (i n : ℕ) → i + n ≤ length slots → taken_slots (takens_from slots prevs i n) ≡ take n (drop i slots)
unfolding takens_from taken_slots
takens_slots slots prevs i zero h = refl
takens_slots slots prevs i (suc n) h =
    ap (λ (t : List ℕ). get_or slots i 0 ∷ t) (takens_slots slots prevs (suc i) n (omega arith))
    ∙ sym (ap (take (suc n)) (drop-cons slots i 0 (omega arith)))

padded : (slots : List ℕ) (count : ℕ) → length slots ≡ 8 → count ≤ 8 → ((j : ℕ) → count ≤ j → get_or slots j 0 ≡ 0)
    → slots ≡ take count slots ++ replicate (8 - length (take count slots)) 0
padded slots count e h zeros =
    sym (take-append-drop count slots)
    ∙ ap (λ (t : List ℕ). take count slots ++ t)
    (ext_get_or 0 (drop count slots) (replicate (8 - length (take count slots)) 0) (sizes ∙ sym (length-replicate (8 - length (take count slots)) 0))
    (λ i q.
    get_or-drop count slots i 0 ∙ zeros (count + i) (omega arith)
    ∙ sym (get_or-replicate (8 - length (take count slots)) i 0 0 (omega (arith, q, sizes)))))
  where
    sizes : length (drop count slots) ≡ 8 - length (take count slots)
    sizes = omega (arith, length-drop count slots, length-take-le count slots (omega (arith, e)))

-- ---- refused

pub basket_refused : (own : Bool) (l : ℕ) (image heads next : List ℕ) (s : State) (changes : List KeyChange) (at words : List ℕ) (count k : ℕ)
    → k ≡ basket_fault_by own l image (index_of heads next s) changes (length at) (length words) → (k ≡ 0 → ⊥)
    → basket_end count (record { outcome = Refused k; slots = replicate 8 0; state = s }) at words heads next
    ≡ buffers_after_lists at words (basket_result_by own l image (index_of heads next s) changes (length at) (length words))
unfolding basket_result_by basket_unless basket_says buffers_after_lists unchanged eight_slots at_front word_numbers values
basket_refused own l image heads next s changes at words count k e ne =
    ap (λ (x : ℕ). buffers_after_lists at words (unchanged (refused x) (index_of heads next s) 0)) e
    ∙ sym (ap (buffers_after_lists at words)
    (refused_keeps (basket_done l image (index_of heads next s) changes
    (allocation_chosen_by own l image next (slots_in image) s.first s.newest (length changes)))
    (unchanged (refused (basket_fault_by own l image (index_of heads next s) changes (length at) (length words))) (index_of heads next s) 0)
    (basket_fault_by own l image (index_of heads next s) changes (length at) (length words)) (λ z. ne (e ∙ z))))

-- not refused
pub basket_taken : (own : Bool) (l : ℕ) (image heads next : List ℕ) (s : State) (count : ℕ) (items : List BasketItem) (bytes at words : List ℕ) (k : ℕ)
    → k ≡ basket_fault_by own l image (index_of heads next s) (changes_of l count items bytes) (length at) (length words) → k ≡ 0 → (r : BasketBuffers)
    → r ≡ buffers_after_lists at words
    (basket_done l image (index_of heads next s) (changes_of l count items bytes)
    (allocation_chosen_by own l image next (slots_in image) s.first s.newest count))
    → r ≡ buffers_after_lists at words (basket_result_by own l image (index_of heads next s) (changes_of l count items bytes) (length at) (length words))
unfolding basket_result_by basket_unless
basket_taken own l image heads next s count items bytes at words k e z r h =
    h
    ∙ ap (λ (m : ℕ). buffers_after_lists at words
    (basket_done l image (index_of heads next s) (changes_of l count items bytes) (allocation_chosen_by own l image next (slots_in image) s.first s.newest m)))
    (sym (so_many l items bytes count))
    ∙ sym (ap (buffers_after_lists at words) (taken_leaves _ _ _ (sym e ∙ z)))

-- ---- written

-- m is the slots of the image
pub ready_at : (own : Bool) (l : ℕ) (image heads next : List ℕ) (s : State) (count : ℕ) (items : List BasketItem) (at words : ℕ) (p : Plan) (m : ℕ)
    → m ≡ slots_in image
    → BasketReady own l image heads next (slots_in image) s count items at words p → BasketReady own l image heads next m s count items at words p
ready_at own l image heads next s count items at words p m e w = subst (λ (x : ℕ). BasketReady own l image heads next x s count items at words p) (sym e) w

-- what a plan without a refusal has
pub ready_plan : (own : Bool) (l : ℕ) (image heads next : List ℕ) (n : ℕ) (s : State) (count : ℕ) (items : List BasketItem) (at words : ℕ) (p : Plan)
    → p.fault ≡ 0
    → BasketReady own l image heads next n s count items at words p
    → BasketReady own l image heads next n s count items at words (record { fault = 0; olds = p.olds; slots = p.slots; prevs = p.prevs })
ready_plan own l image heads next n s count items at words p z w =
    subst (λ (x : ℕ). BasketReady own l image heads next n s count items at words (record { fault = x; olds = p.olds; slots = p.slots; prevs = p.prevs })) z
    w

module _ (own : Bool) (l : ℕ) (image heads next : List ℕ) (n : ℕ) (s : State) (count : ℕ) (items : List BasketItem) (at words : ℕ) (p : Plan)
    (w : BasketReady own l image heads next n s count items at words p) where
  abbrev ts : List Taken
  ts = takens_from p.slots p.prevs 0 count

  -- the slots lie inside the index
  all_inside : All (TakenInside n) ts
  all_inside = (chosen_inside l image next n s.first s.newest count own ts w.choice_is).0

  each : (j : ℕ) → j < count → TakenInside n (record { slot = get_or p.slots j 0; prev = get_or p.prevs j 0 })
  each j h = takens_each (TakenInside n) p.slots p.prevs 0 count all_inside j (omega arith) (omega arith)

  old_high : (key : ℕ) → old_in (search l image heads next key) ≤ n
  unfolding old_in
  old_high key = go (search l image heads next key) refl
    where
      go : (d : Found) → search l image heads next key ≡ d → old_in d ≤ n
      go (At slot prev compared) q = (at_inside l image heads next n key w.sized.slot_count slot prev compared q).1
      go (Missing prev compared) q = omega arith
      go BadChain q = omega arith

  pub takens_inside : TakensInside p.slots p.prevs count (length next)
  takens_inside =
      record {
        few = w.few;
        slot_in = λ j h. omega (arith, (each j h).slot_high, w.sized.next_size);
        prev_in = λ j h. omega (arith, (each j h).prev_high, w.sized.next_size);
      }

  pub items_inside : ItemsInside n (length heads) (length next) s.last count p.olds p.slots
  items_inside =
      record {
        some_head = w.sized.some_head;
        size = w.sized.next_size;
        last_in = w.last_in;
        few = w.few;
        old-in = λ j h. omega (arith, w.olds_are j h, old_high (item_key_at l items j));
        slot_in = λ j h. (each j h).slot_high;
      }

  pub stores_inside : Layout l → StoresInside l image s.version count items p.slots at words
  stores_inside lay =
      record {
        layout = lay;
        some = w.some;
        few = w.few;
        version_fits = w.version_fits;
        size_fits = w.size_fits;
        slot_fits = λ j h. omega (arith, (each j h).slot_high, w.sized.few);
        slot_in = λ j h. omega (arith, (each j h).slot_high, w.sized.image-size);
        at_room = w.at_room;
        words_room = w.words_room;
      }

  -- the live count fits
  module _ (t : Totals) (totals : TotalsOf l count items t) where
    pub fits_live : s.live + t.inserts < 2 ^ 32
    fits_live = omega (arith, w.live_room [], totals.inserts_are [], totals.removes_are [], totals.removes_few, w.few, w.sized.few)

    pub fits_removes : t.removes ≤ s.live + t.inserts
    fits_removes = omega (arith, w.live_left [], totals.removes_are [])

  -- what the functions leave is what is asked
  module _ (bytes at₀ words₀ at₁ words₁ heads₁ next₁ : List ℕ) (r : State) (t : Totals) (size : length p.slots ≡ 8) (en : n ≡ slots_in image)
      (parts : index_of heads₁ next₁ r ≡ basket_index n (index_of heads next s) ts (items_from l (length heads) items p.olds p.slots 0 count))
      (numbers : at₁ ≡ at_front (word_numbers (basket_stores l (word image) (size_field_for count) s.version (records_from l items bytes p.slots 0 count))) at₀)
      (contents : words₁ ≡ at_front (values (basket_stores l (word image) (size_field_for count) s.version (records_from l items bytes p.slots 0 count)))
      words₀)
      (totals : TotalsOf l count items t) where
    abbrev changes : List KeyChange
    changes = changes_of l count items bytes

    index : index_of heads₁ next₁ r ≡ index_after l image (index_of heads next s) changes ts
    unfolding index_after changes_of
    index =
        parts
        ∙ ap₂ (λ (m : ℕ) (ks : List Item). basket_index m (index_of heads next s) ts ks) en
        (items-found (search l image heads next) l (length heads) items bytes p.olds p.slots p.prevs 0 count (λ j a b. w.olds_are j (omega arith)))

    written : basket_stores l (word image) (size_field_for count) s.version (records_from l items bytes p.slots 0 count)
        ≡ basket_stores l (word image) (size_field_for (length changes)) s.version (records_for changes ts)
    unfolding changes_of
    written =
        ap₂ (λ (m : ℕ) (rs : List BasketRecord). basket_stores l (word image) (size_field_for m) s.version rs) (sym (so_many l items bytes count))
        (records_asked l items bytes p.slots p.prevs 0 count)

    slots_are : take count p.slots ≡ taken_slots ts
    slots_are = sym (takens_slots p.slots p.prevs 0 count (omega (arith, size, w.few)))

    first_slot : get_or p.slots 0 0 ≡ get_or (taken_slots ts) 0 0
    first_slot = sym (get_or-take count p.slots 0 0 w.some) ∙ ap (λ (x : List ℕ). get_or x 0 0) slots_are

    eight : p.slots ≡ taken_slots ts ++ replicate (8 - length (taken_slots ts)) 0
    eight = padded p.slots count size w.few w.zeros ∙ ap (λ (x : List ℕ). x ++ replicate (8 - length x) 0) slots_are

    live : s.live + t.inserts - t.removes ≡ s.live + sum_over inserts_by changes - sum_over removes_by changes
    live = ap₂ (λ (a b : ℕ). s.live + a - b) (totals.inserts_are bytes) (totals.removes_are bytes)

    left-by : {a b : Answer} {x y e f g h : List ℕ} {c d : Index} → a ≡ b → x ≡ y → e ≡ f → g ≡ h → c ≡ d
        → ◌≡◌ {A = BasketBuffers} (record { answer = a; slots = x; at = e; words = g; index = c })
        (record { answer = b; slots = y; at = f; words = h; index = d })
    left-by p₁ p₂ p₃ p₄ p₅ = cc

    counts_by : {i j : Index} {e f g h v : ℕ} → i ≡ j → e ≡ f → g ≡ h → with_counts i e v g ≡ with_counts j f v h
    counts_by p₁ p₂ p₃ = cc

    pub basket_written : basket_end count
        (record {
          outcome = Stored s.version;
          slots = p.slots;
          state = record {
            first = r.first;
            last = r.last;
            live = s.live + t.inserts - t.removes;
            version = s.version + 1;
            newest = get_or p.slots 0 0;
          };
        }) at₁ words₁ heads₁ next₁
        ≡ buffers_after_lists at₀ words₀
        (basket_done l image (index_of heads next s) changes (allocation_chosen_by own l image next (slots_in image) s.first s.newest count))
    unfolding basket_says buffers_after_lists basket_done basket_made eight_slots
    basket_written =
        left-by (ap (λ (x : List ℕ). gives (s.version ∷ x)) slots_are) eight
        (numbers ∙ ap (λ (x : List Store). at_front (word_numbers x) at₀) written)
        (contents ∙ ap (λ (x : List Store). at_front (values x) words₀) written)
        (counts_by index live first_slot)
        ∙ sym
        (ap (λ (x : Allocation). buffers_after_lists at₀ words₀ (basket_done l image (index_of heads next s) changes x))
        (ap (λ (m : ℕ). allocation_chosen_by own l image next m s.first s.newest count) (sym en) ∙ w.choice_is))
