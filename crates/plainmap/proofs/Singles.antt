-- A SINGLE CALL IS A BASKET OF ONE, where the image is accepted and the index is its own: insert, replace and a remove of a held key take the slot, and leave
-- the stores, the index and the answer, of the basket of their key; and so every call is the plain map's step and answers as it does. Assumes nothing.
use mathlib.Core.Path.{◌≡◌, refl, sym, ap, ap₂, ◌∙◌, subst}
use mathlib.Core.Bool.{Bool, true, false, cond, true≢false}
use mathlib.Core.Option.{Option, some, none}
use mathlib.Core.Logic.{by_cases}
use mathlib.Core.List.{List, [], ◌∷◌}
use Prim.Native.Nat.{ℕ, ◌<◌}
use native.Mathlib.Decide.{ℕ_discrete}
use native.Mathlib.Omega.{arith}
use lib.Dec.{eqb, ltb}
use lib.ListN.{length}
use borrow.Author.Tests.{eqb-true}
use Rattle.prelude.specs.Filter.{filter}
use Rattle.prelude.specs.Answer.{Answer, gives, absent, refused, refusal_in}
use Rattle.prelude.specs.Members.{All, one_more, none_left}
use Rattle.prelude.specs.Refusal.{refuse_if, or_else, unless_refused}
use Rattle.prelude.proofs.Refusals.{or_else_none, taken_leaves, refused_keeps}
use Rattle.prelude.proofs.defs.Answer.{is_refusal}
use Rattle.layout.specs.Size.{slots_in}
use Rattle.layout.specs.Record.{Layout, limit}
use Rattle.layout.specs.Content.{Table, contents_of, size_fields_of}
use Rattle.table.specs.Table.{is_held, next_version}
use Rattle.table.specs.Complete.{table_of, NoneVoid}
use Rattle.table.specs.Takeable.{may_take, taken_of}
use Rattle.table.proofs.Alike.{alike_highest_last}
use Rattle.table.proofs.ReuseOrder.{single_first_of_list}
use Rattle.index.specs.Index.{Index, Chain, reuse, head, head_of}
use Rattle.index.specs.Walk.{search}
use Rattle.index.specs.Change.{take_first, inserts_of, key_fault, is_found}
use Rattle.index.specs.Allocation.{Taken, Allocation, taken}
use Rattle.index.specs.Basket.{take_slot, taken_slots}
use Rattle.index.specs.declared.Action.{Action}
use Rattle.index.specs.declared.Action.TheVariants.{Write, Remove}
use Rattle.index.specs.declared.Mode.{Mode}
use Rattle.index.specs.declared.Mode.TheVariants.{Insert, Replace}
use Rattle.index.specs.declared.Found.{Found}
use Rattle.index.specs.declared.Found.TheVariants.{At, Missing}
use Rattle.index.proofs.defs.TakenIn.{takes_in}
use Rattle.index.proofs.Allocations.{takes_slots}
use Rattle.index.proofs.LinkItems.{before_end, before_slot}
use Rattle.index.proofs.Sits.{sits_first}
use Rattle.index.proofs.TakeAll.{take-first}
use Rattle.allocation.specs.Allocation.{allocation_by_rule}
use Rattle.calls.specs.Change.{one_taken, slot_by_rule, write_compared, write_fault, write_done, write_unless, write_result_by, write_by_rule, remove_fault}
use Rattle.calls.specs.Change.{remove_done, remove_unless, remove_result, remove_result_by, remove_by_rule, remove_fault_by, remove_later_fault}
use Rattle.calls.specs.Compared.{key_compared}
use Rattle.calls.specs.Result.{CallResult, unchanged}
use Rattle.calls.specs.BasketItems.{KeyChange}
use Rattle.calls.specs.BasketRefusals.{key_count_fault, among, any_twice, lists_fault, given_fault, first_fault, value_fault, action_fault, inserts_by}
use Rattle.calls.specs.BasketRefusals.{removes_by}
use Rattle.calls.specs.BasketRefusals.{sum_over, basket_fault}
use Rattle.calls.specs.Basket.{basket_made, index_after}
use Rattle.calls.proofs.Singles.{one_change, slot_first, as_single, write_fault_one, remove_fault_one, made, insert_one, replace_one, remove_one}
use Rattle.plainmap.specs.World.{World, Call, write, remove, get, locate, out_of, call_result, call_result_by_rule, reads_only}
use Rattle.plainmap.specs.Plain.{PlainMap, Update, Room, updates, updated, plain_next, plain_step, room_rule, rule_fault, plain_answer, plain_out}
use Rattle.plainmap.specs.Accepted.{Accepted}
use Rattle.plainmap.specs.Consistency.{Starts, starts, IndexConsistent}
use Rattle.plainmap.specs.Claims.{Typed, write_typed, remove_typed, slots_map, room_of, expected_refusal, expected_answer}
use Rattle.plainmap.specs.Claims.{CallCorrect, Unchanged}
use Rattle.plainmap.specs.Baskets.{Basket, basket_call_result, basket_rule, expected_basket_refusal, slots_taken, basket_updates, key_update}
use Rattle.plainmap.proofs.Wrote.{some_sound, Stepped, stored_none, stored_records}
use Rattle.plainmap.proofs.Sees.{Sees, sees_held, sees_absent, sound_sees}
use Rattle.plainmap.proofs.Refuses.{long_first, sound_lent}
use Rattle.plainmap.proofs.Rights.{gives-absent}
use Rattle.plainmap.proofs.Compares.{few_compared, counts_place}
use Rattle.plainmap.proofs.GetAnswers.{get_right}
use Rattle.plainmap.proofs.LocateAnswers.{locate_right}
use Rattle.plainmap.proofs.SoundAfter.{same_slots, spares, older}
use Rattle.plainmap.proofs.BasketKeys.{insert_free, replace-held}
use Rattle.plainmap.proofs.BasketRuns.{basket_passed, enough, taking_is}
use Rattle.plainmap.proofs.BasketRights.{basket-fault, made_is, refused_is, basket_stepped, basket_right}

-- the basket of one key, with a list of sixteen stores
abbrev pub one_key : Action → (key : ℕ) → (value : List ℕ) → Basket
one_key action key value = record { changes = one_change action key value; at = 16; words = 16 }

-- ---- the rules for a call of one key are those for its basket

write_rule : (l : ℕ) (r : Room) (m : PlainMap) (mode : Mode) (key : ℕ) (value : List ℕ)
    → basket_rule l r m (one_key (Write mode) key value) ≡ rule_fault l r m (write mode key value)
unfolding basket_rule rule_fault given_fault key_count_fault any_twice among lists_fault first_fault value_fault action_fault sum_over inserts_by removes_by
    inserts_of
    or_else refuse_if
write_rule l r m Insert key value =
    simp or_else_none (long_first (ltb (limit l) (length value)) (or_else (key_fault Insert (is_held (m key))) (room_rule r 1 1 0)))
write_rule l r m Replace key value =
    simp or_else_none (long_first (ltb (limit l) (length value)) (or_else (key_fault Replace (is_held (m key))) (room_rule r 1 0 0)))

pub remove_rule : (l : ℕ) (r : Room) (m : PlainMap) (key : ℕ) → is_held (m key) ≡ true
    → basket_rule l r m (one_key Remove key []) ≡ rule_fault l r m (remove key)
unfolding basket_rule rule_fault given_fault key_count_fault any_twice among lists_fault first_fault value_fault action_fault sum_over inserts_by removes_by
    or_else refuse_if
remove_rule l r m key e = simp e refl

-- ---- the answer of a single call is a refusal where that of its basket is

first_refusal : (answer : Answer) → refusal_in (slot_first answer) ≡ refusal_in answer
unfolding slot_first refusal_in
first_refusal (gives []) = refl
first_refusal (gives (version ∷ slots)) = refl
first_refusal absent = refl
first_refusal (refused number) = refl

first_refuses : (answer : Answer) → is_refusal (slot_first answer) ≡ is_refusal answer
unfolding slot_first is_refusal
first_refuses (gives []) = refl
first_refuses (gives (version ∷ slots)) = refl
first_refuses absent = refl
first_refuses (refused number) = refl

-- a single call makes the step of its basket
single_stepped : (l : ℕ) (w : World) (us : List Update) (count : ℕ) (r r' : CallResult) → r ≡ as_single count r' → Stepped l w us r' → Stepped l w us r
unfolding as_single
single_stepped l w us count r r' e t = subst (Stepped l w us) (sym e) (go t)
  where
    refuses : (k : ℕ) → plain_step us (is_refusal r'.answer) (slots_map l w.image) k
        ≡ plain_step us (is_refusal (slot_first r'.answer)) (slots_map l w.image) k
    refuses k = ap (λ (x : Bool). plain_step us x (slots_map l w.image) k) (sym (first_refuses r'.answer))

    go : Stepped l w us r' → Stepped l w us (as_single count r')
    go (stored_none e s h) = stored_none e s (λ k. h k ∙ refuses k)
    go (stored_records es i alive newest e q wr h) = stored_records es i alive newest e q wr (λ k. h k ∙ refuses k)

-- a call that reads leaves the map
reads-only : (m : PlainMap) (x : Bool) (k : ℕ) → m k ≡ plain_step [] x m k
unfolding plain_step plain_next
reads-only m true k = refl
reads-only m false k = refl

-- a key that is not held is not dropped
not_dropped : (m : PlainMap) (key k : ℕ) → m key ≡ none → m k ≡ cond (eqb k key) none (m k)
not_dropped m key k e = go (eqb k key) refl
  where
    go : (x : Bool) → eqb k key ≡ x → m k ≡ cond x none (m k)
    go true q = ap m (eqb-true k key q) ∙ e
    go false q = refl

module _ (l : ℕ) (lay : Layout l) (w : World) (chains : Chain → List ℕ) (accepted : Accepted l w.image) (g : IndexConsistent l w chains)
    (none_void : NoneVoid (contents_of l w.image) (size_fields_of l w.image) (slots_in w.image)) where
  abbrev f : Table
  f = contents_of l w.image

  abbrev n : ℕ
  n = slots_in w.image

  abbrev i : Index
  i = w.index

  abbrev s : ℕ
  s = w.index.state.first

  abbrev first : Taken
  first = record { slot = s; prev = 0 }

  -- ---- the first slot of reuse

  reuse_is : (rest : List ℕ) × (chains reuse ≡ s ∷ rest)
  reuse_is = go g.some_spare
    where
      go : Starts (chains reuse) → (rest : List ℕ) × (chains reuse ≡ s ∷ rest)
      go (starts t rest e) = (rest, e ∙ ap (λ (x : ℕ). x ∷ rest) (sym (sits_first _ _ _ _ _ g.index t rest e).0))

  -- it is taken where any slot may be
  module _ (some : 0 < length (filter (may_take f n) (chains reuse))) where
    first_takes : takes_in (may_take f n) 0 1 (chains reuse) ≡ first ∷ []
    unfolding takes_in
    first_takes =
        let last = alike_highest_last (table_of l w.image) f n (λ t j. sym (same_slots l w chains g none_void t j)) (chains reuse)
        (spares l w chains g none_void).slot g.highest in
        let may : may_take f n s ≡ true =
        single_first_of_list f n s reuse_is.0 (rw reuse_is.1 at (spares l w chains g none_void)) (rw reuse_is.1 at (older l w chains g none_void))
        (rw reuse_is.1 at last) (rw reuse_is.1 at some) in
        rw (reuse_is.1, may) refl

    -- THE SLOT TAKEN
    pub slot_taken : taken_of f n 1 (chains reuse) ≡ s ∷ []
    unfolding taken_of taken_slots
    slot_taken = sym (takes_slots (may_take f n) 0 1 (chains reuse)) ∙ ap taken_slots first_takes

  -- ---- THE LAW

  -- a call of one key that is not refused: it takes this slot, as the rule and the basket do
  module _ (action : Action) (key : ℕ) (value : List ℕ) (z : basket_fault l w.image i (one_change action key value) 16 16 ≡ 0) where
    pub takes : takes_in (may_take f n) 0 1 (chains reuse) ≡ first ∷ []
    takes = first_takes (enough l lay w chains accepted g none_void (one_change action key value) (basket_passed l w (one_change action key value) 16 16 z))

    taken_is : allocation_by_rule l w.image i.next n s 1 ≡ taken (first ∷ [])
    taken_is =
        taking_is l lay w chains accepted g none_void (one_change action key value) (basket_passed l w (one_change action key value) 16 16 z) ∙ ap taken takes

    slot_is : slot_by_rule l w.image i ≡ first
    unfolding one_taken
    slot_is = ap one_taken taken_is

    rest_is : take_first i ≡ take_slot i first
    rest_is = sym (take-first i _ chains reuse_is.0 g.index.formed reuse_is.1)

    pub one_made : (count : ℕ) → made l w.image i key s count action value ≡ as_single count (basket_call_result l w (one_key action key value))
    unfolding basket_call_result
    one_made count =
        sym
        (ap (as_single count)
        (made_is l lay w chains accepted g none_void (one_key action key value) (basket_passed l w (one_change action key value) 16 16 z) z
        ∙ ap (λ (ts : List Taken). basket_made l w.image i.state (one_change action key value) ts
        (index_after l w.image i (one_change action key value) ts)) takes))

  -- what is refused, and else done
  by_fault : (action : Action) (key : ℕ) (value : List ℕ) (fault count : ℕ) (done : CallResult)
      → basket_fault l w.image i (one_change action key value) 16 16 ≡ fault
      → (basket_fault l w.image i (one_change action key value) 16 16 ≡ 0 → done ≡ made l w.image i key s count action value)
      → unless_refused fault done (unchanged (refused fault) i count) ≡ as_single count (basket_call_result l w (one_key action key value))
  unfolding basket_call_result unchanged as_single slot_first
  by_fault action key value fault count done e h =
      by_cases (ℕ_discrete fault 0)
      (λ z. taken_leaves _ _ fault z ∙ h (e ∙ z) ∙ one_made action key value (e ∙ z) count)
      (λ nz. refused_keeps _ _ fault nz ∙ ap (λ (k : ℕ). unchanged (refused k) i count) (sym e)
      ∙ sym (ap (as_single count) (refused_is l lay w chains accepted g none_void (one_key action key value) (λ z. nz (sym e ∙ z)))))

  -- a call that takes slot t, with the index `rest` that taking it leaves, takes the first
  abbrev Takes : (action : Action) → (key : ℕ) → (value : List ℕ) → (t : ℕ) → (rest : Index) → Type 0
  Takes action key value t rest =
      basket_fault l w.image i (one_change action key value) 16 16 ≡ 0 → (t ≡ s) × (rest ≡ take_slot i first)

  only : {P : KeyChange → Type 0} {c : KeyChange} → All P (c ∷ []) → P c
  only (one_more p ps) = p

  asked : (action : Action) (key : ℕ) (value : List ℕ) → basket_fault l w.image i (one_change action key value) 16 16 ≡ 0
      → action_fault action (is_found (search l w.image i.heads i.next key)) ≡ 0
  asked action key value z = only (basket_passed l w (one_change action key value) 16 16 z).asked

  -- INSERT AND REPLACE
  pub write_is : (mode : Mode) (key : ℕ) (value : List ℕ) (t : ℕ) (rest : Index) → Takes (Write mode) key value t rest
      → write_unless (write_fault l w.image i mode key (length value)) l w.image i key value t rest
      ≡ as_single (write_compared l w.image i key (length value)) (basket_call_result l w (one_key (Write mode) key value))
  unfolding write_unless is_found
  write_is mode key value t rest h =
      by_fault (Write mode) key value _ count _ (write_fault_one false l w.image i mode key value)
      (λ z.
      ap₂ (λ (x : ℕ) (j : Index). write_done l w.image i key value x j count (search l w.image i.heads i.next key)) (h z).0 (h z).1
      ∙ go mode _ refl (asked (Write mode) key value z) (sound_sees l w chains g key))
    where
      count : ℕ
      count = write_compared l w.image i key (length value)

      go : (mode : Mode) (found : Found) → search l w.image i.heads i.next key ≡ found → action_fault (Write mode) (is_found found) ≡ 0
          → Sees (table_of l w.image) n key (chains (head (head_of key (length i.heads)))) found
          → write_done l w.image i key value s (take_slot i first) count found ≡ made l w.image i key s count (Write mode) value
      go Replace Rattle.index.specs.declared.Found.TheVariants.BadChain e a sees = elim sees [ ]
      go Insert Rattle.index.specs.declared.Found.TheVariants.BadChain e a sees = elim sees [ ]
      go Insert (At old prev compared) e a sees = absurd (true≢false (insert_free true a))
      go Insert (Missing prev compared) e a (sees_absent p m) =
          insert_one l w.image i key s count value prev compared (before_end i _ chains n _ g.index.formed.disjoint g.index.next_size ∙ sym p)
      go Replace (At old prev compared) e a (sees_held xs ys v parts p j d live m u) =
          replace_one l w.image i key s count value old prev compared e
          (before_slot i _ chains n _ g.index.formed.disjoint g.index.next_size xs old ys parts ∙ sym p)
      go Replace (Missing prev compared) e a sees = absurd (true≢false (sym (replace-held false a)))

  -- REMOVE, of a held key; of another it is absent, where the basket is refused with 21
  pub data RemoveIs (key : ℕ) : Type 0 where
    of-held : is_held (slots_map l w.image key) ≡ true
        → ((t : ℕ) (rest : Index) → Takes Remove key [] t rest → remove_unless (remove_fault l w.image i key) l w.image i key t rest
        ≡ as_single (key_compared l w.image i.heads i.next key) (basket_call_result l w (one_key Remove key [])))
        → RemoveIs key
    of_none : slots_map l w.image key ≡ none
        → ((t : ℕ) (rest : Index) → remove_unless (remove_fault l w.image i key) l w.image i key t rest
        ≡ unchanged absent i (key_compared l w.image i.heads i.next key))
        → RemoveIs key

  pub remove_is : (key : ℕ) → RemoveIs key
  unfolding remove_unless remove_fault_by remove_later_fault remove_done is_held
  remove_is key = go _ refl (sound_sees l w chains g key)
    where
      count : ℕ
      count = key_compared l w.image i.heads i.next key

      go : (found : Found) → search l w.image i.heads i.next key ≡ found
          → Sees (table_of l w.image) n key (chains (head (head_of key (length i.heads)))) found → RemoveIs key
      go Rattle.index.specs.declared.Found.TheVariants.BadChain e x'' = elim x'' [ ]
      go (At old prev compared) e (sees_held xs ys v parts p j d live m u) =
          of-held (ap is_held m)
          (λ t rest h.
          by_fault Remove key [] _ count _ (remove_fault_one false l w.image i key old prev compared e)
          (λ z.
          ap (remove_done l w.image i key t rest count) e
          ∙ ap₂ (λ (x : ℕ) (k : Index). remove_done l w.image i key x k count (At old prev compared)) (h z).0 (h z).1
          ∙ remove_one l w.image i key s count old prev compared e
          (before_slot i _ chains n _ g.index.formed.disjoint g.index.next_size xs old ys parts ∙ sym p)))
      go (Missing prev compared) e (sees_absent p m) =
          of_none m
          (λ t rest. taken_leaves _ _ _ (simp (e, or_else_none) (sound_lent l w chains accepted g)) ∙ ap (remove_done l w.image i key t rest count) e)

  -- the slot of the call is the first, and so is that of the taking rule
  pub call_takes : (action : Action) (key : ℕ) (value : List ℕ) → Takes action key value s (take_first i)
  call_takes action key value z = (refl, rest_is action key value z)

  rule_takes : (action : Action) (key : ℕ) (value : List ℕ) → Takes action key value (slot_by_rule l w.image i).slot (take_slot i (slot_by_rule l w.image i))
  rule_takes action key value z = (ap (λ (t : Taken). t.slot) (slot_is action key value z), ap (take_slot i) (slot_is action key value z))

  -- SLOT, STORES AND INDEX are those of the taking rule
  pub call_by_rule : (call : Call) → call_result l w call ≡ call_result_by_rule l w call
  unfolding call_result call_result_by_rule write_result_by write_by_rule remove_result_by remove_by_rule
  call_by_rule (write mode key value) =
      write_is mode key value _ _ (call_takes (Write mode) key value) ∙ sym (write_is mode key value _ _ (rule_takes (Write mode) key value))
  call_by_rule (remove key) = go (remove_is key)
    where
      go : RemoveIs key → remove_result l w.image i key ≡ remove_by_rule l w.image i key
      go (of-held h q) = q _ _ (call_takes Remove key []) ∙ sym (q _ _ (rule_takes Remove key []))
      go (of_none m q) = q _ _ ∙ sym (q _ _)
  call_by_rule (get key out) = refl
  call_by_rule (locate key) = refl

  -- ---- what is shown of baskets holds of the calls

  -- THE STEP
  pub call_stepped : (call : Call) → Typed l call → Stepped l w (updates call) (call_result l w call)
  unfolding call_result reads_only write_result_by remove_result_by unchanged is_refusal plain_step plain_next updated updates basket_updates key_update
  call_stepped (write mode key value) (write_typed k b) =
      single_stepped l w _ _ _ _ (write_is mode key value _ _ (call_takes (Write mode) key value))
      (basket_stepped l lay w chains accepted g none_void (one_key (Write mode) key value) (one_more (record { key_fits = k; bytes = b }) none_left))
  call_stepped (remove key) (remove_typed k) = go (remove_is key)
    where
      go : RemoveIs key → Stepped l w (updates (remove key)) (remove_result l w.image i key)
      go (of-held h q) =
          single_stepped l w _ _ _ _ (q _ _ (call_takes Remove key []))
          (basket_stepped l lay w chains accepted g none_void (one_key Remove key []) (one_more (record { key_fits = k; bytes = λ j. omega arith }) none_left))
      go (of_none m q) =
          subst (Stepped l w (updates (remove key))) (sym (q _ _))
          (stored_none refl (some_sound chains g) (λ j. not_dropped (slots_map l w.image) key j m))
  call_stepped (get key out) t =
      stored_none refl (some_sound chains g) (λ k. reads-only (slots_map l w.image) (is_refusal (call_result l w (get key out)).answer) k)
  call_stepped (locate key) t =
      stored_none refl (some_sound chains g) (λ k. reads-only (slots_map l w.image) (is_refusal (call_result l w (locate key)).answer) k)

  -- THE ANSWER
  abbrev m : PlainMap
  m = slots_map l w.image

  abbrev version : ℕ
  version = next_version (table_of l w.image) n

  single_right : (call : Call) (action : Action) (key : ℕ) (value : List ℕ) (count : ℕ)
      → call_result l w call ≡ as_single count (basket_call_result l w (one_key action key value))
      → expected_basket_refusal l w m (one_key action key value) ≡ expected_refusal l w m call → gives (s ∷ version ∷ []) ≡ expected_answer l w m call
      → [] ≡ plain_out m call → [] ≡ out_of call → CallCorrect l w m call
  unfolding as_single slot_first slots_taken taken_slots
  single_right call action key value count e due is no-out none_lent =
      let r = basket_right l lay w chains accepted g none_void (one_key action key value) in
      let given : expected_refusal l w m call ≡ 0 → (call_result l w call).answer ≡ gives (s ∷ version ∷ []) =
      λ z. ap (λ (c : CallResult). c.answer) e ∙ ap slot_first (r.answer (due ∙ z))
      ∙ ap (λ (t : Allocation). slot_first (gives (version ∷ slots_taken t)))
      (taken_is action key value (basket-fault l lay w chains accepted g none_void (one_key action key value) ∙ due ∙ z)) in
      let still : (expected_refusal l w m call ≡ 0 → ⊥) → Unchanged w (out_of call) (call_result l w call) =
      λ nz. let u = r.refused_still (λ z. nz (sym due ∙ z)) in
      record {
        out_kept = ap (λ (c : CallResult). c.out) e ∙ none_lent;
        no_stores = ap (λ (c : CallResult). c.stores) e ∙ u.no_stores;
        index_kept = ap (λ (c : CallResult). c.index) e ∙ u.index_kept;
      } in
      record {
        refusal = ap (λ (c : CallResult). refusal_in c.answer) e ∙ first_refusal _ ∙ r.refusal ∙ due;
        answer = λ z. given z ∙ is;
        out = λ z. ap (λ (c : CallResult). c.out) e ∙ no-out;
        refused_still = still;
        absent_still = λ x. by_cases (ℕ_discrete (expected_refusal l w m call) 0) (λ z. absurd (gives-absent _ (sym (given z) ∙ x))) still;
        few = few_compared l w chains g call;
        place = counts_place l w chains g call;
      }

  pub call_right : (call : Call) → CallCorrect l w m call
  unfolding call_result write_result_by remove_result_by plain_answer plain_out out_of rule_fault unchanged refusal_in is_held
  call_right (write mode key value) =
      single_right (write mode key value) (Write mode) key value _ (write_is mode key value _ _ (call_takes (Write mode) key value))
      (write_rule l (room_of l w.image) m mode key value) refl refl refl
  call_right (remove key) = go (remove_is key)
    where
      go : RemoveIs key → CallCorrect l w m (remove key)
      go (of-held h q) =
          single_right (remove key) Remove key [] _ (q _ _ (call_takes Remove key [])) (remove_rule l (room_of l w.image) m key h)
          (sym (ap (λ (x : Bool). cond x (gives (s ∷ version ∷ [])) absent) h)) refl refl
      go (of_none d q) =
          let e = q s (take_first i) in
          let still : Unchanged w [] (call_result l w (remove key)) =
          record {
            out_kept = ap (λ (c : CallResult). c.out) e;
            no_stores = ap (λ (c : CallResult). c.stores) e;
            index_kept = ap (λ (c : CallResult). c.index) e;
          } in
          record {
            refusal =
                ap (λ (c : CallResult). refusal_in c.answer) e
                ∙ sym (ap (λ (o : Option (List ℕ)). cond (is_held o) (room_rule (room_of l w.image) 1 0 1) 0) d);
            answer = λ z.
                ap (λ (c : CallResult). c.answer) e ∙ sym (ap (λ (o : Option (List ℕ)). cond (is_held o) (gives (s ∷ version ∷ [])) absent) d);
            out = λ z. ap (λ (c : CallResult). c.out) e;
            refused_still = λ nz. still;
            absent_still = λ x. still;
            few = few_compared l w chains g (remove key);
            place = counts_place l w chains g (remove key);
          }
  call_right (get key out) = get_right l w chains accepted g key out
  call_right (locate key) = locate_right l w chains accepted g key
