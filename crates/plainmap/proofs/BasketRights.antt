-- A basket where the image is accepted and the index is its own: it is refused where the rules refuse it, and otherwise
-- is the plain map's step. Assumes nothing.
use mathlib.Core.Path.{◌≡◌, refl, sym, ap, ap₂, ◌∙◌, subst}
use mathlib.Core.Bool.{Bool, true, false, cond, not}
use mathlib.Core.Option.{Option, some, none}
use mathlib.Core.Logic.{◌⊎◌, inl, inr, by_cases}
use mathlib.Core.List.{List, [], ◌∷◌}
use Prim.Native.Nat.{ℕ, zero, suc, ◌≤◌, ◌<◌}
use native.Mathlib.Decide.{ℕ_discrete}
use native.Mathlib.Omega.{arith}
use lib.Dec.{eqb}
use lib.ListN.{length, length-append}
use Rattle.words.specs.Word.{word}
use Rattle.prelude.specs.Refusal.{or_else}
use borrow.Author.Tests.{eqb-true, eqb-false}
use Rattle.prelude.specs.Answer.{gives, refused, refusal_in, refuses}
use Rattle.prelude.specs.Members.{All, one_more, In, Slot}
use Rattle.prelude.proofs.defs.Among.{member}
use Rattle.prelude.proofs.Among.{member_in, count-member}
use Rattle.prelude.proofs.Count.{count_fewer}
use Rattle.prelude.proofs.Refusals.{or_else_later, or_else_zero, refuse_if_zero, taken_leaves, refused_keeps}
use Rattle.prelude.proofs.defs.Answer.{is_refusal}
use Rattle.layout.specs.Size.{slots_in}
use Rattle.layout.specs.Record.{Layout}
use Rattle.layout.specs.Content.{Content, content_of_record, Table, contents_of, size_fields_of}
use Rattle.stores.specs.Basket.{BasketRecord, basket_slots, basket_stores}
use Rattle.table.specs.Table.{key_in, value_in, live, live_count, is_held}
use Rattle.table.specs.Complete.{table_of, size_field_for, NoneVoid}
use Rattle.table.proofs.defs.Write.{holder}
use Rattle.table.proofs.defs.Basket.{changes, changes_in_turn}
use Rattle.table.proofs.Changes.{changes-in-turn}
use Rattle.table.proofs.Alike.{alike_count}
use Rattle.table.proofs.Held.{Holder, holder_is, is_holder}
use Rattle.index.specs.Index.{Chain, head, head_of}
use Rattle.index.specs.Walk.{search}
use Rattle.index.specs.Change.{is_found}
use Rattle.index.specs.Allocation.{Taken, Allocation}
use Rattle.index.specs.declared.Action.{Action}
use Rattle.index.specs.declared.Action.TheVariants.{Write, Remove}
use Rattle.index.specs.declared.Mode.TheVariants.{Insert, Replace}
use Rattle.index.specs.declared.Found.{Found}
use Rattle.index.proofs.defs.Items.{olds_by, olds_of}
use Rattle.allocation.specs.Allocation.{allocation_by_rule, allocation_chosen_by, allocation_by}
use Rattle.calls.specs.Change.{store_fault}
use Rattle.calls.specs.Result.{unchanged, CallResult}
use Rattle.calls.specs.BasketItems.{KeyChange}
use Rattle.calls.specs.BasketRefusals.{any_twice, key_count_fault, given_fault, first_fault, value_fault, action_fault, basket_lent_fault, keys_fault}
use Rattle.calls.specs.BasketRefusals.{inserts_by}
use Rattle.calls.specs.BasketRefusals.{removes_by, sum_over, basket_fault, basket_fault_by}
use Rattle.calls.specs.Basket.{kind_by, value_by, records_for, old_in, items_for, index_after, basket_made, basket_done, basket_unless, basket_result}
use Rattle.calls.specs.Basket.{basket_by_rule}
use Rattle.calls.specs.Basket.{basket_result_by}
use Rattle.table.proofs.defs.Entries.{record_of}
use Rattle.plainmap.specs.World.{World}
use Rattle.plainmap.specs.Plain.{PlainMap, Update, giving, dropping, updated, plain_next, plain_step}
use Rattle.plainmap.specs.Accepted.{Accepted}
use Rattle.plainmap.specs.Consistency.{IndexConsistent}
use Rattle.plainmap.specs.Claims.{slots_map}
use Rattle.plainmap.specs.Baskets.{Basket, basket_call_result, basket_call_result_by_rule, key_update, basket_updates, basket_rule, expected_basket_refusal}
use Rattle.plainmap.specs.Baskets.{slots_taken, BasketCorrect, TypedChange}
use Rattle.plainmap.proofs.Wrote.{world_with, SomeSound, some_sound, next_of, Stepped, stored_none, stored_records}
use Rattle.plainmap.proofs.SoundAfter.{same_slots}
use Rattle.prelude.proofs.Lists.{in_append}
use Rattle.plainmap.proofs.Sees.{Sees, sees_held, sees_absent, sound_sees}
use Rattle.plainmap.proofs.Refuses.{sound_lent, sound_chain, store_row}
use Rattle.plainmap.proofs.Rights.{refusal_told}
use Rattle.plainmap.proofs.BasketKeys.{KeyReady}
use Rattle.plainmap.proofs.BasketRuns.{basket_passed, BasketPassed, key_ready, first_none, map_all, held_old, olds_once, taking_is, choice_is}
use Rattle.plainmap.proofs.BasketRuns.{choice_rule, ts, es, new, many, as_many, once, each, basket, basket_wrote}

-- ---- the plain map's step, key by key

same_update : (u : Update) (m m' : PlainMap) → ((k : ℕ) → m k ≡ m' k) → (k : ℕ) → updated u m k ≡ updated u m' k
unfolding updated
same_update (giving key value) m m' q k = ap (λ (o : Option (List ℕ)). cond (eqb k key) (some value) o) (q k)
same_update (dropping key) m m' q k = ap (λ (o : Option (List ℕ)). cond (eqb k key) none o) (q k)

module _ (version : ℕ) (new : Table) where
  -- the change of one record is that of its key
  update_one : (a : Action) (key : ℕ) (value : List ℕ) (m : PlainMap) (k : ℕ)
      → cond (eqb k (key_in (content_of_record (kind_by a) version key (value_by a value))))
      (value_in (content_of_record (kind_by a) version key (value_by a value)))
      (m k) ≡
      updated (key_update a key value) m k
  unfolding kind_by value_by content_of_record key_in value_in updated key_update
  update_one (Write mode) key value m k = refl
  update_one Remove key value m k = refl

  in_turn : (cs : List KeyChange) (us : List Taken) → length us ≡ length cs
      → All (λ (e : BasketRecord). new e.slot ≡ record_of version e) (records_for cs us) → (m m' : PlainMap) → ((k : ℕ) → m k ≡ m' k) → (k : ℕ)
      → changes_in_turn (basket_slots (records_for cs us)) new m k ≡ plain_next (basket_updates cs) m' k
  unfolding changes_in_turn basket_slots records_for plain_next basket_updates
  in_turn [] us e hs m m' q k = q k
  in_turn (c ∷ cs) [] e hs m m' q k = absurd (omega arith)
  in_turn (c ∷ cs) (t ∷ us) e (one_more h hs) m m' q k =
      in_turn cs us (omega arith) hs _ _
      (λ j.
      ap (λ (x : Content). cond (eqb j (key_in x)) (value_in x) (m j)) h
      ∙ update_one c.action c.key c.value m j ∙ same_update (key_update c.action c.key c.value) m m' q j) k

-- ---- in a sound world

-- the first fault of keys that have the same
first_same : (p q : KeyChange → ℕ) (cs : List KeyChange) → ((c : KeyChange) → p c ≡ q c) → first_fault p cs ≡ first_fault q cs
unfolding first_fault
first_same p q [] h = refl
first_same p q (c ∷ cs) h = ap₂ or_else (h c) (first_same p q cs h)

first_zero : (p : KeyChange → ℕ) (cs : List KeyChange) → ((c : KeyChange) → p c ≡ 0) → first_fault p cs ≡ 0
unfolding first_fault
first_zero p [] h = refl
first_zero p (c ∷ cs) h = or_else_later _ _ (h c) ∙ first_zero p cs h

-- what a row has after a fault matters only where that fault is none
row_when : (a x y : ℕ) → (a ≡ 0 → x ≡ y) → or_else a x ≡ or_else a y
unfolding or_else
row_when zero x y h = h refl
row_when (suc a) x y h = refl

-- as many slots as keys
dummies : List KeyChange → List Taken
dummies [] = []
dummies (c ∷ cs) = record { slot = 0; prev = 0 } ∷ dummies cs

module _ (l : ℕ) (lay : Layout l) (w : World) (chains : Chain → List ℕ) (accepted : Accepted l w.image) (g : IndexConsistent l w chains)
    (none_void : NoneVoid (contents_of l w.image) (size_fields_of l w.image) (slots_in w.image)) where
  abbrev f : Table
  f = contents_of l w.image

  abbrev n : ℕ
  n = slots_in w.image

  abbrev found : ℕ → Found
  found key = search l w.image w.index.heads w.index.next key

  -- ---- no more keys are removed than are held

  removed_olds : (a : Action) (old : ℕ) → removes_by a ≤ length (olds_by a old)
  unfolding removes_by olds_by
  removed_olds (Write Insert) old = omega arith
  removed_olds (Write Replace) old = omega arith
  removed_olds Remove old = omega arith

  removes_olds : (cs : List KeyChange) → sum_over removes_by cs ≤ length (olds_of (items_for found (length w.index.heads) cs (dummies cs)))
  unfolding sum_over olds_of items_for dummies
  removes_olds [] = omega arith
  removes_olds (c ∷ cs) =
      omega (
        arith,
        removed_olds c.action (old_in (found c.key)),
        removes_olds cs,
        length-append (olds_by c.action (old_in (found c.key))) (olds_of (items_for found (length w.index.heads) cs (dummies cs))),
      )

  old_live : (cs : List KeyChange) → All (KeyReady f n found) cs → (x : ℕ) → In x (olds_of (items_for found (length w.index.heads) cs (dummies cs)))
      → Slot n x × (live f n x ≡ true)
  unfolding olds_of items_for dummies
  old_live [] rs x i = absurd i
  old_live (c ∷ cs) (one_more r rs) x i = go (old_live cs rs x) (in_append x (olds_by c.action (old_in (found c.key))) _ i)
    where
      by : 0 < holder f n c.key → x ≡ holder f n c.key → Holder f n c.key → Slot n x × (live f n x ≡ true)
      by h e (holder_is s a q) = rw e (s, a)

      go : (In x (olds_of (items_for found (length w.index.heads) cs (dummies cs))) → Slot n x × (live f n x ≡ true))
          → In x (olds_by c.action (old_in (found c.key))) ⊎ In x (olds_of (items_for found (length w.index.heads) cs (dummies cs)))
          → Slot n x × (live f n x ≡ true)
      go ih (inl j) =
          let o = held_old l lay w chains accepted g none_void c.action c.key
          (record { asked = r.asked; old_is = r.old_is; holds = r.holds; none_holds = r.none_holds }) x j in
          by o.0 o.1 (is_holder f n c.key o.0)
      go ih (inr j) = ih j

  removes_few : (cs : List KeyChange) → any_twice cs ≡ false → All (KeyReady f n found) cs → sum_over removes_by cs ≤ live_count (table_of l w.image) n
  unfolding live_count
  removes_few cs d rs =
      omega (
        arith,
        removes_olds cs,
        count-member olds n (olds_once l lay w chains accepted g none_void cs (dummies cs) d rs) (λ t i. (old_live cs rs t i).0),
        count_fewer (live f n) (member olds) n (λ t i m. (old_live cs rs t (member_in olds t m)).1),
        alike_count f (table_of l w.image) n (same_slots l w chains g none_void),
      )
    where
      olds : List ℕ
      olds = olds_of (items_for found (length w.index.heads) cs (dummies cs))

  -- ---- the refusals

  found_held : (key : ℕ) → is_found (found key) ≡ is_held (slots_map l w.image key)
  unfolding is_found is_held
  found_held key = go (found key) (sound_sees l w chains g key)
    where
      go : (x : Found) → Sees (table_of l w.image) n key (chains (head (head_of key (length w.index.heads)))) x
          → is_found x ≡ is_held (slots_map l w.image key)
      go x (sees_held xs ys v d p i q e m u) = sym (ap is_held m)
      go x (sees_absent p m) = sym (ap is_held m)

  -- A BASKET is refused where the rules refuse it
  pub basket-fault : (b : Basket) → basket_fault l w.image w.index b.changes b.at b.words ≡
      expected_basket_refusal l w (slots_map l w.image) b
  unfolding basket_fault_by allocation_by basket_lent_fault keys_fault basket_rule given_fault
  basket-fault b =
      row_when (given_fault cs b.at b.words) _ _
      (λ z.
      ap (λ (x : ℕ). or_else x (or_else (keys_fault found cs) late)) (or_else_later _ _ (sound_lent l w chains accepted g))
      ∙ ap (λ (x : ℕ). or_else sizes (or_else x late))
      (or_else_later _ _ (first_zero _ cs (λ c. sound_chain l w chains accepted g c.key))
      ∙ first_same _ _ cs (λ c. ap (action_fault c.action) (found_held c.key)))
      ∙ ap (or_else sizes)
      (row_when asked _ _
      (λ a.
      store_row l w chains accepted g none_void (length cs) (sum_over inserts_by cs) (sum_over removes_by cs)
      (removes_few cs (distinct z) (map_all (λ c q. key_ready l lay w chains accepted g none_void c (ap (action_fault c.action) (found_held c.key) ∙ q))
      (first_none _ cs a))))))
    where
      cs : List KeyChange
      cs = b.changes

      sizes : ℕ
      sizes = first_fault (λ c. value_fault l c.action (length c.value)) cs

      asked : ℕ
      asked = first_fault (λ c. action_fault c.action (is_held (slots_map l w.image c.key))) cs

      late : ℕ
      late =
          store_fault (allocation_by_rule l w.image w.index.next n w.index.state.first (length cs)) n w.index.state (sum_over inserts_by cs)
          (sum_over removes_by cs)

      distinct : given_fault cs b.at b.words ≡ 0 → any_twice cs ≡ false
      distinct z = (refuse_if_zero (any_twice cs) 27 _ (or_else_zero (key_count_fault (length cs)) _ z).1 (omega arith)).0

  -- ---- what it does

  -- with no refusal: the slots are taken, and the records are written
  pub made_is : (b : Basket) (p : BasketPassed l w b.changes)
      → basket_fault l w.image w.index b.changes b.at b.words ≡ 0
      → basket_result l w.image w.index b.changes b.at b.words ≡
      basket_made l w.image w.index.state b.changes (ts l lay w chains accepted g none_void b.changes p)
      (index_after l w.image w.index b.changes (ts l lay w chains accepted g none_void b.changes p))
  unfolding basket_result_by allocation_chosen_by basket_unless basket_done
  made_is b p z =
      taken_leaves _ _ _ z
      ∙ ap (basket_done l w.image w.index b.changes) (choice_is l lay w chains accepted g none_void b.changes p)

  pub refused_is : (b : Basket) → (basket_fault l w.image w.index b.changes b.at b.words ≡ 0 → ⊥)
      → basket_result l w.image w.index b.changes b.at b.words ≡
      unchanged (refused (basket_fault l w.image w.index b.changes b.at b.words)) w.index 0
  unfolding basket_result_by allocation_chosen_by basket_unless
  refused_is b nz = refused_keeps _ _ _ nz

  -- THE BASKET: it stores nothing and the plain map stays, or it writes its records, which is the plain map's step
  pub basket_stepped : (b : Basket) → All (TypedChange l) b.changes → Stepped l w (basket_updates b.changes) (basket_call_result l w b)
  unfolding basket_call_result unchanged basket_made index_after is_refusal plain_step
  basket_stepped b typed =
      by_cases (ℕ_discrete (basket_fault l w.image w.index cs b.at b.words) 0)
      (λ z.
      let p = basket_passed l w cs b.at b.words z in
      let d = made_is b p z in
      stored_records (es l lay w chains accepted g none_void cs p) _ _ _
      (ap (λ (c : CallResult). c.stores) d
      ∙ ap₂ (λ (x y : ℕ). basket_stores l (word w.image) x y (es l lay w chains accepted g none_void cs p))
      (sym (ap size_field_for (many l lay w chains accepted g none_void cs p))) g.next-version)
      (λ image'. ap (λ (c : CallResult). world_with image' c) d) (basket_wrote l lay w chains accepted g none_void cs p typed)
      (λ k.
      changes-in-turn (basket_slots (es l lay w chains accepted g none_void cs p)) (new l lay w chains accepted g none_void cs p)
      (slots_map l w.image) (once l lay w chains accepted g none_void cs p) (basket l lay w chains accepted g none_void cs p).keys k
      ∙ in_turn (next_of l w.image) (new l lay w chains accepted g none_void cs p) cs (ts l lay w chains accepted g none_void cs p)
      (as_many l lay w chains accepted g none_void cs p) (each l lay w chains accepted g none_void cs p) _ _ (λ j. refl) k
      ∙ sym
      (ap (λ (x : Bool). (cond x (slots_map l w.image) (plain_next (basket_updates cs) (slots_map l w.image))) k)
      (ap (λ (c : CallResult). is_refusal c.answer) d))))
      (λ nz.
      let d = refused_is b nz in
      stored_none (ap (λ (c : CallResult). c.stores) d)
      (subst (λ (c : CallResult). SomeSound l (world_with w.image c)) (sym d) (some_sound chains g))
      (λ k.
      sym
      (ap (λ (x : Bool). (cond x (slots_map l w.image) (plain_next (basket_updates cs) (slots_map l w.image))) k)
      (ap (λ (c : CallResult). is_refusal c.answer) d))))
    where
      cs : List KeyChange
      cs = b.changes

  -- IT IS THE RULE'S
  pub basket-by-rule : (b : Basket) → basket_call_result l w b ≡ basket_call_result_by_rule l w b
  unfolding basket_call_result basket_call_result_by_rule basket_result_by allocation_chosen_by basket_by_rule
  basket-by-rule b =
      ap (λ (t : Allocation).
      (basket_unless (basket_fault l w.image w.index b.changes b.at b.words) l w.image w.index b.changes t))
      (choice_rule l lay w chains accepted g none_void (length b.changes))

  -- ITS ANSWER IS RIGHT
  pub basket_right : (b : Basket) → BasketCorrect l w (slots_map l w.image) b
  unfolding basket_call_result unchanged basket_made refusal_in slots_taken
  basket_right b =
      by_cases (ℕ_discrete (basket_fault l w.image w.index b.changes b.at b.words) 0)
      (λ z.
      let p = basket_passed l w b.changes b.at b.words z in
      let d = made_is b p z in
      record {
        refusal = ap (λ (c : CallResult). refusal_in c.answer) d ∙ sym z ∙ basket-fault b;
        answer = λ x.
            ap (λ (c : CallResult). c.answer) d
            ∙ ap₂ (λ (v : ℕ) (t : Allocation). gives (v ∷ slots_taken t)) g.next-version
            (sym (taking_is l lay w chains accepted g none_void b.changes p));
        refused_still = λ nz. absurd (nz (sym (basket-fault b) ∙ z));
      })
      (λ nz.
      let d = refused_is b nz in
      record {
        refusal = ap (λ (c : CallResult). refusal_in c.answer) d ∙ basket-fault b;
        answer = λ x. absurd (nz (basket-fault b ∙ x));
        refused_still = λ x.
            record {
              out_kept = ap (λ (c : CallResult). c.out) d;
              no_stores = ap (λ (c : CallResult). c.stores) d;
              index_kept = ap (λ (c : CallResult). c.index) d;
            };
      })

-- the answer is a refusal exactly where the rules refuse
pub basket_refuses : (l : ℕ) (w : World) (m : PlainMap) (b : Basket) → BasketCorrect l w m b
    → is_refusal (basket_call_result l w b).answer ≡ refuses (expected_basket_refusal l w m b)
unfolding refuses is_refusal
basket_refuses l w m b r = go (eqb (expected_basket_refusal l w m b) 0) refl
  where
    go : (x : Bool) → eqb (expected_basket_refusal l w m b) 0 ≡ x → is_refusal (basket_call_result l w b).answer ≡ not x
    go true e = ap is_refusal (r.answer (eqb-true _ 0 e))
    go false e = refusal_told (basket_call_result l w b).answer (λ z. eqb-false _ 0 e (sym r.refusal ∙ z))
