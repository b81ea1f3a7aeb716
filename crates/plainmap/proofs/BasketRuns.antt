-- What a basket does in a sound world: it is refused, or writes its records and leaves a sound index. Assumes nothing.
use mathlib.Core.Path.{◌≡◌, refl, sym, ap, ap₂, ◌∙◌, subst}
use mathlib.Core.Bool.{Bool, true, false, cond, not}
use mathlib.Core.Option.{Option, some, none}
use mathlib.Core.Logic.{◌⊎◌, inl, inr}
use mathlib.Core.List.{List, [], ◌∷◌, ◌++◌}
use Prim.Native.Nat.{ℕ, zero, suc, ◌+◌, ◌-◌, ◌^◌, ◌≤◌, ◌<◌}
use native.Mathlib.Omega.{arith}
use lib.Dec.{eqb, ltb, leb}
use lib.ListN.{length, get_or}
use borrow.Author.Tests.{eqb-false, eq-eqb, ne_eqb, ltb-false, leb-false}
use Rattle.words.specs.Word.{word, AreBytes}
use Rattle.prelude.specs.Filter.{filter}
use Rattle.prelude.specs.Members.{All, none_left, one_more, In, Once, Slot}
use Rattle.prelude.proofs.Choice.{pick_true, pick_false, true-false}
use Rattle.prelude.proofs.Lists.{front_length, once_take, in_append, once_append}
use Rattle.prelude.proofs.defs.Among.{member}
use Rattle.sorting.proofs.Order.{once_filter}
use Rattle.prelude.proofs.Refusals.{refuse_if_zero, or_else_zero}
use Rattle.layout.specs.Size.{slots_in}
use Rattle.layout.specs.Record.{limit, Layout}
use Rattle.layout.specs.Header.{lent_fault}
use Rattle.layout.specs.Content.{Content, Table, contents_of, size_fields_of}
use Rattle.layout.proofs.Content.{top_is}
use Rattle.layout.proofs.Lents.{version_fine}
use Rattle.stores.specs.Basket.{BasketRecord, basket_slots}
use Rattle.stores.specs.Cut.{Fields, Lawful, a_put, a_remove, LawfulNumber, alone, shared, LawfulRecord}
use Rattle.table.specs.Table.{key_in, map_of, live, live_count, is_held}
use Rattle.table.specs.Complete.{table_of, size_field_for, NoneVoid}
use Rattle.table.specs.Takeable.{may_take, taken_of}
use Rattle.table.proofs.defs.Write.{Record, holder}
use Rattle.table.specs.Class.{is_put}
use Rattle.table.proofs.defs.Basket.{Basket, HeldRemoved, puts_in, held_in}
use Rattle.table.proofs.Alike.{alike_count, alike_live}
use Rattle.table.proofs.OneSlot.{weight_key}
use Rattle.table.proofs.Held.{Held, held, unheld, held_or, held_holder, holder_none, Holder, holder_is, is_holder}
use Rattle.table.proofs.defs.Struck.{Struck, Finished}
use Rattle.table.proofs.defs.ReuseAfter.{left_of, reuse_after}
use Rattle.table.proofs.Accepted.{reuse_basket, taken_broken, finished_idle}
use Rattle.table.proofs.LiveAfter.{spare_by, finished_live_count}
use Rattle.index.specs.Index.{Index, Chain, reuse, head, head_of, with_counts}
use Rattle.index.specs.Walk.{search, chain_fault}
use Rattle.index.specs.Change.{is_found}
use Rattle.index.specs.Allocation.{Taken, Allocation, taken, few_fault, reuse_fault, room_fault}
use Rattle.index.specs.Basket.{taken_slots, basket_index}
use Rattle.index.specs.declared.Action.{Action}
use Rattle.index.specs.declared.Action.TheVariants.{Write, Remove}
use Rattle.index.specs.declared.Mode.TheVariants.{Insert, Replace}
use Rattle.index.specs.declared.Found.{Found}
use Rattle.index.specs.declared.Found.TheVariants.{At, Missing}
use Rattle.index.proofs.defs.TakenIn.{takes_in}
use Rattle.index.proofs.Baskets.{SitsWith, sits_basket}
use Rattle.index.proofs.defs.Items.{appends_of, olds_by, olds_of, OldStands, Ready}
use Rattle.recovery.specs.Recover.{place_of}
use Rattle.index.proofs.Allocations.{sits_taking, takes_slots, few_exact, taken_enough}
use Rattle.allocation.specs.Allocation.{allocation_by_rule, allocation_chosen, allocation_by}
use Rattle.allocation.proofs.Choices.{choice_own}
use Rattle.calls.specs.Change.{store_fault}
use Rattle.calls.specs.Basket.{kind_by, value_by, records_for, old_in, items_for}
use Rattle.calls.specs.BasketItems.{KeyChange}
use Rattle.calls.specs.BasketRefusals.{key_count_fault, among, any_twice, given_fault, first_fault, value_fault, action_fault, basket_lent_fault, keys_fault}
use Rattle.calls.specs.BasketRefusals.{inserts_by}
use Rattle.calls.specs.BasketRefusals.{removes_by, sum_over, basket_fault, basket_fault_by}
use Rattle.table.proofs.defs.Entries.{record_of, record_at}
use Rattle.table.proofs.Entries.{slots_length, EntryAt, entry_at, made_record, made_key}
use Rattle.plainmap.specs.World.{World}
use Rattle.plainmap.specs.Accepted.{Accepted}
use Rattle.plainmap.specs.Consistency.{IndexConsistent}
use Rattle.plainmap.specs.Baskets.{TypedChange}
use Rattle.plainmap.proofs.AcceptedImages.{accepted_right}
use Rattle.plainmap.proofs.Sees.{place_live, Sees, sees_held, sees_absent, sound_sees}
use Rattle.plainmap.proofs.Wrote.{SomeSound, some_sound, next_of, WroteRecords}
use Rattle.plainmap.proofs.SoundAfter.{same_slots, same_map, above, head_in, holder_at, spares, older, broken, place_after, sound_after}
use Rattle.plainmap.proofs.BasketKeys.{KeyReady, record_for, put_by, insert_free, replace-held, remove-held, removed_held, inserts_alike, removes_alike}
use Rattle.plainmap.proofs.BasketKeys.{moves_alike, joins_alike, record_slots, first_among, item-slots, records_length, records_all}

-- ---- what a basket that is not refused has passed

-- 11 (reuse), 28 and 9
pub record StorePassed (taking : Allocation) (n live version inserts removes : ℕ) : Type 0 where
  pub few : few_fault taking ≡ 0
  pub room : live + inserts < n + removes
  pub small : version < 2 ^ 63

store_passed : (taking : Allocation) (w : World) (n inserts removes : ℕ) → store_fault taking n w.index.state inserts removes ≡ 0
    → StorePassed taking n w.index.state.live w.index.state.version inserts removes
unfolding store_fault room_fault
store_passed taking w n inserts removes z =
    let a = or_else_zero (reuse_fault taking n w.index.state.first w.index.state.last w.index.state.live removes) _ z in
    let b = or_else_zero (room_fault taking n w.index.state.live inserts removes) _ a.1 in
    let c = or_else_zero (few_fault taking) _ b.0 in
    let d = refuse_if_zero (leb (n + removes) (w.index.state.live + inserts)) 28 0 c.1 (omega arith) in
    record {
      few = c.0;
      room = omega (arith, leb-false (n + removes) (w.index.state.live + inserts) d.0);
      small = version_fine w.index.state.version b.1;
    }

-- no key has the fault
pub first_none : (fault : KeyChange → ℕ) (cs : List KeyChange) → first_fault fault cs ≡ 0 → All (λ (c : KeyChange). fault c ≡ 0) cs
unfolding first_fault
first_none fault [] e = none_left
first_none fault (c ∷ cs) e =
    let z = or_else_zero (fault c) (first_fault fault cs) e in one_more z.0 (first_none fault cs z.1)

pub record BasketPassed (l : ℕ) (w : World) (cs : List KeyChange) : Type 0 where
  pub some_keys : 0 < length cs
  pub few_keys : length cs ≤ 8
  pub distinct : any_twice cs ≡ false
  pub short : All (λ (c : KeyChange). value_fault l c.action (length c.value) ≡ 0) cs
  pub asked : All (λ (c : KeyChange). action_fault c.action (is_found (search l w.image w.index.heads w.index.next c.key)) ≡ 0) cs
  pub store :
      StorePassed (allocation_by_rule l w.image w.index.next (slots_in w.image) w.index.state.first (length cs)) (slots_in w.image)
      w.index.state.live
      w.index.state.version (sum_over inserts_by cs) (sum_over removes_by cs)

pub basket_passed : (l : ℕ) (w : World) (cs : List KeyChange) (at words : ℕ)
    → basket_fault l w.image w.index cs at words ≡ 0 → BasketPassed l w cs
unfolding basket_fault_by allocation_by given_fault key_count_fault basket_lent_fault keys_fault
basket_passed l w cs at words z =
    let a = or_else_zero (given_fault cs at words) _ z in
    let b = or_else_zero (key_count_fault (length cs)) _ a.0 in
    let c = refuse_if_zero (eqb (length cs) 0) 26 _ b.0 (omega arith) in
    let d = refuse_if_zero (ltb 8 (length cs)) 26 _ c.1 (omega arith) in
    let e = refuse_if_zero (any_twice cs) 27 _ b.1 (omega arith) in
    let g = or_else_zero (basket_lent_fault l w.image (length w.index.heads) (length w.index.next) cs) _ a.1 in
    let h = or_else_zero (lent_fault l w.image (length w.index.heads) (length w.index.next)) _ g.0 in
    let i = or_else_zero (keys_fault (search l w.image w.index.heads w.index.next) cs) _ g.1 in
    let k = or_else_zero (first_fault (λ x. chain_fault (search l w.image w.index.heads w.index.next x.key)) cs) _ i.0 in
    record {
      some_keys = positive (length cs) (eqb-false (length cs) 0 c.0);
      few_keys = ltb-false 8 (length cs) d.0;
      distinct = e.0;
      short = first_none _ cs h.1;
      asked = first_none _ cs k.1;
      store = store_passed _ w (slots_in w.image) (sum_over inserts_by cs) (sum_over removes_by cs) i.1;
    }
  where
    positive : (x : ℕ) → (x ≡ 0 → ⊥) → 0 < x
    positive zero ne = absurd (ne refl)
    positive (suc x) ne = omega arith

-- ---- distinct keys

-- no record of the list has this key
abbrev NoKey : (key : ℕ) → List BasketRecord → Type 0
NoKey key es = All (λ (e : BasketRecord). e.key ≡ key → ⊥) es

abbrev Apart : List BasketRecord → Type 0
Apart [] = Unit
Apart (e ∷ es) = NoKey e.key es × Apart es

none_among : (key : ℕ) (cs : List KeyChange) → among key cs ≡ false → All (λ (c : KeyChange). c.key ≡ key → ⊥) cs
unfolding among
none_among key [] e = none_left
none_among key (c ∷ cs) e = go (eqb c.key key) refl (none_among key cs) e
  where
    go : (b : Bool) → eqb c.key key ≡ b → (among key cs ≡ false → All (λ (x : KeyChange). x.key ≡ key → ⊥) cs)
        → cond b true (among key cs) ≡ false → All (λ (x : KeyChange). x.key ≡ key → ⊥) (c ∷ cs)
    go true q ih z = absurd (true-false refl z)
    go false q ih z = one_more (eqb-false c.key key q) (ih z)

records_apart : (cs : List KeyChange) (ts : List Taken) → any_twice cs ≡ false → Apart (records_for cs ts)
unfolding any_twice records_for
records_apart [] ts e = tt
records_apart (c ∷ cs) [] e = tt
records_apart (c ∷ cs) (t ∷ ts) e = go (among c.key cs) refl (records_apart cs ts) e
  where
    go : (b : Bool) → among c.key cs ≡ b → (any_twice cs ≡ false → Apart (records_for cs ts)) → cond b true (any_twice cs) ≡ false
        → Apart (record_for c t.slot ∷ records_for cs ts)
    go true q ih z = absurd (true-false refl z)
    go false q ih z = (records_all (λ x s ne. ne) cs ts (none_among c.key cs q), ih z)

-- ---- the records by their slots

module _ (version : ℕ) where
  head_record : (e : BasketRecord) (es : List BasketRecord) (t : ℕ) → t ≡ e.slot → record_at version (e ∷ es) t ≡ record_of version e
  unfolding record_at
  head_record e es t q = pick_true (eqb t e.slot) _ _ (eq-eqb t e.slot q)

  tail_record : (e : BasketRecord) (es : List BasketRecord) (t : ℕ) → (In e.slot (basket_slots es) → ⊥) → In t (basket_slots es)
      → record_at version (e ∷ es) t ≡ record_at version es t
  unfolding record_at
  tail_record e es t out i =
      pick_false (eqb t e.slot) _ _ (ne_eqb t e.slot (λ q. out (subst (λ (x : ℕ). In x (basket_slots es)) q i)))

  -- what holds of all records, with their slots
  all_slots : {P Q : BasketRecord → Type 0} (es : List BasketRecord) → ((e : BasketRecord) → In e.slot (basket_slots es) → P e → Q e) → All P es → All Q es
  unfolding basket_slots
  all_slots [] h none_left = none_left
  all_slots (e ∷ es) h (one_more p ps) = one_more (h e (inl refl) p) (all_slots es (λ x i. h x (inr i)) ps)

  -- each record stands in its slot
  pub record_each : (es : List BasketRecord) → Once (basket_slots es) → All (λ (e : BasketRecord). record_at version es e.slot ≡ record_of version e) es
  unfolding basket_slots
  record_each [] once = none_left
  record_each (e ∷ es) once =
      one_more {x = e} (head_record e es e.slot refl)
      (all_slots es (λ x i p. tail_record e es x.slot once.0 i ∙ p) (record_each es once.1))

  pub key_of : (e : BasketRecord) → key_in (record_of version e) ≡ e.key
  key_of e = made_key e.kind version e.key e.value

  -- the first record's key is that of no other slot
  other : (e : BasketRecord) (es : List BasketRecord) → Once (basket_slots (e ∷ es)) → Apart (e ∷ es) → (s t : ℕ) → s ≡ e.slot → In t (basket_slots es)
      → key_in (record_at version (e ∷ es) s) ≡ key_in (record_at version (e ∷ es) t) → ⊥
  unfolding basket_slots
  other e es once apart s t p j k =
      let r = entry_at version es once.1 apart.0 t j in
      r.holds
      (sym (key_of r.entry) ∙ ap key_in (sym (tail_record e es t once.0 j ∙ r.here)) ∙ sym k
      ∙ ap key_in (head_record e es s p) ∙ key_of e)

  -- no two slots have records of one key
  pub keys_apart : (es : List BasketRecord) → Once (basket_slots es) → Apart es → (s t : ℕ) → In s (basket_slots es) → In t (basket_slots es)
      → key_in (record_at version es s) ≡ key_in (record_at version es t) → s ≡ t
  unfolding basket_slots
  keys_apart [] once apart s t i j k = absurd i
  keys_apart (e ∷ es) once apart s t (inl p) (inl q) k = p ∙ sym q
  keys_apart (e ∷ es) once apart s t (inl p) (inr j) k = absurd (other e es once apart s t p j k)
  keys_apart (e ∷ es) once apart s t (inr i) (inl q) k = absurd (other e es once apart t s q i (sym k))
  keys_apart (e ∷ es) once apart s t (inr i) (inr j) k =
      keys_apart es once.1 apart.1 s t i j
      (ap key_in (sym (tail_record e es s once.0 i)) ∙ k ∙ ap key_in (tail_record e es t once.0 j))

-- ---- numbers and fields

lawful_number : (m : ℕ) → 0 < m → m ≤ 8 → LawfulNumber (size_field_for m)
unfolding size_field_for
lawful_number m p q = go (eqb m 1) refl
  where
    go : (b : Bool) → eqb m 1 ≡ b → LawfulNumber (cond b 0 m)
    go true e = alone refl
    go false e = shared (two m p (eqb-false m 1 e)) q
      where
        two : (m : ℕ) → 0 < m → (m ≡ 1 → ⊥) → 2 ≤ m
        two zero p ne = absurd (omega arith)
        two (suc zero) p ne = absurd (ne refl)
        two (suc (suc m)) p ne = omega arith

number_fits : (m : ℕ) → m ≤ 8 → size_field_for m < 256
unfolding size_field_for
number_fits m q = go (eqb m 1)
  where
    go : (b : Bool) → cond b 0 m < 256
    go true = omega arith
    go false = omega arith

fields_by : (l : ℕ) → Layout l → (number : ℕ) → number < 256 → (a : Action) (key : ℕ) (value : List ℕ) → key < (2 ^ 64) ^ l → AreBytes value
    → value_fault l a (length value) ≡ 0 → Fields l key (kind_by a) number (value_by a value)
unfolding kind_by value_by value_fault
fields_by l lay number h (Write Insert) key value k b z =
    record {
      layout =
          lay;
      key_fits = k;
      kind_fits = omega arith;
      number_fits = h;
      size = ltb-false (limit l) (length value) (refuse_if_zero _ 10 0 z (omega arith)).0;
      bytes
          = b;
    }
fields_by l lay number h (Write Replace) key value k b z =
    record {
      layout =
          lay;
      key_fits = k;
      kind_fits = omega arith;
      number_fits = h;
      size = ltb-false (limit l) (length value) (refuse_if_zero _ 10 0 z (omega arith)).0;
      bytes
          = b;
    }
fields_by l lay number h Remove key value k b z =
    record { layout = lay; key_fits = k; kind_fits = omega arith; number_fits = h; size = omega arith; bytes = λ i. omega arith }

lawful_by : (number : ℕ) → LawfulNumber number → (a : Action) (value : List ℕ) → Lawful (kind_by a) number (value_by a value)
unfolding kind_by value_by
lawful_by number n (Write mode) value = a_put refl n
lawful_by number n Remove value = a_remove refl refl n

-- three things that hold of all keys
both_all : {P Q : KeyChange → Type 0} {cs : List KeyChange} {R : KeyChange → Type 0} → ((c : KeyChange) → P c → Q c → R c) → All P cs → All Q cs → All R cs
both_all h none_left none_left = none_left
both_all h (one_more p ps) (one_more q qs) = one_more (h _ p q) (both_all h ps qs)

pub map_all : {P Q : KeyChange → Type 0} {cs : List KeyChange} → ((c : KeyChange) → P c → Q c) → All P cs → All Q cs
map_all h none_left = none_left
map_all h (one_more p ps) = one_more (h _ p) (map_all h ps)

taken_length : (ts : List Taken) → length (taken_slots ts) ≡ length ts
unfolding taken_slots
taken_length [] = refl
taken_length (t ∷ ts) = omega (arith, taken_length ts)

held_some : (o : Option (List ℕ)) (v : List ℕ) → o ≡ some v → is_held o ≡ true
unfolding is_held
held_some o v e = ap is_held e

held_none : (o : Option (List ℕ)) → o ≡ none → is_held o ≡ false
unfolding is_held
held_none o e = ap is_held e

-- ---- in a sound world

module _ (l : ℕ) (lay : Layout l) (w : World) (chains : Chain → List ℕ) (accepted : Accepted l w.image) (g : IndexConsistent l w chains)
    (none_void : NoneVoid (contents_of l w.image) (size_fields_of l w.image) (slots_in w.image)) where
  abbrev f : Table
  f = contents_of l w.image

  abbrev n : ℕ
  n = slots_in w.image

  abbrev b : ℕ
  b = length w.index.heads

  abbrev version : ℕ
  version = next_of l w.image

  abbrev found : ℕ → Found
  found key = search l w.image w.index.heads w.index.next key

  -- a key as its chain shows it
  pub key_ready : (c : KeyChange) → action_fault c.action (is_found (found c.key)) ≡ 0 → KeyReady f n found c
  unfolding is_found old_in
  key_ready c z = go (found c.key) refl (sound_sees l w chains g c.key)
    where
      none_there : is_held (map_of f n c.key) ≡ false → holder f n c.key ≡ 0
      none_there e = by (held_or f n c.key)
        where
          by : Held f n c.key → holder f n c.key ≡ 0
          by (held v i a q) = absurd (true-false (held_some (map_of f n c.key) v q) e)
          by (unheld h q) = holder_none f n c.key h

      go : (x : Found) → found c.key ≡ x → Sees (table_of l w.image) n c.key (chains (head (head_of c.key b))) x → KeyReady f n found c
      go Rattle.index.specs.declared.Found.TheVariants.BadChain e x3 = elim x3 [ ]
      go (At old prev compared) e (sees_held xs ys v parts before j d a m u) =
          let k = holder_at l w chains g none_void c.key old j d a in
          let h = held_some (map_of f n c.key) v (sym (same_map l w chains g none_void c.key) ∙ m) in
          record {
            asked = ap (action_fault c.action) (h ∙ sym (ap is_found e)) ∙ z;
            old_is = ap old_in e ∙ sym k;
            holds = held_holder f n c.key;
            none_holds = none_there;
          }
      go (Missing prev compared) e (sees_absent before m) =
          let h = held_none (map_of f n c.key) (sym (same_map l w chains g none_void c.key) ∙ m) in
          record {
            asked = ap (action_fault c.action) (h ∙ sym (ap is_found e)) ∙ z;
            old_is = ap old_in e ∙ sym (none_there h);
            holds = held_holder f n c.key;
            none_holds = none_there;
          }

  -- ---- the index

  abbrev place : ℕ → Chain
  place = place_of (table_of l w.image) n b

  -- where the old record of a held key stands
  pub old_place : (key : ℕ) → 0 < holder f n key → Slot n (holder f n key) × (place (holder f n key) ≡ head (head_of key b))
      × (key_in (f (holder f n key)) ≡ key)
  old_place key h = go (is_holder f n key h)
    where
      go : Holder f n key → Slot n (holder f n key) × (place (holder f n key) ≡ head (head_of key b)) × (key_in (f (holder f n key)) ≡ key)
      go (holder_is i a q) =
          let e = same_slots l w chains g none_void (holder f n key) i in
          let k = weight_key key (f (holder f n key)) q in (
            i,
            place_live (table_of l w.image) n b (holder f n key)
                (alike_live f (table_of l w.image) n (same_slots l w chains g none_void) (holder f n key) i ∙ a)
                ∙ ap (λ (x : ℕ). head (head_of x b)) (ap key_in e ∙ k),
            k,
          )

  stands_by : (a : Action) (key : ℕ) → action_fault a (is_held (map_of f n key)) ≡ 0 → KeyReady f n found (record { action = a; key = key; value = [] })
      → OldStands n place a (head_of key b) (old_in (found key))
  stands_by (Write Insert) key z r = r.old_is ∙ r.none_holds (insert_free _ z)
  stands_by (Write Replace) key z r = rw r.old_is (let o = old_place key (r.holds (replace-held _ z)) in (o.0, o.1))
  stands_by Remove key z r = rw r.old_is (let o = old_place key (r.holds (remove-held _ z)) in (o.0, o.1))

  item_ready : (c : KeyChange) (s : ℕ) → KeyReady f n found c
      → Ready n b place (record { action = c.action; key_head = head_of c.key b; old = old_in (found c.key); slot = s })
  item_ready c s r =
      record {
        head_in = head_in l w chains g none_void c.key;
        stands = stands_by c.action c.key r.asked (record { asked = r.asked; old_is = r.old_is; holds = r.holds; none_holds = r.none_holds });
      }

  items_ready : (ks : List KeyChange) (us : List Taken) → All (KeyReady f n found) ks → All (Ready n b place) (items_for found b ks us)
  unfolding items_for
  items_ready [] us rs = none_left
  items_ready (c ∷ ks) [] rs = none_left
  items_ready (c ∷ ks) (t ∷ us) (one_more r rs) = one_more (item_ready c t.slot r) (items_ready ks us rs)

  -- ---- the old slots are distinct

  -- the holders of two keys are two slots
  one_holder : (j k : ℕ) → 0 < holder f n j → 0 < holder f n k → holder f n j ≡ holder f n k → j ≡ k
  one_holder j k p q e = sym (old_place j p).2 ∙ ap (λ (x : ℕ). key_in (f x)) e ∙ (old_place k q).2

  pub held_old : (a : Action) (key : ℕ) → KeyReady f n found (record { action = a; key = key; value = [] }) → (x : ℕ) → In x (olds_by a (old_in (found key)))
      → (0 < holder f n key) × (x ≡ holder f n key)
  unfolding olds_by
  held_old (Write Insert) key r x i = absurd i
  held_old (Write Replace) key r x (inl e) = (r.holds (replace-held _ r.asked), e ∙ r.old_is)
  held_old (Write Replace) key r x (inr z) = absurd z
  held_old Remove key r x (inl e) = (r.holds (remove-held _ r.asked), e ∙ r.old_is)
  held_old Remove key r x (inr z) = absurd z

  once_old : (a : Action) (old : ℕ) → Once (olds_by a old)
  unfolding olds_by
  once_old (Write Insert) old = tt
  once_old (Write Replace) old = ((λ z. z), tt)
  once_old Remove old = ((λ z. z), tt)

  bare : (c : KeyChange) → KeyReady f n found c → KeyReady f n found (record { action = c.action; key = c.key; value = [] })
  bare c r = record { asked = r.asked; old_is = r.old_is; holds = r.holds; none_holds = r.none_holds }

  -- the holder of another key is no old slot
  no_old : (key : ℕ) → 0 < holder f n key → (ks : List KeyChange) (us : List Taken) → All (λ (c : KeyChange). c.key ≡ key → ⊥) ks
      → All (KeyReady f n found) ks → In (holder f n key) (olds_of (items_for found b ks us)) → ⊥
  unfolding olds_of items_for
  no_old key h [] us ns rs i = i
  no_old key h (c ∷ ks) [] ns rs i = i
  no_old key h (c ∷ ks) (t ∷ us) (one_more ne ns) (one_more r rs) i =
      go (no_old key h ks us ns rs) (in_append (holder f n key) (olds_by c.action (old_in (found c.key))) _ i)
    where
      go : (In (holder f n key) (olds_of (items_for found b ks us)) → ⊥)
          → In (holder f n key) (olds_by c.action (old_in (found c.key))) ⊎ In (holder f n key) (olds_of (items_for found b ks us)) → ⊥
      go ih (inl j) = let o = held_old c.action c.key (bare c r) (holder f n key) j in ne (sym (one_holder key c.key h o.0 o.1))
      go ih (inr j) = ih j

  pub olds_once : (ks : List KeyChange) (us : List Taken) → any_twice ks ≡ false → All (KeyReady f n found) ks → Once (olds_of (items_for found b ks us))
  unfolding olds_of items_for any_twice
  olds_once [] us e rs = tt
  olds_once (c ∷ ks) [] e rs = tt
  olds_once (c ∷ ks) (t ∷ us) e (one_more r rs) = go (among c.key ks) refl (λ z. olds_once ks us z rs) e
    where
      go : (x : Bool) → among c.key ks ≡ x → (any_twice ks ≡ false → Once (olds_of (items_for found b ks us))) → cond x true (any_twice ks) ≡ false
          → Once (olds_by c.action (old_in (found c.key)) ++ olds_of (items_for found b ks us))
      go true q ih z = absurd (true-false refl z)
      go false q ih z =
          once_append (olds_by c.action (old_in (found c.key))) _ (once_old c.action (old_in (found c.key))) (ih z)
          (λ x i j.
          let o = held_old c.action c.key (bare c r) x i in
          no_old c.key o.0 ks us (none_among c.key ks q) rs (subst (λ (y : ℕ). In y (olds_of (items_for found b ks us))) o.1 j))

  -- THE SLOTS that a basket takes are those of the rule
  pub choice_rule : (wanted : ℕ) → allocation_chosen l w.image w.index.next n w.index.state.first wanted
      ≡ allocation_by_rule l w.image w.index.next n w.index.state.first wanted
  choice_rule wanted =
      choice_own l w.image w.index.heads w.index.next w.index.state n b _ chains wanted g.index
      (spares l w chains g none_void)
      (older l w chains g none_void)

  -- ---- a basket that has passed

  module _ (cs : List KeyChange) (p : BasketPassed l w cs) where
    pub ready : All (KeyReady f n found) cs
    ready = map_all (λ c z. key_ready c z) p.asked

    -- the slots that are taken
    abbrev pub ts : List Taken
    ts = takes_in (may_take f n) 0 (length cs) (chains reuse)

    pub enough : length cs ≤ length (filter (may_take f n) (chains reuse))
    unfolding allocation_by_rule
    enough =
        ltb-false (length (filter (may_take f n) (chains reuse))) (length cs)
        (refuse_if_zero (ltb (length (filter (may_take f n) (chains reuse))) (length cs)) 28 0
        (sym (few_exact (may_take f n) 0 (length cs) (chains reuse))
        ∙ ap few_fault (sym (sits_taking n b _ w.index chains g.index (may_take f n) (length cs))) ∙ p.store.few)
        (omega arith)).0

    slots-taken : taken_slots ts ≡ taken_of f n (length cs) (chains reuse)
    unfolding taken_of
    slots-taken = takes_slots (may_take f n) 0 (length cs) (chains reuse)

    pub as_many : length ts ≡ length cs
    unfolding taken_of
    as_many =
        sym (taken_length ts) ∙ ap (λ (x : List ℕ). length x) slots-taken
        ∙ sym (front_length (length cs) (filter (may_take f n) (chains reuse)) enough)

    -- THE SLOTS that the taking rule names
    pub taking_is : allocation_by_rule l w.image w.index.next n w.index.state.first (length cs) ≡ taken ts
    unfolding allocation_by_rule
    taking_is =
        sits_taking n b _ w.index chains g.index (may_take f n) (length cs)
        ∙ taken_enough (may_take f n) 0 (length cs) (chains reuse) enough

    -- are those that the basket takes
    pub choice_is : allocation_chosen l w.image w.index.next n w.index.state.first (length cs) ≡ taken ts
    choice_is = choice_rule (length cs) ∙ taking_is

    -- the records
    abbrev pub es : List BasketRecord
    es = records_for cs ts

    abbrev pub new : Table
    new = record_at version es

    slots_are : basket_slots es ≡ taken_of f n (length cs) (chains reuse)
    slots_are = record_slots cs ts as_many ∙ slots-taken

    pub many : length es ≡ length cs
    many = records_length cs ts as_many

    many_slots : length (basket_slots es) ≡ length cs
    many_slots = slots_length es ∙ many

    first : taken_of f n (length (basket_slots es)) (chains reuse) ≡ basket_slots es
    first = ap (λ (x : ℕ). taken_of f n x (chains reuse)) many_slots ∙ sym slots_are

    pub once : Once (basket_slots es)
    unfolding taken_of
    once =
        subst Once (sym slots_are)
        (once_take (length cs) (filter (may_take f n) (chains reuse))
        (once_filter (may_take f n) (chains reuse) (spares l w chains g none_void).once))

    pub each : All (λ (e : BasketRecord). new e.slot ≡ record_of version e) es
    each = record_each version es once

    at : (t : ℕ) → In t (basket_slots es) → EntryAt (λ (e : BasketRecord). new e.slot ≡ record_of version e) version es t
    at t i = entry_at version es once each t i

    is-record : (t : ℕ) → In t (basket_slots es) → Record (new t) version (key_in (new t))
    is-record t i =
        let r = at t i in
        subst (λ (c : Content). Record c version (key_in c)) (sym r.here)
        (subst (Record (record_of version r.entry) version) (sym (key_of version r.entry))
        (made_record r.entry.kind version r.entry.key r.entry.value))

    pub basket : Basket f (size_fields_of l w.image) n version (basket_slots es) new
    basket =
        reuse_basket (spares l w chains g none_void) first (accepted_right l w.image accepted).table.agreed none_void
        (above l w chains g none_void) (omega (arith, many_slots, p.some_keys)) (omega (arith, many_slots, p.few_keys)) is-record
        (keys_apart version es once (records_apart cs ts p.distinct))

    number_is : size_field_for (length es) ≡ size_field_for (length cs)
    number_is = ap size_field_for many

    abbrev Fits : BasketRecord → Type 0
    Fits e = Fields l e.key e.kind (size_field_for (length es)) e.value × Lawful e.kind (size_field_for (length es)) e.value

    lawful : All (TypedChange l) cs → All (LawfulRecord l (word w.image) (size_field_for (length es)) version) es
    lawful typed =
        all_slots version {P = λ (e : BasketRecord). Fits e} es
        (λ e i q. record {
          fields = q.0;
          lawful = q.1;
          above = omega
              (arith, above l w chains g none_void e.slot (basket.slot e.slot i), top_is l (word w.image) e.slot);
        })
        (records_all {Q = λ (c : KeyChange). TypedChange l c × (value_fault l c.action (length c.value) ≡ 0)} {P = λ (e : BasketRecord). Fits e}
        (λ c s q. (
          subst (λ (x : ℕ). Fields l c.key (kind_by c.action) x (value_by c.action c.value)) (sym number_is)
              (fields_by l lay (size_field_for (length cs)) (number_fits (length cs) p.few_keys) c.action c.key c.value q.0.key_fits q.0.bytes
              q.1),
          subst (λ (x : ℕ). Lawful (kind_by c.action) x (value_by c.action c.value)) (sym number_is)
              (lawful_by (size_field_for (length cs)) (lawful_number (length cs) p.some_keys p.few_keys) c.action c.value),
        ))
        cs ts (both_all (λ c x y. (x, y)) typed p.short))

    -- only held keys are removed
    removes : HeldRemoved (basket_slots es) new (map_of f n)
    removes t i e =
        let r = entry_at version es once
        (records_all {P = λ (x : BasketRecord). is_put (record_of version x) ≡ false → is_held (map_of f n x.key) ≡ true}
        (λ c s k z. removed_held f n found c k (sym (put_by c.action version c.key (value_by c.action c.value)) ∙ z)) cs ts ready) t i in
        ap (λ (k : ℕ). is_held (map_of f n k)) (ap key_in r.here ∙ key_of version r.entry) ∙ r.holds (sym (ap is_put r.here) ∙ e)

    -- a slot will be left that is not live
    room : live_count f n + puts_in (basket_slots es) new < n + held_in (basket_slots es) new (map_of f n)
    room =
        spare_by f n (basket_slots es) new removes
        (omega (
          arith,
          p.store.room,
          g.live-count,
          alike_count f (table_of l w.image) n (same_slots l w chains g none_void),
          inserts_alike f n found version b new cs ts as_many ready each,
          removes_alike f n found version b new cs ts as_many each,
        ))

    -- ---- THE RECORDS ARE WRITTEN, and the index is the image's own

    abbrev pub index_is : Index
    index_is = basket_index n w.index ts (items_for found b cs ts)

    pub basket_wrote : All (TypedChange l) cs
        → WroteRecords l w es index_is (w.index.state.live + sum_over inserts_by cs - sum_over removes_by cs) (get_or (taken_slots ts) 0 0)
    unfolding reuse_after left_of
    basket_wrote typed =
        record {
          lawful = lawful typed;
          small = omega (arith, p.store.small, g.next-version);
          basket = basket;
          broken = taken_broken (spares l w chains g none_void) first (broken l w chains g none_void);
          room = room;
          removes = removes;
          sound = λ image' en st z. after image' en st z;
        }
      where
        after : (image' : List ℕ) → slots_in image' ≡ n
            → (st : Struck f (contents_of l image') (size_fields_of l w.image) (size_fields_of l image') n (basket_slots es) new)
            → (z : Finished (contents_of l image') (size_fields_of l image') (basket_slots es) new)
            → SomeSound l (record {
              image = image';
              index = with_counts index_is (w.index.state.live + sum_over inserts_by cs - sum_over removes_by cs)
                  (w.index.state.version + 1) (get_or (taken_slots ts) 0 0);
            })
        after image' en st z =
            some_sound _
            (sound_after l w chains g none_void (basket_slots es) new image' en basket st z removes index_is _ _ sits.chains sits.sits chain_is idle
            alive_is
            (first_among cs ts as_many p.some_keys))
          where
            sits : SitsWith n b (place_of (contents_of l image') n b) index_is
                (filter (λ t. not (member (taken_slots ts) t)) (chains reuse) ++ appends_of (items_for found b cs ts))
            sits =
                sits_basket n b place w.index chains g.index (may_take f n) (length cs) (items_for found b cs ts)
                (item-slots found b cs ts as_many) (items_ready cs ts ready) (olds_once cs ts p.distinct ready) (place_of (contents_of l image') n b)
                (λ x lo hi.
                place_after l w chains g none_void (basket_slots es) new image' en basket st z x (omega arith, hi)
                ∙ moves_alike f n found version b new cs ts ready each place x)

            chain_is : sits.chains reuse ≡ reuse_after f n (basket_slots es) new (chains reuse)
            chain_is =
                sits.reuse_is
                ∙ ap₂ (λ (x y : List ℕ). x ++ y) (ap (λ (t : List ℕ). filter (λ x. not (member t x)) (chains reuse)) (sym (record_slots cs ts as_many)))
                (sym (joins_alike f n found version b new cs ts ready each))

            idle : live_count (contents_of l image') n < n
            idle = finished_idle basket st z room

            alive_is : w.index.state.live + sum_over inserts_by cs - sum_over removes_by cs ≡ live_count (contents_of l image') n
            alive_is =
                omega (
                  arith,
                  finished_live_count basket st z removes,
                  g.live-count,
                  alike_count f (table_of l w.image) n (same_slots l w chains g none_void),
                  inserts_alike f n found version b new cs ts as_many ready each,
                  removes_alike f n found version b new cs ts as_many each,
                )
