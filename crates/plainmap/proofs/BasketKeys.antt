-- The keys of a basket: what it writes for each, seen in the table and in the index. Assumes nothing.
use mathlib.Core.Path.{◌≡◌, refl, sym, ap, ap₂, ◌∙◌, fun_ext}
use mathlib.Core.Bool.{Bool, true, false, cond, not, ◌&&◌}
use mathlib.Core.Logic.{inl}
use mathlib.Core.List.{List, [], ◌∷◌, ◌++◌}
use Prim.Native.Nat.{ℕ, zero, suc, ◌+◌, ◌<◌}
use native.Mathlib.Omega.{arith}
use lib.Dec.{eqb}
use lib.ListN.{length, get_or}
use Rattle.prelude.specs.Refusal.{refuse_if}
use Rattle.prelude.specs.Members.{In, All, none_left, one_more}
use Rattle.layout.specs.Content.{content_of_record, Table}
use Rattle.stores.specs.Basket.{BasketRecord, basket_slots}
use Rattle.table.specs.Table.{key_in, map_of, is_held}
use Rattle.table.proofs.defs.Write.{holder}
use Rattle.table.specs.Class.{is_put}
use Rattle.table.proofs.defs.Reuse.{appended}
use Rattle.table.proofs.defs.Basket.{one_if, inserts_in, removes_in}
use Rattle.table.proofs.defs.ReuseAfter.{joins_of}
use Rattle.table.proofs.defs.Owners.{moved}
use Rattle.index.specs.Index.{Chain, reuse, head, head_of}
use Rattle.index.specs.Allocation.{Taken}
use Rattle.index.specs.Basket.{Item, taken_slots}
use Rattle.index.specs.declared.Action.{Action}
use Rattle.index.specs.Change.{key_fault, inserts_of}
use Rattle.index.specs.declared.Action.TheVariants.{Write, Remove}
use Rattle.index.specs.declared.Mode.TheVariants.{Insert, Replace}
use Rattle.index.specs.declared.Found.{Found}
use Rattle.index.proofs.defs.Items.{item_slots, appends_by, appends_of, goes_to, moved_one, moved_by}
use Rattle.calls.specs.Basket.{kind_by, value_by, records_for, old_in, items_for}
use Rattle.calls.specs.BasketItems.{KeyChange}
use Rattle.calls.specs.BasketRefusals.{action_fault, inserts_by, removes_by, sum_over}
use Rattle.table.proofs.defs.Entries.{record_of}
use Rattle.table.proofs.Entries.{made_key}

-- ---- one key

-- what a basket that is not refused knows of a key: it is as asked, and the slot of its old record is the one that holds it, 0 for none
pub record KeyReady (f : Table) (n : ℕ) (found : ℕ → Found) (c : KeyChange) : Type 0 where
  pub asked : action_fault c.action (is_held (map_of f n c.key)) ≡ 0
  pub old_is : old_in (found c.key) ≡ holder f n c.key
  -- a key that is held has a holder, and another has none
  pub holds : is_held (map_of f n c.key) ≡ true → 0 < holder f n c.key
  pub none_holds : is_held (map_of f n c.key) ≡ false → holder f n c.key ≡ 0

-- the record of a key for slot s
abbrev pub record_for : KeyChange → (s : ℕ) → BasketRecord
record_for c s = record { slot = s; key = c.key; kind = kind_by c.action; value = value_by c.action c.value }

-- is it a put?
unfoldable pub puts : Action → Bool
puts (Write mode) = true
puts Remove = false

pub put_by : (action : Action) (version key : ℕ) (value : List ℕ) → is_put (content_of_record (kind_by action) version key value) ≡ puts action
unfolding kind_by puts content_of_record is_put
put_by (Write mode) version key value = refl
put_by Remove version key value = refl

pub insert_free : (held : Bool) → action_fault (Write Insert) held ≡ 0 → held ≡ false
unfolding action_fault key_fault refuse_if
insert_free true e = absurd (omega arith)
insert_free false e = refl

pub replace-held : (held : Bool) → action_fault (Write Replace) held ≡ 0 → held ≡ true
unfolding action_fault key_fault refuse_if
replace-held true e = refl
replace-held false e = absurd (omega arith)

pub remove-held : (held : Bool) → action_fault Remove held ≡ 0 → held ≡ true
unfolding action_fault refuse_if
remove-held true e = refl
remove-held false e = absurd (omega arith)

appended_none : (old s : ℕ) → old ≡ 0 → appended old true s ≡ []
unfolding appended
appended_none zero s e = refl
appended_none (suc old) s e = absurd (omega arith)

appended_put : (old s : ℕ) → 0 < old → appended old true s ≡ old ∷ []
unfolding appended
appended_put zero s h = absurd (omega arith)
appended_put (suc old) s h = refl

appended_remove : (old s : ℕ) → 0 < old → appended old false s ≡ old ∷ s ∷ []
unfolding appended
appended_remove zero s h = absurd (omega arith)
appended_remove (suc old) s h = refl

module _ (f : Table) (n : ℕ) (found : ℕ → Found) where
  -- what is appended for a key
  appends-by : (action : Action) (key s : ℕ) (value : List ℕ) → KeyReady f n found (record { action = action; key = key; value = value })
      → appended (holder f n key) (puts action) s ≡ appends_by action (old_in (found key)) s
  unfolding puts appends_by
  appends-by (Write Insert) key s value r = appended_none (holder f n key) s (r.none_holds (insert_free _ r.asked))
  appends-by (Write Replace) key s value r =
      appended_put (holder f n key) s (r.holds (replace-held _ r.asked)) ∙ ap (λ (x : ℕ). x ∷ []) (sym r.old_is)
  appends-by Remove key s value r =
      appended_remove (holder f n key) s (r.holds (remove-held _ r.asked)) ∙ ap (λ (x : ℕ). x ∷ s ∷ []) (sym r.old_is)

  goes_by : (action : Action) (h : ℕ) → cond (puts action) (head h) reuse ≡ goes_to action h
  unfolding puts goes_to
  goes_by (Write mode) h = refl
  goes_by Remove h = refl

  inserts-by : (action : Action) (key : ℕ) (value : List ℕ) → KeyReady f n found (record { action = action; key = key; value = value })
      → one_if (puts action && not (is_held (map_of f n key))) ≡ inserts_by action
  unfolding puts inserts_by inserts_of
  inserts-by (Write Insert) key value r = ap (λ (x : Bool). one_if (not x)) (insert_free _ r.asked)
  inserts-by (Write Replace) key value r = ap (λ (x : Bool). one_if (not x)) (replace-held _ r.asked)
  inserts-by Remove key value r = refl

  removes-by : (action : Action) → one_if (not (puts action)) ≡ removes_by action
  unfolding puts removes_by
  removes-by (Write mode) = refl
  removes-by Remove = refl

  pub removed_held : (c : KeyChange) → KeyReady f n found c → puts c.action ≡ false → is_held (map_of f n c.key) ≡ true
  unfolding puts
  removed_held c r e = go c.action r.asked e
    where
      go : (a : Action) → action_fault a (is_held (map_of f n c.key)) ≡ 0 → puts a ≡ false → is_held (map_of f n c.key) ≡ true
      go (Write Insert) z q = absurd (let k : ◌≡◌ {A = ℕ} 0 1 = ap (λ (x : Bool). cond x 0 1) q in omega arith)
      go (Write Replace) z q = replace-held _ z
      go Remove z q = remove-held _ z

  -- ---- all keys: new has the record of each key in the slot taken for it

  module _ (version b : ℕ) (new : Table) where
    abbrev Has : BasketRecord → Type 0
    Has e = new e.slot ≡ record_of version e

    put_at : (c : KeyChange) (s : ℕ) → Has (record_for c s) → is_put (new s) ≡ puts c.action
    put_at c s e = ap is_put e ∙ put_by c.action version c.key (value_by c.action c.value)

    key-at : (c : KeyChange) (s : ℕ) → Has (record_for c s) → key_in (new s) ≡ c.key
    key-at c s e = ap key_in e ∙ made_key (kind_by c.action) version c.key (value_by c.action c.value)

    -- the key in the index, for slot s
    abbrev pub item_for : KeyChange → (s : ℕ) → Item
    item_for c s = record { action = c.action; key_head = head_of c.key b; old = old_in (found c.key); slot = s }

    move_one : (c : KeyChange) (s : ℕ) (owner : ℕ → Chain) → KeyReady f n found c → Has (record_for c s) → (y : ℕ)
        → cond (eqb y s) (cond (is_put (new s)) (head (head_of (key_in (new s)) b)) reuse) (cond (eqb y (holder f n (key_in (new s)))) reuse (owner y)) ≡
        moved_one (item_for c s) owner y
    unfolding moved_one
    move_one c s owner r h y =
        ap₂
        (λ (p : Bool) (k : ℕ). cond (eqb y s) (cond p (head (head_of k b)) reuse) (cond (eqb y (holder f n k)) reuse (owner y)))
        (put_at c s h) (key-at c s h)
        ∙ ap₂ (λ (z : Chain) (o : ℕ). cond (eqb y s) z (cond (eqb y o) reuse (owner y))) (goes_by c.action (head_of c.key b)) (sym r.old_is)

    pub moves_alike : (cs : List KeyChange) (ts : List Taken) → All (KeyReady f n found) cs → All Has (records_for cs ts) → (owner : ℕ → Chain) (x : ℕ)
        → moved f n (λ k. head (head_of k b)) reuse (basket_slots (records_for cs ts)) new owner x ≡ moved_by (items_for found b cs ts) owner x
    unfolding moved moved_by basket_slots records_for items_for
    moves_alike [] ts rs hs owner x = refl
    moves_alike (c ∷ cs) [] rs hs owner x = refl
    moves_alike (c ∷ cs) (t ∷ ts) (one_more r rs) (one_more h hs) owner x =
        ap (λ (o : ℕ → Chain). moved f n (λ k. head (head_of k b)) reuse (basket_slots (records_for cs ts)) new o x)
        (fun_ext (λ y. move_one c t.slot owner r h y))
        ∙ moves_alike cs ts rs hs (moved_one (item_for c t.slot) owner) x

    pub joins_alike : (cs : List KeyChange) (ts : List Taken) → All (KeyReady f n found) cs → All Has (records_for cs ts)
        → joins_of f n (basket_slots (records_for cs ts)) new ≡ appends_of (items_for found b cs ts)
    unfolding joins_of appends_of basket_slots records_for items_for
    joins_alike [] ts rs hs = refl
    joins_alike (c ∷ cs) [] rs hs = refl
    joins_alike (c ∷ cs) (t ∷ ts) (one_more r rs) (one_more h hs) =
        ap₂ (λ (x y : List ℕ). x ++ y)
        (ap₂ (λ (k : ℕ) (p : Bool). appended (holder f n k) p t.slot) (key-at c t.slot h) (put_at c t.slot h)
        ∙ appends-by c.action c.key t.slot c.value r)
        (joins_alike cs ts rs hs)

    pub inserts_alike : (cs : List KeyChange) (ts : List Taken) → length ts ≡ length cs → All (KeyReady f n found) cs → All Has (records_for cs ts)
        → inserts_in (basket_slots (records_for cs ts)) new (map_of f n) ≡ sum_over inserts_by cs
    unfolding inserts_in sum_over basket_slots records_for
    inserts_alike [] ts e rs hs = refl
    inserts_alike (c ∷ cs) [] e rs hs = absurd (omega arith)
    inserts_alike (c ∷ cs) (t ∷ ts) e (one_more r rs) (one_more h hs) =
        ap₂ (λ (x y : ℕ). x + y)
        (ap₂ (λ (p : Bool) (k : ℕ). one_if (p && not (is_held (map_of f n k)))) (put_at c t.slot h) (key-at c t.slot h)
        ∙ inserts-by c.action c.key c.value r)
        (inserts_alike cs ts (omega arith) rs hs)

    pub removes_alike : (cs : List KeyChange) (ts : List Taken) → length ts ≡ length cs → All Has (records_for cs ts)
        → removes_in (basket_slots (records_for cs ts)) new ≡ sum_over removes_by cs
    unfolding removes_in sum_over basket_slots records_for
    removes_alike [] ts e hs = refl
    removes_alike (c ∷ cs) [] e hs = absurd (omega arith)
    removes_alike (c ∷ cs) (t ∷ ts) e (one_more h hs) =
        ap₂ (λ (x y : ℕ). x + y) (ap (λ (p : Bool). one_if (not p)) (put_at c t.slot h) ∙ removes-by c.action) (removes_alike cs ts (omega arith) hs)

-- ---- the slots

pub record_slots : (cs : List KeyChange) (ts : List Taken) → length ts ≡ length cs → basket_slots (records_for cs ts) ≡ taken_slots ts
unfolding basket_slots records_for taken_slots
record_slots [] [] e = refl
record_slots [] (t ∷ ts) e = absurd (omega arith)
record_slots (c ∷ cs) [] e = absurd (omega arith)
record_slots (c ∷ cs) (t ∷ ts) e = ap (λ (l : List ℕ). t.slot ∷ l) (record_slots cs ts (omega arith))

-- the first slot taken is among them
pub first_among : (cs : List KeyChange) (ts : List Taken) → length ts ≡ length cs → 0 < length cs
    → In (get_or (taken_slots ts) 0 0) (basket_slots (records_for cs ts))
unfolding records_for taken_slots basket_slots
first_among [] ts e h = absurd (omega arith)
first_among (c ∷ cs) [] e h = absurd (omega arith)
first_among (c ∷ cs) (t ∷ ts) e h = inl refl

pub item-slots : (found : ℕ → Found) (b : ℕ) (cs : List KeyChange) (ts : List Taken) → length ts ≡ length cs
    → item_slots (items_for found b cs ts) ≡ taken_slots ts
unfolding item_slots items_for taken_slots
item-slots found b [] [] e = refl
item-slots found b [] (t ∷ ts) e = absurd (omega arith)
item-slots found b (c ∷ cs) [] e = absurd (omega arith)
item-slots found b (c ∷ cs) (t ∷ ts) e = ap (λ (l : List ℕ). t.slot ∷ l) (item-slots found b cs ts (omega arith))

pub records_length : (cs : List KeyChange) (ts : List Taken) → length ts ≡ length cs → length (records_for cs ts) ≡ length cs
unfolding records_for
records_length [] ts e = refl
records_length (c ∷ cs) [] e = absurd (omega arith)
records_length (c ∷ cs) (t ∷ ts) e = omega (arith, records_length cs ts (omega arith))

-- what holds of all keys holds of all records
pub records_all : {Q : KeyChange → Type 0} {P : BasketRecord → Type 0} → ((c : KeyChange) (s : ℕ) → Q c → P (record_for c s))
    → (cs : List KeyChange) (ts : List Taken) → All Q cs → All P (records_for cs ts)
unfolding records_for
records_all h [] ts qs = none_left
records_all h (c ∷ cs) [] qs = none_left
records_all h (c ∷ cs) (t ∷ ts) (one_more q qs) = one_more (h c t.slot q) (records_all h cs ts qs)
