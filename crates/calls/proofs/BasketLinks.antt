-- A basket's changes of the index: the loop over its keys, and the items by what was found. Assumes nothing.
use mathlib.Core.Path.{◌≡◌, refl, sym, ap, ap₂, ◌∙◌}
use mathlib.Core.Bool.{Bool, true, false, cond}
use mathlib.Core.List.{List, ◌∷◌}
use Prim.Native.Nat.{ℕ, zero, suc, ◌+◌, ◌-◌, ◌≤◌, ◌<◌}
use native.Mathlib.Omega.{arith}
use lib.Dec.{eqb}
use lib.ListN.{length, get_or}
use Rattle.layout.specs.Record.{key_with}
use Rattle.index.specs.Index.{Index, index_of, head_of, set_last}
use Rattle.index.specs.Basket.{take_slot, all_taken_of, Item, link_by, link_item, link_all, basket_index}
use Rattle.index.specs.inner.Basket.{takens_from, TakensInside}
use Rattle.index.specs.declared.State.{State}
use Rattle.index.specs.declared.Found.{Found}
use Rattle.index.proofs.BasketInside.{link_item_last}
use Rattle.calls.specs.Basket.{old_in, items_for}
use Rattle.calls.specs.BasketItems.{high_in, item_key, item_at, change_at, changes_from}
use Rattle.calls.specs.inner.Basket.{item_key_at, items_from, ItemsInside}
use Rattle.calls.specs.declared.BasketItem.{BasketItem}

-- ---- link_all

pub record Linking (n : ℕ) (items : List BasketItem) (count : ℕ) (olds slots heads₀ next₀ : List ℕ) (s₀ : State) (heads next : List ℕ) (s : State) (j : ℕ)
    : Type 0 where
  pub position : j ≤ count
  pub heads_size : length heads ≡ length heads₀
  pub next_size : length next ≡ length next₀
  pub last_in : s.last ≤ n
  pub rest : (l : ℕ) → link_all n (index_of heads next s) (items_from l (length heads₀) items olds slots j (count - j))
      ≡ link_all n (index_of heads₀ next₀ s₀) (items_from l (length heads₀) items olds slots 0 count)

module _ (n : ℕ) (items : List BasketItem) (count : ℕ) (olds slots heads₀ next₀ : List ℕ) (s₀ : State)
    (inside : ItemsInside n (length heads₀) (length next₀) s₀.last count olds slots) where
  pub linking_starts : Linking n items count olds slots heads₀ next₀ s₀ heads₀ next₀ s₀ 0
  linking_starts =
      record {
        position = omega arith;
        heads_size = refl;
        next_size = refl;
        last_in = inside.last_in;
        rest =
            λ l.
            let d : count - 0 ≡ count = omega arith in
            ap (λ (k : ℕ). link_all n (index_of heads₀ next₀ s₀) (items_from l (length heads₀) items olds slots 0 k)) d;
      }

  module _ (heads next : List ℕ) (s : State) (j : ℕ) (w : Linking n items count olds slots heads₀ next₀ s₀ heads next s j) where
    one : (l h : ℕ) → j < count → h ≡ head_of (item_key_at l items j) (length heads₀)
        → link_all n (index_of heads next s) (items_from l (length heads₀) items olds slots j (count - j))
        ≡ link_all n (link_by n (index_of heads next s) (item_at items j).action h (get_or olds j 0) (get_or slots j 0))
        (items_from l (length heads₀) items olds slots (j + 1) (count - (j + 1)))
    unfolding items_from link_all link_item
    one l h q e =
        let d : count - j ≡ suc (count - (j + 1)) = omega arith in
        let k : suc j ≡ j + 1 = omega arith in
        ap (λ (x : ℕ). link_all n (index_of heads next s) (items_from l (length heads₀) items olds slots j x)) d
        ∙ ap₂ (λ (x y : ℕ).
        link_all n (link_by n (index_of heads next s) (item_at items j).action x (get_or olds j 0) (get_or slots j 0))
        (items_from l (length heads₀) items olds slots y (count - (j + 1)))) (sym e) k

    pub linking_on : j < count → (h : ℕ) → ((high : ℕ) → h ≡ head_of (key_with (item_at items j).low high) (length heads))
        → (heads' next' : List ℕ) (t : State) → length heads' ≡ length heads → length next' ≡ length next
        → index_of heads' next' t ≡ link_by n (index_of heads next s) (item_at items j).action h (get_or olds j 0) (get_or slots j 0)
        → Linking n items count olds slots heads₀ next₀ s₀ heads' next' t (j + 1)
    unfolding link_item item_key
    linking_on q h eh heads' next' t sh sn p =
        record {
          position = omega arith;
          heads_size = sh ∙ w.heads_size;
          next_size = sn ∙ w.next_size;
          last_in =
              omega (
                arith,
                ap (λ (i : Index). i.state.last) p,
                link_item_last n (index_of heads next s)
                    (record { action = (item_at items j).action; key_head = h; old = get_or olds j 0; slot = get_or slots j 0 }) w.last_in
                    (inside.old-in j q) (inside.slot_in j q),
              );
          rest =
              λ l.
              ap (λ (i : Index). link_all n i (items_from l (length heads₀) items olds slots (j + 1) (count - (j + 1)))) p
              ∙ sym (one l h q (eh (high_in l (item_at items j).high) ∙ ap (head_of (item_key_at l items j)) w.heads_size)) ∙ w.rest l;
        }

    pub linking_ends : count ≤ j → (l : ℕ)
        → index_of heads next s ≡ link_all n (index_of heads₀ next₀ s₀) (items_from l (length heads₀) items olds slots 0 count)
    unfolding items_from link_all
    linking_ends q l =
        let d : count - j ≡ 0 = omega (arith, w.position) in
        sym (ap (λ (x : ℕ). link_all n (index_of heads next s) (items_from l (length heads₀) items olds slots j x)) d) ∙ w.rest l

-- ---- change_index: r is the state after the slots left the reuse chain

left_last : (n : ℕ) (slots prevs : List ℕ) (i : Index) (j k : ℕ) → ((x : ℕ) → j ≤ x → x < j + k → get_or prevs x 0 ≤ n) → i.state.last ≤ n
    → (all_taken_of i (takens_from slots prevs j k)).state.last ≤ n
unfolding all_taken_of takens_from
left_last n slots prevs i j zero h l = l
left_last n slots prevs i j (suc k) h l =
    left_last n slots prevs (take_slot i (record { slot = get_or slots j 0; prev = get_or prevs j 0 })) (suc j) k (λ x a b. h x (omega arith) (omega arith))
    (unfold take_slot in unfold set_last in pick (eqb i.state.last (get_or slots j 0)))
  where
    pick : (b : Bool) → cond b (get_or prevs j 0) i.state.last ≤ n
    pick true = h j (omega arith) (omega arith)
    pick false = l

module _ (n count : ℕ) (olds slots prevs heads next : List ℕ) (s : State) (next₁ : List ℕ) (r : State)
    (p : (hs : List ℕ) → index_of hs next₁ r ≡ all_taken_of (index_of hs next s) (takens_from slots prevs 0 count)) where
  pub left_inside : length next₁ ≡ length next → TakensInside slots prevs count (length next)
      → ItemsInside n (length heads) (length next) s.last count olds slots
      → ItemsInside n (length heads) (length next₁) r.last count olds slots
  left_inside e inside i =
      record {
        some_head = i.some_head;
        size = e ∙ i.size;
        last_in =
            omega (
              arith,
              ap (λ (x : Index). x.state.last) (p heads),
              left_last n slots prevs (index_of heads next s) 0 count
                  (λ j a b. omega (arith, inside.prev_in j (omega arith), i.size)) i.last_in,
            );
        few = i.few;
        old-in = i.old-in;
        slot_in = i.slot_in;
      }

module _ (n : ℕ) (items : List BasketItem) (count : ℕ) (olds slots prevs heads next : List ℕ) (s : State) (next₁ : List ℕ) (r : State)
    (p : (hs : List ℕ) → index_of hs next₁ r ≡ all_taken_of (index_of hs next s) (takens_from slots prevs 0 count)) where
  pub index_changed : (heads' next' : List ℕ) (t : State)
      → ((l : ℕ) → index_of heads' next' t ≡ link_all n (index_of heads next₁ r) (items_from l (length heads) items olds slots 0 count))
      → (l : ℕ) → index_of heads' next' t ≡ basket_index n (index_of heads next s) (takens_from slots prevs 0 count)
      (items_from l (length heads) items olds slots 0 count)
  unfolding basket_index
  index_changed heads' next' t q l =
      q l ∙ ap (λ (i : Index). link_all n i (items_from l (length heads) items olds slots 0 count)) (p heads)

-- ---- the items by what was found

pub items-found : (found : ℕ → Found) (l b : ℕ) (items : List BasketItem) (values olds slots prevs : List ℕ) (i n : ℕ)
    → ((j : ℕ) → i ≤ j → j < i + n → get_or olds j 0 ≡ old_in (found (item_key_at l items j)))
    → items_from l b items olds slots i n ≡ items_for found b (changes_from l items values i n) (takens_from slots prevs i n)
unfolding items_from items_for changes_from change_at takens_from
items-found found l b items values olds slots prevs i zero e = refl
items-found found l b items values olds slots prevs i (suc n) e =
    ap₂ (λ (o : ℕ) (ks : List Item). record
    { action = (item_at items i).action; key_head = head_of (item_key_at l items i) b; old = o; slot = get_or slots i 0 } ∷ ks)
    (e i (omega arith) (omega arith)) (items-found found l b items values olds slots prevs (suc i) n (λ j p q. e j (omega arith) (omega arith)))
