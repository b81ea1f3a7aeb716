-- A basket's changes keep the lengths of any index. Assumes nothing.
use mathlib.Core.Path.{◌≡◌, refl, ◌∙◌}
use mathlib.Core.List.{List, [], ◌∷◌}
use Prim.Native.Nat.{ℕ}
use lib.ListN.{length}
use Rattle.index.specs.Index.{Index, set_last}
use Rattle.index.specs.Allocation.{Taken}
use Rattle.index.specs.Basket.{take_slot, all_taken_of, Item, link_by, link_item, link_all, basket_index}
use Rattle.index.specs.declared.Action.{Action}
use Rattle.index.specs.declared.Action.TheVariants.{Write, Remove}
use Rattle.index.specs.declared.Mode.TheVariants.{Insert, Replace}
use Rattle.index.proofs.Links.{link_size, link-heads}
use Rattle.index.proofs.CallWrites.{insert_at_next, insert_at_heads, replace_at_next, replace_at_heads, remove_at_next, remove_at_heads}

take_slot_next : (i : Index) (t : Taken) → length (take_slot i t).next ≡ length i.next
unfolding take_slot set_last
take_slot_next i t = link_size _ _ _ _

take_slot_heads : (i : Index) (t : Taken) → length (take_slot i t).heads ≡ length i.heads
unfolding take_slot set_last
take_slot_heads i t = link-heads _ _ _ _

pub take_all_next : (i : Index) (ts : List Taken) → length (all_taken_of i ts).next ≡ length i.next
unfolding all_taken_of
take_all_next i [] = refl
take_all_next i (t ∷ ts) = take_all_next (take_slot i t) ts ∙ take_slot_next i t

pub take_all_heads : (i : Index) (ts : List Taken) → length (all_taken_of i ts).heads ≡ length i.heads
unfolding all_taken_of
take_all_heads i [] = refl
take_all_heads i (t ∷ ts) = take_all_heads (take_slot i t) ts ∙ take_slot_heads i t

link_by_next : (n : ℕ) (i : Index) (a : Action) (h old s : ℕ) → length (link_by n i a h old s).next ≡ length i.next
unfolding link_by
link_by_next n i (Write Insert) h old s = insert_at_next _ _ _ _
link_by_next n i (Write Replace) h old s = replace_at_next _ _ _ _ _
link_by_next n i Remove h old s = remove_at_next _ _ _ _ _

link_by_heads : (n : ℕ) (i : Index) (a : Action) (h old s : ℕ) → length (link_by n i a h old s).heads ≡ length i.heads
unfolding link_by
link_by_heads n i (Write Insert) h old s = insert_at_heads _ _ _ _
link_by_heads n i (Write Replace) h old s = replace_at_heads _ _ _ _ _
link_by_heads n i Remove h old s = remove_at_heads _ _ _ _ _

pub link_item_next : (n : ℕ) (i : Index) (k : Item) → length (link_item n i k).next ≡ length i.next
unfolding link_item
link_item_next n i k = link_by_next n i k.action k.key_head k.old k.slot

pub link_item_heads : (n : ℕ) (i : Index) (k : Item) → length (link_item n i k).heads ≡ length i.heads
unfolding link_item
link_item_heads n i k = link_by_heads n i k.action k.key_head k.old k.slot

pub link_all_next : (n : ℕ) (i : Index) (ks : List Item) → length (link_all n i ks).next ≡ length i.next
unfolding link_all
link_all_next n i [] = refl
link_all_next n i (k ∷ ks) = link_all_next n (link_item n i k) ks ∙ link_item_next n i k

pub link_all_heads : (n : ℕ) (i : Index) (ks : List Item) → length (link_all n i ks).heads ≡ length i.heads
unfolding link_all
link_all_heads n i [] = refl
link_all_heads n i (k ∷ ks) = link_all_heads n (link_item n i k) ks ∙ link_item_heads n i k

pub basket_next : (n : ℕ) (i : Index) (ts : List Taken) (ks : List Item) → length (basket_index n i ts ks).next ≡ length i.next
unfolding basket_index
basket_next n i ts ks = simp (link_all_next, take_all_next)

pub basket_heads : (n : ℕ) (i : Index) (ts : List Taken) (ks : List Item) → length (basket_index n i ts ks).heads ≡ length i.heads
unfolding basket_index
basket_heads n i ts ks = simp (link_all_heads, take_all_heads)
