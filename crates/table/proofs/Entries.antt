-- The records of a call by their slots. Assumes nothing.
use mathlib.Core.Path.{◌≡◌, refl, sym, ap, ◌∙◌, subst}
use mathlib.Core.Bool.{Bool, true, false, cond}
use mathlib.Core.Logic.{inl, inr}
use mathlib.Core.List.{List, [], ◌∷◌}
use Prim.Native.Nat.{ℕ}
use native.Mathlib.Omega.{arith}
use lib.Dec.{eqb}
use lib.ListN.{length}
use borrow.Author.Tests.{eq-eqb, ne_eqb}
use Rattle.prelude.specs.Members.{All, none_left, one_more, In, Once}
use Rattle.prelude.proofs.Choice.{pick_true, pick_false}
use Rattle.layout.specs.Content.{Content, put_record, remove_record, content_of_record}
use Rattle.stores.specs.Basket.{BasketRecord, basket_slots}
use Rattle.table.specs.Table.{key_in}
use Rattle.table.proofs.defs.Write.{Record}
use Rattle.table.proofs.Write.{put-record, remove-record}
use Rattle.table.proofs.defs.Entries.{record_of, record_at}

pub slots_length : (es : List BasketRecord) → length (basket_slots es) ≡ length es
unfolding basket_slots
slots_length [] = refl
slots_length (e ∷ es) = omega (arith, slots_length es)

-- the entry of a slot, with what holds of all entries
pub record EntryAt (P : BasketRecord → Type 0) (version : ℕ) (es : List BasketRecord) (t : ℕ) : Type 0 where
  pub entry : BasketRecord
  pub slot_is : entry.slot ≡ t
  pub here : record_at version es t ≡ record_of version entry
  pub holds : P entry

pub entry_at : {P : BasketRecord → Type 0} (version : ℕ) (es : List BasketRecord) → Once (basket_slots es) → All P es → (t : ℕ) → In t (basket_slots es)
    → EntryAt P version es t
unfolding basket_slots record_at
entry_at {P = P} version [] once _ t x4 = elim x4 [ ]
entry_at version (e ∷ es) once (one_more h hs) t (inl q) =
    record { entry = e; slot_is = sym q; here = pick_true (eqb t e.slot) _ _ (eq-eqb t e.slot q); holds = h }
entry_at {P} version (e ∷ es) once (one_more h hs) t (inr i) = go (entry_at version es once.1 hs t i)
  where
    go : EntryAt P version es t → EntryAt P version (e ∷ es) t
    go r =
        record {
          entry = r.entry;
          slot_is = r.slot_is;
          here =
              pick_false (eqb t e.slot) _ _ (ne_eqb t e.slot (λ q. once.0 (subst (λ (x : ℕ). In x (basket_slots es)) q i))) ∙ r.here;
          holds = r.holds;
        }

pub made_record : (kind version key : ℕ) (value : List ℕ) → Record (content_of_record kind version key value) version key
unfolding content_of_record
made_record kind version key value = go (eqb kind 2)
  where
    go : (t : Bool) → Record (cond t (remove_record version key) (put_record version key value)) version key
    go true = remove-record version key
    go false = put-record version key value

pub made_key : (kind version key : ℕ) (value : List ℕ) → key_in (content_of_record kind version key value) ≡ key
unfolding content_of_record key_in
made_key kind version key value = go (eqb kind 2)
  where
    go : (t : Bool) → key_in (cond t (remove_record version key) (put_record version key value)) ≡ key
    go true = refl
    go false = refl
