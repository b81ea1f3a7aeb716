-- THE BASKET LAW: what the stores of several records, each for a slot of its own, make of the slots, whatever a cut leaves of them. Assumes nothing.
use mathlib.Core.Path.{◌≡◌, refl, sym, ap₂, ◌∙◌, subst}
use mathlib.Core.Logic.{inl, inr}
use mathlib.Core.List.{List, [], ◌∷◌, ◌++◌, append-nil}
use Prim.Native.Nat.{ℕ, ◌+◌, ◌*◌, ◌/◌, ◌^◌, ◌≤◌, ◌<◌}
use native.Mathlib.Omega.{arith}
use lib.ListN.{length}
use Rattle.words.specs.Word.{word}
use Rattle.prelude.specs.Members.{All, none_left, one_more, In, Once}
use Rattle.stores.specs.Store.{Store, played, standing, on_line}
use Rattle.stores.specs.Basket.{BasketRecord, basket_slots, basket_stores}
use Rattle.stores.specs.Cut.{after_cut, SlotWritten, LawfulRecord, AllWritten}
use Rattle.stores.proofs.defs.Cut.{Carries, Avoids, SlotStores, carries, StoresInside, nil_in}
use Rattle.stores.proofs.Line.{on_append}
use Rattle.stores.proofs.SlotStores.{carried}
use Rattle.stores.proofs.Confined.{confined_to}
use Rattle.stores.proofs.Table.{record_carries, record_off, record_spares}
use Rattle.stores.proofs.Bytes.{struck_words, append_inside, record_inside}

off_none : (n : ℕ) → on_line n [] ≡ []
unfolding on_line
off_none n = refl

off_both : (n : ℕ) (x y : List Store) → on_line n x ≡ [] → on_line n y ≡ [] → on_line n (x ++ y) ≡ []
off_both n x y p q = on_append n x y ∙ ap₂ (λ (s t : List Store). s ++ t) p q

module _ (l : ℕ) (m : ℕ → ℕ) (number version : ℕ) where
  -- ---- which stores of the list are of a line

  pub basket_off : (es : List BasketRecord) (n : ℕ) → (In (n / 2) (basket_slots es) → ⊥) → on_line n (basket_stores l m number version es) ≡ []
  unfolding basket_stores basket_slots
  basket_off [] n h = off_none n
  basket_off (e ∷ es) n h = off_both n _ _ (record_off _ _ _ _ _ _ _ _ n (λ q. h (inl q))) (basket_off es n (λ i. h (inr i)))

  basket_spares : (es : List BasketRecord) (t : ℕ) → (In t (basket_slots es) → ⊥) → Avoids (basket_stores l m number version es) t
  basket_spares es t h =
      record {
        line_A = basket_off es (2 * t) (λ i. h (subst (λ (x : ℕ). In x (basket_slots es)) first i));
        line_B = basket_off es (2 * t + 1) (λ i. h (subst (λ (x : ℕ). In x (basket_slots es)) second i));
      }
    where
      first : 2 * t / 2 ≡ t
      first = omega arith

      second : (2 * t + 1) / 2 ≡ t
      second = omega arith

  -- ---- the list carries each of its records

  abbrev pub Holds : List Store → BasketRecord → Type 0
  Holds ss e = Carries l m ss e.slot e.key e.kind number e.value version

  in-front : (x ss : List Store) (e : BasketRecord) → Holds x e → Avoids ss e.slot → Holds (x ++ ss) e
  in-front x ss e has none =
      record {
        line_A = on_append (2 * e.slot) x ss ∙ ap₂ (λ (p q : List Store). p ++ q) has.line_A none.line_A ∙ append-nil _;
        line_B = on_append (2 * e.slot + 1) x ss ∙ ap₂ (λ (p q : List Store). p ++ q) has.line_B none.line_B ∙ append-nil _;
      }

  behind : (x ss : List Store) (e : BasketRecord) → Avoids x e.slot → Holds ss e → Holds (x ++ ss) e
  behind x ss e none has =
      record {
        line_A = on_append (2 * e.slot) x ss ∙ ap₂ (λ (p q : List Store). p ++ q) none.line_A has.line_A;
        line_B = on_append (2 * e.slot + 1) x ss ∙ ap₂ (λ (p q : List Store). p ++ q) none.line_B has.line_B;
      }

  all_behind : (x ss : List Store) {es : List BasketRecord} → ((t : ℕ) → In t (basket_slots es) → Avoids x t) → All (Holds ss) es → All (Holds (x ++ ss)) es
  unfolding basket_slots
  all_behind x ss h none_left = none_left
  all_behind x ss h (one_more {x = e} has more) =
      one_more (behind x ss e (h e.slot (inl refl)) has) (all_behind x ss (λ t i. h t (inr i)) more)

  pub basket_holds : (es : List BasketRecord) → Once (basket_slots es) → All (Holds (basket_stores l m number version es)) es
  unfolding basket_stores basket_slots
  basket_holds [] once = none_left
  basket_holds (e ∷ es) once =
      one_more
      (in-front _ _ e (record_carries l m e.slot e.key e.kind number e.value version) (basket_spares es e.slot once.0))
      (all_behind _ _
      (λ t i.
      record_spares l m e.slot e.key e.kind number e.value version t
      (λ (q : t ≡ e.slot). once.0 (subst (λ (x : ℕ). In x (basket_slots es)) q i)))
      (basket_holds es once.1))

  -- ---- the law

  module _ (counts : ℕ → ℕ) (ss : List Store) where
    each_written : {es : List BasketRecord} → All (Holds ss) es → All (LawfulRecord l m number version) es
        → All (λ (e : BasketRecord). SlotWritten l m (after_cut counts ss m) e.slot e.key e.kind number e.value version (counts (2 * e.slot))
        (counts (2 * e.slot + 1))) es
    each_written none_left none_left = none_left
    each_written (one_more {x = e} has more) (one_more fine rest) =
        one_more (carried l counts m ss e.slot e.key e.kind number e.value version has fine.fields fine.above)
        (each_written more rest)

  into_slot : (ss : List Store) {es : List BasketRecord} → All (Holds ss) es → All (LawfulRecord l m number version) es
      → (t : ℕ) → In t (basket_slots es) → SlotStores l m ss t
  unfolding basket_slots
  into_slot ss none_left _ t x6 = elim x6 [ ]
  into_slot ss (one_more {x = e} has more) (one_more fine rest) t (inl q) =
      subst (SlotStores l m ss) (sym q)
      (carries e.key e.kind number e.value version has fine.fields fine.lawful fine.above)
  into_slot ss (one_more has more) (one_more fine rest) t (inr i) = into_slot ss more rest t i

  module _ (es : List BasketRecord) (once : Once (basket_slots es)) (fine : All (LawfulRecord l m number version) es) where
    -- THE BASKET LAW
    pub basket_law : (counts : ℕ → ℕ) → AllWritten l m (after_cut counts (basket_stores l m number version es) m) number version es counts
    basket_law counts =
        record {
          each = each_written counts _ (basket_holds es once) fine;
          rest =
              confined_to l counts m (basket_stores l m number version es) (basket_slots es) (basket_spares es)
              (into_slot _ (basket_holds es once) fine);
        }

  -- ---- on bytes

  pub basket_inside : {es : List BasketRecord} (n : ℕ) → version < 2 ^ 63 → All (LawfulRecord l m number version) es
      → All (λ (e : BasketRecord). 128 * (e.slot + 1) ≤ n) es
      → StoresInside n (basket_stores l m number version es)
  unfolding basket_stores
  basket_inside n small none_left none_left = nil_in
  basket_inside n small (one_more {x = e} fine rest) (one_more room more) =
      append_inside (record_inside n l m e.slot e.key e.kind number e.value version fine.fields small room)
      (basket_inside n small rest more)

-- THE BASKET LAW on bytes
pub basket_image_law : (l : ℕ) (counts : ℕ → ℕ) (img : List ℕ) (number version : ℕ) (es : List BasketRecord) → Once (basket_slots es)
    → All (LawfulRecord l (word img) number version) es → version < 2 ^ 63 → All (λ (e : BasketRecord). 128 * (e.slot + 1) ≤ length img) es
    → AllWritten l (word img) (word (played (standing counts (basket_stores l (word img) number version es)) img)) number version es counts
basket_image_law l counts img number version es once fine small room =
    rw (struck_words counts img (basket_inside l (word img) number version (length img) small fine room))
    (basket_law l (word img) number version es once fine counts)
