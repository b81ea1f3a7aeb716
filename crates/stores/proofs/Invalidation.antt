-- THE OPENING LAW: what one invalidating store for each of these slots makes of the slots, whatever a cut leaves of them. Assumes nothing.
use mathlib.Core.Path.{◌≡◌, refl, sym, ap, ap₂, ◌∙◌}
use mathlib.Core.Logic.{inl, inr}
use mathlib.Core.List.{List, [], ◌∷◌}
use Prim.Native.Nat.{ℕ, ◌+◌, ◌*◌, ◌/◌, ◌≤◌}
use native.Mathlib.Omega.{arith}
use lib.ListN.{length}
use Rattle.words.specs.Word.{word}
use Rattle.prelude.specs.Members.{In, Once}
use Rattle.prelude.proofs.Lists.{in_at}
use Rattle.layout.specs.Record.{Layout}
use Rattle.layout.specs.Content.{broken, content}
use Rattle.stores.specs.Store.{Store, played, standing, on_line}
use Rattle.stores.specs.Invalidation.{invalidating_store, invalidating_stores}
use Rattle.stores.specs.Cut.{after_cut, AllInvalidated}
use Rattle.stores.proofs.defs.Cut.{Avoids, Opens, opens, StoresInside, nil_in, cons_in}
use Rattle.stores.proofs.StandingStores.{on_hit, on_miss}
use Rattle.stores.proofs.Opened.{slot_opened}
use Rattle.stores.proofs.Confined.{confined_to, eight_stand}
use Rattle.stores.proofs.Bytes.{struck_words}

module _ (m : ℕ → ℕ) where
  -- ---- which stores of the list are of a line

  invalidating_off : (slots : List ℕ) (n : ℕ) → ((s : ℕ) → In s slots → 2 * s ≡ n → ⊥) → on_line n (invalidating_stores m slots) ≡ []
  unfolding invalidating_stores invalidating_store on_line
  invalidating_off [] n h = refl
  invalidating_off (s ∷ slots) n h =
      on_miss n (invalidating_store m s) (invalidating_stores m slots) (λ (e : 16 * s / 8 ≡ n). h s (inl refl) (omega arith))
      ∙ invalidating_off slots n (λ t i. h t (inr i))

  invalidating_spares : (slots : List ℕ) (t : ℕ) → (In t slots → ⊥) → Avoids (invalidating_stores m slots) t
  invalidating_spares slots t h =
      record {
        line_A = invalidating_off slots (2 * t) (λ s i (e : 2 * s ≡ 2 * t). h (in_at s t slots (omega arith) i));
        line_B = invalidating_off slots (2 * t + 1) (λ s i (e : 2 * s ≡ 2 * t + 1). omega arith);
      }

  -- ---- the list opens each of its slots

  invalidating_A : (slots : List ℕ) → Once slots → (s : ℕ) → In s slots → on_line (2 * s) (invalidating_stores m slots) ≡ invalidating_store m s ∷ []
  unfolding invalidating_stores invalidating_store
  invalidating_A [] once s x'' = elim x'' [ ]
  invalidating_A (x ∷ slots) once s (inl q) =
      on_hit (2 * s) (invalidating_store m x) (invalidating_stores m slots) (omega arith)
      ∙ ap₂ (λ (t : ℕ) (r : List Store). invalidating_store m t ∷ r) (sym q)
      (invalidating_spares slots s (λ i. once.0 (in_at s x slots q i))).line_A
  invalidating_A (x ∷ slots) once s (inr i) =
      on_miss (2 * s) (invalidating_store m x) (invalidating_stores m slots) (λ (e : 16 * x / 8 ≡ 2 * s). once.0 (in_at s x slots (omega arith) i))
      ∙ invalidating_A slots once.1 s i

  invalidating_opens : (slots : List ℕ) → Once slots → (s : ℕ) → In s slots → Opens m (invalidating_stores m slots) s
  invalidating_opens slots once s i =
      record { line_A = invalidating_A slots once s i; line_B = invalidating_off slots (2 * s + 1) (λ t j (e : 2 * t ≡ 2 * s + 1). omega arith) }

  -- ---- the law

  module _ (l : ℕ) (slots : List ℕ) (once : Once slots) where
    -- THE OPENING LAW: no slot of the list is broken
    pub invalidating_law : Layout l → ((s : ℕ) → In s slots → (t : ℕ) → content l m s ≡ broken t → ⊥) → (counts : ℕ → ℕ)
        → AllInvalidated l m (after_cut counts (invalidating_stores m slots) m) slots counts
    invalidating_law lay sound counts =
        record {
          each = λ s i. slot_opened l counts m (invalidating_stores m slots) s (invalidating_opens slots once s i) lay (sound s i);
          rest =
              confined_to l counts m (invalidating_stores m slots) slots (invalidating_spares slots) (λ s i. opens (invalidating_opens slots once s i));
        }

    -- with a count of 8 for each line all the stores stand
    pub invalidating_all : standing (λ n. 8) (invalidating_stores m slots) ≡ invalidating_stores m slots
    invalidating_all =
        eight_stand l (λ n. 8) m (invalidating_stores m slots) slots (invalidating_spares slots) (λ s i. opens (invalidating_opens slots once s i))

  -- ---- on bytes

  pub invalidating_inside : (n : ℕ) (slots : List ℕ) → ((s : ℕ) → In s slots → 128 * (s + 1) ≤ n) → StoresInside n (invalidating_stores m slots)
  unfolding invalidating_stores invalidating_store
  invalidating_inside n [] h = nil_in
  invalidating_inside n (s ∷ slots) h =
      cons_in {s = invalidating_store m s} (omega (arith, h s (inl refl))) (omega arith) (invalidating_inside n slots (λ t i. h t (inr i)))

-- THE OPENING LAW on bytes
pub invalidating_image_law : (l : ℕ) (counts : ℕ → ℕ) (img : List ℕ) (slots : List ℕ) → Once slots → Layout l
    → ((s : ℕ) → In s slots → (t : ℕ) → content l (word img) s ≡ broken t → ⊥) → ((s : ℕ) → In s slots → 128 * (s + 1) ≤ length img)
    → AllInvalidated l (word img) (word (played (standing counts (invalidating_stores (word img) slots)) img)) slots counts
invalidating_image_law l counts img slots once lay sound room =
    rw (struck_words counts img (invalidating_inside (word img) (length img) slots room)) (invalidating_law (word img) l slots once lay sound counts)
