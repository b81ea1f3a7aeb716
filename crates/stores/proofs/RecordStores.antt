-- What the functions that make a record's stores need: the words of a key, of line A, and the stores as two lists. Assumes nothing.
use mathlib.Core.Path.{◌≡◌, refl, sym, ap, ap₂, ◌∙◌}
use mathlib.Core.List.{List, [], ◌∷◌, ◌++◌}
use Prim.Native.Nat.{ℕ, zero, suc, ◌+◌, ◌-◌, ◌*◌, ◌/◌, ◌%◌, ◌^◌, ◌≤◌, ◌<◌}
use native.Mathlib.Nat.{div-one, mod-eq_of_lt}
use native.Mathlib.Omega.{arith}
use lib.Dec.{eqb, ltb}
use lib.ListN.{length}
use borrow.Author.Tests.{eq-eqb, ne_eqb, lt-ltb, le-ltb}
use Rattle.prelude.proofs.Choice.{pick_true, pick_false}
use Rattle.prelude.specs.Range.{tabulate}
use Rattle.layout.specs.Record.{Layout, key_with, key_word, kind_word, limit}
use Rattle.stores.specs.Store.{Store, zipped}
use Rattle.stores.specs.Written.{new_a, new_b, body_a, body_b, run, line_stores, record_stores}
use Rattle.stores.specs.inner.Written.{record_numbers, record_words}
use Rattle.stores.proofs.Placed.{placed_empty}

-- the two words of a key
pub key_low : (low high i : ℕ) → low < 2 ^ 64 → i ≡ 0 → low ≡ key_word (key_with low high) i
key_low low high i h e =
    sym (ap (key_word (key_with low high)) e ∙ ap (λ (x : ℕ). x % 2 ^ 64) (div-one (key_with low high)) ∙ omega arith)

-- a record without a value, whose kind word is w: the key, the kind word, and zeros
module _ (l key w i : ℕ) where
  pub in_key : (r : ℕ) → i < l + 1 → r ≡ key_word key (i - 1) → r ≡ body_a l key w 0 [] i
  unfolding body_a
  in_key r h e = e ∙ sym (pick_true (ltb i (l + 1)) _ _ (lt-ltb i (l + 1) h))

  pub in_kind : i ≡ l + 1 → w ≡ body_a l key w 0 [] i
  unfolding body_a
  in_kind h =
      sym (pick_false (ltb i (l + 1)) _ _ (le-ltb i (l + 1) (omega arith)) ∙ pick_true (eqb i (l + 1)) _ _ (eq-eqb i (l + 1) h) ∙ alone)
    where
      alone : kind_word w 0 0 ≡ w
      alone = omega arith

  pub past_kind : l + 1 < i → body_a l key w 0 [] i ≡ 0
  unfolding body_a
  past_kind h =
      pick_false (ltb i (l + 1)) _ _ (le-ltb i (l + 1) (omega arith)) ∙ pick_false (eqb i (l + 1)) _ _ (ne_eqb i (l + 1) (λ e. omega arith))
      ∙ placed_empty l (limit l / 8) i

-- its first word is the low key word
pub first_key : (l low high w : ℕ) → Layout l → low < 2 ^ 64 → body_a l (key_with low high) w 0 [] 1 ≡ low
first_key l low high w lay h =
    sym (in_key l (key_with low high) w 1 low (omega (arith, lay.low)) (key_low low high 0 h refl))

-- and line B has zeros
pub no_rest : (l i : ℕ) → body_b l [] i ≡ 0
unfolding body_b
no_rest l i = placed_empty l (limit l / 8) (8 + i)

-- ---- the stores as two lists

zipped-run : (base : ℕ) (words : ℕ → ℕ) (k n : ℕ) (at value : List ℕ)
    → zipped (tabulate (λ i. base + i) k n ++ at) (tabulate words k n ++ value) ≡ run base words k n ++ zipped at value
unfolding zipped tabulate run
zipped-run base words k zero at value = refl
zipped-run base words k (suc n) at value =
    ap (λ (ss : List Store). record { word = base + k; value = words k } ∷ ss) (zipped-run base words (suc k) n at value)

zipped_line : (n : ℕ) (words : ℕ → ℕ) → zipped (tabulate (λ i. 8 * n + i) 0 8) (tabulate words 0 8) ≡ line_stores n words
unfolding zipped tabulate run line_stores
zipped_line n words = refl

pub zipped_record : (l : ℕ) (m : ℕ → ℕ) (s key kind number : ℕ) (value : List ℕ) (version a b : ℕ) → a ≡ m (16 * s + 7) → b ≡ m (16 * s + 15)
    → (at words : List ℕ) → at ≡ record_numbers s → words ≡ record_words l a b key kind number value version
    → zipped at words ≡ record_stores l m s key kind number value version
unfolding record_numbers record_words record_stores line_stores
zipped_record l m s key kind number value version a b p q at words e f =
    ap₂ zipped e f
    ∙ zipped-run (8 * (2 * s)) (new_a l a key kind number value version) 0 8 (tabulate (λ i. 8 * (2 * s + 1) + i) 0 8) (tabulate (new_b l b value version) 0 8)
    ∙ ap (λ (ss : List Store). run (8 * (2 * s)) (new_a l a key kind number value version) 0 8 ++ ss)
    (zipped_line (2 * s + 1) (new_b l b value version))
    ∙ ap₂ (λ (x y : ℕ). record_at x y) (p ∙ ap m (omega arith)) (q ∙ ap m (omega arith))
  where
    record_at : ℕ → ℕ → List Store
    record_at x y =
        run (8 * (2 * s)) (new_a l x key kind number value version) 0 8 ++ run (8 * (2 * s + 1)) (new_b l y value version) 0 8
