-- The loop that makes stores: what is left to play is always the whole. Assumes nothing.
use mathlib.Core.Path.{◌≡◌, refl, sym, ap, ap₂, ◌∙◌}
use mathlib.Core.List.{List, [], ◌∷◌}
use Prim.Native.Nat.{ℕ, zero, suc, ◌+◌, ◌-◌, ◌≤◌, ◌<◌}
use native.Mathlib.Omega.{arith}
use native.Mathlib.Numerals.{add-one}
use lib.ListN.{length, get_or, take, drop}
use Rattle.words.specs.Word.{set_word}
use Rattle.words.proofs.Laws.{set_word-length}
use Rattle.stores.specs.Store.{Store, zipped, played}

abbrev pub store_at : (at value : List ℕ) → ℕ → Store
store_at at value k = record { word = get_or at k 0; value = get_or value k 0 }

zipped-drop : (at value : List ℕ) (k : ℕ) → k < length at → k < length value
    → drop k (zipped at value) ≡ store_at at value k ∷ drop (suc k) (zipped at value)
unfolding zipped
zipped-drop [] value k h l = absurd (omega arith)
zipped-drop (w ∷ at) [] k h l = absurd (omega arith)
zipped-drop (w ∷ at) (v ∷ value) zero h l = refl
zipped-drop (w ∷ at) (v ∷ value) (suc k) h l = zipped-drop at value k (omega arith) (omega arith)

-- the stores before k are made
pub record Making (at value image₀ image : List ℕ) (from count k : ℕ) : Type 0 where
  pub low : from ≤ k
  pub high : k ≤ from + count
  pub size : length image ≡ length image₀
  pub rest : played (take (from + count - k) (drop k (zipped at value))) image ≡ played (take count (drop from (zipped at value))) image₀

next_played : (at value image : List ℕ) (n k : ℕ) → 0 < n → k < length at → k < length value
    → played (take n (drop k (zipped at value))) image ≡
    played (take (n - 1) (drop (suc k) (zipped at value))) (set_word image (get_or at k 0) (get_or value k 0))
unfolding played
next_played at value image zero k p h l = absurd (omega arith)
next_played at value image (suc n) k p h l =
    ap (λ (ss : List Store). played (take (suc n) ss) image) (zipped-drop at value k h l)
    ∙ ap (λ (j : ℕ). played (take j (drop (suc k) (zipped at value))) (set_word image (get_or at k 0) (get_or value k 0))) one
  where
    one : n ≡ suc n - 1
    one = omega arith

pub making_next : (at value image₀ image image' : List ℕ) (from count k : ℕ) → Making at value image₀ image from count k → k < from + count
    → from + count ≤ length at → from + count ≤ length value → image' ≡ set_word image (get_or at k 0) (get_or value k 0)
    → Making at value image₀ image' from count (k + 1)
making_next at value image₀ image image' from count k g h p q e =
    record {
      low = omega (arith, g.low);
      high = omega arith;
      size = ap length e ∙ set_word-length image (get_or at k 0) (get_or value k 0) ∙ g.size;
      rest =
          ap₂ (λ (n : ℕ) (t : List ℕ). played (take n (drop (k + 1) (zipped at value))) t) fewer e
          ∙ ap (λ (j : ℕ). played (take (from + count - k - 1) (drop j (zipped at value))) (set_word image (get_or at k 0) (get_or value k 0))) (add-one k)
          ∙ sym (next_played at value image (from + count - k) k (omega arith) (omega arith) (omega arith))
          ∙ g.rest;
    }
  where
    fewer : from + count - (k + 1) ≡ from + count - k - 1
    fewer = omega arith

pub making_end : (at value image₀ image : List ℕ) (from count k : ℕ) → Making at value image₀ image from count k → from + count ≤ k
    → image ≡ played (take count (drop from (zipped at value))) image₀
unfolding played
making_end at value image₀ image from count k g h =
    sym (ap (λ (n : ℕ). played (take n (drop k (zipped at value))) image) none) ∙ g.rest
  where
    none : from + count - k ≡ 0
    none = omega arith
