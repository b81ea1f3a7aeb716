-- Filling the two lent lists with stores, part by part: what is left to fill is always the whole; and the result of a
-- call that hands out stores. Assumes nothing.
use mathlib.Core.Path.{◌≡◌, refl, sym, ap, ap₂, ◌∙◌}
use mathlib.Core.List.{List, [], ◌∷◌, ◌++◌}
use Prim.Native.Nat.{ℕ, suc, ◌+◌, ◌-◌, ◌≤◌, ◌<◌}
use native.Mathlib.Numerals.{add-one}
use native.Mathlib.Omega.{arith}
use lib.ListN.{length, set, drop}
use lib.Seq.{sets}
use lib.Dec.{eqb}
use borrow.Author.Tests.{eq-eqb, ne_eqb}
use Rattle.prelude.specs.Answer.{gives, refused}
use Rattle.prelude.proofs.Choice.{pick_true, pick_false}
use Rattle.prelude.proofs.Refusals.{taken_leaves, refused_keeps}
use Rattle.layout.specs.Line.{first_word, last_word_of}
use Rattle.stores.specs.Store.{Store}
use Rattle.stores.specs.Play.{word_numbers, values}
use Rattle.stores.specs.Written.{marked, run}
use Rattle.prelude.proofs.Buffers.{sets_append, sets_first}
use Rattle.stores.proofs.Lists.{numbers-length, values_length, numbers_append, values_append, StoresFill, stores_begin, stores_on, stores_end}
use Rattle.std.specs.Prelude.{Result, Ok, Err}
use Rattle.std.specs.Result.{IsErrAnd}
use Rattle.refusals.specs.declared.Refusal.{Refusal}
use Rattle.refusals.specs.Number.{code_of}
use Rattle.message_log.specs.declared.LogStored.{LogStored}
use Rattle.message_log.specs.LogOutcome.{log_answer, log_end, handing}
use Rattle.message_log.specs.Append.{marked_body}
use Rattle.message_log.specs.inner.Needs.{Filled}

-- ---- stores after stores

-- two fillings, one after the other
pub filled_append : (at value at' value' at'' value'' : List ℕ) (k j : ℕ) (x y : List Store) → Filled at value at' value' k x → j ≡ k + length x
    → Filled at' value' at'' value'' j y → Filled at value at'' value'' k (x ++ y)
filled_append at value at' value' at'' value'' k j x y g e f =
    record {
      ats =
          f.ats ∙ ap₂ (λ (l : List ℕ) (n : ℕ). sets l n (word_numbers y)) g.ats (e ∙ ap (λ (n : ℕ). k + n) (sym (numbers-length x)))
          ∙ sym (ap (sets at k) (numbers_append x y) ∙ sets_append at (word_numbers x) (word_numbers y) k);
      vals =
          f.vals ∙ ap₂ (λ (l : List ℕ) (n : ℕ). sets l n (values y)) g.vals (e ∙ ap (λ (n : ℕ). k + n) (sym (values_length x)))
          ∙ sym (ap (sets value k) (values_append x y) ∙ sets_append value (values x) (values y) k);
    }

-- both lists as they are in the end
pub filled : {at value at' value' : List ℕ} {k : ℕ} {ss : List Store} → (at' ≡ sets at k (word_numbers ss)) × (value' ≡ sets value k (values ss))
    → Filled at value at' value' k ss
filled e = record { ats = e.0; vals = e.1 }

-- ---- the stores of a run

module _ (base : ℕ) (words : ℕ → ℕ) (count from : ℕ) (at₀ value₀ : List ℕ) where
  -- the first j stores are in the lists
  pub record RunFilling (j : ℕ) (at value : List ℕ) : Type 0 where
    pub place : j ≤ count
    pub left : StoresFill at₀ value₀ from (run base words 0 count) at value (from + j) (run base words j (count - j))

  pub fill_start : RunFilling 0 at₀ value₀
  fill_start = record { place = omega arith; left = stores_begin (omega arith) (ap (run base words 0) (let all : count - 0 ≡ count = omega arith in all)) }

  run_step : (j : ℕ) → j < count → run base words j (count - j) ≡ record { word = base + j; value = words j } ∷ run base words (j + 1) (count - (j + 1))
  unfolding run
  run_step j h =
      ap (run base words j) (let e : count - j ≡ suc (count - (j + 1)) = omega arith in e)
      ∙ ap (λ (x : ℕ). record { word = base + j; value = words j } ∷ run base words x (count - (j + 1))) (sym (add-one j))

  pub fill_next : (j : ℕ) (at value at' value' : List ℕ) (x w v : ℕ) → RunFilling j at value → j < count → x ≡ from + j → w ≡ base + j → v ≡ words j
      → at' ≡ set at x w → value' ≡ set value x v → RunFilling (j + 1) at' value'
  unfolding word_numbers values
  fill_next j at value at' value' x w v g h o p q e f =
      record {
        place = omega arith;
        left =
            stores_on g.left (record { word = base + j; value = words j } ∷ []) (run_step j h) (e ∙ ap₂ (set at) o p) (f ∙ ap₂ (set value) o q)
            (omega arith);
      }

  pub fill_end : (j : ℕ) (at value : List ℕ) → RunFilling j at value → count ≤ j → Filled at₀ value₀ at value from (run base words 0 count)
  unfolding run
  fill_end j at value g h = filled (stores_end g.left (ap (run base words j) (let none : count - j ≡ 0 = omega arith in none)))

-- ---- the result

-- a refusal that a `?` hands on
pub answer_handed : (e : Refusal) (r : Result LogStored Refusal) → IsErrAnd r (λ y. y ≡ e) → log_answer r ≡ refused (code_of e)
unfolding log_answer
answer_handed e (Ok stored) h = absurd h
answer_handed e (Err refusal) h = rw h refl

pub hand_refused : (fault number : ℕ) (ss : List Store) (at value : List ℕ) (f : ℕ) → f ≡ fault → (f ≡ 0 → ⊥)
    → log_end (refused f) at value ≡ handing fault number ss at value
unfolding handing
hand_refused fault number ss at value f e ne =
    ap (λ (x : ℕ). log_end (refused x) at value) e ∙ sym (refused_keeps _ (log_end (refused fault) at value) fault (λ z. ne (e ∙ z)))

front : (vs l : List ℕ) (n : ℕ) → length vs ≡ n → n ≤ length l → sets l 0 vs ≡ vs ++ drop n l
front vs l n e h = sets_first l vs (omega arith) ∙ ap (λ (k : ℕ). vs ++ drop k l) e

pub hand_done : (fault number : ℕ) (ss : List Store) (at value at' value' : List ℕ) (s count : ℕ) → fault ≡ 0 → s ≡ number → count ≡ length ss
    → Filled at value at' value' 0 ss → length ss ≤ length at → length ss ≤ length value
    → log_end (gives (s ∷ count ∷ [])) at' value' ≡ handing fault number ss at value
unfolding handing
hand_done fault number ss at value at' value' s count z p q f h l =
    ap₂ (λ (x y : ℕ). log_end (gives (x ∷ y ∷ [])) at' value') p q
    ∙ ap₂ (λ (x y : List ℕ). log_end (gives (number ∷ length ss ∷ [])) x y)
    (f.ats ∙ front (word_numbers ss) at (length ss) (numbers-length ss) h)
    (f.vals ∙ front (values ss) value (length ss) (values_length ss) l)
    ∙ sym (taken_leaves _ (log_end (refused fault) at value) fault z)

-- ---- the words of a marked line

module _ (stamp number size w i : ℕ) where
  pub word_first : (x : ℕ) → i ≡ 0 → x ≡ first_word stamp → x ≡ marked stamp number (marked_body size w) i
  unfolding marked
  word_first x e q = q ∙ sym (pick_true (eqb i 0) _ _ (eq-eqb i 0 e))

  module _ (n0 : i ≡ 0 → ⊥) where
    pub word_last : (x : ℕ) → i ≡ 7 → x ≡ last_word_of stamp number → x ≡ marked stamp number (marked_body size w) i
    unfolding marked
    word_last x e q = q ∙ sym (pick_false (eqb i 0) _ _ (ne_eqb i 0 n0) ∙ pick_true (eqb i 7) _ _ (eq-eqb i 7 e))

    module _ (n7 : i ≡ 7 → ⊥) where
      in_body : marked stamp number (marked_body size w) i ≡ marked_body size w i
      unfolding marked
      in_body = pick_false (eqb i 0) _ _ (ne_eqb i 0 n0) ∙ pick_false (eqb i 7) _ _ (ne_eqb i 7 n7)

      pub word_size : i ≡ 1 → size ≡ marked stamp number (marked_body size w) i
      unfolding marked_body
      word_size e = sym (in_body ∙ pick_true (eqb i 1) _ _ (eq-eqb i 1 e))

      pub word_pairs : (i ≡ 1 → ⊥) → i ≡ 2 → w ≡ marked stamp number (marked_body size w) i
      unfolding marked_body
      word_pairs n1 e = sym (in_body ∙ pick_false (eqb i 1) _ _ (ne_eqb i 1 n1) ∙ pick_true (eqb i 2) _ _ (eq-eqb i 2 e))

      pub word_zero : (i ≡ 1 → ⊥) → (i ≡ 2 → ⊥) → 0 ≡ marked stamp number (marked_body size w) i
      unfolding marked_body
      word_zero n1 n2 = sym (in_body ∙ pick_false (eqb i 1) _ _ (ne_eqb i 1 n1) ∙ pick_false (eqb i 2) _ _ (ne_eqb i 2 n2))
