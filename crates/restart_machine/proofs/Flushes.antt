-- THE FLUSH FACT: a fence after the flush of every line that has a store makes all stores durable; and the program of
-- EachLine does its duties. Assumes nothing.
use mathlib.Core.Path.{◌≡◌, refl, sym, ap, ◌∙◌, subst}
use mathlib.Core.Bool.{Bool, true, false, cond}
use mathlib.Core.Logic.{◌⊎◌, inl, inr, by_cases, ⊎_elim}
use mathlib.Core.List.{List, [], ◌∷◌, ◌++◌}
use Prim.Native.Nat.{ℕ, zero, suc, ◌+◌, ◌*◌, ◌/◌, ◌≤◌, ◌<◌}
use native.Mathlib.Omega.{arith}
use native.Mathlib.Decide.{ℕ_discrete}
use lib.ListN.{length}
use lib.Dec.{eqb}
use borrow.Author.Tests.{eqb-true, eq-eqb}
use Rattle.prelude.specs.Members.{All, none_left, one_more}
use Rattle.prelude.specs.Filter.{any_in, is_among}
use Rattle.prelude.proofs.Choice.{pick_true, true-false}
use Rattle.stores.specs.Store.{Store, played, less, on_line, not_standing}
use Rattle.stores.proofs.StandingStores.{on_miss, on_few, all-stand}
use Rattle.restart_machine.specs.Machine.{Memory, seen, written_back, none_flushed, after_fence, Sufficient}
use Rattle.restart_machine.specs.EachLine.{store_lines, lines_to, all_lines, each_line}
use Rattle.restart_machine.proofs.WrittenBack.{all_gone}

-- ---- lines

among_first : (n : ℕ) (ns : List ℕ) → is_among n (n ∷ ns) ≡ true
unfolding is_among any_in
among_first n ns = pick_true (eqb n n) _ _ (eq-eqb n n refl)

among_more : (n k : ℕ) (ns : List ℕ) → is_among n ns ≡ true → is_among n (k ∷ ns) ≡ true
unfolding is_among any_in
among_more n k ns e = go (eqb k n)
  where
    go : (b : Bool) → cond b true (is_among n ns) ≡ true
    go true = refl
    go false = e

among_cons : (n k : ℕ) (ns : List ℕ) → is_among n (k ∷ ns) ≡ true → (k ≡ n) ⊎ (is_among n ns ≡ true)
unfolding is_among any_in
among_cons n k ns e = go (eqb k n) refl e
  where
    go : (b : Bool) → eqb k n ≡ b → cond b true (is_among n ns) ≡ true → (k ≡ n) ⊎ (is_among n ns ≡ true)
    go true q h = inl (eqb-true k n q)
    go false q h = inr h

among_none : (n : ℕ) → is_among n [] ≡ true → ⊥
unfolding is_among any_in
among_none n e = true-false e refl

-- each store's line is among the lines of the stores
lines_more : (s : Store) (ss : List Store) (n : ℕ) → is_among n (store_lines ss) ≡ true → is_among n (store_lines (s ∷ ss)) ≡ true
unfolding store_lines
lines_more s ss n e = go (is_among (s.word / 8) (store_lines ss))
  where
    go : (b : Bool) → is_among n (cond b (store_lines ss) (s.word / 8 ∷ store_lines ss)) ≡ true
    go true = e
    go false = among_more n (s.word / 8) (store_lines ss) e

lines_first : (s : Store) (ss : List Store) → is_among (s.word / 8) (store_lines (s ∷ ss)) ≡ true
unfolding store_lines
lines_first s ss = go (is_among (s.word / 8) (store_lines ss)) refl
  where
    go : (b : Bool) → is_among (s.word / 8) (store_lines ss) ≡ b → is_among (s.word / 8) (cond b (store_lines ss) (s.word / 8 ∷ store_lines ss)) ≡ true
    go true e = e
    go false e = among_first (s.word / 8) (store_lines ss)

pub all_map : {A : Type 0} {P Q : A → Type 0} {l : List A} → ((x : A) → P x → Q x) → All P l → All Q l
all_map f none_left = none_left
all_map f (one_more {x = x} p ps) = one_more (f x p) (all_map f ps)

lines_all : (ss : List Store) → All (λ (s : Store). is_among (s.word / 8) (store_lines ss) ≡ true) ss
lines_all [] = none_left
lines_all (s ∷ ss) = one_more (lines_first s ss) (all_map (λ t e. lines_more s ss (t.word / 8) e) (lines_all ss))

lines-to : (k i : ℕ) → i < k → is_among i (lines_to k) ≡ true
unfolding lines_to
lines-to zero i h = absurd (omega arith)
lines-to (suc k) i h =
    by_cases (ℕ_discrete k i)
    (λ e. subst (λ (x : ℕ). is_among i (x ∷ lines_to k) ≡ true) (sym e) (among_first i (lines_to k)))
    (λ ne. among_more i k (lines_to k) (lines-to k i (omega arith)))

-- each store inside the image is on one of its lines
all-lines : (len : ℕ) (s : Store) → 8 * s.word + 8 ≤ len → is_among (s.word / 8) (all_lines len) ≡ true
unfolding all_lines
all-lines len s h = lines-to _ (s.word / 8) (omega arith)

-- THE DUTIES ARE DONE by the program that flushes each line
pub each-line : Sufficient each_line
unfolding each_line
each-line =
    record {
      before-recovery = λ len ss inside. (all_map (all-lines len) inside, refl);
      after-recovery = λ ss. (lines_all ss, refl);
      after-request = λ ss. (lines_all ss, refl);
    }

-- ---- what is left of stores has what they all have

pub all_left : {P : Store → Type 0} (ss : List Store) (c : ℕ → ℕ) → All P ss → All P (not_standing c ss)
unfolding not_standing
all_left [] c none_left = none_left
all_left {P} (s ∷ ss) c (one_more p ps) = go (eqb (c (s.word / 8)) 0) (all_left ss c ps) (all_left ss (less (s.word / 8) c) ps)
  where
    go : (b : Bool) → All P (not_standing c ss) → All P (not_standing (less (s.word / 8) c) ss)
        → All P (cond b (s ∷ not_standing c ss) (not_standing (less (s.word / 8) c) ss))
    go true x y = one_more p x
    go false x y = y

pub all_append : {A : Type 0} {P : A → Type 0} (x y : List A) → All P (x ++ y) → All P x × All P y
all_append [] y a = (none_left, a)
all_append (e ∷ x) y (one_more p ps) = let q = all_append x y ps in (one_more p q.0, q.1)

-- ---- the fence

not_there : (n : ℕ) (flushed : List ℕ) (ss : List Store) → All (λ (s : Store). is_among (s.word / 8) flushed ≡ true) ss → is_among n flushed ≡ false
    → length (on_line n ss) ≤ 0
unfolding on_line
not_there n flushed [] none_left e = omega arith
not_there n flushed (s ∷ ss) (one_more p ps) e =
    omega (
      arith,
      not_there n flushed ss ps e,
      ap (λ (t : List Store). length t)
          (on_miss n s ss (λ q. true-false (ap (λ (x : ℕ). is_among x flushed) (sym q) ∙ p) e)),
    )

enough : (flushed : List ℕ) (ss : List Store) → All (λ (s : Store). is_among (s.word / 8) flushed ≡ true) ss
    → (n : ℕ) → length (on_line n ss) ≤ cond (is_among n flushed) (length ss) 0
enough flushed ss a n = go (is_among n flushed) refl
  where
    go : (b : Bool) → is_among n flushed ≡ b → length (on_line n ss) ≤ cond b (length ss) 0
    go true e = on_few n ss
    go false e = not_there n flushed ss a e

fenced : (mem : Memory) → All (λ (s : Store). is_among (s.word / 8) mem.flushed ≡ true) mem.pending
    → ((after_fence mem).durable ≡ seen mem) × ((after_fence mem).pending ≡ [])
unfolding after_fence none_flushed written_back seen
fenced mem a = (
  ap (λ (t : List Store). played t mem.durable) (all-stand mem.pending _ (enough mem.flushed mem.pending a)),
  all_gone mem.pending _ (enough mem.flushed mem.pending a),
)

-- ---- each line of the stores was flushed, or is one of those to be flushed

abbrev pub Covered : (flushed lines : List ℕ) → List Store → Type 0
Covered flushed lines ss = All (λ (s : Store). (is_among (s.word / 8) flushed ≡ true) ⊎ (is_among (s.word / 8) lines ≡ true)) ss

pub to_be_flushed : (flushed lines : List ℕ) (ss : List Store) → All (λ (s : Store). is_among (s.word / 8) lines ≡ true) ss → Covered flushed lines ss
to_be_flushed flushed lines ss a = all_map (λ s e. inr e) a

-- A FLUSH
pub covered_flush : (flushed : List ℕ) (k : ℕ) (lines : List ℕ) (ss : List Store) → Covered flushed (k ∷ lines) ss → Covered (k ∷ flushed) lines ss
covered_flush flushed k lines ss a = all_map (λ s e. each (s.word / 8) e) a
  where
    each : (i : ℕ) → (is_among i flushed ≡ true) ⊎ (is_among i (k ∷ lines) ≡ true) → (is_among i (k ∷ flushed) ≡ true) ⊎ (is_among i lines ≡ true)
    each i (inl e) = inl (among_more i k flushed e)
    each i (inr e) =
        ⊎_elim (λ q. inl (subst (λ (x : ℕ). is_among i (x ∷ flushed) ≡ true) (sym q) (among_first i flushed))) (λ q. inr q) (among_cons i k lines e)

-- A FENCE, once all lines are flushed, makes all stores durable
pub covered_fence : (mem : Memory) → Covered mem.flushed [] mem.pending → ((after_fence mem).durable ≡ seen mem) × ((after_fence mem).pending ≡ [])
covered_fence mem a = fenced mem (all_map (λ s e. ⊎_elim (λ x. x) (λ x. absurd (among_none (s.word / 8) x)) e) a)
