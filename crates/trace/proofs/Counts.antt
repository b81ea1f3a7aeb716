-- What count_cuts answers, as a line of a trace prints it. Assumes nothing.
use mathlib.Core.Path.{◌≡◌, refl, sym, ap, ap₂, ◌∙◌}
use mathlib.Core.Bool.{Bool, true, false, cond}
use mathlib.Core.List.{List, [], ◌∷◌}
use Prim.Native.Nat.{ℕ, zero, suc}
use native.Mathlib.Omega.{arith}
use lib.ListN.{length}
use Rattle.prelude.specs.Refusal.{unless_refused}
use Rattle.prelude.specs.Answer.{Answer, gives, absent, refused, refusal_in}
use Rattle.interface.specs.Set.{Store, zipped, word_numbers, values, PlainMap, Call, CutCounts, CutCountResult, cut_count_end, cut_count_says, cut_count_result}
use Rattle.interface.specs.Set.{cut_count_fault, earlier_count, later_count}
use Rattle.interface.specs.CutCount.{is_equal_replace, expected_counts}
use Rattle.text.specs.Output.{Printed, counted, nothing, line_text, text}
use Rattle.session.proofs.Steps.{parts_zipped}
use Rattle.trace.specs.Step.{tried_counts}

-- the counts of an answer
abbrev pub said_by : Answer → Printed
said_by (gives []) = nothing
said_by (gives (a ∷ [])) = nothing
said_by (gives (a ∷ b ∷ [])) = counted a b
said_by (gives (a ∷ b ∷ c ∷ rest)) = nothing
said_by absent = nothing
said_by (refused number) = nothing

-- by the number that refuses it
by_fault : (k a b : ℕ) (copy later copy' later' : List ℕ)
    → said_by (unless_refused {A = CutCountResult} k (record { answer = gives (a ∷ b ∷ []); copy = copy'; later = later' })
    (record { answer = refused k; copy = copy; later = later })).answer ≡ unless_refused k (counted a b) nothing
unfolding unless_refused
by_fault zero a b copy later copy' later' = refl
by_fault (suc k) a b copy later copy' later' = refl

-- what is counted of stores in two lists of 16
pub counts_said : (image at value copy later : List ℕ) → length at ≡ length value
    → said_by (cut_count_result 1 image at value copy later).answer ≡ tried_counts image (zipped at value) (length copy) (length later)
unfolding cut_count_result tried_counts
counts_said image at value copy later e =
    by_fault _ _ _ copy later _ _
    ∙ ap₂ (λ (ws vs : List ℕ). unless_refused (cut_count_fault 1 image ws (length copy) (length later))
    (counted (earlier_count 1 image ws vs) (later_count 1 image ws vs)) nothing)
    (sym (parts_zipped at value e).0) (sym (parts_zipped at value e).1)

abbrev list_in : Answer → List ℕ
list_in (gives xs) = xs
list_in absent = []
list_in (refused number) = []

-- where the answer is given
given_counts : (k a b : ℕ) (copy later copy' later' given : List ℕ)
    → (unless_refused {A = CutCountResult} k (record { answer = gives (a ∷ b ∷ []); copy = copy'; later = later' })
    (record { answer = refused k; copy = copy; later = later })).answer ≡ gives given
    → (k ≡ 0) × (a ∷ b ∷ [] ≡ given)
unfolding unless_refused refusal_in
given_counts zero a b copy later copy' later' given e = (refl, ap list_in e)
given_counts (suc k) a b copy later copy' later' given e = absurd (let z : suc k ≡ 0 = ap refusal_in e in omega arith)

module _ (image : List ℕ) (ss : List Store) (copy later given : List ℕ)
    (e : (cut_count_result 1 image (word_numbers ss) (values ss) copy later).answer ≡ gives given) where
  parts : (cut_count_fault 1 image (word_numbers ss) (length copy) (length later) ≡ 0)
      × (earlier_count 1 image (word_numbers ss) (values ss) ∷ later_count 1 image (word_numbers ss) (values ss) ∷ [] ≡ given)
  unfolding cut_count_result
  parts = given_counts _ _ _ copy later _ _ given e

  -- the counts are those given
  pub counts_given : earlier_count 1 image (word_numbers ss) (values ss) ∷ later_count 1 image (word_numbers ss) (values ss) ∷ [] ≡ given
  counts_given = parts.1

  -- and they are printed
  pub counts-printed : text (tried_counts image ss (length copy) (length later)) ≡
      line_text (earlier_count 1 image (word_numbers ss) (values ss) ∷ later_count 1 image (word_numbers ss) (values ss) ∷ [])
  unfolding tried_counts text unless_refused
  counts-printed =
      ap (λ (k : ℕ). text (unless_refused k (counted (earlier_count 1 image (word_numbers ss) (values ss))
      (later_count 1 image (word_numbers ss) (values ss))) nothing))
      parts.0

-- the counts that `count_cuts` answered, for stores in two arrays of 16
pub tried : (image at value copy later copy' later' : List ℕ) (r s : CutCounts) → r ≡ s → length at ≡ 16 → length value ≡ 16
    → cut_count_end r copy' later' ≡ cut_count_result 1 image at value copy later
    → said_by (cut_count_says s) ≡ tried_counts image (zipped at value) (length copy) (length later)
tried image at value copy later copy' later' r s e words numbers f =
    ap (λ (x : CutCounts). said_by (cut_count_says x)) (sym e) ∙ ap (λ (x : CutCountResult). said_by x.answer) f
    ∙ counts_said image at value copy later (words ∙ sym numbers)
