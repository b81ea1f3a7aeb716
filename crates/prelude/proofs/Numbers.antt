-- Rows of refusals whose numbers are among those of a list, and the calls that they refuse. Assumes nothing.
use mathlib.Core.Path.{◌≡◌, refl, sym, subst}
use mathlib.Core.Bool.{Bool, true, false}
use mathlib.Core.Logic.{inl, inr}
use mathlib.Core.List.{List}
use Prim.Native.Nat.{ℕ, zero, suc}
use native.Mathlib.Omega.{arith}
use Rattle.prelude.specs.Members.{In}
use Rattle.prelude.specs.Refusal.{refuse_if, or_else, unless_refused}
use Rattle.prelude.specs.Answer.{Answer, refused}
use Rattle.prelude.specs.Numbers.{Numbered, ZeroOrOneOf}
use Rattle.prelude.proofs.defs.Among.{is_one, are_among}
use Rattle.prelude.proofs.Among.{one_of, among}

module _ (ks : List ℕ) where
  pub none_due : ZeroOrOneOf ks 0
  none_due = inl refl

  pub refuse_if_due : (t : Bool) (k later : ℕ) → In k ks → ZeroOrOneOf ks later → ZeroOrOneOf ks (refuse_if t k later)
  unfolding refuse_if
  refuse_if_due true k later i d = inr i
  refuse_if_due false k later i d = d

  -- a number of the list, by computing, and what comes after it
  pub one_due : (t : Bool) (k later : ℕ) → is_one k ks ≡ true → ZeroOrOneOf ks later → ZeroOrOneOf ks (refuse_if t k later)
  one_due t k later e d = refuse_if_due t k later (one_of k ks e) d

  pub else_due : (k later : ℕ) → ZeroOrOneOf ks k → ZeroOrOneOf ks later → ZeroOrOneOf ks (or_else k later)
  unfolding or_else
  else_due zero later d e = e
  else_due (suc k) later d e = d

-- numbers of one list are among those of another
pub due_among : (xs ys : List ℕ) → are_among xs ys ≡ true → (k : ℕ) → ZeroOrOneOf xs k → ZeroOrOneOf ys k
due_among xs ys e k (inl z) = inl z
due_among xs ys e k (inr i) = inr (among xs ys e k i)

-- a call that is refused where its fault is not 0
module _ {A : Type 0} (ks : List ℕ) (answer : A → Answer) (refusing : ℕ → A) (told : (k : ℕ) → answer (refusing k) ≡ refused k) where
  pub numbered : (fault : ℕ) → ZeroOrOneOf ks fault → (new : A) → Numbered ks (answer new)
      → Numbered ks (answer (unless_refused fault new (refusing fault)))
  unfolding unless_refused
  numbered zero d new p = p
  numbered (suc k) (inl e) new p = absurd (omega arith)
  numbered (suc k) (inr i) new p = subst (Numbered ks) (sym (told (suc k))) i
