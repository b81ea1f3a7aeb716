-- The answers of insert, replace and remove in a sound world: refused exactly where the rules refuse, and otherwise as the plain map answers. Assumes nothing.
use mathlib.Core.Path.{◌≡◌, refl, sym, ap, ◌∙◌}
use mathlib.Core.Bool.{true, Bool, false, cond, not}
use mathlib.Core.Option.{none, Option, some}
use mathlib.Core.List.{List, [], ◌∷◌}
use Prim.Native.Nat.{ℕ}
use native.Mathlib.Omega.{arith}
use lib.ListN.{length}
use Rattle.prelude.specs.Answer.{Answer, gives, absent, refused, refusal_in, refuses}
use Rattle.prelude.proofs.defs.Answer.{is_refusal}
use Rattle.layout.specs.Size.{slots_in}
use Rattle.table.specs.Table.{next_version, is_held}
use Rattle.table.specs.Complete.{table_of}
use Rattle.calls.specs.Change.{changed}
use Rattle.calls.specs.Result.{CallResult, unchanged}
use Rattle.plainmap.specs.World.{World, Call, out_of, call_result, call_key, write, remove, get, locate}
use Rattle.plainmap.specs.Plain.{plain_answer, plain_out, PlainMap, length_answer}
use Rattle.plainmap.specs.Claims.{slots_map, expected_refusal, expected_answer, FewCompared, CountsPlace, CallCorrect, Unchanged}
use Rattle.plainmap.proofs.Wrote.{Ran, ran_refused, ran_absent, ran_wrote}
use lib.Dec.{eqb}
use borrow.Author.Tests.{eqb-true, eqb-false}

pub gives-absent : (given : List ℕ) → gives given ≡ absent → ⊥
gives-absent given e = let z : ◌≡◌ {A = ℕ} 0 1 = cc in omega arith

module _
    (l : ℕ) (w : World) (call : Call) (key kind : ℕ) (value : List ℕ) (version : w.index.state.version ≡ next_version (table_of l w.image) (slots_in w.image))
    (stored :
    (kind ≡ 2 → is_held (slots_map l w.image key) ≡ true)
    → gives (w.index.state.first ∷ next_version (table_of l w.image) (slots_in w.image) ∷ []) ≡
    expected_answer l w (slots_map l w.image) call)
    (none_held :
    kind ≡ 2 → slots_map l w.image key ≡ none
    → absent ≡ expected_answer l w (slots_map l w.image) call)
    (no-out : [] ≡ plain_out (slots_map l w.image) call) (none_lent : [] ≡ out_of call)
    (few : FewCompared (slots_map l w.image) (length w.index.heads) (call_key call) (call_result l w call).compared) (place : CountsPlace l w call) where
  still : (answer : Answer) (count : ℕ) → call_result l w call ≡ unchanged answer w.index count
      → Unchanged w (out_of call) (call_result l w call)
  unfolding unchanged
  still answer count d =
      record {
        out_kept = ap (λ (c : CallResult). c.out) d ∙ none_lent;
        no_stores = ap (λ (c : CallResult). c.stores) d;
        index_kept = ap (λ (c : CallResult). c.index) d;
      }

  pub ran_right : (fault : ℕ) (r : CallResult) → call_result l w call ≡ r → Ran l w key kind value fault r
      → fault ≡ expected_refusal l w (slots_map l w.image) call → CallCorrect l w (slots_map l w.image) call
  unfolding unchanged changed refusal_in
  ran_right fault r e (ran_refused nz count q) due =
      let d = e ∙ q in
      record {
        refusal = ap (λ (c : CallResult). refusal_in c.answer) d ∙ due;
        answer = λ z. absurd (nz (due ∙ z));
        out = λ z. ap (λ (c : CallResult). c.out) d ∙ no-out;
        refused_still = λ x. still (refused fault) count d;
        absent_still = λ x. still (refused fault) count d;
        few = few;
        place = place;
      }
  ran_right fault r e (ran_absent z kd count q m) due =
      let d = e ∙ q in
      record {
        refusal = ap (λ (c : CallResult). refusal_in c.answer) d ∙ sym z ∙ due;
        answer = λ x. ap (λ (c : CallResult). c.answer) d ∙ none_held kd m;
        out = λ x. ap (λ (c : CallResult). c.out) d ∙ no-out;
        refused_still = λ x. absurd (x (sym due ∙ z));
        absent_still = λ x. still absent count d;
        few = few;
        place = place;
      }
  ran_right fault r e (ran_wrote z i alive count q wr held) due =
      let d = e ∙ q in
      record {
        refusal = ap (λ (c : CallResult). refusal_in c.answer) d ∙ sym z ∙ due;
        answer = λ x.
            ap (λ (c : CallResult). c.answer) d ∙ ap (λ (v : ℕ). gives (w.index.state.first ∷ v ∷ [])) version ∙ stored held;
        out = λ x. ap (λ (c : CallResult). c.out) d ∙ no-out;
        refused_still = λ x. absurd (x (sym due ∙ z));
        absent_still = λ x. absurd (gives-absent _ (sym (ap (λ (c : CallResult). c.answer) d) ∙ x));
        few = few;
        place = place;
      }

-- ---- the answer is a refusal exactly where the rules refuse

pub refusal_told : (answer : Answer) → (refusal_in answer ≡ 0 → ⊥) → is_refusal answer ≡ true
unfolding refusal_in is_refusal
refusal_told (gives values) ne = absurd (ne refl)
refusal_told absent ne = absurd (ne refl)
refusal_told (refused number) ne = refl

pub plain_given : (slot version : ℕ) (holder : ℕ → List ℕ) (m : PlainMap) (call : Call) → is_refusal (plain_answer slot version holder m call) ≡ false
unfolding plain_answer is_refusal length_answer
plain_given slot version holder m (write mode key value) = refl
plain_given slot version holder m (remove key) = go (is_held (m key))
  where
    go : (b : Bool) → is_refusal (cond b (gives (slot ∷ version ∷ [])) absent) ≡ false
    go true = refl
    go false = refl
plain_given slot version holder m (get key out) = go (m key)
  where
    go : (o : Option (List ℕ)) → is_refusal (length_answer o) ≡ false
    go none = refl
    go (some value) = refl
plain_given slot version holder m (locate key) = go (is_held (m key))
  where
    go : (b : Bool) → is_refusal (cond b (gives (holder key)) absent) ≡ false
    go true = refl
    go false = refl

pub right_refuses : (l : ℕ) (w : World) (m : PlainMap) (call : Call) → CallCorrect l w m call
    → is_refusal (call_result l w call).answer ≡ refuses (expected_refusal l w m call)
unfolding refuses
right_refuses l w m call r = go (eqb (expected_refusal l w m call) 0) refl
  where
    go : (b : Bool) → eqb (expected_refusal l w m call) 0 ≡ b → is_refusal (call_result l w call).answer ≡ not b
    go true e = ap is_refusal (r.answer (eqb-true _ 0 e)) ∙ plain_given _ _ _ m call
    go false e = refusal_told (call_result l w call).answer (λ z. eqb-false _ 0 e (sym r.refusal ∙ z))
