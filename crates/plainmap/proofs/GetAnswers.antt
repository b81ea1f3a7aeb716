-- A get where the image is accepted and the index is its own: it answers as the plain map does. Assumes nothing.
use mathlib.Core.Path.{◌≡◌, refl, sym, ap, ap₂, ◌∙◌}
use mathlib.Core.Bool.{true}
use mathlib.Core.Option.{Option, some, none}
use mathlib.Core.List.{List, [], ◌∷◌, ◌++◌}
use Prim.Native.Nat.{ℕ, zero, suc}
use native.Mathlib.Omega.{arith}
use lib.ListN.{length, drop}
use borrow.Author.Tests.{le-ltb}
use Rattle.prelude.specs.Refusal.{unless_refused}
use Rattle.prelude.specs.Answer.{gives, absent, refused, refusal_in}
use Rattle.prelude.proofs.Refusals.{refuse_if-false, taken_leaves}
use Rattle.layout.specs.Content.{Table}
use Rattle.table.specs.Complete.{table_of}
use Rattle.table.specs.Table.{value_in, map_of, live}
use Rattle.prelude.specs.Members.{Slot}
use Rattle.index.specs.Index.{Chain}
use Rattle.index.specs.Walk.{search}
use Rattle.index.specs.declared.Found.{Found}
use Rattle.calls.specs.Compared.{key_compared}
use Rattle.calls.specs.Get.{get_done, get_result}
use Rattle.calls.specs.Result.{ReadOnlyResult}
use Rattle.plainmap.specs.World.{World, get, out_of, call_result, reads_only}
use Rattle.layout.specs.Size.{slots_in}
use Rattle.plainmap.specs.Plain.{rule_fault, length_answer, filled, plain_answer, plain_out}
use Rattle.plainmap.specs.Accepted.{Accepted}
use Rattle.plainmap.specs.Consistency.{IndexConsistent}
use Rattle.plainmap.specs.Claims.{slots_map, expected_refusal, CallCorrect, Reads, Unchanged}
use Rattle.plainmap.proofs.AcceptedImages.{accepted_right}
use Rattle.plainmap.proofs.Sees.{Sees, sees_held, sees_absent, sound_sees}
use Rattle.plainmap.proofs.Values.{KeepsValue, live_keeps, accepted_fits}
use Rattle.plainmap.proofs.Compares.{few_compared, counts_place}
use Rattle.plainmap.proofs.Refuses.{get-fault}
use Rattle.plainmap.proofs.Rights.{gives-absent}

-- what a get leaves that is not refused, where the map has o for its key
abbrev gotten : Option (List ℕ) → (out : List ℕ) → (count : ℕ) → ReadOnlyResult
gotten o out count = record { answer = length_answer o; out = filled o out; compared = count }

-- and one that is refused with this number
abbrev denied : ℕ → (out : List ℕ) → (count : ℕ) → ReadOnlyResult
denied k out count = record { answer = refused k; out = out; compared = count }

get-done : (l : ℕ) (image : List ℕ) (f : Table) (n key : ℕ) (chain out : List ℕ)
    → ((t : ℕ) (v : List ℕ) → Slot n t → live f n t ≡ true → value_in (f t) ≡ some v → KeepsValue l image t v)
    → (count : ℕ) (found : Found) → Sees f n key chain found → get_done l image out count found ≡ gotten (map_of f n key) out count
unfolding get_done length_answer filled
get-done l image f n key chain out keeps count found (sees_held xs ys v d p i q e m u) =
    let k = keeps _ v i e u in
    ap₂ (λ (x : List ℕ) (c : ℕ). record { answer = gives (c ∷ []); out = x ++ drop c out; compared = count }) k.value k.size
    ∙ sym (ap (λ (o : Option (List ℕ)). gotten o out count) m)
get-done l image f n key chain out keeps count found (sees_absent p m) = sym (ap (λ (o : Option (List ℕ)). gotten o out count) m)

-- the number in what a get answers
refusal_is : (k : ℕ) (o : Option (List ℕ)) (out : List ℕ) (count : ℕ) → refusal_in (unless_refused k (gotten o out count) (denied k out count)).answer ≡ k
unfolding refusal_in unless_refused length_answer
refusal_is (suc k) o out count = refl
refusal_is zero none out count = refl
refusal_is zero (some v) out count = refl

-- an output that is kept: the get was refused, or absent
kept_refused : (k : ℕ) (o : Option (List ℕ)) (out : List ℕ) (count : ℕ) → (k ≡ 0 → ⊥) → (unless_refused k (gotten o out count) (denied k out count)).out ≡ out
unfolding unless_refused
kept_refused zero o out count ne = absurd (ne refl)
kept_refused (suc k) o out count ne = refl

kept_absent : (k : ℕ) (o : Option (List ℕ)) (out : List ℕ) (count : ℕ) → (unless_refused k (gotten o out count) (denied k out count)).answer ≡ absent
    → (unless_refused k (gotten o out count) (denied k out count)).out ≡ out
unfolding unless_refused length_answer filled
kept_absent (suc k) o out count e = refl
kept_absent zero none out count e = refl
kept_absent zero (some v) out count e = absurd (gives-absent _ e)

module _ (l : ℕ) (w : World) (chains : Chain → List ℕ) (a : Accepted l w.image) (s : IndexConsistent l w chains) where
  abbrev count : ℕ → ℕ
  count key = key_compared l w.image w.index.heads w.index.next key

  -- THE RESULT of a get
  get-result : (key : ℕ) (out : List ℕ)
      → get_result l w.image w.index.heads w.index.next key out
      ≡ unless_refused (expected_refusal l w (slots_map l w.image) (get key out)) (gotten (slots_map l w.image key) out (count key))
      (denied (expected_refusal l w (slots_map l w.image) (get key out)) out (count key))
  unfolding get_result
  get-result key out =
      ap (λ (k : ℕ). unless_refused k (get_done l w.image out (count key) (search l w.image w.index.heads w.index.next key))
      (denied k out (count key)))
      (get-fault l w chains a s key out)
      ∙ ap (λ (r : ReadOnlyResult). unless_refused (expected_refusal l w (slots_map l w.image) (get key out)) r
      (denied (expected_refusal l w (slots_map l w.image) (get key out)) out (count key)))
      (get-done l w.image (table_of l w.image) (slots_in w.image) key _ out
      (live_keeps l w.image (accepted_right l w.image a)) (count key) _ (sound_sees l w chains s key))

  get_taken : (key : ℕ) (out : List ℕ) → expected_refusal l w (slots_map l w.image) (get key out) ≡ 0
      → get_result l w.image w.index.heads w.index.next key out ≡ gotten (slots_map l w.image key) out (count key)
  get_taken key out z = get-result key out ∙ taken_leaves _ _ _ z

  -- EVERY KEY: a get with room for any value gives what the map of the slots has
  pub sound_reads : Reads l w (slots_map l w.image)
  unfolding rule_fault
  sound_reads key out h =
      let e = get_taken key out (refuse_if-false _ 13 0 (le-ltb (length out) _ (omega (arith, accepted_fits l w.image a key)))) in
      (ap (λ (r : ReadOnlyResult). r.answer) e, ap (λ (r : ReadOnlyResult). r.out) e)

  still : (key : ℕ) (out : List ℕ) → (get_result l w.image w.index.heads w.index.next key out).out ≡ out
      → Unchanged w out (call_result l w (get key out))
  unfolding call_result reads_only out_of
  still key out e = record { out_kept = e; no_stores = refl; index_kept = refl }

  -- GET is refused and answers right, and changes nothing
  pub get_right : (key : ℕ) (out : List ℕ) → CallCorrect l w (slots_map l w.image) (get key out)
  unfolding call_result reads_only plain_answer plain_out out_of
  get_right key out =
      record {
        refusal =
            ap (λ (r : ReadOnlyResult). refusal_in r.answer) (get-result key out)
            ∙ refusal_is (expected_refusal l w (slots_map l w.image) (get key out)) (slots_map l w.image key) out _;
        answer = λ z. ap (λ (r : ReadOnlyResult). r.answer) (get_taken key out z);
        out = λ z. ap (λ (r : ReadOnlyResult). r.out) (get_taken key out z);
        refused_still = λ ne. still key out (ap (λ (r : ReadOnlyResult). r.out) (get-result key out) ∙ kept_refused _ _ out _ ne);
        absent_still = λ e.
            still key out
            (ap (λ (r : ReadOnlyResult). r.out) (get-result key out)
            ∙ kept_absent (expected_refusal l w (slots_map l w.image) (get key out)) (slots_map l w.image key) out _
            (sym (ap (λ (r : ReadOnlyResult). r.answer) (get-result key out)) ∙ e));
        few = few_compared l w chains s (get key out);
        place = counts_place l w chains s (get key out);
      }
