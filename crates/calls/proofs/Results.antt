-- The results of the calls, by what the lookup answers: refused, held or not held. Assumes nothing.
use mathlib.Core.Path.{◌≡◌, refl, sym, ap, ◌∙◌, subst}
use mathlib.Core.Bool.{Bool}
use mathlib.Core.List.{List, [], ◌∷◌, ◌++◌}
use Prim.Native.Nat.{ℕ, zero, suc, ◌+◌, ◌-◌}
use native.Mathlib.Omega.{arith}
use lib.ListN.{length, drop}
use Rattle.words.specs.Word.{word}
use Rattle.prelude.specs.Refusal.{unless_refused}
use Rattle.prelude.specs.Answer.{gives, absent, refused}
use Rattle.prelude.proofs.Refusals.{or_else_zero, taken_leaves, refused_keeps}
use Rattle.layout.specs.Size.{slots_in}
use Rattle.layout.specs.Line.{line_a, line_b}
use Rattle.layout.specs.Record.{value_front, value_of}
use Rattle.index.specs.Index.{Index, head_of}
use Rattle.index.specs.Walk.{search, chain_fault, compared_in}
use Rattle.calls.specs.Compared.{compared_after, key_compared}
use Rattle.allocation.specs.Allocation.{allocation_by}
use Rattle.index.specs.Change.{take_first}
use Rattle.index.specs.declared.Mode.{Mode}
use Rattle.index.specs.declared.Place.{Place}
use Rattle.index.specs.declared.Place.TheVariants.{Held, NotHeld}
use Rattle.index.specs.declared.Lookup.{Lookup}
use Rattle.index.specs.declared.Lookup.TheVariants.{Refused, Accepted}
use Rattle.index.specs.declared.Found.{Found}
use Rattle.index.specs.declared.Found.TheVariants.{At, Missing, BadChain}
use Rattle.calls.specs.Change.{changed, write_compared, write_later_fault, write_fault_by, write_done, write_unless, write_result_by, remove_later_fault}
use Rattle.calls.specs.Change.{remove_fault_by, remove_done, remove_unless, remove_result_by}
use Rattle.calls.specs.Result.{unchanged, ReadOnlyResult}
use Rattle.calls.specs.Get.{slot_length, get_later_fault, get_fault, get_done, get_result}
use Rattle.index.specs.inner.Parts.{insert_new, replace_held, remove_held, write_at, live_at}
use Rattle.index.specs.inner.Lookup.{lookup_by}
use Rattle.calls.specs.inner.Lookup.{lookup_of, LooksUp, WriteLookup, RemoveLookup, GetLookup}

-- what a lookup says of the call's refusal and of what was found
abbrev Says : (fault : ℕ) → Found → Lookup → Type 0
Says fault found (Refused number compared) = (fault ≡ number) × (fault ≡ 0 → ⊥)
Says fault found (Accepted (Held slot prev) compared) = (fault ≡ 0) × (found ≡ At slot prev compared)
Says fault found (Accepted (NotHeld prev) compared) = (fault ≡ 0) × (found ≡ Missing prev compared)

says : (fault lent : ℕ) (found : Found) → (fault ≡ 0 → lent ≡ 0) → (fault ≡ 0 → found ≡ BadChain → ⊥)
    → Says fault found (lookup_of fault lent found)
unfolding lookup_of lookup_by unless_refused
says zero zero (At slot prev compared) first bad = (refl, refl)
says zero zero (Missing prev compared) first bad = (refl, refl)
says zero zero BadChain first bad = absurd (bad refl refl)
says zero (suc lent) found first bad = absurd (omega (arith, first refl))
says (suc k) zero (At slot prev compared) first bad = (refl, λ e. omega arith)
says (suc k) zero (Missing prev compared) first bad = (refl, λ e. omega arith)
says (suc k) zero BadChain first bad = (refl, λ e. omega arith)
says (suc k) (suc lent) found first bad = (refl, λ e. omega arith)

-- `done` is what a call that nothing refuses leaves, by what it found, and `keep` what a refused one leaves, by its number.
-- A refusal before the chain is followed refuses the call, and so does a bad chain
module _
    {A : Type 0} (done : Found → A) (keep : ℕ → A) {fault lent : ℕ} {found : Found} {Ready : Lookup → Type 0} {r : Lookup}
    (first : fault ≡ 0 → lent ≡ 0) (bad : fault ≡ 0 → found ≡ BadChain → ⊥) (u : LooksUp fault lent found Ready r) (left : A) where
  told : (known : Lookup) → r ≡ known → Says fault found known
  told known e = subst (Says fault found) (sym u.is ∙ e) (says fault lent found first bad)

  result_refused : (number compared : ℕ) → r ≡ Refused number compared → left ≡ keep number
      → left ≡ unless_refused fault (done found) (keep fault)
  result_refused number compared e h =
      let t = told (Refused number compared) e in h ∙ ap keep (sym t.0) ∙ sym (refused_keeps _ _ fault t.1)

  result_held : (slot prev compared : ℕ) → r ≡ Accepted (Held slot prev) compared → left ≡ done (At slot prev compared)
      → left ≡ unless_refused fault (done found) (keep fault)
  result_held slot prev compared e h =
      let t = told (Accepted (Held slot prev) compared) e in h ∙ ap done (sym t.1) ∙ sym (taken_leaves _ _ fault t.0)

  result_not_held : (prev compared : ℕ) → r ≡ Accepted (NotHeld prev) compared → left ≡ done (Missing prev compared)
      → left ≡ unless_refused fault (done found) (keep fault)
  result_not_held prev compared e h =
      let t = told (Accepted (NotHeld prev) compared) e in h ∙ ap done (sym t.1) ∙ sym (taken_leaves _ _ fault t.0)

-- ---- the count of slots compared, by the lookup

abbrev counted : Lookup → ℕ
counted (Refused number compared) = compared
counted (Accepted place compared) = compared

lookup_counted : (fault lent : ℕ) (found : Found) → counted (lookup_of fault lent found) ≡ compared_after lent found
unfolding lookup_of lookup_by unless_refused compared_after compared_in
lookup_counted zero zero (At slot prev compared) = refl
lookup_counted zero zero (Missing prev compared) = refl
lookup_counted (suc k) zero (At slot prev compared) = refl
lookup_counted (suc k) zero (Missing prev compared) = refl
lookup_counted fault zero BadChain = refl
lookup_counted fault (suc lent) found = refl

module _ {fault lent : ℕ} {found : Found} {Ready : Lookup → Type 0} {r : Lookup} (u : LooksUp fault lent found Ready r) where
  told_count : (known : Lookup) → r ≡ known → counted known ≡ compared_after lent found
  told_count known e = ap counted (sym e ∙ u.is) ∙ lookup_counted fault lent found

  pub refused_count : (number compared : ℕ) → r ≡ Refused number compared → compared ≡ compared_after lent found
  refused_count number compared e = told_count (Refused number compared) e

  pub allowed_count : (place : Place) (compared : ℕ) → r ≡ Accepted place compared → compared ≡ compared_after lent found
  allowed_count place compared e = told_count (Accepted place compared) e

-- ---- insert and replace: h is the key's head as the code finds it

module _ (own : Bool) (l : ℕ) (image : List ℕ) (i : Index) (mode : Mode) (key : ℕ) (value : List ℕ) where
  pub write_bad : write_fault_by own l image i mode key (length value) ≡ 0 → search l image i.heads i.next key ≡ BadChain → ⊥
  unfolding write_fault_by write_later_fault chain_fault
  write_bad z e = omega (arith, sym (ap chain_fault e) ∙ (or_else_zero _ _ (or_else_zero _ _ z).1).0)

  module _ (r : Lookup) (u : WriteLookup own l image i mode key (length value) r) where
    pub write_refused : (number compared : ℕ) → r ≡ Refused number compared
        → unchanged (refused number) i (write_compared l image i key (length value)) ≡ write_result_by own l image i mode key value
    unfolding write_result_by write_unless write_fault_by
    write_refused number compared e =
        result_refused (write_done l image i key value i.state.first (take_first i) (write_compared l image i key (length value)))
        (λ k. unchanged (refused k) i (write_compared l image i key (length value)))
        (λ none. (or_else_zero _ _ none).0) write_bad u _ number compared e refl

    pub write_allowed : (place : Place) (compared h : ℕ) → r ≡ Accepted place compared → h ≡ head_of key (length i.heads)
        → changed l image i.state i.state.first key 1 value (write_at i h place) (live_at i.state.live place)
        (write_compared l image i key (length value))
        ≡ write_result_by own l image i mode key value
    unfolding write_result_by write_unless write_fault_by write_done write_at live_at insert_new replace_held
    write_allowed (Held old prev) compared h e eh =
        result_held (write_done l image i key value i.state.first (take_first i) (write_compared l image i key (length value)))
        (λ k. unchanged (refused k) i (write_compared l image i key (length value)))
        (λ none. (or_else_zero _ _ none).0) write_bad u _ old prev compared e
        (ap (λ (x : ℕ). changed l image i.state i.state.first key 1 value (replace_held i x prev old) i.state.live
        (write_compared l image i key (length value))) eh)
    write_allowed (NotHeld prev) compared h e eh =
        result_not_held (write_done l image i key value i.state.first (take_first i) (write_compared l image i key (length value)))
        (λ k. unchanged (refused k) i (write_compared l image i key (length value)))
        (λ none. (or_else_zero _ _ none).0) write_bad u _ prev compared e
        (ap (λ (x : ℕ). changed l image i.state i.state.first key 1 value (insert_new i x prev) (i.state.live + 1)
        (write_compared l image i key (length value))) eh)

-- ---- remove

module _ (own : Bool) (l : ℕ) (image : List ℕ) (i : Index) (key : ℕ) where
  pub remove_bad : remove_fault_by own l image i key ≡ 0 → search l image i.heads i.next key ≡ BadChain → ⊥
  unfolding remove_fault_by remove_later_fault
  remove_bad z e =
      omega (
        arith,
        sym (ap (λ (d : Found). remove_later_fault d (allocation_by own l image i.next (slots_in image) i.state.first i.state.newest 1)
            (slots_in image) i.state) e) ∙ (or_else_zero _ _ z).1,
      )

  module _ (r : Lookup) (u : RemoveLookup own l image i key r) where
    pub remove_refused : (number compared : ℕ) → r ≡ Refused number compared
        → unchanged (refused number) i (key_compared l image i.heads i.next key) ≡ remove_result_by own l image i key
    unfolding remove_result_by remove_unless remove_fault_by
    remove_refused number compared e =
        result_refused (remove_done l image i key i.state.first (take_first i) (key_compared l image i.heads i.next key))
        (λ k. unchanged (refused k) i (key_compared l image i.heads i.next key))
        (λ none. (or_else_zero _ _ none).0) remove_bad u _ number compared e refl

    pub remove-held : (old prev compared h : ℕ) → r ≡ Accepted (Held old prev) compared → h ≡ head_of key (length i.heads)
        → changed l image i.state i.state.first key 2 [] (remove_held i h prev old) (i.state.live - 1) (key_compared l image i.heads i.next key)
        ≡ remove_result_by own l image i key
    unfolding remove_result_by remove_unless remove_fault_by remove_done remove_held
    remove-held old prev compared h e eh =
        result_held (remove_done l image i key i.state.first (take_first i) (key_compared l image i.heads i.next key))
        (λ k. unchanged (refused k) i (key_compared l image i.heads i.next key))
        (λ none. (or_else_zero _ _ none).0) remove_bad u _ old prev compared e
        (ap (λ (x : ℕ). changed l image i.state i.state.first key 2 [] (remove_held i x prev old) (i.state.live - 1)
        (key_compared l image i.heads i.next key)) eh)

    pub remove_not_held : (prev compared : ℕ) → r ≡ Accepted (NotHeld prev) compared
        → unchanged absent i (key_compared l image i.heads i.next key) ≡ remove_result_by own l image i key
    unfolding remove_result_by remove_unless remove_fault_by remove_done
    remove_not_held prev compared e =
        result_not_held (remove_done l image i key i.state.first (take_first i) (key_compared l image i.heads i.next key))
        (λ k. unchanged (refused k) i (key_compared l image i.heads i.next key))
        (λ none. (or_else_zero _ _ none).0) remove_bad u _ prev compared e refl

-- ---- get: what the answer and the output come to

module _ (l : ℕ) (image heads next : List ℕ) (key : ℕ) (out : List ℕ) where
  get_bad : get_fault l image heads next key (length out) ≡ 0 → search l image heads next key ≡ BadChain → ⊥
  unfolding get_fault get_later_fault
  get_bad z e = omega (arith, sym (ap (get_later_fault l image (length out)) e) ∙ (or_else_zero _ _ z).1)

  module _ (r : Lookup) (u : GetLookup l image heads next key (length out) r) where
    pub get_refused : (number compared : ℕ) → r ≡ Refused number compared
        → record { answer = refused number; out = out; compared = key_compared l image heads next key } ≡ get_result l image heads next key out
    unfolding get_result get_fault
    get_refused number compared e =
        result_refused (get_done l image out (key_compared l image heads next key))
        (λ k. record { answer = refused k; out = out; compared = key_compared l image heads next key })
        (λ none. (or_else_zero _ _ none).0) get_bad u _ number compared e refl

    pub get_held : (slot prev compared : ℕ) → r ≡ Accepted (Held slot prev) compared → (n : ℕ) → n ≡ slot_length l image slot → (bytes : List ℕ)
        → bytes ≡ value_front l (line_a (word image) slot) (line_b (word image) slot) n ++ drop n out
        → record { answer = gives (n ∷ []); out = bytes; compared = key_compared l image heads next key } ≡ get_result l image heads next key out
    unfolding get_result get_fault get_done value_of
    get_held slot prev compared e n q bytes h =
        result_held (get_done l image out (key_compared l image heads next key))
        (λ k. record { answer = refused k; out = out; compared = key_compared l image heads next key })
        (λ none. (or_else_zero _ _ none).0) get_bad u _ slot prev compared e
        (ap (ended n) h ∙ ap (λ (x : ℕ). ended x (value_front l (line_a (word image) slot) (line_b (word image) slot) x ++ drop x out)) q)
      where
        ended : ℕ → List ℕ → ReadOnlyResult
        ended x bytes = record { answer = gives (x ∷ []); out = bytes; compared = key_compared l image heads next key }

    pub get_not_held : (prev compared : ℕ) → r ≡ Accepted (NotHeld prev) compared
        → record { answer = absent; out = out; compared = key_compared l image heads next key } ≡ get_result l image heads next key out
    unfolding get_result get_fault get_done
    get_not_held prev compared e =
        result_not_held (get_done l image out (key_compared l image heads next key))
        (λ k. record { answer = refused k; out = out; compared = key_compared l image heads next key })
        (λ none. (or_else_zero _ _ none).0) get_bad u _ prev compared e refl
