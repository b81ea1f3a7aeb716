-- What insert, replace and remove leave, by the count of slots compared that the code finds, and what a remove writes by. Assumes nothing.
use mathlib.Core.Path.{◌≡◌, ap, ◌∙◌, subst}
use mathlib.Core.List.{List, []}
use Prim.Native.Nat.{ℕ, ◌<◌}
use Rattle.prelude.specs.Answer.{Answer}
use Rattle.stores.specs.Store.{Store}
use Rattle.index.specs.Index.{Index}
use Rattle.index.specs.declared.State.{State}
use Rattle.index.specs.declared.Lookup.{Lookup}
use Rattle.index.specs.declared.Lookup.TheVariants.{Accepted}
use Rattle.index.specs.declared.Place.TheVariants.{Held}
use Rattle.calls.specs.Result.{CallResult, unchanged}
use Rattle.calls.specs.Change.{stores_after, buffers_after, changed}
use Rattle.calls.specs.inner.Lookup.{Writable, RemoveReady}

module _ {k k' : ℕ} (e : k ≡ k') {r : CallResult} where
  -- a call that changes nothing
  pub kept_end : (lent : List Store) (answer : Answer) (i : Index) → unchanged answer i k' ≡ r
      → record { answer = answer; out = []; stores = lent; index = i; compared = k } ≡ buffers_after lent r
  unfolding unchanged buffers_after stores_after
  kept_end lent answer i h = ap (λ (x : ℕ). buffers_after lent (unchanged answer i x)) e ∙ ap (buffers_after lent) h

  -- one that stores a record
  pub changed_by : (l : ℕ) (image : List ℕ) (s : State) (t key kind : ℕ) (value : List ℕ) (i : Index) (live : ℕ)
      → changed l image s t key kind value i live k' ≡ r → changed l image s t key kind value i live k ≡ r
  changed_by l image s t key kind value i live h = ap (changed l image s t key kind value i live) e ∙ h

-- a remove of a key that is held and that is not refused, r being its lookup
pub removable : (image heads next : List ℕ) (s : State) (key : ℕ) {r : Lookup} → RemoveReady image heads next s key r → {slot prev compared : ℕ}
    → r ≡ Accepted (Held slot prev) compared
    → Writable image heads next s key prev slot × (0 < s.live)
removable image heads next s key ready e = subst (RemoveReady image heads next s key) e ready
