-- What insert, replace and remove write: a record into the first reuse slot, and the index. Assumes nothing.
use mathlib.Core.Path.{◌≡◌, sym, ap₂, subst}
use mathlib.Core.List.{List, [], ◌∷◌}
use Prim.Native.Nat.{ℕ, ◌+◌, ◌≤◌}
use native.Mathlib.Omega.{arith}
use lib.ListN.{length}
use Rattle.words.specs.Word.{word}
use Rattle.prelude.specs.Answer.{gives}
use Rattle.layout.specs.Record.{key_with}
use Rattle.stores.specs.Store.{Store, zipped}
use Rattle.stores.specs.Written.{run, line_stores, record_stores}
use Rattle.index.specs.Index.{Index, index_of, with_counts, head_of}
use Rattle.index.specs.inner.Parts.{WritesInside, PlaceInside}
use Rattle.index.specs.declared.Place.{Place}
use Rattle.index.specs.declared.State.{State}
use Rattle.calls.specs.Change.{stores_after, buffers_after, changed}
use Rattle.index.specs.declared.Lookup.{Lookup}
use Rattle.index.specs.declared.Lookup.TheVariants.{Accepted}
use Rattle.calls.specs.inner.Lookup.{Writable, AcceptedAt, WriteReady}

-- a key whose high word is 0 is its low word
pub key_alone : (key : ℕ) → key_with key 0 ≡ key
key_alone key = omega arith

-- h is the key's head as the code finds it
pub inside : (image heads next : List ℕ) (s : State) (key h prev old : ℕ) → h ≡ head_of key (length heads) → Writable image heads next s key prev old
    → WritesInside heads next s h prev old
inside image heads next s key h prev old e w = subst (λ (x : ℕ). WritesInside heads next s x prev old) (sym e) w.index

pub some_head : (image heads next : List ℕ) (s : State) (key prev old : ℕ) → Writable image heads next s key prev old → 1 ≤ length heads
some_head image heads next s key prev old w = omega (arith, w.index.head_in)

-- an insert or a replace that is not refused, r being its lookup
module _ (l : ℕ) (image heads next : List ℕ) (s : State) (key size : ℕ) {r : Lookup} (ready : WriteReady l image heads next s key size r)
    {place : Place} {compared : ℕ} (e : r ≡ Accepted place compared) where
  pub allowed : AcceptedAt l image heads next s key size place
  allowed = subst (WriteReady l image heads next s key size) e ready

  pub allowed_inside : (h : ℕ) → h ≡ head_of key (length heads) → PlaceInside heads next s h place
  allowed_inside h q = subst (λ (x : ℕ). PlaceInside heads next s x place) (sym q) allowed.inside

-- what a call leaves that stores a record, lent some stores; i is the index that it leaves but for its counts
pub changed_end : (l : ℕ) (image : List ℕ) (s : State) (key kind : ℕ) (value : List ℕ) (after : State) (at words : List ℕ) (lent : List Store)
    → zipped at words ≡ record_stores l (word image) s.first key kind 0 value s.version → (heads next : List ℕ) (i : Index) (live compared : ℕ)
    → index_of heads next after ≡ with_counts i live (s.version + 1) s.first
    → record {
      answer = gives (s.first ∷ s.version ∷ []);
      out = [];
      stores = zipped at words;
      index = index_of heads next after;
      compared = compared;
    }
    ≡ buffers_after lent (changed l image s s.first key kind value i live compared)
unfolding changed buffers_after stores_after record_stores line_stores run
changed_end l image s key kind value after at words lent e heads next i live compared h =
    ap₂ (λ (ss : List Store) (j : Index). record { answer = gives (s.first ∷ s.version ∷ []); out = []; stores = ss; index = j; compared = compared }) e h
