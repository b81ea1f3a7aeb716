-- THE LAWS of a library from which the restart rule follows: of images from which every recovery goes on, and of images in use.
use mathlib.Core.Bool.{cond, true}
use mathlib.Core.List.{List}
use Prim.Native.Nat.{ℕ, ◌+◌, ◌*◌, ◌≤◌}
use lib.ListN.{length}
use Rattle.prelude.specs.Members.{All}
use Rattle.stores.specs.Store.{Store, played, standing, all_stand}
use Rattle.restart_machine.specs.Machine.{Library, TakenRequest}
use Rattle.restart_machine.specs.Rule.{Promise}

-- every store inside the image
abbrev pub Inside : (len : ℕ) → List Store → Type 0
Inside len ss = All (λ (s : Store). 8 * s.word + 8 ≤ len) ss

-- Ready: an image from which recovery goes on, whatever stands of its stores. InUse: an image that the program works on, with what it holds
pub record Laws {Lent Held Request M : Type 0} (library : Library Lent Held Request) (promise : Promise Lent Held Request M)
    (Ready : (image : List ℕ) → M → Type 0) (InUse : (image : List ℕ) → Held → M → Type 0) : Type 0 where
  -- ---- an image that is ready

  pub recovers : (image : List ℕ) (m : M) → Ready image m → promise.Recovers image m
  pub recovery_right : (image : List ℕ) (m : M) → Ready image m → (lent : Lent) → promise.RecoveryCorrect image lent m
  pub recovery_inside : (image : List ℕ) (m : M) → Ready image m → (lent : Lent)
      → Inside (length image) (library.recovery image lent).stores
  -- so it is with any part of recovery's stores, and with all of them it is in use
  pub recovery_part : (image : List ℕ) (m : M) → Ready image m → (lent : Lent) → (counts : ℕ → ℕ)
      → Ready (played (standing counts (library.recovery image lent).stores) image) m
  pub recovery_done : (image : List ℕ) (m : M) → Ready image m → (lent : Lent)
      → InUse (played (library.recovery image lent).stores image) (library.recovery image lent).held m
  -- ---- an image in use

  pub use_ready : (image : List ℕ) (held : Held) (m : M) → InUse image held m → Ready image m
  pub request_right : (image : List ℕ) (held : Held) (m : M) → InUse image held m → (request : Request)
      → promise.RequestCorrect image held m request
  pub request_inside : (image : List ℕ) (held : Held) (m : M) → InUse image held m → (request : Request)
      → Inside (length image) (library.call image held request).stores
  -- with any part of a request's stores it is ready, wholly done or not at all; with all of them it is in use
  pub request_part : (image : List ℕ) (held : Held) (m : M) → InUse image held m → (request : Request) → (counts : ℕ → ℕ)
      → Ready (played (standing counts (library.call image held request).stores) image)
      (cond (all_stand counts (library.call image held request).stores) (promise.after (record { request = request; image = image; held = held }) m) m)
  pub request_done : (image : List ℕ) (held : Held) (m : M) → InUse image held m → (request : Request)
      → InUse (played (library.call image held request).stores image) (library.call image held request).held
      (promise.after (record { request = request; image = image; held = held }) m)
