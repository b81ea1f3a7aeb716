-- What a step finds of its key is what the plain map holds. Assumes nothing.
use mathlib.Core.Path.{◌≡◌, refl, ap, ◌∙◌, ap₂}
use mathlib.Core.Bool.{Bool, true, false, cond}
use mathlib.Core.Option.{Option, some, none}
use mathlib.Core.List.{List}
use Prim.Native.Nat.{ℕ}
use native.Mathlib.Omega.{arith}
use lib.ListN.{length, drop, replicate, length-replicate}
use lib.Seq.{take-append_seam}
use Rattle.interface.specs.Set.{World, PlainMap, limit, length_answer, filled}
use Rattle.interface.specs.Laws.{SetLaws}
use Rattle.book.specs.Orders.{is_order, order_of}
use Rattle.book.specs.Steps.{order, none_there, sought_in, sought_by, seek}
use Rattle.book.specs.Plain.{order_in}
use Rattle.book.proofs.defs.Ways.{sought_for}

sought_value : (value : List ℕ) (b : Bool)
    → cond b (order (order_of value)) (none_there 18) ≡ sought_for (cond b (some (order_of value)) none)
unfolding sought_for
sought_value value true = refl
sought_value value false = refl

sought_held : (held : Option (List ℕ)) (out : List ℕ) → sought_in (filled held out) (length_answer held) ≡ sought_for (order_in held)
unfolding sought_in filled length_answer sought_for order_in
sought_held none out = refl
sought_held (some value) out =
    ap (λ (bytes : List ℕ). cond (is_order bytes) (order (order_of bytes)) (none_there 18)) (take-append_seam value (drop (length value) out))
    ∙ sought_value value (is_order value)

module _ (l : ℕ) (Inv : World → PlainMap → Type 0) (laws : SetLaws l Inv) (w : World) (m : PlainMap) (i : Inv w m) (key : ℕ) where
  -- a seek finds the order that the plain map holds
  pub sought : seek l w.image w.index.heads w.index.next key ≡ sought_for (order_in (m key))
  unfolding seek sought_by
  sought =
      (let e = laws.reads w m i key (replicate (limit l) 0) (omega (arith, length-replicate {A = ℕ} (limit l) 0)) in ap₂ sought_in e.1 e.0)
      ∙ sought_held (m key) (replicate (limit l) 0)
