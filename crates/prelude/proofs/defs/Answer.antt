-- Whether an answer is a refusal.
use mathlib.Core.Bool.{Bool, true, false}
use Rattle.prelude.specs.Answer.{Answer, gives, absent, refused}

unfoldable pub is_refusal : Answer → Bool
is_refusal (gives given) = false
is_refusal absent = false
is_refusal (refused number) = true
