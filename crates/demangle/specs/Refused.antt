-- A refusal's number is none of an accepted call.
-- Assumes nothing.
use Rattle.std.specs.Prelude.{◌≡◌, refl, false, eqb}
use Rattle.refusal.specs.declared.Refusal.{Refusal}
use Rattle.refusal.specs.declared.Refusal.TheVariants.{PastWindow}
use Rattle.refusal.specs.Refusal.{number_of}

pub refused : (r : Refusal) → eqb (number_of r) 0 ≡ false
refused PastWindow = refl
refused _ = refl
