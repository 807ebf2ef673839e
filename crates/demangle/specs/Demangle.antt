-- Document 01, "Mangling": demangling. Logic bit i is the byte's bit at data pin i.
use Rattle.std.specs.Prelude.{ℕ, Bool, true, ◌&&◌, List, [], ◌∷◌, ltb}
use Rattle.base.specs.Choice.{pick}
use Rattle.refusal.specs.Refusal.{Valued}
use Rattle.demangle.specs.Bits.{gather}

-- the demangled byte, or a number with 0
abbrev pub Demangled : Type 0
Demangled = Valued

unfoldable pub all_below : ℕ → List ℕ → Bool
all_below n [] = true
all_below n (p ∷ ps) = ltb p n && all_below n ps

-- 79: a data pin at 8 or above
unfoldable pub demangle : List ℕ → ℕ → Demangled
demangle pins byte = record { number = pick (all_below 8 pins) 0 79; value = pick (all_below 8 pins) (gather pins byte) 0 }
