-- The sixteen-pin map as a word: each writer of the map puts its bit on its pin at once. Laws.Words says that this comes to the map and its
-- placing.
use Rattle.std.specs.Prelude.{ℕ, Bool, not, ◌&&◌, ◌||◌, List, [], ◌∷◌, eqb}
use Rattle.base.specs.Choice.{pick}
use Rattle.types.specs.declared.SdrrRomType.{SdrrRomType}
use Rattle.demangle.specs.Bits.{is_bit, taken_bit}
use Rattle.pin_words.specs.declared.Placed.{Placed}
use Rattle.pin_words.specs.Code.{on_pin}
use Rattle.rom_rules.specs.Rules.{rules_of, control_bits, several, mangle_number}
use Rattle.mangle.specs.Mangle.{Mangled, mangled_to}
use Rattle.mangle.specs.PinMap.{off, control_off}

abbrev pub is_high_pin : (v p : ℕ) → Bool
is_high_pin v p = eqb (taken_bit v p) 1

unfoldable pub on_x : (v x1 x2 w : ℕ) → ℕ
on_x v x1 x2 w = on_pin (on_pin v x1 (taken_bit w 14)) x2 (taken_bit w 15)

unfoldable pub on_control : (v p b w : ℕ) → ℕ
on_control v p b w = pick (is_bit b) (on_pin v p (taken_bit w b)) v

unfoldable pub on_controls : List ℕ → List ℕ → (w v : ℕ) → ℕ
on_controls [] bs w v = v
on_controls (p ∷ ps) [] w v = v
on_controls (p ∷ ps) (b ∷ bs) w v = on_controls ps bs w (on_control v p b w)

-- 72 to 76, with the pins that address bits are on
unfoldable pub word_number : (mapped x1 x2 : ℕ) → List ℕ → ℕ → SdrrRomType → ℕ
word_number mapped x1 x2 controls count type =
    pick (several count && (off x1 || off x2)) 72
    (pick (several count && (is_high_pin mapped x1 || is_high_pin mapped x2)) 73
    (pick (eqb count 0) 74
    (pick (not (rules_of type).supported) 75
    (pick (control_off controls (control_bits type)) 76 0))))

-- X1 and X2 with several ROMs, then the type's control pins
unfoldable pub whole_word : (v x1 x2 : ℕ) → List ℕ → ℕ → SdrrRomType → ℕ → ℕ
whole_word v x1 x2 controls count type w = on_controls controls (control_bits type) w (pick (several count) (on_x v x1 x2 w) v)

unfoldable pub mangle_word : Placed → (x1 x2 : ℕ) → List ℕ → ℕ → SdrrRomType → (address w : ℕ) → Mangled
mangle_word a x1 x2 controls count type address w =
    mangled_to (mangle_number (word_number a.mapped x1 x2 controls count type) type address) (whole_word a.value x1 x2 controls count type w)
